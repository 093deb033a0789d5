-- Changes that take each slot from what can be taken to what is final, and no further (`are_proper` of `valid_laws`), and that put in
-- new messages. Of all that is committed only this counts for the fates of slots.
use Rattle.std.specs.Prelude.{◌≡◌, ◌≤◌, ℕ, ◌==◌, List, true, false, filter_map, AllPairs, All, Option, Some, None}
use Rattle.queue_rows.specs.declared.tables.Tables.{Tables}
use Rattle.queue_rows.specs.declared.change.Change.{Change}
use Rattle.queue_rows.specs.declared.change.Change.TheVariants as changes
use Rattle.valid_laws.specs.Touching.{are_proper}

-- the id of the message that it puts in
abbrev pub id_put_in : Change → Option ℕ
id_put_in (changes.Enqueued row) = Some row.id
id_put_in _ = None

-- the ids of the messages that the changes put in
abbrev pub ids_put_in : List Change → List ℕ
ids_put_in cs = filter_map id_put_in cs

-- no id is given twice, and none that the opening may have
pub record AreNew (opening : Tables) (cs : List Change) : Type 0 where
  pub distinct : AllPairs (λ a b. (a == b) ≡ false) (ids_put_in cs)
  pub later : All (λ id. opening.next ≤ id) (ids_put_in cs)

-- the changes of a database, one after another, from an opening
pub record AreProper (opening : Tables) (cs : List Change) : Type 0 where
  pub proper : are_proper opening cs ≡ true
  pub new : AreNew opening cs
