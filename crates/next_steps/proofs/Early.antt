-- Where no row of a database is due yet, nothing is due there.
use Rattle.std.proofs.Common.{◌≡◌, ◌<◌, ◌^◌, ℕ, Bool, true, false, cond, List, [], ◌∷◌, Option, Some, None, refl, sym, ap, subst, ◌∙◌, option_map, arith}
use Rattle.std.specs.Prelude.{find, filter, Contains, ◌↔◌}
use Rattle.std.proofs.lemmas.Option.{none-some}
use Rattle.aq_base.specs.declared.DbId.{DbId}
use Rattle.due_index.specs.Due.{is_due, triple}
use Rattle.due_index.specs.declared.row.DueRow.{DueRow}
use Rattle.due_slots.specs.Named.{NamesDue}
use Rattle.queue_rows.specs.Distinct.{are_distinct}
use Rattle.queue_rows.specs.Due.{Watch, due, watched}
use Rattle.queue_rows.specs.Statements.{slot_sent}
use Rattle.queue_rows.specs.Turns.{due_at}
use Rattle.queue_rows.specs.Valid.{is_same_message}
use Rattle.queue_rows.specs.World.{World, database_at}
use Rattle.queue_rows.specs.declared.tables.Tables.{Tables}
use Rattle.run_laws.specs.ValidRun.{IsValidWorld}
use Rattle.time_manager.specs.Ranks.{AreDueRanks, ranks_of}
use Rattle.time_manager.proofs.Naming.{rows_give_all, watched_is}
use Rattle.next_steps.proofs.Sizes.{apart_at}

none_by : {X : Type 0} (p : X → Bool) (x : X) (xs : List X) (b : Bool) → (find p xs ≡ None → filter p xs ≡ []) → cond b (Some x) (find p xs) ≡ None
    → cond b (x ∷ filter p xs) (filter p xs) ≡ []
none_by p x xs true ih e = absurd (none-some x (sym e))
none_by p x xs false ih e = ih e

none_left : {X : Type 0} (p : X → Bool) (xs : List X) → find p xs ≡ None → filter p xs ≡ []
none_left p [] e = refl
none_left p (x ∷ xs) e = none_by p x xs (p x) (none_left p xs) e

none_watched : (w : Watch) (rows : List DueRow) → NamesDue w.tables rows → are_distinct is_same_message w.tables.messages ≡ true → w.moment < 2 ^ 64
    → find (is_due w.moment) rows ≡ None → watched w ≡ []
none_watched w rows names distinct bound none =
    let none_named : ranks_of w.tables.messages (filter (is_due w.moment) rows) ≡ [] = ap (ranks_of w.tables.messages) (none_left (is_due w.moment) rows none) in
    let are : AreDueRanks w.tables.messages rows w.moment [] = record {
      rising = λ k below. omega (arith, below);
      each = λ rank. subst (λ (ns : List ℕ). Contains [] rank ↔ Contains ns rank) (sym none_named) ((λ h. h), (λ h. h));
    } in
    sym (watched_is w [] distinct (rows_give_all w w.tables rows [] refl names distinct are bound))

none_mapped : {X Y : Type 0} (f : X → Y) (o : Option X) → option_map f o ≡ None → o ≡ None
none_mapped f None e = refl
none_mapped f (Some x) e = absurd (none-some (f x) (sym e))

none_due : (w : World) (db : DbId) → watched (record { tables = (database_at db w).tables; sessions = w.sessions; db = db; sent = slot_sent w; moment = w.moment }) ≡ [] → due_at db w ≡ []
unfolding due
none_due w db none = none

-- nothing is due at a database whose first row is not
pub early_at : (w : World) (db : DbId) (t : Tables) (rows : List DueRow) (moment : ℕ) → t ≡ (database_at db w).tables → moment ≡ w.moment → NamesDue t rows
    → option_map triple (find (is_due moment) rows) ≡ None → IsValidWorld w → due_at db w ≡ []
early_at w db t rows moment e now names none v =
    let last = v.last in
    let bound : w.moment < 2 ^ 64 = omega (arith, last) in
    let first : find (is_due w.moment) rows ≡ None = ap (λ (m : ℕ). find (is_due m) rows) (sym now) ∙ none_mapped triple (find (is_due moment) rows) none in
    none_due w db (none_watched (record { tables = (database_at db w).tables; sessions = w.sessions; db = db; sent = slot_sent w; moment = w.moment }) rows
    (subst (λ (u : Tables). NamesDue u rows) e names) (apart_at w db (database_at db w).tables refl v) bound first)
