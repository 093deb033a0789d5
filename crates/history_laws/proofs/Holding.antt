-- What stays through proper changes, for one slot of one message.
use Rattle.std.proofs.Common.{◌≡◌, ℕ, List, [], ◌∷◌, ◌++◌, Bool, true, false, not, refl, sym, ap, ◌∙◌, Option, Some, None, ◌==◌, ◌&&◌}
use Rattle.std.specs.Prelude.{find, fold, option_map, option_and_then, is_some, is_none, if◌then◌else◌}
use Rattle.std.specs.Option.{option_map_or}
use Rattle.std.proofs.lemmas.Bool.{eqb-true, and_parts, or_right}
use Rattle.std.proofs.lemmas.Option.{none-some}
use Rattle.queue_rows.specs.Rows.{find_message, find_queue}
use Rattle.queue_rows.specs.Tables.{after_change, after_all}
use Rattle.queue_rows.specs.Settling.{left_by}
use Rattle.history_laws.specs.Fates.{Fate, ready, processed, fate_in, is_final, SlotFate, slot_fate_of, with_fate, in_queue, said, retried_fate, moved_slot_fate, without_queue, slot_fate_after, is_made_of, names, is_done}
use Rattle.valid_laws.specs.Openness.{may_move}
use Rattle.history_laws.specs.Proper.{ids_put_in}
use Rattle.valid_laws.specs.Touching.{is_proper, are_proper}
use Rattle.queue_rows.specs.declared.tables.Tables.{Tables}
use Rattle.queue_rows.specs.declared.rows.MsgRow.{MsgRow}
use Rattle.queue_rows.specs.declared.change.Change.{Change}
use Rattle.queue_rows.specs.declared.change.Change.TheVariants as changes
use Rattle.row_laws.specs.RowLaws.{leaves_to_settling, puts_new}
use Rattle.row_laws.proofs.Finding.{is_single, none_is, find-yes, find-no, single-yes, single-no, single_if_none}
use Rattle.row_laws.proofs.Messages.{IsSingle, finds_left, finds_put_in, finds_without_queue, stays_single, new_may_be_put}
use Rattle.valid_laws.proofs.Opened.{found_with}
use Rattle.history_laws.proofs.SlotFates.{AgreesSo, left_without}
use Rattle.history_laws.proofs.Agreeing.{agrees_after, without_some, finds_without_table}

-- the id is not among those that the changes put in
abbrev pub IsNew : ℕ → List Change → Type 0
IsNew id cs = find (λ n. n == id) (ids_put_in cs) ≡ None

-- Of the tables, the slot fate so far, and the changes that are still to come: the slot fate agrees with the row, and the
-- id is put in once at most, and not any more where it was there.
pub record Holds (id slot : ℕ) (t : Tables) (slot_fate : Option SlotFate) (cs : List Change) : Type 0 where
  pub single : IsSingle t id
  pub agrees : AgreesSo (find_message t id) slot slot_fate
  pub once : is_single (λ n. n == id) (ids_put_in cs) ≡ true
  pub row_is_new : is_some (find_message t id) ≡ true → IsNew id cs
  pub slot_fate_is_new : is_some slot_fate ≡ true → IsNew id cs

-- ---- ids

puts_new_if_proper : (t : Tables) (c : Change) → is_proper t c ≡ true → puts_new t c ≡ true
puts_new_if_proper t (changes.Enqueued row) p = (and_parts (is_none (find_message t row.id)) (not row.moved) p).0
puts_new_if_proper t (changes.PutTable row) p = refl
puts_new_if_proper t _ p = refl

tail_single : (id n : ℕ) (ns : List ℕ) (b : Bool) → (n == id) ≡ b → is_single (λ k. k == id) (n ∷ ns) ≡ true → is_single (λ k. k == id) ns ≡ true
tail_single id n ns true e h = single_if_none (λ k. k == id) ns (none_is (find (λ k. k == id) ns) (sym (single-yes (λ k. k == id) n ns e) ∙ h))
tail_single id n ns false e h = sym (single-no (λ k. k == id) n ns e) ∙ h

once_after : (id : ℕ) (c : Change) (cs : List Change) → is_single (λ n. n == id) (ids_put_in (c ∷ cs)) ≡ true → is_single (λ n. n == id) (ids_put_in cs) ≡ true
once_after id (changes.Enqueued row) cs h = tail_single id row.id (ids_put_in cs) (row.id == id) refl h
once_after id (changes.PutTable row) cs h = h
once_after id _ cs h = h

-- an id that is put in comes no more
new_if_put : (id n : ℕ) (ns : List ℕ) → (n == id) ≡ true → is_single (λ k. k == id) (n ∷ ns) ≡ true → find (λ k. k == id) ns ≡ None
new_if_put id n ns e h = none_is (find (λ k. k == id) ns) (sym (single-yes (λ k. k == id) n ns e) ∙ h)

new_tail : (id n : ℕ) (ns : List ℕ) (b : Bool) → (n == id) ≡ b → find (λ k. k == id) (n ∷ ns) ≡ None → find (λ k. k == id) ns ≡ None
new_tail id n ns true e h = absurd (none-some n (sym h ∙ find-yes (λ k. k == id) n ns e))
new_tail id n ns false e h = sym (find-no (λ k. k == id) n ns e) ∙ h

new_isnt : {A : Type 0} (id n : ℕ) (ns : List ℕ) → (n == id) ≡ true → find (λ k. k == id) (n ∷ ns) ≡ None → A
new_isnt id n ns e h = absurd (none-some n (sym h ∙ find-yes (λ k. k == id) n ns e))

-- ---- what was there before

some_before : {X Y : Type 0} (f : X → Option Y) (o : Option X) → is_some (option_and_then f o) ≡ true → is_some o ≡ true
some_before f None h = h
some_before f (Some x) h = refl

some_map : {X Y : Type 0} (f : X → Y) (o : Option X) → is_some (option_map f o) ≡ is_some o
some_map f None = refl
some_map f (Some x) = refl

row_before_plain : (t : Tables) (c : Change) (id : ℕ) → IsSingle t id → leaves_to_settling id t c ≡ true → is_some (find_message (after_change t c) id) ≡ true → is_some (find_message t id) ≡ true
row_before_plain t c id s e h = some_before (λ m. left_by m c) (find_message t id) (sym (ap is_some (finds_left t c id s e)) ∙ h)

row_put : (t : Tables) (row : MsgRow) (id : ℕ) (cs : List Change) (b : Bool) → (row.id == id) ≡ b → is_single (λ k. k == id) (row.id ∷ ids_put_in cs) ≡ true
    → (is_some (find_message t id) ≡ true → find (λ k. k == id) (row.id ∷ ids_put_in cs) ≡ None) → is_some (if b then Some row else find_message t id) ≡ true → IsNew id cs
row_put t row id cs true e h k g = new_if_put id row.id (ids_put_in cs) e h
row_put t row id cs false e h k g = new_tail id row.id (ids_put_in cs) false e (k g)

row_after : (t : Tables) (c : Change) (cs : List Change) (id slot : ℕ) (slot_fate : Option SlotFate) → is_proper t c ≡ true → Holds id slot t slot_fate (c ∷ cs)
    → is_some (find_message (after_change t c) id) ≡ true → IsNew id cs
row_after t (changes.Enqueued row) cs id slot slot_fate p h g =
    row_put t row id cs (row.id == id) refl h.once h.row_is_new (sym (ap is_some (finds_put_in t row id (puts_new_if_proper t (changes.Enqueued row) p))) ∙ g)
row_after t (changes.DropQueue name) cs id slot slot_fate p h g =
    h.row_is_new (some_before (left_without name) (find_message t id) (sym (ap is_some (finds_without_queue t name id p h.single)) ∙ g))
row_after t (changes.Retried named a retries until at) cs id slot slot_fate p h g = h.row_is_new (row_before_plain t (changes.Retried named a retries until at) id h.single refl g)
row_after t (changes.Ready named a at) cs id slot slot_fate p h g = h.row_is_new (row_before_plain t (changes.Ready named a at) id h.single refl g)
row_after t (changes.Done named a at) cs id slot slot_fate p h g = h.row_is_new (row_before_plain t (changes.Done named a at) id h.single refl g)
row_after t (changes.Expired named a at) cs id slot slot_fate p h g = h.row_is_new (row_before_plain t (changes.Expired named a at) id h.single refl g)
row_after t (changes.Dropped named a at) cs id slot slot_fate p h g = h.row_is_new (row_before_plain t (changes.Dropped named a at) id h.single refl g)
row_after t (changes.Moved named queue at) cs id slot slot_fate p h g =
    let parts = and_parts (option_map_or may_move (find_message t named) false) (is_some (find_queue t queue)) p in
    h.row_is_new (row_before_plain t (changes.Moved named queue at) id h.single (or_right (not (named == id)) (is_some (find_queue t queue)) parts.1) g)
row_after t (changes.Purged named) cs id slot slot_fate p h g = h.row_is_new (row_before_plain t (changes.Purged named) id h.single refl g)
row_after t (changes.DropTable name) cs id slot slot_fate p h g = h.row_is_new (sym (ap is_some (finds_without_table t name id)) ∙ g)
row_after t _ cs id slot slot_fate p h g = h.row_is_new g

-- ---- whether there is a slot fate

pub said_some : (b : Bool) (fate : Fate) (slot_fate : Option SlotFate) → is_some (said b fate slot_fate) ≡ is_some slot_fate
said_some true fate slot_fate = some_map (with_fate fate) slot_fate
said_some false fate slot_fate = refl

slot_fate_put : (row : MsgRow) (id slot : ℕ) (slot_fate : Option SlotFate) (cs : List Change) (b : Bool) → (row.id == id) ≡ b → is_single (λ k. k == id) (row.id ∷ ids_put_in cs) ≡ true
    → (is_some slot_fate ≡ true → find (λ k. k == id) (row.id ∷ ids_put_in cs) ≡ None) → is_some (if b then slot_fate_of slot row else slot_fate) ≡ true → IsNew id cs
slot_fate_put row id slot slot_fate cs true e h k g = new_if_put id row.id (ids_put_in cs) e h
slot_fate_put row id slot slot_fate cs false e h k g = new_tail id row.id (ids_put_in cs) false e (k g)

slot_fate_moved : (t : Tables) (named id slot : ℕ) (queue : List ℕ) (at : ℕ) (slot_fate : Option SlotFate) (cs : List Change) (b : Bool) → (named == id) ≡ b
    → is_proper t (changes.Moved named queue at) ≡ true → Holds id slot t slot_fate (changes.Moved named queue at ∷ cs) → is_some (if b then moved_slot_fate queue slot slot_fate else slot_fate) ≡ true → IsNew id cs
slot_fate_moved t named id slot queue at slot_fate cs true e p h g =
    h.row_is_new (let o = found_with t named may_move (and_parts (option_map_or may_move (find_message t named) false) (is_some (find_queue t queue)) p).0 in ap is_some (ap (find_message t) (sym (eqb-true named id e)) ∙ o.1))
slot_fate_moved t named id slot queue at slot_fate cs false e p h g = h.slot_fate_is_new g

slot_fate_new_after : (t : Tables) (c : Change) (cs : List Change) (id slot : ℕ) (slot_fate : Option SlotFate) → is_proper t c ≡ true → Holds id slot t slot_fate (c ∷ cs)
    → is_some (slot_fate_after id slot slot_fate c) ≡ true → IsNew id cs
slot_fate_new_after t (changes.Enqueued row) cs id slot slot_fate p h g = slot_fate_put row id slot slot_fate cs (row.id == id) refl h.once h.slot_fate_is_new g
slot_fate_new_after t (changes.DropQueue name) cs id slot slot_fate p h g = h.slot_fate_is_new (sym (without_some name slot_fate) ∙ g)
slot_fate_new_after t (changes.Retried named a retries until at) cs id slot slot_fate p h g = h.slot_fate_is_new (sym (said_some ((named == id) && (a == slot)) (retried_fate until) slot_fate) ∙ g)
slot_fate_new_after t (changes.Ready named a at) cs id slot slot_fate p h g = h.slot_fate_is_new (sym (said_some ((named == id) && (a == slot)) ready slot_fate) ∙ g)
slot_fate_new_after t (changes.Done named a at) cs id slot slot_fate p h g = h.slot_fate_is_new (sym (said_some ((named == id) && (a == slot)) processed slot_fate) ∙ g)
slot_fate_new_after t (changes.Expired named a at) cs id slot slot_fate p h g = h.slot_fate_is_new (sym (said_some ((named == id) && (a == slot)) Rattle.history_laws.specs.Fates.expired slot_fate) ∙ g)
slot_fate_new_after t (changes.Dropped named a at) cs id slot slot_fate p h g = h.slot_fate_is_new (sym (said_some ((named == id) && (a == slot)) Rattle.history_laws.specs.Fates.dropped slot_fate) ∙ g)
slot_fate_new_after t (changes.Moved named queue at) cs id slot slot_fate p h g = slot_fate_moved t named id slot queue at slot_fate cs (named == id) refl p h g
slot_fate_new_after t _ cs id slot slot_fate p h g = h.slot_fate_is_new g

-- ---- one change

pub holds_after : (t : Tables) (c : Change) (cs : List Change) (id slot : ℕ) (slot_fate : Option SlotFate) → is_proper t c ≡ true → Holds id slot t slot_fate (c ∷ cs)
    → Holds id slot (after_change t c) (slot_fate_after id slot slot_fate c) cs
holds_after t c cs id slot slot_fate p h = record {
  single = stays_single t c id h.single (new_may_be_put id t c (puts_new_if_proper t c p));
  agrees = agrees_after t c id slot slot_fate h.single p h.agrees;
  once = once_after id c cs h.once;
  row_is_new = row_after t c cs id slot slot_fate p h;
  slot_fate_is_new = slot_fate_new_after t c cs id slot slot_fate p h;
}

pub proper_parts : (t : Tables) (c : Change) (cs : List Change) → are_proper t (c ∷ cs) ≡ true → (is_proper t c ≡ true) × (are_proper (after_change t c) cs ≡ true)
unfolding are_proper
proper_parts t c cs p = and_parts (is_proper t c) (are_proper (after_change t c) cs) p

-- ---- a list of changes

pub record HoldsAt (id slot : ℕ) (t : Tables) (slot_fate : Option SlotFate) (before rest : List Change) : Type 0 where
  pub holds : Holds id slot (after_all t before) (fold (slot_fate_after id slot) slot_fate before) rest
  pub proper : are_proper (after_all t before) rest ≡ true

pub holds_at : (id slot : ℕ) (before rest : List Change) (t : Tables) (slot_fate : Option SlotFate) → are_proper t (before ++ rest) ≡ true → Holds id slot t slot_fate (before ++ rest) → HoldsAt id slot t slot_fate before rest
holds_at id slot [] rest t slot_fate p h = record { holds = h; proper = p }
holds_at id slot (c ∷ cs) rest t slot_fate p h =
    let parts = proper_parts t c (cs ++ rest) p in
    let h' = holds_at id slot cs rest (after_change t c) (slot_fate_after id slot slot_fate c) parts.1 (holds_after t c (cs ++ rest) id slot slot_fate parts.0 h) in
    record { holds = h'.holds; proper = h'.proper }
