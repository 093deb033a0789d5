-- Open slots, and messages of which a test holds.
use Rattle.std.proofs.Common.{◌≡◌, ℕ, List, [], ◌∷◌, Bool, true, false, not, refl, sym, ap, ◌∙◌, Option, Some, None, ◌==◌, ◌&&◌}
use Rattle.std.specs.Prelude.{slice_get, option_map, option_and_then}
use Rattle.std.specs.List.{list_any, list_all}
use Rattle.std.specs.Option.{option_map_or}
use Rattle.std.proofs.lemmas.Bool.{eqb-true, eqb-false, eq-eqb, and_from, or_parts, not-true, not_from_false, false≢true, true≢false}
use Rattle.queue_rows.specs.Rows.{find_message, slot_of, slot_index, with_slot}
use Rattle.queue_rows.specs.Tables.{changed_slot}
use Rattle.queue_rows.specs.Settling.{is_open, if_it}
use Rattle.queue_rows.specs.declared.tables.Tables.{Tables}
use Rattle.queue_rows.specs.declared.rows.MsgRow.{MsgRow}
use Rattle.queue_rows.specs.declared.rows.SlotRow.{SlotRow}
use Rattle.row_laws.proofs.Messages.{id_found, finds_changed}
use Rattle.row_laws.proofs.Slots.{slot_at, slot_of-with_same, slot_of-with_other}
use Rattle.valid_laws.specs.Openness.{is_open_slot, is_open_at, is_finished, is_finished_at}
use Rattle.valid_laws.proofs.Calming.{all_get}

-- the slot is there, and open
pub record IsOpenIn (m : MsgRow) (slot : ℕ) : Type 0 where
  pub row : SlotRow
  pub there : slot_of m slot ≡ Some row
  pub is_open_row : is_open row.state ≡ true

open_by : (m : MsgRow) (slot : ℕ) (o : Option SlotRow) → slot_of m slot ≡ o → option_map_or (λ s. is_open s.state) o false ≡ true → IsOpenIn m slot
open_by m slot None e h = absurd (false≢true h)
open_by m slot (Some s) e h = record { row = s; there = e; is_open_row = h }

pub open_in : (m : MsgRow) (slot : ℕ) → is_open_slot slot m ≡ true → IsOpenIn m slot
open_in m slot h = open_by m slot (slot_of m slot) refl h

-- the message is there, and its slot open
pub record IsOpenAt (t : Tables) (id slot : ℕ) : Type 0 where
  pub message : MsgRow
  pub found : find_message t id ≡ Some message
  pub open_there : IsOpenIn message slot

open_at_by : (t : Tables) (id slot : ℕ) (o : Option MsgRow) → find_message t id ≡ o → option_map_or (is_open_slot slot) o false ≡ true → IsOpenAt t id slot
open_at_by t id slot None e h = absurd (false≢true h)
open_at_by t id slot (Some m) e h = record { message = m; found = e; open_there = open_in m slot h }

pub open_at : (t : Tables) (id slot : ℕ) → is_open_at t id slot ≡ true → IsOpenAt t id slot
open_at t id slot h = open_at_by t id slot (find_message t id) refl h

-- a message of which a test holds is there
found_by : (t : Tables) (id : ℕ) (test : MsgRow → Bool) (o : Option MsgRow) → find_message t id ≡ o → option_map_or test o false ≡ true → (m : MsgRow) × (find_message t id ≡ Some m) × (test m ≡ true)
found_by t id test None e h = absurd (false≢true h)
found_by t id test (Some m) e h = (m, e, h)

pub found_with : (t : Tables) (id : ℕ) (test : MsgRow → Bool) → option_map_or test (find_message t id) false ≡ true → (m : MsgRow) × (find_message t id ≡ Some m) × (test m ≡ true)
found_with t id test h = found_by t id test (find_message t id) refl h

-- ---- a message without an open slot

all_closed : (xs : List SlotRow) → list_any (λ s. is_open s.state) xs ≡ false → (i : ℕ) (s : SlotRow) → slice_get xs i ≡ Some s → is_open s.state ≡ false
all_closed xs h i s e = not-true (is_open s.state) (all_get (λ x. not (is_open x.state)) xs i s (closed xs h) e)
  where
    closed : (ys : List SlotRow) → list_any (λ s. is_open s.state) ys ≡ false → list_all (λ s. not (is_open s.state)) ys ≡ true
    closed [] h = refl
    closed (y ∷ ys) h = let q = or_parts (is_open y.state) (list_any (λ s. is_open s.state) ys) h in and_from (not (is_open y.state)) (list_all (λ s. not (is_open s.state)) ys) (not_from_false (is_open y.state) q.0) (closed ys q.1)

pub finished_closed : {A : Type 0} (m : MsgRow) (slot : ℕ) → is_finished m ≡ true → is_open_slot slot m ≡ true → A
finished_closed m slot h o =
    let x = open_in m slot o in
    absurd (true≢false (sym x.is_open_row ∙ all_closed m.slots (not-true (list_any (λ s. is_open s.state) m.slots) h) (slot_index m slot) x.row (slot_at m slot x.row x.there)))

apart_by : (t : Tables) (id named a : ℕ) (m : MsgRow) (b : Bool) → (named == id) ≡ b → find_message t named ≡ Some m → is_open_slot a m ≡ true → is_finished_at t id ≡ true → b ≡ false
apart_by t id named a m true e f o h =
    let there : find_message t id ≡ Some m = ap (find_message t) (sym (eqb-true named id e)) ∙ f in finished_closed m a (sym (ap (λ x. option_map_or is_finished x false) there) ∙ h) o
apart_by t id named a m false e f o h = refl

some_open : (m : MsgRow) (slot : ℕ) (s : SlotRow) → slot_of m slot ≡ Some s → is_open s.state ≡ true → is_open_slot slot m ≡ true
some_open m slot s e h = ap (λ x. option_map_or (λ y. is_open y.state) x false) e ∙ h

-- a message with an open slot is another one
pub finished_apart : (t : Tables) (id named a : ℕ) → is_finished_at t id ≡ true → is_open_at t named a ≡ true → (named == id) ≡ false
finished_apart t id named a h o =
    let x = open_at t named a o in apart_by t id named a x.message (named == id) refl x.found (some_open x.message a x.open_there.row x.open_there.there x.open_there.is_open_row) h

pub finished_of : (t : Tables) (id : ℕ) (m : MsgRow) → find_message t id ≡ Some m → is_finished m ≡ true → is_finished_at t id ≡ true
finished_of t id m e h = ap (λ o. option_map_or is_finished o false) e ∙ h

-- ---- a slot stays open where another one is changed

pub open_of : (t : Tables) (id slot : ℕ) (m : MsgRow) → find_message t id ≡ Some m → is_open_slot slot m ≡ true → is_open_at t id slot ≡ true
open_of t id slot m e h = ap (λ o. option_map_or (is_open_slot slot) o false) e ∙ h

module _ (f : SlotRow → SlotRow) (t : Tables) (named a : ℕ) where
  abbrev pub changed : Tables
  changed = changed_slot t named a f

  other_open : (m : MsgRow) (slot : ℕ) (b : Bool) → (a == slot) ≡ b → b ≡ false → is_open_slot slot m ≡ true → is_open_slot slot (with_slot a f m) ≡ true
  other_open m slot true e g h = absurd (true≢false g)
  other_open m slot false e g h = ap (λ o. option_map_or (λ s. is_open s.state) o false) (slot_of-with_other a slot f m (eqb-false a slot e)) ∙ h

  apart_slot : (x y : Bool) → x ≡ true → (x && y) ≡ false → y ≡ false
  apart_slot true y e h = h
  apart_slot false y e h = absurd (false≢true e)

  stays_by : (id slot : ℕ) (m : MsgRow) (b : Bool) → (m.id == named) ≡ b → m.id ≡ id → find_message t id ≡ Some m → is_open_slot slot m ≡ true → ((named == id) && (a == slot)) ≡ false → is_open_at changed id slot ≡ true
  stays_by id slot m true e i g h d =
      let yes : if_it m named (Some (with_slot a f m)) ≡ Some (with_slot a f m) = rw e refl in
      let same : (named == id) ≡ true = eq-eqb named id (sym (eqb-true m.id named e) ∙ i) in
      open_of changed id slot (with_slot a f m)
      (finds_changed t (with_slot a f) (λ x. refl) named id ∙ ap (option_and_then (λ x. if_it x named (Some (with_slot a f x)))) g ∙ yes)
      (other_open m slot (a == slot) refl (apart_slot (named == id) (a == slot) same d) h)
  stays_by id slot m false e i g h d =
      let no : if_it m named (Some (with_slot a f m)) ≡ Some m = rw e refl in
      open_of changed id slot m (finds_changed t (with_slot a f) (λ x. refl) named id ∙ ap (option_and_then (λ x. if_it x named (Some (with_slot a f x)))) g ∙ no) h

  pub open_stays : (id slot : ℕ) → ((named == id) && (a == slot)) ≡ false → is_open_at t id slot ≡ true → is_open_at changed id slot ≡ true
  open_stays id slot d h =
      let x = open_at t id slot h in
      stays_by id slot x.message (x.message.id == named) refl (id_found t id x.message x.found) x.found
      (some_open x.message slot x.open_there.row x.open_there.there x.open_there.is_open_row) d

  pub none_stays : (id : ℕ) → find_message t id ≡ None → find_message changed id ≡ None
  none_stays id h = finds_changed t (with_slot a f) (λ x. refl) named id ∙ ap (option_and_then (λ x. if_it x named (Some (with_slot a f x)))) h

  other_id : (id : ℕ) (m : MsgRow) (b : Bool) → (named == id) ≡ b → b ≡ false → m.id ≡ id → if_it m named (Some (with_slot a f m)) ≡ Some m
  other_id id m true e g i = absurd (true≢false g)
  other_id id m false e g i = rw (not_same (m.id == named) refl) refl
    where
      not_same : (c : Bool) → (m.id == named) ≡ c → c ≡ false
      not_same true k = absurd (eqb-false named id e (sym (eqb-true m.id named k) ∙ i))
      not_same false k = refl

  -- another message is finished as before
  pub finished_stays : (id : ℕ) → (named == id) ≡ false → is_finished_at t id ≡ true → is_finished_at changed id ≡ true
  finished_stays id d h =
      let x = found_with t id is_finished h in
      finished_of changed id x.0
      (finds_changed t (with_slot a f) (λ y. refl) named id ∙ ap (option_and_then (λ y. if_it y named (Some (with_slot a f y)))) x.1 ∙ other_id id x.0 (named == id) refl d (id_found t id x.0 x.1)) x.2

  -- the slot itself stays open where what it becomes is
  pub open_still : ((s : SlotRow) → is_open (f s).state ≡ true) → is_open_at t named a ≡ true → is_open_at changed named a ≡ true
  open_still k h =
      let x = open_at t named a h in
      let m = x.message in
      let it : if_it m named (Some (with_slot a f m)) ≡ Some (with_slot a f m) = rw (eq-eqb m.id named (id_found t named m x.found)) refl in
      open_of changed named a (with_slot a f m)
      (finds_changed t (with_slot a f) (λ y. refl) named named ∙ ap (option_and_then (λ y. if_it y named (Some (with_slot a f y)))) x.found ∙ it)
      (some_open (with_slot a f m) a (f x.open_there.row) (slot_of-with_same a f m ∙ ap (option_map f) x.open_there.there) (k x.open_there.row))
