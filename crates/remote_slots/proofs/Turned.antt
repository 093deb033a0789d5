-- A message whose slots are local for the names of their destinations stands for such a name exactly where the message itself stands for
-- that destination. So what is known of the rows of consumers is known of those of destinations.
use Rattle.std.proofs.Common.{◌≡◌, ℕ, ◌<◌, zero, suc, Bool, true, false, map, List, [], ◌∷◌, Option, Some, None, refl, sym, ap, ◌∙◌, ◌||◌, ◌&&◌}
use Rattle.std.proofs.lemmas.Option.{slice_get-map}
use Rattle.std.specs.Prelude.{insert, remove, slice_get, option_map}
use Rattle.std.specs.List.{AllByRecursion, list_any}
use Rattle.std.specs.Str.{bytes_eq}
use Rattle.row_tree.specs.Order.{IsRising}
use Rattle.queue_rows.specs.Settling.{is_ready}
use Rattle.queue_rows.specs.Dequeueing.{is_local_for}
use Rattle.queue_rows.specs.declared.rows.MsgRow.{MsgRow}
use Rattle.queue_rows.specs.declared.rows.SlotRow.{SlotRow}
use Rattle.choice_laws.specs.EditLaws.{IsFree}
use Rattle.choice_laws.specs.Entries.{Entry, Row, AreAbove, AreRising, row_cmp, row_of, rows_for, stands_for, with_row, without_row}
use Rattle.choice_laws.proofs.Edited.{missing_row_is_free, rows_after_removal}
use Rattle.choice_laws.proofs.Standing.{rows_above, rows_all, rows_rise}
use Rattle.ready_slots.proofs.Inserting.{inserted_is_free, rows_after_insert}
use Rattle.remote_slots.specs.Remote.{is_ready_to, rows_to, stands_to}

-- ---- slots and messages

abbrev turned_slot : SlotRow → SlotRow
turned_slot s = record s { name = s.address; address = None }

abbrev turned : MsgRow → MsgRow
turned m = record m { slots = map turned_slot m.slots }

abbrev turned_entry : Entry → Entry
turned_entry e = record { stamp = e.stamp; message = turned e.message }

abbrev turned_all : List Entry → List Entry
turned_all es = map turned_entry es

and_true : (b : Bool) → (b && true) ≡ b
and_true true = refl
and_true false = refl

slot_turned : (to : List ℕ) (s : SlotRow) → (is_local_for to (turned_slot s) && is_ready s.state) ≡ is_ready_to to s
slot_turned to s = by_address s.address
  where
    by_address : (o : Option (List ℕ)) → (is_local_for to (record s { name = o; address = None }) && is_ready s.state) ≡ is_ready_to to (record s { address = o })
    by_address None = refl
    by_address (Some a) = ap (λ b. b && is_ready s.state) (and_true (bytes_eq a to))

shows_turned : (to : List ℕ) (slots : List SlotRow) → list_any (λ s. is_local_for to s && is_ready s.state) (map turned_slot slots) ≡ list_any (is_ready_to to) slots
shows_turned to [] = refl
shows_turned to (s ∷ slots) =
    ap (λ b. b || list_any (λ s. is_local_for to s && is_ready s.state) (map turned_slot slots)) (slot_turned to s)
    ∙ ap (λ b. is_ready_to to s || b) (shows_turned to slots)

-- ---- lists

map_removed : {A B : Type 0} (f : A → B) (xs : List A) (at : ℕ) → map f (remove xs at) ≡ remove (map f xs) at
map_removed f [] zero = refl
map_removed f [] (suc at) = refl
map_removed f (x ∷ xs) zero = refl
map_removed f (x ∷ xs) (suc at) = ap (λ ys. f x ∷ ys) (map_removed f xs at)

map_inserted : {A B : Type 0} (f : A → B) (xs : List A) (at : ℕ) (y : A) → map f (insert xs at y) ≡ insert (map f xs) at (f y)
map_inserted f [] zero y = refl
map_inserted f [] (suc at) y = refl
map_inserted f (x ∷ xs) zero y = refl
map_inserted f (x ∷ xs) (suc at) y = ap (λ ys. f x ∷ ys) (map_inserted f xs at y)

above_turned : (n : ℕ) (es : List Entry) → AreAbove n es → AreAbove n (turned_all es)
above_turned n [] h = tt
above_turned n (e ∷ es) h = (h.0, above_turned n es h.1)

pub rising_turned : (es : List Entry) → AreRising es → AreRising (turned_all es)
rising_turned [] h = tt
rising_turned (e ∷ es) h = (above_turned e.stamp es h.0, rising_turned es h.1)

there_turned : (es : List Entry) (at : ℕ) (e : Entry) → slice_get es at ≡ Some e → slice_get (turned_all es) at ≡ Some (turned_entry e)
there_turned es at e there = slice_get-map turned_entry es at ∙ ap (option_map turned_entry) there

-- ---- rows

module _ (queue to : List ℕ) where
  abbrev own_rows : List Entry → List Row
  own_rows es = rows_for queue (Some to) (turned_all es)

  stands_turned : (m : MsgRow) → stands_for queue (Some to) (turned m) ≡ stands_to queue to m
  stands_turned m = ap (λ b. bytes_eq m.queue queue && b) (shows_turned to m.slots)

  pub rows_turned : (es : List Entry) → own_rows es ≡ rows_to queue to es
  rows_turned [] = refl
  rows_turned (e ∷ es) =
      ap (λ b. with_row b (row_of e) (own_rows es)) (stands_turned e.message)
      ∙ ap (with_row (stands_to queue to e.message) (row_of e)) (rows_turned es)

  pub rise : (es : List Entry) → AreRising es → IsRising row_cmp (rows_to queue to es)
  rise es rising = rw (← rows_turned es) (rows_rise queue (Some to) (turned_all es) (rising_turned es rising))

  pub above : (n : ℕ) (es : List Entry) → AreAbove n es → AllByRecursion (λ r. n < r.stamp) (rows_to queue to es)
  above n es h = rw (← rows_turned es) (rows_above queue (Some to) n (turned_all es) (above_turned n es h))

  row_turned : (P : Row → Type 0) (es : List Entry) → AllByRecursion (λ e. P (row_of e)) es → AllByRecursion (λ e. P (row_of e)) (turned_all es)
  row_turned P [] h = tt
  row_turned P (e ∷ es) h = (h.0, row_turned P es h.1)

  -- what holds of the row of each entry holds of each row
  pub each : (P : Row → Type 0) (es : List Entry) → AllByRecursion (λ e. P (row_of e)) es → AllByRecursion P (rows_to queue to es)
  each P es h = rw (← rows_turned es) (rows_all queue (Some to) P (turned_all es) (row_turned P es h))

  -- ---- edits

  pub after_removal : (es : List Entry) (at : ℕ) (e : Entry) → AreRising es → slice_get es at ≡ Some e
      → rows_to queue to (remove es at) ≡ without_row (row_of e) (rows_to queue to es)
  after_removal es at e rising there =
      sym (rows_turned (remove es at))
      ∙ ap (rows_for queue (Some to)) (map_removed turned_entry es at)
      ∙ rows_after_removal queue (Some to) (turned_all es) at (turned_entry e) (rising_turned es rising) (there_turned es at e there)
      ∙ ap (without_row (row_of e)) (rows_turned es)

  pub missing_is_free : (es : List Entry) (at : ℕ) (e : Entry) → AreRising es → slice_get es at ≡ Some e → stands_to queue to e.message ≡ false
      → IsFree (row_of e) (rows_to queue to es)
  missing_is_free es at e rising there none =
      rw (← rows_turned es)
      (missing_row_is_free queue (Some to) (turned_all es) at (turned_entry e) (rising_turned es rising) (there_turned es at e there) (stands_turned e.message ∙ none))

  module _ (es : List Entry) (at : ℕ) (e : Entry) (rising : AreRising (insert es at e)) where
    all_rising : AreRising (insert (turned_all es) at (turned_entry e))
    all_rising = rw (← map_inserted turned_entry es at e) (rising_turned (insert es at e) rising)

    pub after_insert : rows_to queue to (insert es at e) ≡ with_row (stands_to queue to e.message) (row_of e) (rows_to queue to es)
    after_insert =
        sym (rows_turned (insert es at e))
        ∙ ap (rows_for queue (Some to)) (map_inserted turned_entry es at e)
        ∙ rows_after_insert queue (Some to) (turned_all es) at (turned_entry e) all_rising
        ∙ ap (λ b. with_row b (row_of e) (own_rows es)) (stands_turned e.message)
        ∙ ap (with_row (stands_to queue to e.message) (row_of e)) (rows_turned es)

    -- the row of the one that is put in is not there yet
    pub inserted_free : IsFree (row_of e) (rows_to queue to es)
    inserted_free = rw (← rows_turned es) (inserted_is_free queue (Some to) (turned_all es) at (turned_entry e) all_rising)
