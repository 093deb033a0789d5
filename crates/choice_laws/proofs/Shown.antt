-- For whom a change of a slot, or a move, changes what a message shows.
use Rattle.std.proofs.Common.{◌≡◌, ℕ, zero, suc, Bool, true, false, List, [], ◌∷◌, Option, Some, None, refl, sym, ap, ◌∙◌, ◌==◌, ◌&&◌, ◌||◌}
use Rattle.std.proofs.lemmas.Bool.{and_left, eqb-false, or_parts, or_right}
use Rattle.std.proofs.lemmas.List.Folds.{list_any-append}
use Rattle.std.specs.Prelude.{is_none, slice_get}
use Rattle.std.specs.List.{list_any}
use Rattle.std.specs.Option.{option_map_or}
use Rattle.queue_rows.specs.Rows.{changed_nth, has_slot, slot_index, slot_of, with_slot}
use Rattle.queue_rows.specs.Session.{is_same_consumer}
use Rattle.queue_rows.specs.Settling.{is_ready}
use Rattle.queue_rows.specs.Tables.{moved_to, retried, slot_zero}
use Rattle.queue_rows.specs.Dequeueing.{is_local_for, is_ready_slot}
use Rattle.queue_rows.specs.declared.rows.MsgRow.{MsgRow}
use Rattle.queue_rows.specs.declared.rows.SlotRow.{SlotRow}
use Rattle.row_laws.proofs.Slots.{changed_next, slot_of-has, slot_of-moved_zero, slot_of-with_other, with_slot-has, with_slot-hasnt}
use Rattle.choice_laws.specs.Entries.{shows}
use Rattle.choice_laws.specs.ShownLaws.{KeepsRecipient, MovedShows, StatesKeepRecipient, concerns}

-- ---- lists

any_changed : {X : Type 0} (q : X → Bool) (f : X → X) (xs : List X) (i : ℕ) → ((x : X) → slice_get xs i ≡ Some x → q (f x) ≡ q x) → list_any q (changed_nth f i xs) ≡ list_any q xs
any_changed q f [] i h = refl
any_changed q f (x ∷ xs) zero h = ap (λ b. b || list_any q xs) (h x refl)
any_changed q f (x ∷ xs) (suc i) h = ap (list_any q) (changed_next f x xs i) ∙ ap (λ b. q x || b) (any_changed q f xs i h)

or_false : (b : Bool) → (b || false) ≡ b
or_false true = refl
or_false false = refl

-- ---- one slot is changed

-- a slot that is local for the consumer, and ready
abbrev offers : List ℕ → SlotRow → Bool
offers consumer s = is_local_for consumer s && is_ready s.state

local_kept : (change : SlotRow → SlotRow) → KeepsRecipient change → (consumer : List ℕ) (s : SlotRow) → is_local_for consumer (change s) ≡ is_local_for consumer s
local_kept change keeps consumer s =
    ap (λ name. is_same_consumer name (Some consumer) && is_none (change s).address) (keeps.name s) ∙ ap (λ address. is_same_consumer s.name (Some consumer) && is_none address) (keeps.address s)

module _ (m : MsgRow) (slot : ℕ) (change : SlotRow → SlotRow) (keeps : KeepsRecipient change) where
  offers_none : (consumer : List ℕ) (o : Option SlotRow) → slice_get m.slots (slot_index m slot) ≡ o → option_map_or (is_local_for consumer) o false ≡ false
      → (s : SlotRow) → slice_get m.slots (slot_index m slot) ≡ Some s → offers consumer (change s) ≡ offers consumer s
  offers_none consumer o is none s there =
      let local : is_local_for consumer s ≡ false = ap (λ x. option_map_or (is_local_for consumer) x false) (sym there ∙ is) ∙ none in
      and_left (is_local_for consumer (change s)) (is_ready (change s).state) (local_kept change keeps consumer s ∙ local)
      ∙ sym (and_left (is_local_for consumer s) (is_ready s.state) local)

  named_alike : (consumer : List ℕ) (b : Bool) → has_slot m slot ≡ b → concerns m slot (Some consumer) ≡ false → shows (with_slot slot change m) (Some consumer) ≡ shows m (Some consumer)
  named_alike consumer true e none =
      let at = slot_index m slot in
      ap (λ r. list_any (offers consumer) r.slots) (with_slot-has slot change m e)
      ∙ any_changed (offers consumer) change m.slots at
      (offers_none consumer (slice_get m.slots at) refl (ap (λ o. option_map_or (is_local_for consumer) o false) (sym (slot_of-has m slot e)) ∙ none))
  named_alike consumer false e none = ap (λ r. list_any (offers consumer) r.slots) (with_slot-hasnt slot change m e)

  unnamed_alike : concerns m slot None ≡ false → shows (with_slot slot change m) None ≡ shows m None
  unnamed_alike none =
      let p = or_parts (slot == 0) (slot == 1) none in
      let zeroth = slot_of-with_other slot 0 change m (λ e. eqb-false slot 0 p.0 e) in
      let first = slot_of-with_other slot 1 change m (λ e. eqb-false slot 1 p.1 e) in
      ap (λ o. is_ready_slot o || is_ready_slot (slot_of (with_slot slot change m) 0)) first ∙ ap (λ o. is_ready_slot (slot_of m 1) || is_ready_slot o) zeroth

  shown_alike : (consumer : Option (List ℕ)) → concerns m slot consumer ≡ false → shows (with_slot slot change m) consumer ≡ shows m consumer
  shown_alike None none = unnamed_alike none
  shown_alike (Some consumer) none = named_alike consumer (has_slot m slot) refl none

pub others_are_shown_alike : (m : MsgRow) (slot : ℕ) (change : SlotRow → SlotRow) (consumer : Option (List ℕ)) → KeepsRecipient change → concerns m slot consumer ≡ false
    → shows (with_slot slot change m) consumer ≡ shows m consumer
others_are_shown_alike m slot change consumer keeps none = shown_alike m slot change keeps consumer none

pub states_keep_recipient : StatesKeepRecipient
states_keep_recipient = record { state = λ state at. record { name = λ s. refl; address = λ s. refl }; retry = λ retries until at. of_retry retries until at }
  where
    of_retry : (retries : ℕ) (until : Option ℕ) (at : ℕ) → KeepsRecipient (retried retries until at)
    of_retry retries None at = record { name = λ s. refl; address = λ s. refl }
    of_retry retries (Some until) at = record { name = λ s. refl; address = λ s. refl }

-- ---- a message is moved

moved_unnamed : (queue : List ℕ) (at : ℕ) (m : MsgRow) → shows (moved_to queue at m) None ≡ true
moved_unnamed queue at m =
    let moved = moved_to queue at m in
    or_right (is_ready_slot (slot_of moved 1)) (is_ready_slot (slot_of moved 0)) (ap is_ready_slot (slot_of-moved_zero queue at m))

moved_named : (queue : List ℕ) (at : ℕ) (m : MsgRow) (consumer : List ℕ) → shows (moved_to queue at m) (Some consumer) ≡ shows m (Some consumer)
moved_named queue at m consumer =
    list_any-append (offers consumer) m.slots (slot_zero m.slots at ∷ []) ∙ or_false (list_any (offers consumer) m.slots)

pub moved_shows : MovedShows
moved_shows = record { unnamed = moved_unnamed; named = moved_named }
