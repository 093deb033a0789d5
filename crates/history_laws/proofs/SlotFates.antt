-- The fate of a slot and the row of its message, through one change.
use Rattle.std.proofs.Common.{◌≡◌, ℕ, zero, suc, List, [], ◌∷◌, Bool, true, false, not, refl, sym, ap, ◌∙◌, Option, Some, None}
use Rattle.std.specs.Prelude.{is_some, slice_get, if◌then◌else◌}
use Rattle.std.specs.Str.{bytes_eq}
use Rattle.std.specs.List.{list_any}
use Rattle.std.specs.Option.{option_map_or}
use Rattle.std.proofs.lemmas.Bool.{false≢true, not-true, or_parts}
use Rattle.std.proofs.lemmas.Option.{none-some}
use Rattle.queue_rows.specs.Rows.{slot_of, slot_index}
use Rattle.queue_rows.specs.Settling.{is_open}
use Rattle.history_laws.specs.Fates.{fate_in, is_final, SlotFate, slot_fate_of}
use Rattle.valid_laws.specs.Openness.{is_finished}
use Rattle.queue_rows.specs.declared.rows.MsgRow.{MsgRow}
use Rattle.queue_rows.specs.declared.rows.SlotRow.{SlotRow}
use Rattle.queue_rows.specs.declared.rows.SlotState.{SlotState}
use Rattle.queue_rows.specs.declared.rows.SlotState.TheVariants as states
use Rattle.row_laws.proofs.Slots.{slot_at}
use Rattle.valid_laws.proofs.Opened.{IsOpenIn}

-- ---- what agrees

-- the slot fate is final, if there is one that is
abbrev pub final_slot_fate : Option SlotFate → Bool
final_slot_fate slot_fate = option_map_or (λ c. is_final c.fate) slot_fate false

-- the fate of a slot is what its message's row says; where the row is gone, the slot fate is final, if there is one
abbrev pub AgreesSo : Option MsgRow → ℕ → Option SlotFate → Type 0
AgreesSo (Some m) slot slot_fate = slot_fate ≡ slot_fate_of slot m
AgreesSo None slot slot_fate = is_some slot_fate ≡ true → final_slot_fate slot_fate ≡ true

pub final_is_some : (slot_fate : Option SlotFate) → final_slot_fate slot_fate ≡ true → is_some slot_fate ≡ true
final_is_some None e = e
final_is_some (Some c) e = refl

-- the message, where it does not stand in that queue
abbrev pub left_without : List ℕ → MsgRow → Option MsgRow
left_without queue m = if not (bytes_eq m.queue queue) then Some m else None

-- ---- open and finished slots

any_get : (q : SlotRow → Bool) (xs : List SlotRow) (i : ℕ) (s : SlotRow) → list_any q xs ≡ false → slice_get xs i ≡ Some s → q s ≡ false
any_get q [] i s h e = absurd (none-some s e)
any_get q (x ∷ xs) zero s h e = let parts = or_parts (q x) (list_any q xs) h in let same : x ≡ s = cc in ap q (sym same) ∙ parts.0
any_get q (x ∷ xs) (suc i) s h e = any_get q xs i s (or_parts (q x) (list_any q xs) h).1 e

closed_is_final : (state : SlotState) → is_open state ≡ false → is_final (fate_in state) ≡ true
closed_is_final states.Ready e = absurd (false≢true (sym e))
closed_is_final states.Waiting e = absurd (false≢true (sym e))
closed_is_final states.Processed e = refl
closed_is_final states.Expired e = refl
closed_is_final states.Dropped e = refl

open_isnt_final : (state : SlotState) → is_open state ≡ true → is_final (fate_in state) ≡ false
open_isnt_final states.Ready e = refl
open_isnt_final states.Waiting e = refl
open_isnt_final states.Processed e = absurd (false≢true e)
open_isnt_final states.Expired e = absurd (false≢true e)
open_isnt_final states.Dropped e = absurd (false≢true e)

finished_by : (m : MsgRow) (slot : ℕ) (o : Option SlotRow) → slot_of m slot ≡ o → is_finished m ≡ true → is_some (slot_fate_of slot m) ≡ true → final_slot_fate (slot_fate_of slot m) ≡ true
finished_by m slot None e h g = absurd (false≢true (rw e at g))
finished_by m slot (Some s) e h g =
    rw e (closed_is_final s.state (any_get (λ x. is_open x.state) m.slots (slot_index m slot) s (not-true (list_any (λ x. is_open x.state) m.slots) h) (slot_at m slot s e)))

-- a finished message's slots have final fates
pub finished_final : (m : MsgRow) (slot : ℕ) → is_finished m ≡ true → is_some (slot_fate_of slot m) ≡ true → final_slot_fate (slot_fate_of slot m) ≡ true
finished_final m slot h g = finished_by m slot (slot_of m slot) refl h g

-- an open slot's is not final
pub open_slot_fate : (m : MsgRow) (slot : ℕ) → IsOpenIn m slot → final_slot_fate (slot_fate_of slot m) ≡ false
open_slot_fate m slot o = rw (o.there) (open_isnt_final o.row.state o.is_open_row)
