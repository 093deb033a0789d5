-- The laws of what a message shows: for which consumers a change of a slot, or a move, changes it.
use Rattle.std.specs.Prelude.{◌≡◌, ℕ, ◌==◌, ◌||◌, Bool, true, false, List, Option, Some, None}
use Rattle.std.specs.Option.{option_map_or}
use Rattle.queue_rows.specs.Rows.{slot_of, with_slot}
use Rattle.queue_rows.specs.Tables.{in_state, moved_to, retried}
use Rattle.queue_rows.specs.Dequeueing.{is_local_for}
use Rattle.queue_rows.specs.declared.rows.MsgRow.{MsgRow}
use Rattle.queue_rows.specs.declared.rows.SlotRow.{SlotRow}
use Rattle.queue_rows.specs.declared.rows.SlotState.{SlotState}
use Rattle.choice_laws.specs.Entries.{shows}

-- whether the slot counts for the consumer: without a name slots 0 and 1 do, with a name one that is local for it
abbrev pub concerns : MsgRow → ℕ → Option (List ℕ) → Bool
concerns m slot None = (slot == 0) || (slot == 1)
concerns m slot (Some consumer) = option_map_or (is_local_for consumer) (slot_of m slot) false

-- a change of a slot leaves it to the same recipient
pub record KeepsRecipient (change : SlotRow → SlotRow) : Type 0 where
  pub name : (s : SlotRow) → (change s).name ≡ s.name
  pub address : (s : SlotRow) → (change s).address ≡ s.address

-- what a slot's change of state and its retry are
pub record StatesKeepRecipient : Type 0 where
  pub state : (state : SlotState) (at : ℕ) → KeepsRecipient (in_state state at)
  pub retry : (retries : ℕ) (until : Option ℕ) (at : ℕ) → KeepsRecipient (retried retries until at)

-- a consumer for whom the slot does not count is shown what it was shown
abbrev pub OthersAreShownAlike : Type 0
OthersAreShownAlike = (m : MsgRow) (slot : ℕ) (change : SlotRow → SlotRow) (consumer : Option (List ℕ)) → KeepsRecipient change → concerns m slot consumer ≡ false
    → shows (with_slot slot change m) consumer ≡ shows m consumer

-- a message that is moved shows its slot 0 without a name, and to each name what it showed before
pub record MovedShows : Type 0 where
  pub unnamed : (queue : List ℕ) (at : ℕ) (m : MsgRow) → shows (moved_to queue at m) None ≡ true
  pub named : (queue : List ℕ) (at : ℕ) (m : MsgRow) (consumer : List ℕ) → shows (moved_to queue at m) (Some consumer) ≡ shows m (Some consumer)
