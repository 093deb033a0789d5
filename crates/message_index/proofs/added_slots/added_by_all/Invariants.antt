use Rattle.std.proofs.Common.{◌≡◌, ◌+◌, ℕ, nat_eq, unwrap_or}
use Rattle.std.specs.HashMap.{get}
use Rattle.std.specs.Prelude.{sum_by}
use Rattle.message_index.specs.SlotRooms.{slots_added}
use Rattle.message_index.proofs.added_slots.added_by_all.Given as goal

abbrev pub invariant-loop-change : goal.invariant-loop-change
invariant-loop-change l = (id : ℕ) → unwrap_or (get nat_eq l.added id) 0 + sum_by (slots_added id) l.change-iterator ≡ sum_by (slots_added id) l.changes
