-- The numbers that rows may have where a transaction ends.
use Rattle.std.specs.Prelude.{◌<◌, ◌≤◌, ◌≤ℤ◌, ◌+ℤ◌, ◌^◌, ℕ, ℤ, pos, All}
use Rattle.queue_rows.specs.Tables.{lane_of}
use Rattle.queue_rows.specs.declared.rows.QueueRow.{QueueRow}
use Rattle.queue_rows.specs.declared.rows.MsgRow.{MsgRow}
use Rattle.queue_rows.specs.declared.rows.SlotRow.{SlotRow}
use Rattle.queue_rows.specs.declared.session.Pending.{Pending}
use Rattle.queue_rows.specs.declared.session.Pending.TheVariants.{Add, Remove}

-- ---- commits

-- no further than so much below 0
abbrev pub IsAbove : ℕ → ℤ → Type 0
IsAbove n z = pos 0 ≤ℤ (z +ℤ pos n)

abbrev pub IsLowest : ℕ → QueueRow → Type 0
IsLowest n queue = IsAbove n queue.lowest

-- a place can be made of its numbers
pub record IsAddable (m : MsgRow) : Type 0 where
  pub id : m.id < 2 ^ 62
  pub enqueued : m.enq ≤ 2 ^ 62
  pub lane : IsAbove (2 ^ 62) (lane_of m.place)

abbrev pub IsPendable : Pending → Type 0
IsPendable (Add m) = IsAddable m
IsPendable (Remove id slot) = Unit {0}

-- ---- rollbacks

-- one more rollback of it can be counted
abbrev pub IsCountable : SlotRow → Type 0
IsCountable slot = slot.retries < 2 ^ 63

abbrev pub AreCountable : MsgRow → Type 0
AreCountable m = All IsCountable m.slots

-- its delay ends at a moment
abbrev pub IsDelaying : QueueRow → Type 0
IsDelaying queue = queue.retry_delay ≤ 2 ^ 62
