-- What removals become that are rolled back, by a removal as one value.
use Rattle.std.specs.Prelude.{ℕ, List, Option}
use Rattle.std.specs.List.{flat_map}
use Rattle.queue_rows.specs.Transactions.{expiry_of, retried_to, retry_slot, retry_in, retry_message, retry_of}
use Rattle.queue_rows.specs.declared.tables.Tables.{Tables}
use Rattle.queue_rows.specs.declared.rows.QueueRow.{QueueRow}
use Rattle.queue_rows.specs.declared.rows.MsgRow.{MsgRow}
use Rattle.queue_rows.specs.declared.rows.SlotRow.{SlotRow}
use Rattle.queue_rows.specs.declared.session.Pending.{Pending}
use Rattle.queue_rows.specs.declared.change.Change.{Change}
use Rattle.sessions.specs.declared.rollback.Removal.{Removal}

abbrev pub expiry_at : QueueRow → ℕ → Removal → List Change
expiry_at queue retries at = expiry_of queue retries at.moment at.id at.slot

abbrev pub retried_at : QueueRow → ℕ → Removal → List Change
retried_at queue retries at = retried_to queue retries at.moment at.id at.slot

abbrev pub slot_retried : QueueRow → Option SlotRow → Removal → List Change
slot_retried queue row at = retry_slot queue row at.moment at.id at.slot

abbrev pub retried_in : Option QueueRow → MsgRow → Removal → List Change
retried_in queue m at = retry_in queue m at.moment at.id at.slot

abbrev pub retried_for : Tables → Option MsgRow → Removal → List Change
retried_for tables m at = retry_message tables m at.moment at.id at.slot

-- what a rollback makes of all that is pending, before it settles
abbrev pub retries_of : Tables → ℕ → List Pending → List Change
retries_of tables moment pending = flat_map (retry_of tables moment) pending
