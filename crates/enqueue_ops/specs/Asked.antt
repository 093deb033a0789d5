-- What an enqueue is asked in, and what it means behind each of the tests that refuse it.
use Rattle.std.specs.Prelude.{◌≡◌, ◌≤◌, ◌^◌, ◌&&◌, ◌||◌, true, false, not, Some, is_some, is_none}
use Rattle.aq_base.specs.declared.DbId.{DbId}
use Rattle.payload_records.specs.declared.record.Record.{Record}
use Rattle.queue_rows.specs.Enqueueing.{enqueue_for, is_too_deep, names_bad_exception, relative_of}
use Rattle.queue_rows.specs.Recipients.{names_recipients, recipients}
use Rattle.queue_rows.specs.Rows.{table_of}
use Rattle.queue_rows.specs.Valid.{is_valid}
use Rattle.queue_rows.specs.Within.{is_within, if_some, is_span, is_time}
use Rattle.queue_rows.specs.declared.tables.Tables.{Tables}
use Rattle.queue_rows.specs.declared.rows.TableRow.{TableRow}
use Rattle.queue_rows.specs.declared.statement.Enqueue.{Enqueue}
use Rattle.queue_rows.specs.declared.statement.Statement.TheVariants as statements
use Rattle.sessions.specs.declared.state.Effect.{Effect}
use Rattle.enqueue_ops.specs.Enqueued.{MeansFor, IsAt}
use Rattle.enqueue_ops.specs.declared.addition.Stamp.{Stamp}

-- The enqueue keeps the limits, the tables are valid, with this one for the messages of its queue, and the number and the moment are
-- none past their greatest.
pub record MayAsk (t : Tables) (table : TableRow) (ask : Enqueue) (stamp : Stamp) : Type 0 where
  pub valid : is_valid t ≡ true
  pub table_is : table_of t ask.queue ≡ Some table
  pub within : is_within (statements.Enqueue ask) ≡ true
  pub id : stamp.id ≤ 2 ^ 61
  pub moment : stamp.moment ≤ 2 ^ 62

-- the delay and the expiration keep their limits
pub record HasTimes (ask : Enqueue) : Type 0 where
  pub delay : is_time ask.delay ≡ true
  pub expiration : if_some is_span ask.expiration ≡ true

-- none of the refusals applies that stand before those for recipients and ids
pub record IsTaken (db : DbId) (t : Tables) (table : TableRow) (ask : Enqueue) : Type 0 where
  pub unnamed : (names_recipients ask && not table.multi) ≡ false
  pub exception : names_bad_exception t table ask ≡ false
  pub ungrouped : (table.grouped && (is_some ask.before || ask.top)) ≡ false
  pub standing : (is_some ask.before && is_none (relative_of t db ask)) ≡ false
  pub shallow : is_too_deep table (relative_of t db ask) ≡ false

-- a message with these cells is added, or refused for its recipients, its place or its id
abbrev pub MeansToEnqueueCells : DbId → Tables → TableRow → Enqueue → Record → Stamp → Effect → Type 0
MeansToEnqueueCells db t table ask cells stamp e =
    let agents = recipients t table ask cells in
    let relative = relative_of t db ask in
    MeansFor (IsAt db) (λ s. enqueue_for t s table ask cells agents relative stamp.id stamp.moment) stamp.moment e
