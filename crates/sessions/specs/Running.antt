-- The queues as the changes of a commit leave them: of all that changes of sessions change, only this matters to the
-- changes behind them.
use Rattle.std.specs.Prelude.{◌≡◌, ℕ, List, Bool, true, false}
use Rattle.std.specs.Str.{bytes_eq}
use Rattle.queue_rows.specs.Rows.{changed_first}
use Rattle.queue_rows.specs.Tables.{lowered_to}
use Rattle.queue_rows.specs.Commits.{changes_from}
use Rattle.queue_rows.specs.declared.tables.Tables.{Tables}
use Rattle.queue_rows.specs.declared.rows.TableRow.{TableRow}
use Rattle.queue_rows.specs.declared.rows.QueueRow.{QueueRow}
use Rattle.queue_rows.specs.declared.rows.MsgRow.{MsgRow}
use Rattle.queue_rows.specs.declared.session.Pending.{Pending}
use Rattle.queue_rows.specs.declared.session.Pending.TheVariants.{Add, Remove}
use Rattle.queue_rows.specs.declared.change.Change.{Change}
use Rattle.queue_rows.specs.declared.change.Change.TheVariants.{Enqueued}

abbrev pub with_queues : Tables → List QueueRow → Tables
with_queues t queues = record t { queues = queues }

-- a commit makes the same of these queues as of the tables' own
abbrev pub AreEnoughFor : Tables → List Pending → List QueueRow → Type 0
AreEnoughFor t pending queues = (group moment : ℕ)
    → changes_from (with_queues t queues) group moment pending ≡ changes_from t group moment pending

-- the queue of the message is no higher than its place
abbrev pub lowered_for : List TableRow → MsgRow → List QueueRow → List QueueRow
lowered_for tables m queues = changed_first (λ q. bytes_eq q.name m.queue) (lowered_to tables m.place) queues

abbrev pub queues_after : List TableRow → List QueueRow → Change → List QueueRow
queues_after tables queues (Enqueued m) = lowered_for tables m queues
queues_after tables queues _ = queues

abbrev pub is_addition : Pending → Bool
is_addition (Add m) = true
is_addition (Remove id slot) = false
