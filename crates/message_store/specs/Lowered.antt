-- Queues, when a message is put into one of them.
use Rattle.std.specs.Prelude.{ℕ, ℤ, List}
use Rattle.std.specs.Str.{bytes_eq}
use Rattle.queue_rows.specs.Rows.{changed_first}
use Rattle.queue_rows.specs.Tables.{lowered_to}
use Rattle.queue_rows.specs.declared.rows.TableRow.{TableRow}
use Rattle.queue_rows.specs.declared.rows.QueueRow.{QueueRow}
use Rattle.open_rows.specs.Rows.{Rows}

-- queues, when a message is put into the one of that name
abbrev pub with_lowered : List TableRow → List ℤ → List ℕ → Rows QueueRow → Rows QueueRow
with_lowered tables place name queues = record queues {
  items = changed_first (λ q. bytes_eq q.name name) (lowered_to tables place) queues.items;
}
