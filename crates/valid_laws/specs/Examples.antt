-- An example of what the laws speak of: a queue with one message, which may not be retried.
use Rattle.std.specs.Prelude.{◌≡◌, pos, [], ◌∷◌, true, false, None, Ok, codes}
use Rattle.queue_rows.specs.Rows.{exception_name}
use Rattle.queue_rows.specs.Catalog.{exception_row, judged}
use Rattle.queue_rows.specs.Commits.{commit_of}
use Rattle.queue_rows.specs.Transactions.{rollback_of}
use Rattle.queue_rows.specs.Valid.{is_valid}
use Rattle.queue_rows.specs.Fits.{fits}
use Rattle.queue_rows.specs.declared.tables.Tables.{Tables}
use Rattle.queue_rows.specs.declared.rows.TableRow.{TableRow}
use Rattle.queue_rows.specs.declared.rows.QueueRow.{QueueRow}
use Rattle.queue_rows.specs.declared.rows.QueueKind.TheVariants as kinds
use Rattle.queue_rows.specs.declared.rows.MsgRow.{MsgRow}
use Rattle.queue_rows.specs.declared.rows.SlotRow.{SlotRow}
use Rattle.queue_rows.specs.declared.rows.SlotState.TheVariants as states
use Rattle.queue_rows.specs.declared.session.Pending.TheVariants.{Remove}
use Rattle.queue_rows.specs.declared.change.Change.TheVariants.{Done, Purged, Retried, Expired, Moved, DropTable}
use Rattle.queue_rows.specs.declared.statement.Admin.TheVariants as asks

abbrev pub example_table : TableRow
example_table = record { name = codes "t"; fields = []; columns = []; multi = false; grouped = false }

abbrev pub example_queue : QueueRow
example_queue = record { name = codes "q"; table = codes "t"; kind = kinds.Normal; enqueue = true; dequeue = true; max_retries = 0; retry_delay = 0; retention = 0; lowest = pos 0 }

abbrev pub example_slot : SlotRow
example_slot = record { name = None; address = None; state = states.Ready; retries = 0; at = 3; expires = None }

abbrev pub example_message : MsgRow
example_message = record { id = 1; queue = codes "q"; place = pos 0 ∷ pos 1 ∷ []; facts = record { priority = pos 1; corr = None; cells = record { cells = [] }; props = [] }; exception = None; enq = 3; group = 1; moved = false; slots = example_slot ∷ [] }

abbrev pub example_tables : Tables
example_tables = record { tables = example_table ∷ []; queues = exception_row (codes "t") ∷ example_queue ∷ []; subs = []; schedules = []; messages = example_message ∷ []; seen = []; next = 2; transaction = 2; latest = 3 }

-- they are valid
abbrev pub ExampleIsValid : Type 0
ExampleIsValid = is_valid example_tables ≡ true

-- a commit that takes the message lets it go, since its queue keeps nothing
abbrev pub ExampleCommits : Type 0
ExampleCommits = commit_of example_tables 5 (Remove 1 1 ∷ []) ≡ Done 1 1 5 ∷ Purged 1 ∷ []

-- a rollback is one retry too many, and moves it into the exception queue
abbrev pub ExampleRollsBack : Type 0
ExampleRollsBack = rollback_of example_tables 5 (Remove 1 1 ∷ []) ≡ Retried 1 1 1 None 5 ∷ Expired 1 1 5 ∷ Moved 1 (exception_name (codes "t")) 5 ∷ []

-- a table of which no queue is left but its default exception queue
abbrev pub example_left : Tables
example_left = record example_tables { queues = exception_row (codes "t") ∷ []; messages = [] }

-- its drop is accepted, and takes both
abbrev pub ExampleDrops : Type 0
ExampleDrops = judged example_left (asks.DropTable (codes "t")) 5 ≡ Ok (DropTable (codes "t") ∷ [])

abbrev pub ExampleIsLeft : Type 0
ExampleIsLeft = fits example_left (record { moment = 5; changes = DropTable (codes "t") ∷ [] }) ≡ true
