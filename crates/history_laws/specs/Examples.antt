-- Small histories of which the laws speak: a message is taken; one is given up; one is put in; and one is sent to the other database.
use Rattle.std.specs.Prelude.{◌≡◌, ◌+◌, pos, ℕ, List, [], ◌∷◌, true, false, Some, None, codes, take, count_by}
use Rattle.aq_base.specs.declared.DbId.TheVariants.{Home}
use Rattle.payload_records.specs.declared.payload.Payload.TheVariants as payloads
use Rattle.queue_rows.specs.Rows.{exception_name}
use Rattle.queue_rows.specs.declared.tables.Tables.{Tables}
use Rattle.queue_rows.specs.declared.rows.MsgRow.{MsgRow}
use Rattle.queue_rows.specs.declared.rows.SlotRow.{SlotRow}
use Rattle.queue_rows.specs.declared.rows.SlotState.TheVariants as states
use Rattle.queue_rows.specs.declared.change.Change.{Change}
use Rattle.queue_rows.specs.declared.change.Change.TheVariants as changes
use Rattle.queue_rows.specs.declared.history.Entry.{Entry}
use Rattle.queue_rows.specs.declared.history.History.{History}
use Rattle.queue_rows.specs.declared.history.SessionScript.{SessionScript}
use Rattle.queue_rows.specs.declared.history.SlotRef.{SlotRef}
use Rattle.queue_rows.specs.declared.history.Step.{Step}
use Rattle.queue_rows.specs.declared.history.Step.TheVariants as steps
use Rattle.queue_rows.specs.declared.reply.Reply.{Reply}
use Rattle.queue_rows.specs.declared.reply.Reply.TheVariants as replies
use Rattle.queue_rows.specs.declared.statement.Mode.TheVariants as modes
use Rattle.queue_rows.specs.declared.statement.Navigation.TheVariants as navigations
use Rattle.queue_rows.specs.declared.statement.Statement.{Statement}
use Rattle.queue_rows.specs.declared.statement.Statement.TheVariants as statements
use Rattle.queue_rows.specs.declared.statement.Visibility.{Visibility}
use Rattle.queue_rows.specs.declared.statement.Visibility.TheVariants as visibilities
use Rattle.valid_laws.specs.Examples.{example_table, example_message, example_tables, example_left}

-- ---- what one session does

abbrev pub script_of : List Statement → List SessionScript
script_of asked = record { name = codes "a"; at = Home; statements = asked } ∷ []

-- the tables of the example begin it, at moment 3
abbrev pub history_of : List Statement → List Entry → History
history_of asked entries = record { home = example_tables; away = example_left; opening = 3; scripts = script_of asked; entries = entries }

-- an entry of the session behind so many readings, which count seconds
abbrev pub entry_at : ℕ → List Change → Step → Entry
entry_at readings cs step = record { actor = 0; moment = 3 + readings; readings = readings; home_calls = 0; away_calls = 0; home = cs; away = []; step = step }

abbrev pub taking : Visibility → Statement
taking visibility = statements.Dequeue (record { queue = codes "q"; consumer = None; mode = modes.Remove; navigation = navigations.Next; visibility = visibility; wait = 0; msgid = None; corr = None; condition = None })

abbrev pub message_shown : Reply
message_shown = replies.Message (record {
  id = record { db = Home; number = 1 };
  priority = pos 1;
  retries = 0;
  corr = None;
  payload = Some (record { kind = []; cells = record { cells = [] } });
  props = [];
})

-- message 1 is taken at once, and goes
abbrev pub example_taken : History
example_taken = history_of (taking visibilities.Immediate ∷ []) (
    entry_at 1 (changes.Done 1 1 4 ∷ changes.Purged 1 ∷ []) (steps.Call 1 message_shown)
    ∷ entry_at 3 [] steps.Flush ∷ entry_at 3 [] (steps.Told 1) ∷ entry_at 4 [] steps.End ∷ [])

-- it is taken, and the transaction is rolled back once too often: it goes to the exception queue
abbrev pub example_given_up : History
example_given_up = history_of (taking visibilities.OnCommit ∷ statements.Rollback ∷ []) (
    entry_at 1 [] (steps.Call 1 message_shown) ∷ entry_at 3 [] (steps.Told 1)
    ∷ entry_at 4 (changes.Retried 1 1 1 None 7 ∷ changes.Expired 1 1 7 ∷ changes.Moved 1 (exception_name (codes "t")) 7 ∷ []) (steps.Call 2 replies.Ok)
    ∷ entry_at 6 [] steps.Flush ∷ entry_at 6 [] (steps.Told 2) ∷ entry_at 7 [] steps.End ∷ [])

abbrev pub putting : Statement
putting = statements.Enqueue (record { queue = codes "q"; payload = payloads.Members []; visibility = visibilities.OnCommit; priority = pos 1; delay = 0; expiration = None; corr = None; recipients = None; exception_queue = None; before = None; top = false; props = [] })

abbrev pub put_slot : SlotRow
put_slot = record { name = None; address = None; state = states.Ready; retries = 0; at = 7; expires = None }

abbrev pub put_message : MsgRow
put_message = record example_message { id = 2; place = pos 0 ∷ pos 2 ∷ []; enq = 4; group = 2; slots = put_slot ∷ [] }

-- message 2 is put in beside it
abbrev pub example_put : History
example_put = history_of (putting ∷ statements.Commit ∷ []) (
    entry_at 1 [] (steps.Call 1 (replies.Enqueued (record { db = Home; number = 2 }))) ∷ entry_at 3 [] (steps.Told 1)
    ∷ entry_at 4 (changes.Enqueued put_message ∷ []) (steps.Call 2 replies.Ok)
    ∷ entry_at 6 [] steps.Flush ∷ entry_at 6 [] (steps.Told 2) ∷ entry_at 7 [] steps.End ∷ [])

-- ---- what is sent

-- a slot that goes to the queue of that name at the other database, and expires
abbrev pub sent_slot : SlotRow
sent_slot = record { name = Some (codes "n"); address = Some (codes "q"); state = states.Ready; retries = 0; at = 3; expires = Some 9 }

abbrev pub sending_tables : Tables
sending_tables = record example_tables {
  tables = record example_table { multi = true } ∷ [];
  schedules = record { queue = codes "q"; to = codes "q"; enabled = true; start = 0; duration = None; period = None; latency = 0; failures = 0; next = 0 } ∷ [];
  messages = record example_message { slots = sent_slot ∷ [] } ∷ [];
}

abbrev pub receiving_tables : Tables
receiving_tables = record example_tables { messages = [] }

abbrev pub sent_ref : SlotRef
sent_ref = record { db = Home; id = 1; slot = 1 }

abbrev pub copied_message : MsgRow
copied_message = record example_message { id = 2; place = pos 0 ∷ pos 2 ∷ []; enq = 5; group = 2; slots = record put_slot { at = 5; expires = Some 9 } ∷ [] }
