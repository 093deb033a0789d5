-- Small histories of which the laws of runs speak: a message is taken; one is given up; one is put in; one expires; a dequeue waits; and a
-- message is sent to the other database.
use Rattle.std.specs.Prelude.{◌≡◌, ℕ, List, [], ◌∷◌, true, false, None, Some, codes, take, count_by, is_some}
use Rattle.aq_base.specs.declared.DbId.{DbId}
use Rattle.aq_base.specs.declared.DbId.TheVariants.{Home, Away}
use Rattle.queue_rows.specs.Rows.{exception_name, find_message}
use Rattle.queue_rows.specs.Propagating.{has_seen}
use Rattle.queue_rows.specs.declared.tables.Tables.{Tables}
use Rattle.queue_rows.specs.declared.rows.MsgRow.{MsgRow}
use Rattle.queue_rows.specs.declared.change.Change.{Change}
use Rattle.queue_rows.specs.declared.change.Change.TheVariants as changes
use Rattle.queue_rows.specs.declared.history.Arrival.TheVariants.{Copied}
use Rattle.queue_rows.specs.declared.history.Entry.{Entry}
use Rattle.queue_rows.specs.declared.history.History.{History}
use Rattle.queue_rows.specs.declared.history.Step.{Step}
use Rattle.queue_rows.specs.declared.history.Step.TheVariants as steps
use Rattle.queue_rows.specs.declared.reply.Reply.TheVariants as replies
use Rattle.queue_rows.specs.declared.statement.Mode.TheVariants as modes
use Rattle.queue_rows.specs.declared.statement.Navigation.TheVariants as navigations
use Rattle.queue_rows.specs.declared.statement.Statement.{Statement}
use Rattle.queue_rows.specs.declared.statement.Statement.TheVariants as statements
use Rattle.queue_rows.specs.declared.statement.Visibility.TheVariants as visibilities
use Rattle.valid_laws.specs.Examples.{example_message, example_slot, example_tables, example_left}
use Rattle.history_laws.specs.Made.{commits_of, tables_after, opening_of}
use Rattle.history_laws.specs.Fates.{Fate, ready, processed, expired, fate}
use Rattle.history_laws.specs.Arrivals.{is_copied}
use Rattle.history_laws.specs.Durability.{made, durable}
use Rattle.history_laws.specs.Examples.{script_of, entry_at, example_taken, example_given_up, example_put, sending_tables, receiving_tables, sent_ref, copied_message}
use Rattle.run_fates.specs.DurableRun.{durable_tables_at}
use Rattle.queue_rows.specs.Legal.{IsLegalHistory}

-- the history is legal, from the tables with which it begins
abbrev pub IsLegalSo : History → Type 0
IsLegalSo h = IsLegalHistory h.home h.away h.scripts h

-- the slot has this fate by what the history commits
abbrev pub HasFate : DbId → History → ℕ → ℕ → Fate → Type 0
HasFate db h id slot become = fate (opening_of db h) (commits_of db h.entries) id slot ≡ Some become

-- ---- calls

-- a message is taken at once, and goes; what was committed was durable when its call was told, not before
pub record ExampleIsTaken : Type 0 where
  pub legal : IsLegalSo example_taken
  pub slot : HasFate Home example_taken 1 1 processed
  pub gone : find_message (tables_after Home example_taken) 1 ≡ None
  pub made_is : made Home (take 1 example_taken.entries) ≡ 1
  pub before : durable Home (take 1 example_taken.entries) ≡ 0
  pub told : durable Home (take 2 example_taken.entries) ≡ 1

-- a message is rolled back once too often: its slot expired, and slot 0 is ready in the exception queue
pub record ExampleIsGivenUp : Type 0 where
  pub legal : IsLegalSo example_given_up
  pub slot : HasFate Home example_given_up 1 1 expired
  pub zero : HasFate Home example_given_up 1 0 ready

-- a message is put in beside another one: both are ready
pub record ExampleIsPut : Type 0 where
  pub legal : IsLegalSo example_put
  pub old : HasFate Home example_put 1 1 ready
  pub new : HasFate Home example_put 2 1 ready

-- ---- due work

-- a message whose time is over at moment 4
abbrev pub expiring_tables : Tables
expiring_tables = record example_tables { messages = record example_message { slots = record example_slot { expires = Some 4 } ∷ [] } ∷ [] }

-- it goes to the exception queue, before the session's first statement is called
abbrev pub example_expired : History
example_expired = record {
  home = expiring_tables;
  away = example_left;
  opening = 3;
  scripts = script_of (statements.Rollback ∷ []);
  entries =
      entry_at 1 (changes.Expired 1 1 4 ∷ changes.Moved 1 (exception_name (codes "t")) 4 ∷ []) steps.Timer
      ∷ entry_at 1 [] (steps.Call 1 replies.Ok) ∷ entry_at 3 [] steps.Flush ∷ entry_at 3 [] (steps.Told 1) ∷ entry_at 4 [] steps.End ∷ [];
}

pub record ExampleIsExpired : Type 0 where
  pub legal : IsLegalSo example_expired
  pub slot : HasFate Home example_expired 1 1 expired
  pub zero : HasFate Home example_expired 1 0 ready

-- ---- waits

-- a dequeue that waits for two seconds
abbrev pub waiting : Statement
waiting = statements.Dequeue (record { queue = codes "q"; consumer = None; mode = modes.Remove; navigation = navigations.Next; visibility = visibilities.Immediate; wait = 2; msgid = None; corr = None; condition = None })

-- the wait is noted once, and answered when it is over
abbrev pub example_waited : History
example_waited = record {
  home = receiving_tables;
  away = example_left;
  opening = 3;
  scripts = script_of (waiting ∷ []);
  entries =
      entry_at 1 [] (steps.Park 1) ∷ entry_at 4 [] (steps.Call 1 replies.NoMessage) ∷ entry_at 6 [] (steps.Told 1) ∷ entry_at 7 [] steps.End ∷ [];
}

abbrev pub ExampleIsWaited : Type 0
ExampleIsWaited = IsLegalSo example_waited

-- ---- what is sent

-- an entry of the closing turn, which takes one reading
abbrev pub closing_entry : List Change → List Change → Step → Entry
closing_entry home away step = record { actor = 66; moment = 4; readings = 1; home_calls = 0; away_calls = 0; home = home; away = away; step = step }

abbrev pub copy : MsgRow
copy = record copied_message { enq = 4; slots = record { name = None; address = None; state = Rattle.queue_rows.specs.declared.rows.SlotState.TheVariants.Ready; retries = 0; at = 4; expires = Some 9 } ∷ [] }

-- with no session at all, the closing turn offers the slot, has it arrive as message 2, and confirms it
abbrev pub example_sent : History
example_sent = record {
  home = sending_tables;
  away = receiving_tables;
  opening = 3;
  scripts = [];
  entries =
      closing_entry [] [] (steps.Offer sent_ref (codes "q"))
      ∷ closing_entry [] (changes.Enqueued copy ∷ changes.Seen (record { id = 1; slot = 1; copy = 2 }) ∷ []) (steps.Arrive sent_ref (Copied 2))
      ∷ closing_entry [] [] steps.Flush
      ∷ closing_entry (changes.Done 1 1 4 ∷ changes.Purged 1 ∷ []) [] (steps.Confirm sent_ref)
      ∷ closing_entry [] [] steps.Flush ∷ [];
}

-- it arrives once; when it is confirmed the other database has seen it in what is durable there, and not before the flush; and when it
-- arrived its message was durable
pub record ExampleIsSent : Type 0 where
  pub legal : IsLegalSo example_sent
  pub slot : HasFate Home example_sent 1 1 processed
  pub copy_is : HasFate Away example_sent 2 1 ready
  pub once : count_by (is_copied sent_ref) example_sent.entries ≡ 1
  pub unseen : has_seen (durable_tables_at Away example_sent (take 2 example_sent.entries)) sent_ref ≡ false
  pub seen : has_seen (durable_tables_at Away example_sent (take 3 example_sent.entries)) sent_ref ≡ true
  pub stands : is_some (find_message (durable_tables_at Home example_sent (take 1 example_sent.entries)) 1) ≡ true
