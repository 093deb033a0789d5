-- An example of what the laws speak of: a queue with three messages, by priority, of which the last one waits.
use Rattle.std.specs.Prelude.{◌≡◌, ℕ, pos, List, [], ◌∷◌, true, false, None, codes}
use Rattle.aq_base.specs.declared.DbId.TheVariants.{Home}
use Rattle.place_keys.specs.declared.sort_list.Column.TheVariants.{Priority}
use Rattle.queue_rows.specs.Session.{fresh_at}
use Rattle.queue_rows.specs.Dequeueing.{Look, chosen, found, is_available}
use Rattle.queue_rows.specs.declared.tables.Tables.{Tables}
use Rattle.queue_rows.specs.declared.rows.TableRow.{TableRow}
use Rattle.queue_rows.specs.declared.rows.QueueRow.{QueueRow}
use Rattle.queue_rows.specs.declared.rows.QueueKind.TheVariants as kinds
use Rattle.queue_rows.specs.declared.rows.MsgRow.{MsgRow}
use Rattle.queue_rows.specs.declared.rows.SlotState.{SlotState}
use Rattle.queue_rows.specs.declared.rows.SlotState.TheVariants as states
use Rattle.queue_rows.specs.declared.session.Position.{Position}
use Rattle.queue_rows.specs.declared.statement.Dequeue.{Dequeue}
use Rattle.queue_rows.specs.declared.statement.Mode.TheVariants as modes
use Rattle.queue_rows.specs.declared.statement.Navigation.TheVariants as navigations
use Rattle.queue_rows.specs.declared.statement.Visibility.TheVariants as visibilities
use Rattle.choice_laws.specs.Entries.{Entry, AreRising, messages_of, row_of, rows_for, stands_for}
use Rattle.choice_laws.specs.Choosing.{chosen_in_rows}

abbrev pub example_table : TableRow
example_table = record { name = codes "t"; fields = []; columns = Priority ∷ []; multi = false; grouped = false }

abbrev pub example_queue : QueueRow
example_queue = record { name = codes "q"; table = codes "t"; kind = kinds.Normal; enqueue = true; dequeue = true; max_retries = 0; retry_delay = 0; retention = 0; lowest = pos 0 }

abbrev pub example_message : ℕ → ℕ → SlotState → MsgRow
example_message id priority state = record {
  id = id;
  queue = codes "q";
  place = pos 0 ∷ pos priority ∷ pos id ∷ [];
  facts = record { priority = pos priority; corr = None; cells = record { cells = [] }; props = [] };
  exception = None;
  enq = 3;
  group = 1;
  moved = false;
  slots = record { name = None; address = None; state = state; retries = 0; at = 3; expires = None } ∷ [];
}

abbrev pub example_first : Entry
example_first = record { stamp = 4; message = example_message 1 5 states.Ready }

abbrev pub example_second : Entry
example_second = record { stamp = 7; message = example_message 2 3 states.Ready }

abbrev pub example_third : Entry
example_third = record { stamp = 8; message = example_message 3 1 states.Waiting }

abbrev pub example_entries : List Entry
example_entries = example_first ∷ example_second ∷ example_third ∷ []

abbrev pub example_tables : Tables
example_tables = record { tables = example_table ∷ []; queues = example_queue ∷ []; subs = []; schedules = []; messages = messages_of example_entries; seen = []; next = 4; transaction = 2; latest = 3 }

abbrev pub example_ask : Dequeue
example_ask = record { queue = codes "q"; consumer = None; mode = modes.Browse; navigation = navigations.Next; visibility = visibilities.Immediate; wait = 0; msgid = None; corr = None; condition = None }

-- what a session looks at that stands at these positions
abbrev pub example_look : List Position → Look
example_look positions = record {
  tables = example_tables;
  sessions = [];
  actor = 0;
  session = record (fresh_at Home) { positions = positions };
  queue = example_queue;
  table = example_table;
  ask = example_ask;
  condition = None;
}

-- at the second message
abbrev pub example_position : Position
example_position = record { queue = codes "q"; consumer = None; place = example_second.message.place; group = 1 }

-- the stamps rise, and two messages have rows, the one of the lesser priority first
pub record ExampleRows : Type 0 where
  pub rising : AreRising example_entries
  pub rows : rows_for (codes "q") None example_entries ≡ row_of example_second ∷ row_of example_first ∷ []

-- the first message may be given and stands in the queue, and the third may not be given
pub record ExampleAvailable : Type 0 where
  pub first : is_available (example_look []) example_first.message ≡ true
  pub stands : stands_for (codes "q") None example_first.message ≡ true
  pub third : is_available (example_look []) example_third.message ≡ false

-- the second message is chosen, by the definitions and in the rows, and then the first one
pub record ExampleChoice : Type 0 where
  pub chosen_first : chosen (example_look []) ≡ found example_second.message
  pub rows_first : chosen_in_rows (example_look []) example_entries ≡ found example_second.message
  pub chosen_next : chosen (example_look (example_position ∷ [])) ≡ found example_first.message
  pub rows_next : chosen_in_rows (example_look (example_position ∷ [])) example_entries ≡ found example_first.message
