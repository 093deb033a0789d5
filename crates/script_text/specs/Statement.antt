-- The statement that a line asks.
use Rattle.std.specs.Prelude.{ℕ, ℤ, pos, List, codes, ◌&&◌, true, false, Option, Some, None, is_some, option_map, option_and_then, if◌then◌else◌}
use Rattle.serde_json.specs.Data.{Data}
use Rattle.aq_base.specs.declared.limits.TheConstants.{MAX_RETRIES_LIMIT, TIME_LIMIT, MOMENT_LIMIT, WAIT_LIMIT, CORRELATION_LIMIT, CONDITION_LIMIT}
use Rattle.queue_rows.specs.declared.statement.Admin.{Admin}
use Rattle.queue_rows.specs.declared.statement.Admin.TheVariants as asks
use Rattle.queue_rows.specs.declared.statement.Dequeue.{Dequeue}
use Rattle.queue_rows.specs.declared.statement.Enqueue.{Enqueue}
use Rattle.queue_rows.specs.declared.statement.Mode.TheVariants.{Remove}
use Rattle.queue_rows.specs.declared.statement.Navigation.TheVariants.{Next}
use Rattle.queue_rows.specs.declared.statement.Listen.{Listen}
use Rattle.queue_rows.specs.declared.statement.Statement.{Statement}
use Rattle.queue_rows.specs.declared.statement.Statement.TheVariants as statements
use Rattle.script_text.specs.declared.form.Form.TheVariants.{Asking}
use Rattle.script_text.specs.declared.form.Verb.{Verb}
use Rattle.script_text.specs.declared.form.Verb.TheVariants as verbs
use Rattle.script_text.specs.declared.message.Placing.{Placing}
use Rattle.script_text.specs.Form.{verb_of, has_form}
use Rattle.script_text.specs.Member.{◌>>=◌, text_at, given_at, or_default, if_given, name_at, name_if_given, table_at, number_between, priority_in, bool_or, bool_if_given, text_if_given}
use Rattle.script_text.specs.Parts.{fields_at, sort_at, grouping_at, kind_at, id_if_given, payload_at, props_at, visibility_at, mode_at, navigation_at, recipients_at, agents_at}

-- ---- tables

unfoldable pub create_table : Data → Option Admin
create_table d = do
  multi ← bool_or false (codes "multi") d
  grouped ← grouping_at d
  table ← table_at d
  fields ← fields_at d
  sort ← sort_at d
  Some (asks.CreateTable table fields sort multi grouped)

unfoldable pub drop_table : Data → Option Admin
drop_table d = option_map (λ table. asks.DropTable table) (table_at d)

-- ---- queues

-- how often a removal may be rolled back where nothing is said
abbrev pub default_max_retries : ℕ
default_max_retries = 5

abbrev pub max_retries_at : Data → Option ℕ
max_retries_at d = or_default default_max_retries (number_between 0 MAX_RETRIES_LIMIT) (given_at (codes "max_retries") d)

-- some seconds, none where nothing is said
abbrev pub seconds_at : List ℕ → Data → Option ℕ
seconds_at key d = or_default 0 (number_between 0 TIME_LIMIT) (given_at key d)

unfoldable pub create_queue : Data → Option Admin
create_queue d = do
  kind ← kind_at d
  max_retries ← max_retries_at d
  retry_delay ← seconds_at (codes "retry_delay") d
  retention ← seconds_at (codes "retention") d
  queue ← name_at (codes "queue") d
  table ← table_at d
  Some (asks.CreateQueue queue table kind max_retries retry_delay retention)

unfoldable pub drop_queue : Data → Option Admin
drop_queue d = option_map (λ queue. asks.DropQueue queue) (name_at (codes "queue") d)

-- whether it is to take messages depends on the queue where nothing is said
unfoldable pub start_queue : Data → Option Admin
start_queue d = do
  enqueue ← bool_if_given (codes "enqueue") d
  dequeue ← bool_or true (codes "dequeue") d
  queue ← name_at (codes "queue") d
  Some (asks.StartQueue queue enqueue dequeue)

unfoldable pub stop_queue : Data → Option Admin
stop_queue d = do
  enqueue ← bool_or true (codes "enqueue") d
  dequeue ← bool_or true (codes "dequeue") d
  queue ← name_at (codes "queue") d
  Some (asks.StopQueue queue enqueue dequeue)

-- ---- subscribers

unfoldable pub add_subscriber : Data → Option Admin
add_subscriber d = do
  queue ← name_at (codes "queue") d
  name ← name_at (codes "name") d
  address ← name_if_given (codes "address") d
  rule ← text_if_given CONDITION_LIMIT (codes "rule") d
  Some (asks.AddSubscriber queue name address rule)

unfoldable pub remove_subscriber : Data → Option Admin
remove_subscriber d = do
  queue ← name_at (codes "queue") d
  name ← name_at (codes "name") d
  Some (asks.RemoveSubscriber queue name)

-- ---- schedules

-- some seconds, but not 0
abbrev pub span_at : List ℕ → Data → Option (Option ℕ)
span_at key d = if_given (number_between 1 TIME_LIMIT) (given_at key d)

abbrev pub start_at : Data → Option (Option ℕ)
start_at d = if_given (number_between 0 MOMENT_LIMIT) (given_at (codes "start") d)

-- the seconds between two moments of sending where nothing is said
abbrev pub default_latency : ℕ
default_latency = 60

abbrev pub latency_at : Data → Option ℕ
latency_at d = or_default default_latency (number_between 0 TIME_LIMIT) (given_at (codes "latency") d)

unfoldable pub schedule : Data → Option Admin
schedule d = do
  start ← start_at d
  duration ← span_at (codes "duration") d
  period ← span_at (codes "period") d
  latency ← latency_at d
  queue ← name_at (codes "queue") d
  to ← name_at (codes "to") d
  Some (asks.Schedule queue to start duration period latency)

-- what is asked of the schedule of a queue and a destination
abbrev pub of_route : (List ℕ → List ℕ → Admin) → Data → Option Admin
of_route ask d = do
  queue ← name_at (codes "queue") d
  to ← name_at (codes "to") d
  Some (ask queue to)

unfoldable pub unschedule : Data → Option Admin
unschedule d = of_route asks.Unschedule d

unfoldable pub enable_schedule : Data → Option Admin
enable_schedule d = of_route asks.EnableSchedule d

unfoldable pub disable_schedule : Data → Option Admin
disable_schedule d = of_route asks.DisableSchedule d

-- ---- messages

-- 1 where nothing is said
abbrev pub priority_at : Data → Option ℤ
priority_at d = or_default (pos 1) priority_in (given_at (codes "priority") d)

-- a message stands before all or before one, not both
abbrev pub with_one_place : Placing → Option Placing
with_one_place placing = if is_some placing.before && placing.top then None else Some placing

-- how a message is put in
unfoldable pub placing_at : Data → Option Placing
placing_at d = do
  visibility ← visibility_at d
  priority ← priority_at d
  delay ← seconds_at (codes "delay") d
  expiration ← span_at (codes "expiration") d
  before ← id_if_given (codes "before") d
  top ← bool_or false (codes "top") d
  with_one_place (record {
    visibility = visibility;
    priority = priority;
    delay = delay;
    expiration = expiration;
    before = before;
    top = top;
  })

unfoldable pub enqueue : Data → Option Enqueue
enqueue d = do
  placing ← placing_at d
  queue ← name_at (codes "queue") d
  payload ← payload_at d
  corr ← text_if_given CORRELATION_LIMIT (codes "corr") d
  recipients ← recipients_at d
  exception_queue ← name_if_given (codes "exception_queue") d
  props ← props_at d
  Some (record {
    queue = queue;
    payload = payload;
    visibility = placing.visibility;
    priority = placing.priority;
    delay = placing.delay;
    expiration = placing.expiration;
    corr = corr;
    recipients = recipients;
    exception_queue = exception_queue;
    before = placing.before;
    top = placing.top;
    props = props;
  })

-- not at all where nothing is said
abbrev pub wait_at : Data → Option ℕ
wait_at d = or_default 0 (number_between 0 WAIT_LIMIT) (given_at (codes "wait") d)

-- its correlation is a pattern, which may be as long as a condition
unfoldable pub dequeue : Data → Option Dequeue
dequeue d = do
  mode ← mode_at d
  navigation ← navigation_at d
  visibility ← visibility_at d
  wait ← wait_at d
  msgid ← id_if_given (codes "msgid") d
  queue ← name_at (codes "queue") d
  consumer ← name_if_given (codes "consumer") d
  corr ← text_if_given CONDITION_LIMIT (codes "corr") d
  condition ← text_if_given CONDITION_LIMIT (codes "condition") d
  Some (record {
    queue = queue;
    consumer = consumer;
    mode = mode;
    navigation = navigation;
    visibility = visibility;
    wait = wait;
    msgid = msgid;
    corr = corr;
    condition = condition;
  })

-- a dequeue of which nothing is said that is mostly left out
unfoldable pub plain_dequeue : Data → Option Dequeue
plain_dequeue d = do
  visibility ← visibility_at d
  queue ← name_at (codes "queue") d
  Some (record {
    queue = queue;
    consumer = None;
    mode = Remove;
    navigation = Next;
    visibility = visibility;
    wait = 0;
    msgid = None;
    corr = None;
    condition = None;
  })

unfoldable pub listen : Data → Option Listen
listen d = do
  wait ← wait_at d
  agents ← agents_at d
  Some (record { agents = agents; wait = wait })

-- ---- statements

abbrev pub administers : Option Admin → Option Statement
administers ask = option_map (λ a. statements.Admin a) ask

abbrev pub statement_of : Verb → Data → Option Statement
statement_of verbs.CreateTable d = administers (create_table d)
statement_of verbs.DropTable d = administers (drop_table d)
statement_of verbs.CreateQueue d = administers (create_queue d)
statement_of verbs.DropQueue d = administers (drop_queue d)
statement_of verbs.StartQueue d = administers (start_queue d)
statement_of verbs.StopQueue d = administers (stop_queue d)
statement_of verbs.AddSubscriber d = administers (add_subscriber d)
statement_of verbs.RemoveSubscriber d = administers (remove_subscriber d)
statement_of verbs.Schedule d = administers (schedule d)
statement_of verbs.Unschedule d = administers (unschedule d)
statement_of verbs.EnableSchedule d = administers (enable_schedule d)
statement_of verbs.DisableSchedule d = administers (disable_schedule d)
statement_of verbs.Enqueue d = option_map (λ ask. statements.Enqueue ask) (enqueue d)
statement_of verbs.Dequeue d = option_map (λ ask. statements.Dequeue ask) (dequeue d)
statement_of verbs.Listen d = option_map (λ ask. statements.Listen ask) (listen d)
statement_of verbs.Commit d = Some statements.Commit
statement_of verbs.Rollback d = Some statements.Rollback

-- a statement has no members but its own
abbrev pub statement_if : Data → Verb → Option Statement
statement_if d verb = if has_form (Asking verb) d then statement_of verb d else None

unfoldable pub statement : Data → Option Statement
statement d = option_and_then (statement_if d) (option_and_then verb_of (text_at (codes "do") d))
