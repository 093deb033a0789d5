-- The lines of what stands in a database besides messages: a line for each row.
use Rattle.std.specs.Prelude.{ℕ, ◌++◌, List, codes, decimal, Bool, option_map, if◌then◌else◌}
use Rattle.std.specs.Fmt.{signed_decimal}
use Rattle.std.specs.List.{join_by}
use Rattle.aq_base.specs.declared.DbId.{DbId}
use Rattle.aq_base.specs.declared.DbId.TheVariants.{Home, Away}
use Rattle.place_keys.specs.declared.sort_list.Column.{Column}
use Rattle.place_keys.specs.declared.sort_list.Column.TheVariants as columns
use Rattle.rule_conditions.specs.Print.{print as rule_text}
use Rattle.queue_rows.specs.declared.rows.QueueKind.{QueueKind}
use Rattle.queue_rows.specs.declared.rows.QueueKind.TheVariants as kinds
use Rattle.queue_rows.specs.declared.rows.TableRow.{TableRow}
use Rattle.queue_rows.specs.declared.rows.QueueRow.{QueueRow}
use Rattle.queue_rows.specs.declared.rows.SubRow.{SubRow}
use Rattle.queue_rows.specs.declared.rows.ScheduleRow.{ScheduleRow}
use Rattle.queue_rows.specs.declared.rows.SeenRow.{SeenRow}
use Rattle.queue_rows.specs.declared.tables.Tables.{Tables}
use Rattle.transcript.specs.Record.{fields_text}
use Rattle.transcript.specs.Text.{id_text, slot_text, other_of, json_or_null, name_or_null, number_or_null}

-- ---- the database

abbrev pub db_word : DbId → List ℕ
db_word Home = codes "home"
db_word Away = codes "away"

abbrev pub database_head : DbId → ℕ → List ℕ
database_head db next = codes "database " ++ db_word db ++ codes " next " ++ decimal next

abbrev pub database_tail : ℕ → ℕ → List ℕ
database_tail transaction latest = codes " transaction " ++ decimal transaction ++ codes " latest " ++ decimal latest ++ codes "\n"

-- the database, and its counters
abbrev pub database_line : DbId → Tables → List ℕ
database_line db t = database_head db t.next ++ database_tail t.transaction t.latest

-- ---- queue tables

abbrev pub column_word : Column → List ℕ
column_word columns.Priority = codes "priority"
column_word columns.EnqTime = codes "enq_time"
column_word columns.CommitTime = codes "commit_time"

-- the columns with commas between them
abbrev pub columns_text : List Column → List ℕ
columns_text columns = join_by column_word (codes ",") columns

abbrev pub consumers_word : Bool → List ℕ
consumers_word multi = if multi then codes "multi" else codes "single"

abbrev pub grouping_word : Bool → List ℕ
grouping_word grouped = if grouped then codes "transactional" else codes "none"

abbrev pub table_line : TableRow → List ℕ
table_line r =
    codes "table " ++ r.name ++ codes " fields " ++ fields_text r.fields ++ codes " sort " ++ columns_text r.columns
    ++ codes " " ++ consumers_word r.multi ++ codes " " ++ grouping_word r.grouped ++ codes "\n"

-- ---- queues

abbrev pub queue_kind_word : QueueKind → List ℕ
queue_kind_word kinds.Normal = codes "normal"
queue_kind_word kinds.Exception = codes "exception"

abbrev pub switch_word : Bool → List ℕ
switch_word on = if on then codes "on" else codes "off"

-- what it is, and whether it takes and gives
abbrev pub queue_head : QueueRow → List ℕ
queue_head r =
    codes "queue " ++ r.name ++ codes " table " ++ r.table ++ codes " " ++ queue_kind_word r.kind
    ++ codes " enqueue " ++ switch_word r.enqueue ++ codes " dequeue " ++ switch_word r.dequeue

-- what becomes of messages that are rolled back
abbrev pub retries_part : QueueRow → List ℕ
retries_part r = codes " max_retries " ++ decimal r.max_retries ++ codes " retry_delay " ++ decimal r.retry_delay

-- how long they are kept, and the least lane
abbrev pub queue_tail : QueueRow → List ℕ
queue_tail r = codes " retention " ++ decimal r.retention ++ codes " lowest " ++ signed_decimal r.lowest ++ codes "\n"

abbrev pub queue_line : QueueRow → List ℕ
queue_line r = queue_head r ++ retries_part r ++ queue_tail r

-- ---- subscribers

abbrev pub sub_head : SubRow → List ℕ
sub_head r = codes "subscriber " ++ r.queue ++ codes " " ++ r.name

-- where its messages go, and its rule as a condition is printed, in a JSON text
abbrev pub sub_tail : SubRow → List ℕ
sub_tail r = codes " address " ++ name_or_null r.address ++ codes " rule " ++ json_or_null (option_map rule_text r.rule) ++ codes "\n"

abbrev pub sub_line : SubRow → List ℕ
sub_line r = sub_head r ++ sub_tail r

-- ---- schedules

abbrev pub enabled_word : Bool → List ℕ
enabled_word enabled = if enabled then codes "enabled" else codes "disabled"

-- where it goes, and from when on
abbrev pub schedule_head : ScheduleRow → List ℕ
schedule_head r =
    codes "schedule " ++ r.queue ++ codes " to " ++ r.to ++ codes " " ++ enabled_word r.enabled ++ codes " start " ++ decimal r.start

-- when it is open
abbrev pub window_part : ScheduleRow → List ℕ
window_part r = codes " duration " ++ number_or_null r.duration ++ codes " period " ++ number_or_null r.period

-- how often it sends, and how it has failed
abbrev pub schedule_tail : ScheduleRow → List ℕ
schedule_tail r =
    codes " latency " ++ decimal r.latency ++ codes " failures " ++ decimal r.failures ++ codes " next " ++ decimal r.next ++ codes "\n"

abbrev pub schedule_line : ScheduleRow → List ℕ
schedule_line r = schedule_head r ++ window_part r ++ schedule_tail r

-- ---- what has arrived

-- the slot is of the other database, and the copy of this one
abbrev pub seen_line : DbId → SeenRow → List ℕ
seen_line db r = codes "seen " ++ slot_text (other_of db) r.id r.slot ++ codes " as " ++ id_text db r.copy ++ codes "\n"
