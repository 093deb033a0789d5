-- Tables in which queues are found as validity sees them before: what stands on them stays valid.
use Rattle.std.proofs.Common.{◌≡◌, ℕ, List, [], true, false, length, refl, sym, ap, ◌∙◌, Option, Some, None, ◌&&◌}
use Rattle.std.specs.Prelude.{nat_le, option_and_then}
use Rattle.std.specs.Option.{option_map_or}
use Rattle.std.proofs.lemmas.Bool.{and_parts, and_from, false≢true}
use Rattle.aq_base.specs.declared.limits.TheConstants.{MOMENT_LIMIT, SUBSCRIBER_LIMIT}
use Rattle.payload_records.specs.declared.TheConstants.{FIELD_LIMIT}
use Rattle.queue_rows.specs.Rows.{find_table, find_queue, table_of, exception_name}
use Rattle.queue_rows.specs.Catalog.{has_subscribers}
use Rattle.queue_rows.specs.Recipients.{subscribers_of}
use Rattle.queue_rows.specs.Within.{if_some, is_span, is_time}
use Rattle.queue_rows.specs.Valid.{is_valid_table, is_default_exception, is_valid_sub, is_right_rule, takes_subscribers, has_subscribers_in, is_valid_schedule, has_right_failures, is_valid_message, is_valid_message_at, is_valid_message_in}
use Rattle.queue_rows.specs.declared.tables.Tables.{Tables}
use Rattle.queue_rows.specs.declared.rows.TableRow.{TableRow}
use Rattle.queue_rows.specs.declared.rows.QueueRow.{QueueRow}
use Rattle.queue_rows.specs.declared.rows.SubRow.{SubRow}
use Rattle.queue_rows.specs.declared.rows.ScheduleRow.{ScheduleRow}
use Rattle.queue_rows.specs.declared.rows.MsgRow.{MsgRow}

-- a queue as what stands on it sees it: its table, kind, most retries and lowest lane
abbrev pub seen_of : QueueRow → QueueRow
seen_of q = record q { name = []; enqueue = false; dequeue = false; retry_delay = 0; retention = 0 }

-- the queue of that name is found as this one, over the same table
pub record IsFoundAs (t u : Tables) (name : List ℕ) (q : QueueRow) : Type 0 where
  pub row : QueueRow
  pub row_is : find_queue u name ≡ Some row
  pub seen : seen_of row ≡ seen_of q
  pub table_is : find_table u row.table ≡ find_table t q.table

-- the tables that are asked for have other tables and queues alone
abbrev pub with_catalogue : Tables → List TableRow → List QueueRow → Tables
with_catalogue t tables queues = record t { tables = tables; queues = queues }

subscribers_seen : (q : QueueRow) (o : Option TableRow) → has_subscribers q o ≡ has_subscribers (seen_of q) o
subscribers_seen q None = refl
subscribers_seen q (Some table) = refl

message_seen : (t : Tables) (q : QueueRow) (o : Option TableRow) (m : MsgRow) → is_valid_message_in t q o m ≡ is_valid_message_in t (seen_of q) o m
message_seen t q None m = refl
message_seen t q (Some table) m = refl

takes_by : (t u : Tables) (name : List ℕ) (o : Option QueueRow) → find_queue t name ≡ o → ((q : QueueRow) → o ≡ Some q → IsFoundAs t u name q) → has_subscribers_in t o ≡ true → takes_subscribers u name ≡ true
takes_by t u name None e k h = absurd (false≢true h)
takes_by t u name (Some q) e k h =
    let x = k q refl in
    ap (has_subscribers_in u) x.row_is ∙ ap (has_subscribers x.row) x.table_is ∙ subscribers_seen x.row (find_table t q.table) ∙ ap (λ y. has_subscribers y (find_table t q.table)) x.seen
    ∙ sym (subscribers_seen q (find_table t q.table)) ∙ h

table_by : (t u : Tables) (name : List ℕ) (o : Option QueueRow) → find_queue t name ≡ o → ((q : QueueRow) → o ≡ Some q → IsFoundAs t u name q) → has_subscribers_in t o ≡ true → table_of u name ≡ table_of t name
table_by t u name None e k h = absurd (false≢true h)
table_by t u name (Some q) e k h =
    let x = k q refl in
    ap (option_and_then (λ y. find_table u y.table)) x.row_is ∙ x.table_is ∙ sym (ap (option_and_then (λ y. find_table t y.table)) e)

default_by : (t u : Tables) (name : List ℕ) (table : List ℕ) (o : Option QueueRow) → find_queue t name ≡ o → ((q : QueueRow) → o ≡ Some q → IsFoundAs t u name q) → option_map_or (is_default_exception table) o false ≡ true
    → option_map_or (is_default_exception table) (find_queue u name) false ≡ true
default_by t u name table None e k h = absurd (false≢true h)
default_by t u name table (Some q) e k h =
    let x = k q refl in
    ap (λ o. option_map_or (is_default_exception table) o false) x.row_is ∙ ap (is_default_exception table) x.seen ∙ h

message_by : (t : Tables) (tables : List TableRow) (queues : List QueueRow) (m : MsgRow) (o : Option QueueRow) → find_queue t m.queue ≡ o → ((q : QueueRow) → o ≡ Some q → IsFoundAs t (with_catalogue t tables queues) m.queue q) → is_valid_message_at t o m ≡ true
    → is_valid_message (with_catalogue t tables queues) m ≡ true
message_by t tables queues m None e k h = absurd (false≢true h)
message_by t tables queues m (Some q) e k h =
    let u = with_catalogue t tables queues in
    let x = k q refl in
    ap (λ o. is_valid_message_at u o m) x.row_is ∙ ap (λ o. is_valid_message_in u x.row o m) x.table_is ∙ message_seen u x.row (find_table t q.table) m
    ∙ ap (λ y. is_valid_message_in u y (find_table t q.table) m) x.seen ∙ sym (message_seen t q (find_table t q.table) m) ∙ h

module _ (t u : Tables) (name : List ℕ) (k : (q : QueueRow) → find_queue t name ≡ Some q → IsFoundAs t u name q) where
  takes_stays : takes_subscribers t name ≡ true → takes_subscribers u name ≡ true
  takes_stays h = takes_by t u name (find_queue t name) refl k h

  table_stays : takes_subscribers t name ≡ true → table_of u name ≡ table_of t name
  table_stays h = table_by t u name (find_queue t name) refl k h

-- a subscriber, where its queue has no more than before
pub sub_stays : (t u : Tables) (s : SubRow) → ((q : QueueRow) → find_queue t s.queue ≡ Some q → IsFoundAs t u s.queue q) → (nat_le (length (subscribers_of t s.queue)) SUBSCRIBER_LIMIT ≡ true → nat_le (length (subscribers_of u s.queue)) SUBSCRIBER_LIMIT ≡ true)
    → is_valid_sub t s ≡ true → is_valid_sub u s ≡ true
sub_stays t u s k c h =
    let p = and_parts (takes_subscribers t s.queue && nat_le (length (subscribers_of t s.queue)) SUBSCRIBER_LIMIT) (if_some (is_right_rule (table_of t s.queue)) s.rule) h in
    let q = and_parts (takes_subscribers t s.queue) (nat_le (length (subscribers_of t s.queue)) SUBSCRIBER_LIMIT) p.0 in
    and_from (takes_subscribers u s.queue && nat_le (length (subscribers_of u s.queue)) SUBSCRIBER_LIMIT) (if_some (is_right_rule (table_of u s.queue)) s.rule)
    (and_from (takes_subscribers u s.queue) (nat_le (length (subscribers_of u s.queue)) SUBSCRIBER_LIMIT) (takes_stays t u s.queue k q.0) (c q.1))
    (ap (λ o. if_some (is_right_rule o) s.rule) (table_stays t u s.queue k q.0) ∙ p.1)

pub schedule_stays : (t u : Tables) (s : ScheduleRow) → ((q : QueueRow) → find_queue t s.queue ≡ Some q → IsFoundAs t u s.queue q) → is_valid_schedule t s ≡ true → is_valid_schedule u s ≡ true
schedule_stays t u s k h =
    let p5 = and_parts (takes_subscribers t s.queue && has_right_failures s && nat_le s.start MOMENT_LIMIT && if_some is_span s.duration && if_some is_span s.period) (is_time s.latency) h in
    let p4 = and_parts (takes_subscribers t s.queue && has_right_failures s && nat_le s.start MOMENT_LIMIT && if_some is_span s.duration) (if_some is_span s.period) p5.0 in
    let p3 = and_parts (takes_subscribers t s.queue && has_right_failures s && nat_le s.start MOMENT_LIMIT) (if_some is_span s.duration) p4.0 in
    let p2 = and_parts (takes_subscribers t s.queue && has_right_failures s) (nat_le s.start MOMENT_LIMIT) p3.0 in
    let p1 = and_parts (takes_subscribers t s.queue) (has_right_failures s) p2.0 in
    let yes : takes_subscribers u s.queue ≡ takes_subscribers t s.queue = takes_stays t u s.queue k p1.0 ∙ sym p1.0 in
    ap (λ b. b && has_right_failures s && nat_le s.start MOMENT_LIMIT && if_some is_span s.duration && if_some is_span s.period && is_time s.latency) yes ∙ h

pub table_row_stays : (t u : Tables) (table : TableRow) → ((q : QueueRow) → find_queue t (exception_name table.name) ≡ Some q → IsFoundAs t u (exception_name table.name) q) → is_valid_table t table ≡ true → is_valid_table u table ≡ true
table_row_stays t u table k h =
    let p = and_parts (nat_le (length table.fields) FIELD_LIMIT) (option_map_or (is_default_exception table.name) (find_queue t (exception_name table.name)) false) h in
    and_from (nat_le (length table.fields) FIELD_LIMIT) (option_map_or (is_default_exception table.name) (find_queue u (exception_name table.name)) false) p.0
    (default_by t u (exception_name table.name) table.name (find_queue t (exception_name table.name)) refl k p.1)

pub message_stays : (t : Tables) (tables : List TableRow) (queues : List QueueRow) (m : MsgRow) → ((q : QueueRow) → find_queue t m.queue ≡ Some q → IsFoundAs t (with_catalogue t tables queues) m.queue q) → is_valid_message t m ≡ true
    → is_valid_message (with_catalogue t tables queues) m ≡ true
message_stays t tables queues m k h = message_by t tables queues m (find_queue t m.queue) refl k h
