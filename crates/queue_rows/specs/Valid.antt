-- Valid tables: each thing that is asked of them is a fact that computes.
use Rattle.std.specs.Prelude.{ℕ, ◌+◌, ◌==◌, ◌&&◌, ◌||◌, ◌^◌, nat_le, nat_lt, pos, neg_ℤ, int_le, List, length, zip, Bool, true, false, not, Option, Some, None, is_some, is_none, if◌then◌else◌}
use Rattle.std.specs.List.{list_all}
use Rattle.std.specs.Option.{option_map_or}
use Rattle.std.specs.Ordering.{int_cmp, is_eq}
use Rattle.std.specs.Str.{bytes_eq}
use Rattle.aq_base.specs.declared.limits.TheConstants.{MAX_RETRIES_LIMIT, MOMENT_LIMIT, NEXT_LIMIT, RECIPIENT_LIMIT, SUBSCRIBER_LIMIT}
use Rattle.payload_records.specs.Props.{are_props}
use Rattle.payload_records.specs.declared.TheConstants.{FIELD_LIMIT, PROP_LIMIT}
use Rattle.payload_records.specs.declared.kind.Field.{Field}
use Rattle.payload_records.specs.declared.kind.Kind.{Kind}
use Rattle.payload_records.specs.declared.kind.Kind.TheVariants as field_kinds
use Rattle.payload_records.specs.declared.record.Datum.{Datum}
use Rattle.payload_records.specs.declared.record.Datum.TheVariants as data_of
use Rattle.place_keys.specs.Place.{last_number}
use Rattle.place_keys.specs.declared.place.TheConstants.{BEFORE_LIMIT}
use Rattle.rule_conditions.specs.Check.{cond_fault}
use Rattle.rule_conditions.specs.declared.condition.Cond.{Cond}
use Rattle.queue_rows.specs.Rows.{find_table, find_queue, table_of, exception_name, is_same_table, is_same_queue, is_same_sub, is_same_schedule, slot_of, recipient_count, recipient_slots}
use Rattle.queue_rows.specs.Tables.{lane_of}
use Rattle.queue_rows.specs.Settling.{is_exception, is_open, is_ready, is_processed}
use Rattle.queue_rows.specs.Session.{is_same_consumer}
use Rattle.queue_rows.specs.Recipients.{subscribers_of}
use Rattle.queue_rows.specs.Catalog.{has_subscribers}
use Rattle.queue_rows.specs.Within.{if_some, is_time, is_span}
use Rattle.queue_rows.specs.Distinct.{are_distinct}
use Rattle.queue_rows.specs.declared.tables.Tables.{Tables}
use Rattle.queue_rows.specs.declared.rows.TableRow.{TableRow}
use Rattle.queue_rows.specs.declared.rows.QueueRow.{QueueRow}
use Rattle.queue_rows.specs.declared.rows.SubRow.{SubRow}
use Rattle.queue_rows.specs.declared.rows.ScheduleRow.{ScheduleRow}
use Rattle.queue_rows.specs.declared.rows.MsgRow.{MsgRow}
use Rattle.queue_rows.specs.declared.rows.SlotRow.{SlotRow}
use Rattle.queue_rows.specs.declared.rows.SlotState.{SlotState}
use Rattle.queue_rows.specs.declared.rows.SlotState.TheVariants as states
use Rattle.queue_rows.specs.declared.rows.SeenRow.{SeenRow}

-- ---- what is distinct

abbrev pub is_same_message : MsgRow → MsgRow → Bool
is_same_message a b = a.id == b.id

abbrev pub is_same_seen : SeenRow → SeenRow → Bool
is_same_seen a b = a.id == b.id && a.slot == b.slot

-- Names of tables, names of queues, subscribers within a queue, pairs of queue and destination, message ids and seen pairs
-- are distinct.
abbrev pub has_distinct_rows : Tables → Bool
has_distinct_rows t =
    are_distinct is_same_table t.tables && are_distinct is_same_queue t.queues && are_distinct is_same_sub t.subs
    && are_distinct is_same_schedule t.schedules && are_distinct is_same_message t.messages && are_distinct is_same_seen t.seen

-- ---- numbers of the database

-- Ids and groups are numbered from 1. The next id is at most 2^61, the next group at most the next id, and the latest moment
-- at most 2^62.
abbrev pub has_right_numbers : Tables → Bool
has_right_numbers t =
    nat_le 1 t.next && nat_le t.next NEXT_LIMIT && nat_le 1 t.transaction && nat_le t.transaction t.next && nat_le t.latest MOMENT_LIMIT

-- ---- tables

abbrev pub is_default_exception : List ℕ → QueueRow → Bool
is_default_exception table queue = is_exception queue.kind && bytes_eq queue.table table

-- it has no more fields than a record type, and has its default exception queue, of kind exception
abbrev pub is_valid_table : Tables → TableRow → Bool
is_valid_table t table =
    nat_le (length table.fields) FIELD_LIMIT && option_map_or (is_default_exception table.name) (find_queue t (exception_name table.name)) false

-- ---- queues

-- its lowest lane is at most 0, and not below the negated next id
abbrev pub has_right_lowest : Tables → QueueRow → Bool
has_right_lowest t queue = int_le queue.lowest (pos 0) && int_le (neg_ℤ (pos t.next)) queue.lowest

-- its table is there; an exception queue takes no enqueues; its numbers are within the limits
abbrev pub is_valid_queue : Tables → QueueRow → Bool
is_valid_queue t queue =
    is_some (find_table t queue.table) && not (is_exception queue.kind && queue.enqueue)
    && nat_le queue.max_retries MAX_RETRIES_LIMIT && is_time queue.retry_delay && is_time queue.retention && has_right_lowest t queue

-- ---- subscribers and schedules

abbrev pub has_subscribers_in : Tables → Option QueueRow → Bool
has_subscribers_in t None = false
has_subscribers_in t (Some queue) = has_subscribers queue (find_table t queue.table)

-- a normal queue of a table with many consumers
abbrev pub takes_subscribers : Tables → List ℕ → Bool
takes_subscribers t queue = has_subscribers_in t (find_queue t queue)

-- the rule passes `check` for the table's record type
abbrev pub is_right_rule : Option TableRow → Cond → Bool
is_right_rule None rule = false
is_right_rule (Some table) rule = is_none (cond_fault table.fields rule)

-- it belongs to such a queue, which has no more than it may have, and its rule is right
abbrev pub is_valid_sub : Tables → SubRow → Bool
is_valid_sub t s =
    takes_subscribers t s.queue && nat_le (length (subscribers_of t s.queue)) SUBSCRIBER_LIMIT && if_some (is_right_rule (table_of t s.queue)) s.rule

-- at most 16, and those of an enabled schedule at most 15
abbrev pub has_right_failures : ScheduleRow → Bool
has_right_failures s = nat_le s.failures (if s.enabled then 15 else 16)

-- it belongs to such a queue, and its numbers are within the limits
abbrev pub is_valid_schedule : Tables → ScheduleRow → Bool
is_valid_schedule t s =
    takes_subscribers t s.queue && has_right_failures s
    && nat_le s.start MOMENT_LIMIT && if_some is_span s.duration && if_some is_span s.period && is_time s.latency

-- ---- messages

-- a normal queue where it isn't moved, an exception queue where it is
abbrev pub is_right_queue : MsgRow → QueueRow → Bool
is_right_queue m queue = if m.moved then is_exception queue.kind else not (is_exception queue.kind)

-- a null is of every kind
abbrev pub is_of_kind : Kind → Datum → Bool
is_of_kind kind data_of.Null = true
is_of_kind field_kinds.Num (data_of.Num n) = true
is_of_kind field_kinds.Num (data_of.Text text) = false
is_of_kind field_kinds.Text (data_of.Num n) = false
is_of_kind field_kinds.Text (data_of.Text text) = true

abbrev pub are_of_kinds : List Field → List Datum → Bool
are_of_kinds fields cells = list_all (λ pair. is_of_kind (pair.0).kind pair.1) (zip fields cells)

-- the payload has the cells and kinds of the table
abbrev pub has_right_cells : TableRow → MsgRow → Bool
has_right_cells table m = length m.facts.cells.cells == length table.fields && are_of_kinds table.fields m.facts.cells.cells

-- the id is at least 1 and below the next one, and the group likewise
abbrev pub has_right_ids : Tables → MsgRow → Bool
has_right_ids t m = nat_le 1 m.id && nat_lt m.id t.next && nat_le 1 m.group && nat_lt m.group t.transaction

-- the place has the lane, the table's columns, the sequence and at most 16 before-numbers, and ends with the id
abbrev pub has_right_place : TableRow → MsgRow → Bool
has_right_place table m =
    nat_le (length table.columns + 2) (length m.place) && nat_le (length m.place) (length table.columns + 2 + BEFORE_LIMIT)
    && option_map_or (λ last. is_eq (int_cmp last (pos m.id))) (last_number m.place) false

-- the queue's lowest lane is at most the message's, where the table isn't grouped
abbrev pub has_right_lane : TableRow → QueueRow → MsgRow → Bool
has_right_lane table queue m = table.grouped || int_le queue.lowest (lane_of m.place)

-- at most 32 properties, as properties are
abbrev pub has_right_props : MsgRow → Bool
has_right_props m = nat_le (length m.facts.props) PROP_LIMIT && are_props m.facts.props

-- ---- slots

abbrev pub is_same_recipient : SlotRow → SlotRow → Bool
is_same_recipient a b = is_same_consumer a.name b.name && is_same_consumer a.address b.address

-- 1 to 64 recipients' slots, and slot 0 besides where it is moved; their names and addresses together are distinct
abbrev pub has_right_recipients : MsgRow → Bool
has_right_recipients m =
    nat_le 1 (recipient_count m) && nat_le (recipient_count m) RECIPIENT_LIMIT && are_distinct is_same_recipient (recipient_slots m)

abbrev pub is_nameless : SlotRow → Bool
is_nameless s = is_none s.name && is_none s.address

-- slots of a table with one consumer have no name and no address, others but slot 0 a name
abbrev pub has_right_names : TableRow → MsgRow → Bool
has_right_names table m = if table.multi then list_all (λ s. is_some s.name) (recipient_slots m) else list_all is_nameless m.slots

abbrev pub is_right_slot_zero : Option SlotRow → Bool
is_right_slot_zero None = false
is_right_slot_zero (Some s) = (is_ready s.state || is_processed s.state) && is_none s.expires

-- in a moved message no slot but slot 0 is WAITING or READY, and slot 0 is READY or PROCESSED and has no expiry
abbrev pub is_right_if_moved : MsgRow → Bool
is_right_if_moved m = not m.moved || (list_all (λ s. not (is_open s.state)) (recipient_slots m) && is_right_slot_zero (slot_of m 0))

-- at most 2^31 retries
abbrev pub has_right_retries : SlotRow → Bool
has_right_retries s = nat_le s.retries (2 ^ 31)

-- those of a slot that can be taken, now or later, are no more than its queue allows
abbrev pub has_allowed_retries : QueueRow → SlotRow → Bool
has_allowed_retries queue s = not (is_open s.state) || nat_le s.retries queue.max_retries

abbrev pub is_waiting : SlotState → Bool
is_waiting states.Ready = false
is_waiting states.Waiting = true
is_waiting states.Processed = false
is_waiting states.Expired = false
is_waiting states.Dropped = false

-- a state that began did so no later than the latest commit
abbrev pub has_begun : ℕ → SlotRow → Bool
has_begun latest s = is_waiting s.state || nat_le s.at latest

abbrev pub has_right_slots : Tables → TableRow → QueueRow → MsgRow → Bool
has_right_slots t table queue m =
    has_right_recipients m && has_right_names table m && is_right_if_moved m && list_all has_right_retries m.slots
    && list_all (has_allowed_retries queue) (recipient_slots m) && list_all (has_begun t.latest) m.slots

abbrev pub is_valid_message_in : Tables → QueueRow → Option TableRow → MsgRow → Bool
is_valid_message_in t queue None m = false
is_valid_message_in t queue (Some table) m =
    is_right_queue m queue && has_right_cells table m && has_right_ids t m && has_right_place table m && has_right_lane table queue m
    && has_right_props m && nat_le m.enq t.latest && has_right_slots t table queue m

abbrev pub is_valid_message_at : Tables → Option QueueRow → MsgRow → Bool
is_valid_message_at t None m = false
is_valid_message_at t (Some queue) m = is_valid_message_in t queue (find_table t queue.table) m

-- it stands in a queue that is there, and is right for it and its table
abbrev pub is_valid_message : Tables → MsgRow → Bool
is_valid_message t m = is_valid_message_at t (find_queue t m.queue) m

-- ---- all of them

-- the tables of a database are valid
unfoldable pub is_valid : Tables → Bool
is_valid t =
    has_distinct_rows t && has_right_numbers t && list_all (is_valid_table t) t.tables && list_all (is_valid_queue t) t.queues
    && list_all (is_valid_sub t) t.subs && list_all (is_valid_schedule t) t.schedules && list_all (is_valid_message t) t.messages
    && list_all (λ s. nat_lt s.copy t.next) t.seen
