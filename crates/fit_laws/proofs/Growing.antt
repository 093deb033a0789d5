-- Tables that follow on others: queue tables stand but for some that go, and so do queues, with their table and kind, for no fewer
-- retries and with a lowest lane that is no higher; and no number is lower. What was valid and stands on none that goes stays valid.
use Rattle.std.proofs.Common.{◌≡◌, ◌≤◌, ℕ, List, Bool, true, false, not, length, refl, sym, ap, ◌∙◌, arith, Option, Some, None, ◌&&◌, ◌⊎◌, inl, inr}
use Rattle.std.specs.Prelude.{nat_le, nat_lt, option_and_then, is_some, pos, neg_ℤ, int_le, if◌then◌else◌}
use Rattle.std.specs.List.{list_all}
use Rattle.std.specs.Option.{option_map_or}
use Rattle.std.specs.Str.{bytes_eq}
use Rattle.std.proofs.lemmas.Bool.{and_parts, and_from, or_cases, or_left, or_right, le-leb, leb-true, lt-ltb, ltb-true, false≢true}
use Rattle.aq_base.specs.declared.limits.TheConstants.{MAX_RETRIES_LIMIT, MOMENT_LIMIT}
use Rattle.payload_records.specs.declared.TheConstants.{FIELD_LIMIT}
use Rattle.queue_rows.specs.Rows.{find_table, find_queue, table_of, exception_name, recipient_slots}
use Rattle.queue_rows.specs.Tables.{lane_of}
use Rattle.queue_rows.specs.Settling.{is_exception, is_open}
use Rattle.queue_rows.specs.Catalog.{has_subscribers}
use Rattle.queue_rows.specs.Within.{if_some, is_span, is_time}
use Rattle.queue_rows.specs.Valid.{is_valid_table, is_default_exception, is_valid_queue, has_right_lowest, is_right_rule, takes_subscribers, has_subscribers_in, is_valid_schedule, has_right_failures, is_valid_message, is_valid_message_at, is_valid_message_in, is_right_queue, has_right_cells, has_right_ids, has_right_place, has_right_lane, has_right_props, has_right_slots, has_right_recipients, has_right_names, is_right_if_moved, has_right_retries, has_allowed_retries, is_waiting, has_begun}
use Rattle.queue_rows.specs.declared.tables.Tables.{Tables}
use Rattle.queue_rows.specs.declared.rows.TableRow.{TableRow}
use Rattle.queue_rows.specs.declared.rows.QueueRow.{QueueRow}
use Rattle.queue_rows.specs.declared.rows.SubRow.{SubRow}
use Rattle.queue_rows.specs.declared.rows.ScheduleRow.{ScheduleRow}
use Rattle.queue_rows.specs.declared.rows.MsgRow.{MsgRow}
use Rattle.queue_rows.specs.declared.rows.SlotRow.{SlotRow}
use Rattle.valid_laws.proofs.Parts.{six_parts, six_from, all_weaker}
use Rattle.valid_laws.proofs.Lowering.{le_trans_z, le_refl_z, neg_down}

-- the queue of that name is there, with its table and kind, for no fewer retries and with a lowest lane that is no higher
pub record IsLower (u : Tables) (name : List ℕ) (q : QueueRow) : Type 0 where
  pub row : QueueRow
  pub row_is : find_queue u name ≡ Some row
  pub table : row.table ≡ q.table
  pub kind : row.kind ≡ q.kind
  pub retries : q.max_retries ≤ row.max_retries
  pub lowest : int_le row.lowest q.lowest ≡ true

-- and so is its table, as it was
pub record Stands (t u : Tables) (name : List ℕ) (q : QueueRow) : Type 0 where
  pub lower : IsLower u name q
  pub owner : (r : TableRow) → find_table t q.table ≡ Some r → find_table u lower.row.table ≡ Some r

-- but for queues that go, and for queue tables that are gone
pub record Follows (goes gone : List ℕ → Bool) (t u : Tables) : Type 0 where
  pub tables : (name : List ℕ) (r : TableRow) → gone name ≡ false → find_table t name ≡ Some r → find_table u name ≡ Some r
  pub queues : (name : List ℕ) (q : QueueRow) → goes name ≡ false → find_queue t name ≡ Some q → Stands t u name q
  pub next : t.next ≤ u.next
  pub transaction : t.transaction ≤ u.transaction
  pub latest : t.latest ≤ u.latest

-- ---- where nothing goes

pub record HasGrown (t u : Tables) : Type 0 where
  pub tables : (name : List ℕ) (r : TableRow) → find_table t name ≡ Some r → find_table u name ≡ Some r
  pub queues : (name : List ℕ) (q : QueueRow) → find_queue t name ≡ Some q → IsLower u name q
  pub next : t.next ≤ u.next
  pub transaction : t.transaction ≤ u.transaction
  pub latest : t.latest ≤ u.latest

abbrev pub none_goes : List ℕ → Bool
none_goes name = false

pub follows_grown : (t u : Tables) → HasGrown t u → Follows none_goes none_goes t u
follows_grown t u g = record {
  tables = λ name r d f. g.tables name r f;
  queues = λ name q d f. (let l = g.queues name q f in record { lower = l; owner = λ r e. g.tables l.row.table r (ap (find_table t) l.table ∙ e) });
  next = g.next;
  transaction = g.transaction;
  latest = g.latest;
}

pub lower_self : (u : Tables) (name : List ℕ) (q : QueueRow) → find_queue u name ≡ Some q → IsLower u name q
lower_self u name q f = record { row = q; row_is = f; table = refl; kind = refl; retries = omega arith; lowest = le_refl_z q.lowest }

-- where queue and table are found as they were
pub stands_still : (t u : Tables) (name : List ℕ) (q : QueueRow) → find_queue u name ≡ Some q → ((r : TableRow) → find_table t q.table ≡ Some r → find_table u q.table ≡ Some r) → Stands t u name q
stands_still t u name q f owner = record { lower = record { row = q; row_is = f; table = refl; kind = refl; retries = omega arith; lowest = le_refl_z q.lowest }; owner = owner }

pub grown_self : (t : Tables) → HasGrown t t
grown_self t = record { tables = λ name r f. f; queues = λ name q f. lower_self t name q f; next = omega arith; transaction = omega arith; latest = omega arith }

-- ---- numbers

pub le_stays : (a b c : ℕ) → b ≤ c → nat_le a b ≡ true → nat_le a c ≡ true
le_stays a b c le h = let k = leb-true a b h in le-leb a c (omega arith)

pub lt_stays : (a b c : ℕ) → b ≤ c → nat_lt a b ≡ true → nat_lt a c ≡ true
lt_stays a b c le h = let k = ltb-true a b h in lt-ltb a c (omega arith)

-- ---- what stands on them

subs_by : (a b : QueueRow) (o : Option TableRow) → a.kind ≡ b.kind → has_subscribers a o ≡ has_subscribers b o
subs_by a b None e = refl
subs_by a b (Some table) e = ap (λ k. table.multi && not (is_exception k)) e

-- a subscriber is right, however many its queue has
abbrev pub is_right_sub : Tables → SubRow → Bool
is_right_sub t s = takes_subscribers t s.queue && if_some (is_right_rule (table_of t s.queue)) s.rule

module _ (goes gone : List ℕ → Bool) (t u : Tables) (g : Follows goes gone t u) where
  -- the table of a queue that stands, where a test of it passes that no table fails
  owner_is : (name : List ℕ) (q : QueueRow) (l : Stands t u name q) (test : Option TableRow → Bool) (o : Option TableRow) → find_table t q.table ≡ o → test None ≡ false → test o ≡ true → find_table u l.lower.row.table ≡ o
  owner_is name q l test None e n h = absurd (false≢true (sym n ∙ h))
  owner_is name q l test (Some r) e n h = l.owner r e

  -- ---- tables and queues

  default_by : (name table : List ℕ) (o : Option QueueRow) → goes name ≡ false → find_queue t name ≡ o → option_map_or (is_default_exception table) o false ≡ true → option_map_or (is_default_exception table) (find_queue u name) false ≡ true
  default_by name table None d e h = absurd (false≢true h)
  default_by name table (Some q) d e h =
      let l = (g.queues name q d e).lower in
      ap (λ o. option_map_or (is_default_exception table) o false) l.row_is ∙ ap (λ k. is_exception k && bytes_eq l.row.table table) l.kind ∙ ap (λ n. is_exception q.kind && bytes_eq n table) l.table ∙ h

  pub table_stays : (row : TableRow) → goes (exception_name row.name) ≡ false → is_valid_table t row ≡ true → is_valid_table u row ≡ true
  table_stays row d h =
      let p = and_parts (nat_le (length row.fields) FIELD_LIMIT) (option_map_or (is_default_exception row.name) (find_queue t (exception_name row.name)) false) h in
      and_from (nat_le (length row.fields) FIELD_LIMIT) (option_map_or (is_default_exception row.name) (find_queue u (exception_name row.name)) false) p.0
      (default_by (exception_name row.name) row.name (find_queue t (exception_name row.name)) d refl p.1)

  there_by : (name : List ℕ) (o : Option TableRow) → gone name ≡ false → find_table t name ≡ o → is_some o ≡ true → is_some (find_table u name) ≡ true
  there_by name None d e h = absurd (false≢true h)
  there_by name (Some r) d e h = ap is_some (g.tables name r d e)

  lowest_stays : (q : QueueRow) → has_right_lowest t q ≡ true → has_right_lowest u q ≡ true
  lowest_stays q h =
      let p = and_parts (int_le q.lowest (pos 0)) (int_le (neg_ℤ (pos t.next)) q.lowest) h in
      and_from (int_le q.lowest (pos 0)) (int_le (neg_ℤ (pos u.next)) q.lowest) p.0 (le_trans_z (neg_ℤ (pos u.next)) (neg_ℤ (pos t.next)) q.lowest (neg_down t.next u.next g.next) p.1)

  pub queue_stays : (q : QueueRow) → gone q.table ≡ false → is_valid_queue t q ≡ true → is_valid_queue u q ≡ true
  queue_stays q d h =
      let p = six_parts (is_some (find_table t q.table)) (not (is_exception q.kind && q.enqueue)) (nat_le q.max_retries MAX_RETRIES_LIMIT) (is_time q.retry_delay) (is_time q.retention) (has_right_lowest t q) h in
      six_from (is_some (find_table u q.table)) (not (is_exception q.kind && q.enqueue)) (nat_le q.max_retries MAX_RETRIES_LIMIT) (is_time q.retry_delay) (is_time q.retention) (has_right_lowest u q)
      (there_by q.table (find_table t q.table) d refl p.0) p.1 p.2 p.3 p.4 (lowest_stays q p.5)

  -- ---- subscribers and schedules

  takes_by : (name : List ℕ) (o : Option QueueRow) → goes name ≡ false → find_queue t name ≡ o → has_subscribers_in t o ≡ true → takes_subscribers u name ≡ true
  takes_by name None d e h = absurd (false≢true h)
  takes_by name (Some q) d e h =
      let s = g.queues name q d e in
      let l = s.lower in
      let owner = owner_is name q s (has_subscribers q) (find_table t q.table) refl refl h in
      ap (has_subscribers_in u) l.row_is ∙ ap (has_subscribers l.row) owner ∙ subs_by l.row q (find_table t q.table) l.kind ∙ h

  takes_stays : (name : List ℕ) → goes name ≡ false → takes_subscribers t name ≡ true → takes_subscribers u name ≡ true
  takes_stays name d h = takes_by name (find_queue t name) d refl h

  table_of_by : (name : List ℕ) (o : Option QueueRow) → goes name ≡ false → find_queue t name ≡ o → has_subscribers_in t o ≡ true → table_of u name ≡ table_of t name
  table_of_by name None d e h = absurd (false≢true h)
  table_of_by name (Some q) d e h =
      let s = g.queues name q d e in
      let owner = owner_is name q s (has_subscribers q) (find_table t q.table) refl refl h in
      ap (option_and_then (λ y. find_table u y.table)) s.lower.row_is ∙ owner ∙ sym (ap (option_and_then (λ y. find_table t y.table)) e)

  pub sub_stays : (s : SubRow) → goes s.queue ≡ false → is_right_sub t s ≡ true → is_right_sub u s ≡ true
  sub_stays s d h =
      let p = and_parts (takes_subscribers t s.queue) (if_some (is_right_rule (table_of t s.queue)) s.rule) h in
      and_from (takes_subscribers u s.queue) (if_some (is_right_rule (table_of u s.queue)) s.rule) (takes_stays s.queue d p.0)
      (ap (λ o. if_some (is_right_rule o) s.rule) (table_of_by s.queue (find_queue t s.queue) d refl p.0) ∙ p.1)

  pub schedule_stays : (s : ScheduleRow) → goes s.queue ≡ false → is_valid_schedule t s ≡ true → is_valid_schedule u s ≡ true
  schedule_stays s d h =
      let p = six_parts (takes_subscribers t s.queue) (has_right_failures s) (nat_le s.start MOMENT_LIMIT) (if_some is_span s.duration) (if_some is_span s.period) (is_time s.latency) h in
      six_from (takes_subscribers u s.queue) (has_right_failures s) (nat_le s.start MOMENT_LIMIT) (if_some is_span s.duration) (if_some is_span s.period) (is_time s.latency)
      (takes_stays s.queue d p.0) p.1 p.2 p.3 p.4 p.5

  -- ---- messages

  begun_by : (s : SlotRow) → (is_waiting s.state ≡ true) ⊎ (nat_le s.at t.latest ≡ true) → has_begun u.latest s ≡ true
  begun_by s (inl w) = or_left (is_waiting s.state) (nat_le s.at u.latest) w
  begun_by s (inr h) = or_right (is_waiting s.state) (nat_le s.at u.latest) (le_stays s.at t.latest u.latest g.latest h)

  begun_stays : (s : SlotRow) → has_begun t.latest s ≡ true → has_begun u.latest s ≡ true
  begun_stays s h = begun_by s (or_cases (is_waiting s.state) (nat_le s.at t.latest) h)

  ids_stay : (m : MsgRow) → has_right_ids t m ≡ true → has_right_ids u m ≡ true
  ids_stay m h =
      let p3 = and_parts (nat_le 1 m.id && nat_lt m.id t.next && nat_le 1 m.group) (nat_lt m.group t.transaction) h in
      let p2 = and_parts (nat_le 1 m.id && nat_lt m.id t.next) (nat_le 1 m.group) p3.0 in
      let p1 = and_parts (nat_le 1 m.id) (nat_lt m.id t.next) p2.0 in
      and_from (nat_le 1 m.id && nat_lt m.id u.next && nat_le 1 m.group) (nat_lt m.group u.transaction)
      (and_from (nat_le 1 m.id && nat_lt m.id u.next) (nat_le 1 m.group) (and_from (nat_le 1 m.id) (nat_lt m.id u.next) p1.0 (lt_stays m.id t.next u.next g.next p1.1)) p2.1)
      (lt_stays m.group t.transaction u.transaction g.transaction p3.1)

  module _ (name : List ℕ) (q : QueueRow) (l : IsLower u name q) where
    lane_by : (table : TableRow) (m : MsgRow) → (table.grouped ≡ true) ⊎ (int_le q.lowest (lane_of m.place) ≡ true) → has_right_lane table l.row m ≡ true
    lane_by table m (inl e) = or_left table.grouped (int_le l.row.lowest (lane_of m.place)) e
    lane_by table m (inr e) = or_right table.grouped (int_le l.row.lowest (lane_of m.place)) (le_trans_z l.row.lowest q.lowest (lane_of m.place) l.lowest e)

    allowed_by : (s : SlotRow) → (not (is_open s.state) ≡ true) ⊎ (nat_le s.retries q.max_retries ≡ true) → has_allowed_retries l.row s ≡ true
    allowed_by s (inl e) = or_left (not (is_open s.state)) (nat_le s.retries l.row.max_retries) e
    allowed_by s (inr e) = or_right (not (is_open s.state)) (nat_le s.retries l.row.max_retries) (le_stays s.retries q.max_retries l.row.max_retries l.retries e)

    allowed_stays : (s : SlotRow) → has_allowed_retries q s ≡ true → has_allowed_retries l.row s ≡ true
    allowed_stays s h = allowed_by s (or_cases (not (is_open s.state)) (nat_le s.retries q.max_retries) h)

    slots_stay : (table : TableRow) (m : MsgRow) → has_right_slots t table q m ≡ true → has_right_slots u table l.row m ≡ true
    slots_stay table m h =
        let p = six_parts (has_right_recipients m) (has_right_names table m) (is_right_if_moved m) (list_all has_right_retries m.slots) (list_all (has_allowed_retries q) (recipient_slots m)) (list_all (has_begun t.latest) m.slots) h in
        six_from (has_right_recipients m) (has_right_names table m) (is_right_if_moved m) (list_all has_right_retries m.slots) (list_all (has_allowed_retries l.row) (recipient_slots m)) (list_all (has_begun u.latest) m.slots)
        p.0 p.1 p.2 p.3 (all_weaker (has_allowed_retries q) (has_allowed_retries l.row) allowed_stays (recipient_slots m) p.4) (all_weaker (has_begun t.latest) (has_begun u.latest) begun_stays m.slots p.5)

    message_in : (o : Option TableRow) (m : MsgRow) → is_valid_message_in t q o m ≡ true → is_valid_message_in u l.row o m ≡ true
    message_in None m h = absurd (false≢true h)
    message_in (Some table) m h =
        let front = is_right_queue m q && has_right_cells table m && has_right_ids t m && has_right_place table m && has_right_lane table q m && has_right_props m in
        let p7 = and_parts (front && nat_le m.enq t.latest) (has_right_slots t table q m) h in
        let p6 = and_parts front (nat_le m.enq t.latest) p7.0 in
        let p = six_parts (is_right_queue m q) (has_right_cells table m) (has_right_ids t m) (has_right_place table m) (has_right_lane table q m) (has_right_props m) p6.0 in
        let after = is_right_queue m l.row && has_right_cells table m && has_right_ids u m && has_right_place table m && has_right_lane table l.row m && has_right_props m in
        and_from (after && nat_le m.enq u.latest) (has_right_slots u table l.row m)
        (and_from after (nat_le m.enq u.latest)
        (six_from (is_right_queue m l.row) (has_right_cells table m) (has_right_ids u m) (has_right_place table m) (has_right_lane table l.row m) (has_right_props m)
        (ap (λ k. if m.moved then is_exception k else not (is_exception k)) l.kind ∙ p.0) p.1 (ids_stay m p.2) p.3 (lane_by table m (or_cases table.grouped (int_le q.lowest (lane_of m.place)) p.4)) p.5)
        (le_stays m.enq t.latest u.latest g.latest p6.1))
        (slots_stay table m p7.1)

  message_by : (m : MsgRow) (o : Option QueueRow) → goes m.queue ≡ false → find_queue t m.queue ≡ o → is_valid_message_at t o m ≡ true → is_valid_message u m ≡ true
  message_by m None d e h = absurd (false≢true h)
  message_by m (Some q) d e h =
      let s = g.queues m.queue q d e in
      let owner = owner_is m.queue q s (λ o. is_valid_message_in t q o m) (find_table t q.table) refl refl h in
      ap (λ o. is_valid_message_at u o m) s.lower.row_is ∙ ap (λ o. is_valid_message_in u s.lower.row o m) owner ∙ message_in m.queue q s.lower (find_table t q.table) m h

  pub message_stays : (m : MsgRow) → goes m.queue ≡ false → is_valid_message t m ≡ true → is_valid_message u m ≡ true
  message_stays m d h = message_by m (find_queue t m.queue) d refl h
