-- Subscribers and schedules that are put or taken away keep tables valid.
use Rattle.std.proofs.Common.{◌≡◌, ◌≤◌, ◌<◌, ◌+◌, ℕ, List, [], ◌∷◌, Bool, true, false, length, refl, sym, ap, ◌∙◌, arith, Option, Some, None, ◌&&◌}
use Rattle.std.specs.Prelude.{nat_le}
use Rattle.std.specs.List.{list_all}
use Rattle.std.specs.Str.{bytes_eq}
use Rattle.std.proofs.lemmas.Bool.{and_parts, and_from, le-leb, leb-true}
use Rattle.std.proofs.lemmas.Slice.Eq.{bytes_eq-Decides}
use Rattle.aq_base.specs.declared.limits.TheConstants.{SUBSCRIBER_LIMIT}
use Rattle.queue_rows.specs.Rows.{table_of, put_by, is_same_table, is_same_queue, is_same_sub, is_same_schedule}
use Rattle.queue_rows.specs.Tables.{after_change}
use Rattle.queue_rows.specs.Recipients.{subscribers_of}
use Rattle.queue_rows.specs.Distinct.{are_distinct}
use Rattle.queue_rows.specs.Within.{if_some}
use Rattle.queue_rows.specs.Valid.{is_valid, is_same_message, is_same_seen, takes_subscribers, is_right_rule, is_valid_sub, is_valid_schedule}
use Rattle.queue_rows.specs.declared.tables.Tables.{Tables}
use Rattle.queue_rows.specs.declared.rows.SubRow.{SubRow}
use Rattle.queue_rows.specs.declared.rows.ScheduleRow.{ScheduleRow}
use Rattle.queue_rows.specs.declared.change.Change.TheVariants as changes
use Rattle.valid_laws.specs.ValidLaws.{SubscribesRight}
use Rattle.valid_laws.proofs.Parts.{parts_of, valid_from, six_parts, six_from, all_removed_first, all_weaker}
use Rattle.valid_laws.proofs.Placing.{all_put, distinct_put, distinct_removed, fewer_removed, fewer_put, more_put}

-- ---- other subscribers, other schedules

with_subs : (t : Tables) (subs : List SubRow) → is_valid t ≡ true → are_distinct is_same_sub subs ≡ true → list_all (is_valid_sub (record t { subs = subs })) subs ≡ true → is_valid (record t { subs = subs }) ≡ true
with_subs t subs v d h =
    let p = parts_of t v in
    let r = six_parts (are_distinct is_same_table t.tables) (are_distinct is_same_queue t.queues) (are_distinct is_same_sub t.subs) (are_distinct is_same_schedule t.schedules) (are_distinct is_same_message t.messages) (are_distinct is_same_seen t.seen) p.rows in
    valid_from (record t { subs = subs }) (record {
      rows = six_from (are_distinct is_same_table t.tables) (are_distinct is_same_queue t.queues) (are_distinct is_same_sub subs) (are_distinct is_same_schedule t.schedules) (are_distinct is_same_message t.messages) (are_distinct is_same_seen t.seen) r.0 r.1 d r.3 r.4 r.5;
      numbers = p.numbers;
      tables = p.tables;
      queues = p.queues;
      subs = h;
      schedules = p.schedules;
      messages = p.messages;
      seen = p.seen;
    })

with_schedules : (t : Tables) (rows : List ScheduleRow) → is_valid t ≡ true → are_distinct is_same_schedule rows ≡ true → list_all (is_valid_schedule t) rows ≡ true → is_valid (record t { schedules = rows }) ≡ true
with_schedules t rows v d h =
    let p = parts_of t v in
    let r = six_parts (are_distinct is_same_table t.tables) (are_distinct is_same_queue t.queues) (are_distinct is_same_sub t.subs) (are_distinct is_same_schedule t.schedules) (are_distinct is_same_message t.messages) (are_distinct is_same_seen t.seen) p.rows in
    valid_from (record t { schedules = rows }) (record {
      rows = six_from (are_distinct is_same_table t.tables) (are_distinct is_same_queue t.queues) (are_distinct is_same_sub t.subs) (are_distinct is_same_schedule rows) (are_distinct is_same_message t.messages) (are_distinct is_same_seen t.seen) r.0 r.1 r.2 d r.4 r.5;
      numbers = p.numbers;
      tables = p.tables;
      queues = p.queues;
      subs = p.subs;
      schedules = h;
      messages = p.messages;
      seen = p.seen;
    })

distinct_subs : (t : Tables) → is_valid t ≡ true → are_distinct is_same_sub t.subs ≡ true
distinct_subs t v = (six_parts (are_distinct is_same_table t.tables) (are_distinct is_same_queue t.queues) (are_distinct is_same_sub t.subs) (are_distinct is_same_schedule t.schedules) (are_distinct is_same_message t.messages) (are_distinct is_same_seen t.seen) (parts_of t v).rows).2

distinct_schedules : (t : Tables) → is_valid t ≡ true → are_distinct is_same_schedule t.schedules ≡ true
distinct_schedules t v = (six_parts (are_distinct is_same_table t.tables) (are_distinct is_same_queue t.queues) (are_distinct is_same_sub t.subs) (are_distinct is_same_schedule t.schedules) (are_distinct is_same_message t.messages) (are_distinct is_same_seen t.seen) (parts_of t v).rows).3

-- a subscriber, where its queue has as many as it may have
sub_with : (t : Tables) (subs : List SubRow) (s : SubRow) → is_valid_sub t s ≡ true → (length (subscribers_of t s.queue) ≤ SUBSCRIBER_LIMIT → length (subscribers_of (record t { subs = subs }) s.queue) ≤ SUBSCRIBER_LIMIT)
    → is_valid_sub (record t { subs = subs }) s ≡ true
sub_with t subs s h k =
    let p = and_parts (takes_subscribers t s.queue && nat_le (length (subscribers_of t s.queue)) SUBSCRIBER_LIMIT) (if_some (is_right_rule (table_of t s.queue)) s.rule) h in
    let q = and_parts (takes_subscribers t s.queue) (nat_le (length (subscribers_of t s.queue)) SUBSCRIBER_LIMIT) p.0 in
    let u : Tables = record t { subs = subs } in
    and_from (takes_subscribers t s.queue && nat_le (length (subscribers_of u s.queue)) SUBSCRIBER_LIMIT) (if_some (is_right_rule (table_of t s.queue)) s.rule)
    (and_from (takes_subscribers t s.queue) (nat_le (length (subscribers_of u s.queue)) SUBSCRIBER_LIMIT) q.0
    (le-leb (length (subscribers_of u s.queue)) SUBSCRIBER_LIMIT (k (leb-true (length (subscribers_of t s.queue)) SUBSCRIBER_LIMIT q.1)))) p.1

-- ---- a subscriber goes

trans : (a b c : ℕ) → a ≤ b → b ≤ c → a ≤ c
trans a b c h g = omega arith

pub sub_dropped : (t : Tables) (queue name : List ℕ) → is_valid t ≡ true → is_valid (after_change t (changes.DropSub queue name)) ≡ true
sub_dropped t queue name v =
    let r : SubRow → Bool = λ s. bytes_eq s.queue queue && bytes_eq s.name name in
    let u = after_change t (changes.DropSub queue name) in
    with_subs t u.subs v (distinct_removed is_same_sub (λ s. bytes_eq s.queue queue && bytes_eq s.name name) t.subs (distinct_subs t v))
    (all_removed_first (is_valid_sub u) (λ s. bytes_eq s.queue queue && bytes_eq s.name name) t.subs
    (all_weaker (is_valid_sub t) (is_valid_sub u)
    (λ s h. sub_with t u.subs s h (λ le. trans (length (subscribers_of u s.queue)) (length (subscribers_of t s.queue)) SUBSCRIBER_LIMIT (fewer_removed (λ x. bytes_eq x.queue s.queue) (λ x. bytes_eq x.queue queue && bytes_eq x.name name) t.subs) le))
    t.subs (parts_of t v).subs))

-- ---- a subscriber is put

alike_subs : (row x y : SubRow) → is_same_sub x row ≡ true → is_same_sub row y ≡ is_same_sub x y
alike_subs row x y e =
    let p = and_parts (bytes_eq x.queue row.queue) (bytes_eq x.name row.name) e in
    ap (λ n. bytes_eq n y.queue && bytes_eq row.name y.name) (sym ((bytes_eq-Decides x.queue row.queue).0 p.0)) ∙ ap (λ n. bytes_eq x.queue y.queue && bytes_eq n y.name) (sym ((bytes_eq-Decides x.name row.name).0 p.1))

one_more : (a b c : ℕ) → a ≤ b + 1 → b < c → a ≤ c
one_more a b c h g = omega arith

count_by : (t : Tables) (row : SubRow) (queue : List ℕ) (b : Bool) → bytes_eq row.queue queue ≡ b → length (subscribers_of t row.queue) < SUBSCRIBER_LIMIT → length (subscribers_of t queue) ≤ SUBSCRIBER_LIMIT
    → length (subscribers_of (after_change t (changes.PutSub row)) queue) ≤ SUBSCRIBER_LIMIT
count_by t row queue true e room le =
    let same : row.queue ≡ queue = (bytes_eq-Decides row.queue queue).0 e in
    let fewer : length (subscribers_of t queue) < SUBSCRIBER_LIMIT = ap_room t row.queue queue same room in
    one_more (length (subscribers_of (after_change t (changes.PutSub row)) queue)) (length (subscribers_of t queue)) SUBSCRIBER_LIMIT (more_put is_same_sub row (λ x. bytes_eq x.queue queue) t.subs) fewer
  where
    ap_room : (t : Tables) (a b : List ℕ) → a ≡ b → length (subscribers_of t a) < SUBSCRIBER_LIMIT → length (subscribers_of t b) < SUBSCRIBER_LIMIT
    ap_room t a b same h = Rattle.std.proofs.Common.subst (λ n. length (subscribers_of t n) < SUBSCRIBER_LIMIT) same h
count_by t row queue false e room le =
    trans (length (subscribers_of (after_change t (changes.PutSub row)) queue)) (length (subscribers_of t queue)) SUBSCRIBER_LIMIT (fewer_put is_same_sub row (λ x. bytes_eq x.queue queue) e t.subs) le

pub sub_put : (t : Tables) (row : SubRow) → is_valid t ≡ true → SubscribesRight t row → is_valid (after_change t (changes.PutSub row)) ≡ true
sub_put t row v k =
    let u = after_change t (changes.PutSub row) in
    let old : length (subscribers_of t row.queue) ≤ SUBSCRIBER_LIMIT = (let room = k.room in omega (arith, room)) in
    with_subs t u.subs v (distinct_put is_same_sub row (λ x y e. alike_subs row x y e) t.subs (distinct_subs t v))
    (all_put is_same_sub row (is_valid_sub u) t.subs
    (all_weaker (is_valid_sub t) (is_valid_sub u) (λ s h. sub_with t u.subs s h (λ le. count_by t row s.queue (bytes_eq row.queue s.queue) refl k.room le)) t.subs (parts_of t v).subs)
    (and_from (takes_subscribers t row.queue && nat_le (length (subscribers_of u row.queue)) SUBSCRIBER_LIMIT) (if_some (is_right_rule (table_of t row.queue)) row.rule)
    (and_from (takes_subscribers t row.queue) (nat_le (length (subscribers_of u row.queue)) SUBSCRIBER_LIMIT) k.takes
    (le-leb (length (subscribers_of u row.queue)) SUBSCRIBER_LIMIT (count_by t row row.queue (bytes_eq row.queue row.queue) refl k.room old))) k.rule))

-- ---- schedules

alike_schedules : (row x y : ScheduleRow) → is_same_schedule x row ≡ true → is_same_schedule row y ≡ is_same_schedule x y
alike_schedules row x y e =
    let p = and_parts (bytes_eq x.queue row.queue) (bytes_eq x.to row.to) e in
    ap (λ n. bytes_eq n y.queue && bytes_eq row.to y.to) (sym ((bytes_eq-Decides x.queue row.queue).0 p.0)) ∙ ap (λ n. bytes_eq x.queue y.queue && bytes_eq n y.to) (sym ((bytes_eq-Decides x.to row.to).0 p.1))

pub schedule_put : (t : Tables) (row : ScheduleRow) → is_valid t ≡ true → is_valid_schedule t row ≡ true → is_valid (after_change t (changes.PutSchedule row)) ≡ true
schedule_put t row v k =
    with_schedules t (put_by is_same_schedule row t.schedules) v (distinct_put is_same_schedule row (λ x y e. alike_schedules row x y e) t.schedules (distinct_schedules t v))
    (all_put is_same_schedule row (is_valid_schedule t) t.schedules (parts_of t v).schedules k)

pub schedule_dropped : (t : Tables) (queue to : List ℕ) → is_valid t ≡ true → is_valid (after_change t (changes.DropSchedule queue to)) ≡ true
schedule_dropped t queue to v =
    let u = after_change t (changes.DropSchedule queue to) in
    with_schedules t u.schedules v (distinct_removed is_same_schedule (λ s. bytes_eq s.queue queue && bytes_eq s.to to) t.schedules (distinct_schedules t v))
    (all_removed_first (is_valid_schedule t) (λ s. bytes_eq s.queue queue && bytes_eq s.to to) t.schedules (parts_of t v).schedules)
