-- A table that goes with its default exception queue keeps tables valid.
use Rattle.std.proofs.Common.{◌≡◌, ℕ, List, [], ◌∷◌, Bool, true, false, not, length, refl, sym, ap, ◌∙◌, Option, Some, None, ◌&&◌}
use Rattle.std.specs.Prelude.{nat_le, is_some, codes, if◌then◌else◌}
use Rattle.std.specs.List.{list_any, list_all}
use Rattle.std.specs.Str.{bytes_eq}
use Rattle.std.proofs.lemmas.Bool.{and_parts, and_from, or_parts, not-true, not_from_false, false≢true, true≢false}
use Rattle.std.proofs.lemmas.List.{append_cancel_right}
use Rattle.aq_base.specs.declared.limits.TheConstants.{MAX_RETRIES_LIMIT, MOMENT_LIMIT, SUBSCRIBER_LIMIT}
use Rattle.queue_rows.specs.Rows.{find_table, find_queue, exception_name, removed_first, table_of, is_same_table, is_same_queue, is_same_sub, is_same_schedule}
use Rattle.queue_rows.specs.Tables.{after_change, drop_table}
use Rattle.queue_rows.specs.Settling.{is_exception}
use Rattle.queue_rows.specs.Catalog.{has_subscribers, is_further_queue}
use Rattle.queue_rows.specs.Recipients.{subscribers_of}
use Rattle.queue_rows.specs.Within.{if_some, is_time, is_span}
use Rattle.queue_rows.specs.Distinct.{are_distinct}
use Rattle.queue_rows.specs.Valid.{is_valid, is_same_message, is_same_seen, is_valid_table, is_valid_queue, has_right_lowest, is_valid_sub, is_right_rule, takes_subscribers, has_subscribers_in, is_valid_schedule, has_right_failures, is_valid_message}
use Rattle.queue_rows.specs.declared.tables.Tables.{Tables}
use Rattle.queue_rows.specs.declared.rows.TableRow.{TableRow}
use Rattle.queue_rows.specs.declared.rows.QueueRow.{QueueRow}
use Rattle.queue_rows.specs.declared.rows.SubRow.{SubRow}
use Rattle.queue_rows.specs.declared.rows.ScheduleRow.{ScheduleRow}
use Rattle.queue_rows.specs.declared.change.Change.TheVariants as changes
use Rattle.row_laws.proofs.Finding.{find_other_removed, found_is}
use Rattle.row_laws.proofs.Firsts.{removed_first-yes, removed_first-no}
use Rattle.valid_laws.specs.ValidLaws.{TableGoes}
use Rattle.valid_laws.proofs.Parts.{parts_of, valid_from, six_parts, six_from, all_found, all_weaker, all_removed_first}
use Rattle.valid_laws.proofs.Placing.{distinct_removed}
use Rattle.valid_laws.proofs.Exceptions.{default_exit}
use Rattle.valid_laws.proofs.Extending.{IsFoundAs, sub_stays, schedule_stays, table_row_stays, message_stays}
use Rattle.valid_laws.proofs.Cataloguing.{same_name, own_name, turned}

-- ---- lists

module _ {X : Type 0} where
  pub all_not : (p : X → Bool) (xs : List X) → list_any p xs ≡ false → list_all (λ x. not (p x)) xs ≡ true
  all_not p [] h = refl
  all_not p (x ∷ xs) h = let q = or_parts (p x) (list_any p xs) h in and_from (not (p x)) (list_all (λ y. not (p y)) xs) (not_from_false (p x) q.0) (all_not p xs q.1)

  pub all_both : (q r s : X → Bool) → ((x : X) → q x ≡ true → r x ≡ true → s x ≡ true) → (xs : List X) → list_all q xs ≡ true → list_all r xs ≡ true → list_all s xs ≡ true
  all_both q r s k [] h g = refl
  all_both q r s k (x ∷ xs) h g =
      let a = and_parts (q x) (list_all q xs) h in
      let b = and_parts (r x) (list_all r xs) g in
      and_from (s x) (list_all s xs) (k x a.0 b.0) (all_both q r s k xs a.1 b.1)

-- of rows that are distinct none is of the kind any more when the first of it went
module _ {X : Type 0} (same : X → X → Bool) (p : X → Bool) (alike : (x y : X) → p x ≡ true → p y ≡ true → same x y ≡ true) where
  not_by : (x y : X) (b : Bool) → p y ≡ b → p x ≡ true → same x y ≡ false → not b ≡ true
  not_by x y true e g h = absurd (false≢true (sym h ∙ alike x y g e))
  not_by x y false e g h = refl

  none_behind : (x : X) (xs : List X) → p x ≡ true → list_any (same x) xs ≡ false → list_all (λ y. not (p y)) xs ≡ true
  none_behind x [] e h = refl
  none_behind x (y ∷ ys) e h =
      let q = or_parts (same x y) (list_any (same x) ys) h in and_from (not (p y)) (list_all (λ z. not (p z)) ys) (not_by x y (p y) refl e q.0) (none_behind x ys e q.1)

  gone_step : (x : X) (xs : List X) (b : Bool) → p x ≡ b → are_distinct same (x ∷ xs) ≡ true → (are_distinct same xs ≡ true → list_all (λ y. not (p y)) (removed_first p xs) ≡ true) → list_all (λ y. not (p y)) (removed_first p (x ∷ xs)) ≡ true
  gone_step x xs true e d ih =
      let q = and_parts (not (list_any (same x) xs)) (are_distinct same xs) d in ap (list_all (λ y. not (p y))) (removed_first-yes p x xs e) ∙ none_behind x xs e (not-true (list_any (same x) xs) q.0)
  gone_step x xs false e d ih =
      let q = and_parts (not (list_any (same x) xs)) (are_distinct same xs) d in
      ap (list_all (λ y. not (p y))) (removed_first-no p x xs e) ∙ and_from (not (p x)) (list_all (λ y. not (p y)) (removed_first p xs)) (not_from_false (p x) e) (ih q.1)

  pub all_gone : (xs : List X) → are_distinct same xs ≡ true → list_all (λ y. not (p y)) (removed_first p xs) ≡ true
  all_gone [] d = refl
  all_gone (x ∷ xs) d = gone_step x xs (p x) refl d (all_gone xs)

-- ---- names

both_named : (name a b : List ℕ) → bytes_eq a name ≡ true → bytes_eq b name ≡ true → bytes_eq a b ≡ true
both_named name a b e g = ap (bytes_eq a) (same_name b name g) ∙ e

exception_apart_by : (a b : List ℕ) (c : Bool) → bytes_eq (exception_name a) (exception_name b) ≡ c → bytes_eq a b ≡ false → c ≡ false
exception_apart_by a b true e h =
    let same : a ≡ b = append_cancel_right a b (codes "_e") (same_name (exception_name a) (exception_name b) e) in absurd (false≢true (sym h ∙ ap (bytes_eq a) (sym same) ∙ own_name a))
exception_apart_by a b false e h = refl

exception_apart : (a b : List ℕ) → bytes_eq a b ≡ false → bytes_eq (exception_name a) (exception_name b) ≡ false
exception_apart a b h = exception_apart_by a b (bytes_eq (exception_name a) (exception_name b)) refl h

not_of_table : (a b : Bool) → not (a && not b) ≡ true → b ≡ false → a ≡ false
not_of_table true true h e = absurd (true≢false e)
not_of_table true false h e = absurd (false≢true h)
not_of_table false b h e = refl

subscribers_normal : (q : QueueRow) (o : Option TableRow) → has_subscribers q o ≡ true → is_exception q.kind ≡ false
subscribers_normal q None h = absurd (false≢true h)
subscribers_normal q (Some table) h = not-true (is_exception q.kind) (and_parts table.multi (not (is_exception q.kind)) h).1

-- ---- the table goes

module _ (t : Tables) (name : List ℕ) (v : is_valid t ≡ true) (k : TableGoes t name) where
  abbrev left : Tables
  left = drop_table t name

  further_none : list_all (λ q. not (is_further_queue name q)) t.queues ≡ true
  further_none = all_not (is_further_queue name) t.queues (or_parts (list_any (is_further_queue name) t.queues) (list_any (λ m. bytes_eq m.queue (exception_name name)) t.messages) k.unused).0

  messages_none : list_all (λ m. not (bytes_eq m.queue (exception_name name))) t.messages ≡ true
  messages_none =
      all_not (λ m. bytes_eq m.queue (exception_name name)) t.messages (or_parts (list_any (is_further_queue name) t.queues) (list_any (λ m. bytes_eq m.queue (exception_name name)) t.messages) k.unused).1

  table_kept : (other : List ℕ) → bytes_eq other name ≡ false → find_table left other ≡ find_table t other
  table_kept other d = find_other_removed (λ x. bytes_eq x.name name) (λ x. bytes_eq x.name other) (λ y e. ap (λ n. bytes_eq n other) (same_name y.name name e) ∙ turned other name d) t.tables

  -- a queue of another name belongs to another table
  its_table : (other : List ℕ) (q : QueueRow) → bytes_eq other (exception_name name) ≡ false → find_queue t other ≡ Some q → bytes_eq q.table name ≡ false
  its_table other q d f =
      let named : q.name ≡ other = same_name q.name other (found_is (λ x. bytes_eq x.name other) t.queues q f) in
      not_of_table (bytes_eq q.table name) (bytes_eq q.name (exception_name name)) (all_found (λ x. not (is_further_queue name x)) (λ x. bytes_eq x.name other) t.queues q further_none f)
      (ap (λ n. bytes_eq n (exception_name name)) named ∙ d)

  pub queue_kept : (other : List ℕ) (q : QueueRow) → bytes_eq other (exception_name name) ≡ false → find_queue t other ≡ Some q → IsFoundAs t left other q
  queue_kept other q d f = record {
    row = q;
    row_is = find_other_removed (λ x. bytes_eq x.name (exception_name name)) (λ x. bytes_eq x.name other) (λ y e. ap (λ n. bytes_eq n other) (same_name y.name (exception_name name) e) ∙ turned other (exception_name name) d) t.queues ∙ f;
    seen = refl;
    table_is = table_kept q.table (its_table other q d f);
  }

  -- subscribers and schedules belong to other queues
  takes_by : (queue : List ℕ) (b : Bool) → bytes_eq queue (exception_name name) ≡ b → takes_subscribers t queue ≡ true → b ≡ false
  takes_by queue true e h =
      let exit = default_exit t name k.table v k.found in
      let there : find_queue t queue ≡ Some exit.to = ap (find_queue t) (same_name queue (exception_name name) e) ∙ exit.to_is in
      let takes : has_subscribers exit.to (find_table t exit.to.table) ≡ true = sym (ap (has_subscribers_in t) there) ∙ h in
      absurd (true≢false (sym exit.exception ∙ subscribers_normal exit.to (find_table t exit.to.table) takes))
  takes_by queue false e h = refl

  takes_apart : (queue : List ℕ) → takes_subscribers t queue ≡ true → bytes_eq queue (exception_name name) ≡ false
  takes_apart queue h = takes_by queue (bytes_eq queue (exception_name name)) refl h

  sub_takes : (s : SubRow) → is_valid_sub t s ≡ true → takes_subscribers t s.queue ≡ true
  sub_takes s h =
      let p = and_parts (takes_subscribers t s.queue && nat_le (length (subscribers_of t s.queue)) SUBSCRIBER_LIMIT) (if_some (is_right_rule (table_of t s.queue)) s.rule) h in
      (and_parts (takes_subscribers t s.queue) (nat_le (length (subscribers_of t s.queue)) SUBSCRIBER_LIMIT) p.0).0

  schedule_takes : (s : ScheduleRow) → is_valid_schedule t s ≡ true → takes_subscribers t s.queue ≡ true
  schedule_takes s h = (six_parts (takes_subscribers t s.queue) (has_right_failures s) (nat_le s.start MOMENT_LIMIT) (if_some is_span s.duration) (if_some is_span s.period) (is_time s.latency) h).0

  queue_stays : (q : QueueRow) → is_valid_queue t q ≡ true → bytes_eq q.table name ≡ false → is_valid_queue left q ≡ true
  queue_stays q h d =
      let p = six_parts (is_some (find_table t q.table)) (not (is_exception q.kind && q.enqueue)) (nat_le q.max_retries MAX_RETRIES_LIMIT) (is_time q.retry_delay) (is_time q.retention) (has_right_lowest t q) h in
      six_from (is_some (find_table left q.table)) (not (is_exception q.kind && q.enqueue)) (nat_le q.max_retries MAX_RETRIES_LIMIT) (is_time q.retry_delay) (is_time q.retention) (has_right_lowest t q)
      (ap is_some (table_kept q.table d) ∙ p.0) p.1 p.2 p.3 p.4 p.5

  distinct_tables : are_distinct is_same_table t.tables ≡ true
  distinct_tables =
      (six_parts (are_distinct is_same_table t.tables) (are_distinct is_same_queue t.queues) (are_distinct is_same_sub t.subs) (are_distinct is_same_schedule t.schedules) (are_distinct is_same_message t.messages) (are_distinct is_same_seen t.seen) (parts_of t v).rows).0

  distinct_queues : are_distinct is_same_queue t.queues ≡ true
  distinct_queues =
      (six_parts (are_distinct is_same_table t.tables) (are_distinct is_same_queue t.queues) (are_distinct is_same_sub t.subs) (are_distinct is_same_schedule t.schedules) (are_distinct is_same_message t.messages) (are_distinct is_same_seen t.seen) (parts_of t v).rows).1

  tables_left : list_all (λ x. not (bytes_eq x.name name)) left.tables ≡ true
  tables_left = all_gone is_same_table (λ x. bytes_eq x.name name) (λ x y e g. both_named name x.name y.name e g) t.tables distinct_tables

  queues_left : list_all (λ x. not (bytes_eq x.name (exception_name name))) left.queues ≡ true
  queues_left = all_gone is_same_queue (λ x. bytes_eq x.name (exception_name name)) (λ x y e g. both_named (exception_name name) x.name y.name e g) t.queues distinct_queues

  table_of_left : (q : QueueRow) → not (is_further_queue name q) ≡ true → not (bytes_eq q.name (exception_name name)) ≡ true → not (bytes_eq q.table name) ≡ true
  table_of_left q h g = not_from_false (bytes_eq q.table name) (not_of_table (bytes_eq q.table name) (bytes_eq q.name (exception_name name)) h (not-true (bytes_eq q.name (exception_name name)) g))

  left_valid : is_valid left ≡ true
  left_valid =
      let p = parts_of t v in
      let u = left in
      let r = six_parts (are_distinct is_same_table t.tables) (are_distinct is_same_queue t.queues) (are_distinct is_same_sub t.subs) (are_distinct is_same_schedule t.schedules) (are_distinct is_same_message t.messages) (are_distinct is_same_seen t.seen) p.rows in
      valid_from u (record {
        rows = six_from (are_distinct is_same_table u.tables) (are_distinct is_same_queue u.queues) (are_distinct is_same_sub t.subs) (are_distinct is_same_schedule t.schedules) (are_distinct is_same_message t.messages) (are_distinct is_same_seen t.seen)
            (distinct_removed is_same_table (λ x. bytes_eq x.name name) t.tables r.0) (distinct_removed is_same_queue (λ x. bytes_eq x.name (exception_name name)) t.queues r.1) r.2 r.3 r.4 r.5;
        numbers = p.numbers;
        tables = all_both (is_valid_table t) (λ x. not (bytes_eq x.name name)) (is_valid_table u)
            (λ x h d. table_row_stays t u x (λ q f. queue_kept (exception_name x.name) q (exception_apart x.name name (not-true (bytes_eq x.name name) d)) f) h) u.tables
            (all_removed_first (is_valid_table t) (λ x. bytes_eq x.name name) t.tables p.tables) tables_left;
        queues = all_both (is_valid_queue t) (λ x. not (bytes_eq x.table name)) (is_valid_queue u) (λ x h d. queue_stays x h (not-true (bytes_eq x.table name) d)) u.queues
            (all_removed_first (is_valid_queue t) (λ x. bytes_eq x.name (exception_name name)) t.queues p.queues)
            (all_both (λ x. not (is_further_queue name x)) (λ x. not (bytes_eq x.name (exception_name name))) (λ x. not (bytes_eq x.table name)) table_of_left u.queues
            (all_removed_first (λ x. not (is_further_queue name x)) (λ x. bytes_eq x.name (exception_name name)) t.queues further_none) queues_left);
        subs = all_weaker (is_valid_sub t) (is_valid_sub u) (λ s h. sub_stays t u s (λ q f. queue_kept s.queue q (takes_apart s.queue (sub_takes s h)) f) (λ e. e) h) t.subs p.subs;
        schedules = all_weaker (is_valid_schedule t) (is_valid_schedule u) (λ s h. schedule_stays t u s (λ q f. queue_kept s.queue q (takes_apart s.queue (schedule_takes s h)) f) h) t.schedules p.schedules;
        messages = all_both (is_valid_message t) (λ m. not (bytes_eq m.queue (exception_name name))) (is_valid_message u)
            (λ m h d. message_stays t u.tables u.queues m (λ q f. queue_kept m.queue q (not-true (bytes_eq m.queue (exception_name name)) d) f) h) t.messages p.messages messages_none;
        seen = p.seen;
      })

  pub table_dropped : is_valid (after_change t (changes.DropTable name)) ≡ true
  table_dropped = ap is_valid (ap (λ o. if is_some o then drop_table t name else t) k.found) ∙ left_valid
