-- Queues that are put or dropped, and tables that are made, keep tables valid.
use Rattle.std.proofs.Common.{◌≡◌, ◌≤◌, ℕ, List, [], Bool, true, false, not, length, refl, sym, ap, ◌∙◌, arith, Option, Some, None, ℤ}
use Rattle.std.specs.Prelude.{nat_le, is_some, if◌then◌else◌}
use Rattle.std.specs.Option.{option_map_or}
use Rattle.std.specs.Str.{bytes_eq}
use Rattle.std.proofs.lemmas.Bool.{and_parts, le-leb, leb-true, not-true, false≢true, true≢false}
use Rattle.std.proofs.lemmas.Slice.Eq.{bytes_eq-Decides}
use Rattle.aq_base.specs.declared.limits.TheConstants.{SUBSCRIBER_LIMIT}
use Rattle.payload_records.specs.declared.TheConstants.{FIELD_LIMIT}
use Rattle.queue_rows.specs.Rows.{find_table, find_queue, exception_name, put_by, removed_first, is_same_table, is_same_queue, is_same_sub, is_same_schedule}
use Rattle.queue_rows.specs.Tables.{after_change, drop_queue}
use Rattle.queue_rows.specs.Settling.{is_exception}
use Rattle.queue_rows.specs.Recipients.{subscribers_of}
use Rattle.queue_rows.specs.Distinct.{are_distinct}
use Rattle.queue_rows.specs.Valid.{is_valid, is_same_message, is_same_seen, is_valid_table, is_default_exception, is_valid_queue, is_valid_sub, is_valid_schedule, is_valid_message}
use Rattle.queue_rows.specs.declared.tables.Tables.{Tables}
use Rattle.queue_rows.specs.declared.rows.TableRow.{TableRow}
use Rattle.queue_rows.specs.declared.rows.QueueRow.{QueueRow}
use Rattle.queue_rows.specs.declared.rows.QueueKind.{QueueKind}
use Rattle.queue_rows.specs.declared.change.Change.TheVariants as changes
use Rattle.row_laws.proofs.Finding.{find_other_removed}
use Rattle.row_laws.proofs.Distinctly.{stays_distinct}
use Rattle.valid_laws.specs.ValidLaws.{QueuePutsRight, QueueGoes}
use Rattle.valid_laws.proofs.Parts.{parts_of, valid_from, six_parts, six_from, all_weaker, all_removed_first, valid_distinct}
use Rattle.valid_laws.proofs.Placing.{all_put, distinct_put, distinct_removed, find_put, find_other_put, all_filter, distinct_filter, fewer_filter}
use Rattle.valid_laws.proofs.Extending.{seen_of, IsFoundAs, with_catalogue, sub_stays, schedule_stays, table_row_stays, message_stays}

-- ---- names

pub same_name : (a b : List ℕ) → bytes_eq a b ≡ true → a ≡ b
same_name a b e = (bytes_eq-Decides a b).0 e

pub own_name : (a : List ℕ) → bytes_eq a a ≡ true
own_name a = (bytes_eq-Decides a a).1 refl

turn_by : (a b : List ℕ) (c : Bool) → bytes_eq b a ≡ c → bytes_eq a b ≡ false → bytes_eq b a ≡ false
turn_by a b true e h = absurd (false≢true (sym h ∙ ap (λ n. bytes_eq n b) (sym (same_name b a e)) ∙ own_name b))
turn_by a b false e h = e

pub turned : (a b : List ℕ) → bytes_eq a b ≡ false → bytes_eq b a ≡ false
turned a b h = turn_by a b (bytes_eq b a) refl h

pub alike_queues : (row x y : QueueRow) → is_same_queue x row ≡ true → is_same_queue row y ≡ is_same_queue x y
alike_queues row x y e = ap (λ n. bytes_eq n y.name) (sym (same_name x.name row.name e))

pub alike_tables : (row x y : TableRow) → is_same_table x row ≡ true → is_same_table row y ≡ is_same_table x y
alike_tables row x y e = ap (λ n. bytes_eq n y.name) (sym (same_name x.name row.name e))

-- ---- a queue is put

made_of : List ℕ → QueueKind → ℕ → ℤ → QueueRow
made_of table kind retries lowest = record { name = []; table = table; kind = kind; enqueue = false; dequeue = false; max_retries = retries; retry_delay = 0; retention = 0; lowest = lowest }

seen_same : (row q : QueueRow) → row.table ≡ q.table → row.kind ≡ q.kind → row.max_retries ≡ q.max_retries → row.lowest ≡ q.lowest → seen_of row ≡ seen_of q
unfolding made_of
seen_same row q a b c d =
    ap (λ n. made_of n row.kind row.max_retries row.lowest) a ∙ ap (λ n. made_of q.table n row.max_retries row.lowest) b ∙ ap (λ n. made_of q.table q.kind n row.lowest) c ∙ ap (made_of q.table q.kind q.max_retries) d

module _ (t : Tables) (row : QueueRow) (k : QueuePutsRight t row) where
  abbrev then_queues : List QueueRow
  then_queues = put_by is_same_queue row t.queues

  found_by : (name : List ℕ) (q : QueueRow) (b : Bool) → bytes_eq row.name name ≡ b → find_queue t name ≡ Some q → IsFoundAs t (with_catalogue t t.tables (put_by is_same_queue row t.queues)) name q
  found_by name q true e f =
      let same : row.name ≡ name = same_name row.name name e in
      let old : find_queue t row.name ≡ Some q = ap (find_queue t) same ∙ f in
      record {
        row = row;
        row_is = find_put is_same_queue row (λ x. bytes_eq x.name name) e (λ x g. ap (bytes_eq x.name) (sym same) ∙ g) t.queues;
        seen = seen_same row q (k.table q old) (k.kind q old) (k.retries q old) (k.lowest q old);
        table_is = ap (find_table t) (k.table q old);
      }
  found_by name q false e f = record {
    row = q;
    row_is = find_other_put is_same_queue row (λ x. bytes_eq x.name name) e (λ x g. ap (λ n. bytes_eq n name) (same_name x.name row.name g) ∙ e) t.queues ∙ f;
    seen = refl;
    table_is = refl;
  }

  pub found : (name : List ℕ) (q : QueueRow) → find_queue t name ≡ Some q → IsFoundAs t (with_catalogue t t.tables (put_by is_same_queue row t.queues)) name q
  found name q f = found_by name q (bytes_eq row.name name) refl f

  pub queue_put : is_valid t ≡ true → is_valid (after_change t (changes.PutQueue row)) ≡ true
  queue_put v =
      let p = parts_of t v in
      let queues = put_by is_same_queue row t.queues in
      let u = with_catalogue t t.tables queues in
      let r = six_parts (are_distinct is_same_table t.tables) (are_distinct is_same_queue t.queues) (are_distinct is_same_sub t.subs) (are_distinct is_same_schedule t.schedules) (are_distinct is_same_message t.messages) (are_distinct is_same_seen t.seen) p.rows in
      valid_from u (record {
        rows = six_from (are_distinct is_same_table t.tables) (are_distinct is_same_queue queues) (are_distinct is_same_sub t.subs) (are_distinct is_same_schedule t.schedules) (are_distinct is_same_message t.messages) (are_distinct is_same_seen t.seen)
            r.0 (distinct_put is_same_queue row (λ x y e. alike_queues row x y e) t.queues r.1) r.2 r.3 r.4 r.5;
        numbers = p.numbers;
        tables = all_weaker (is_valid_table t) (is_valid_table u) (λ x h. table_row_stays t u x (found (exception_name x.name)) h) t.tables p.tables;
        queues = all_put is_same_queue row (is_valid_queue t) t.queues p.queues k.valid;
        subs = all_weaker (is_valid_sub t) (is_valid_sub u) (λ s h. sub_stays t u s (found s.queue) (λ e. e) h) t.subs p.subs;
        schedules = all_weaker (is_valid_schedule t) (is_valid_schedule u) (λ s h. schedule_stays t u s (found s.queue) h) t.schedules p.schedules;
        messages = all_weaker (is_valid_message t) (is_valid_message u) (λ m h. message_stays t t.tables queues m (found m.queue) h) t.messages p.messages;
        seen = p.seen;
      })

-- ---- a queue is dropped

module _ (t : Tables) (name : List ℕ) (v : is_valid t ≡ true) (k : QueueGoes t name) where
  pub kept_queue : (other : List ℕ) (q : QueueRow) → bytes_eq other name ≡ false → find_queue t other ≡ Some q → IsFoundAs t (drop_queue t name) other q
  kept_queue other q d f = record {
    row = q;
    row_is = find_other_removed (λ x. bytes_eq x.name name) (λ x. bytes_eq x.name other) (λ y e. ap (λ n. bytes_eq n other) (same_name y.name name e) ∙ turned other name d) t.queues ∙ f;
    seen = refl;
    table_is = refl;
  }

  -- a table's default exception queue is another one
  default_by : (table : TableRow) (o : Option QueueRow) (b : Bool) → find_queue t (exception_name table.name) ≡ o → bytes_eq (exception_name table.name) name ≡ b → option_map_or (is_default_exception table.name) o false ≡ true → b ≡ false
  default_by table None b f e h = absurd (false≢true h)
  default_by table (Some q) false f e h = refl
  default_by table (Some q) true f e h =
      let same : exception_name table.name ≡ name = same_name (exception_name table.name) name e in
      let it : q ≡ k.queue = (let a : Some q ≡ Some k.queue = sym f ∙ ap (find_queue t) same ∙ k.found in cc) in
      let owner : q.table ≡ table.name = same_name q.table table.name (and_parts (is_exception q.kind) (bytes_eq q.table table.name) h).1 in
      let its : exception_name k.queue.table ≡ name = ap exception_name (sym (ap (λ x. x.table) it) ∙ owner) ∙ same in
      absurd (true≢false (sym (own_name name) ∙ ap (bytes_eq name) (sym its) ∙ k.further))

  table_kept : (table : TableRow) → is_valid_table t table ≡ true → is_valid_table (drop_queue t name) table ≡ true
  table_kept table h =
      let p = and_parts (nat_le (length table.fields) FIELD_LIMIT) (option_map_or (is_default_exception table.name) (find_queue t (exception_name table.name)) false) h in
      table_row_stays t (drop_queue t name) table
      (λ q f. kept_queue (exception_name table.name) q (default_by table (find_queue t (exception_name table.name)) (bytes_eq (exception_name table.name) name) refl refl p.1) f) h

  count_kept : (queue : List ℕ) → nat_le (length (subscribers_of t queue)) SUBSCRIBER_LIMIT ≡ true → nat_le (length (subscribers_of (drop_queue t name) queue)) SUBSCRIBER_LIMIT ≡ true
  count_kept queue h =
      let a = leb-true (length (subscribers_of t queue)) SUBSCRIBER_LIMIT h in
      let b = fewer_filter (λ s. not (bytes_eq s.queue name)) (λ s. bytes_eq s.queue queue) t.subs in
      le-leb (length (subscribers_of (drop_queue t name) queue)) SUBSCRIBER_LIMIT (between (length (subscribers_of (drop_queue t name) queue)) (length (subscribers_of t queue)) SUBSCRIBER_LIMIT b a)
    where
      between : (a b c : ℕ) → a ≤ b → b ≤ c → a ≤ c
      between a b c h g = omega arith

  distinct_messages : are_distinct is_same_message (after_change t (changes.DropQueue name)).messages ≡ true
  distinct_messages = stays_distinct t (changes.DropQueue name) (valid_distinct t v) refl

  after_is : after_change t (changes.DropQueue name) ≡ drop_queue t name
  after_is = ap (λ o. if is_some o then drop_queue t name else t) k.found

  dropped_valid : is_valid (drop_queue t name) ≡ true
  dropped_valid =
      let p = parts_of t v in
      let u = drop_queue t name in
      let r = six_parts (are_distinct is_same_table t.tables) (are_distinct is_same_queue t.queues) (are_distinct is_same_sub t.subs) (are_distinct is_same_schedule t.schedules) (are_distinct is_same_message t.messages) (are_distinct is_same_seen t.seen) p.rows in
      valid_from u (record {
        rows = six_from (are_distinct is_same_table t.tables) (are_distinct is_same_queue u.queues) (are_distinct is_same_sub u.subs) (are_distinct is_same_schedule u.schedules) (are_distinct is_same_message u.messages) (are_distinct is_same_seen t.seen)
            r.0 (distinct_removed is_same_queue (λ q. bytes_eq q.name name) t.queues r.1) (distinct_filter (λ s. not (bytes_eq s.queue name)) is_same_sub t.subs r.2) (distinct_filter (λ s. not (bytes_eq s.queue name)) is_same_schedule t.schedules r.3)
            (ap (λ y. are_distinct is_same_message y.messages) (sym after_is) ∙ distinct_messages) r.5;
        numbers = p.numbers;
        tables = all_weaker (is_valid_table t) (is_valid_table u) table_kept t.tables p.tables;
        queues = all_removed_first (is_valid_queue t) (λ q. bytes_eq q.name name) t.queues p.queues;
        subs = all_filter (λ s. not (bytes_eq s.queue name)) (is_valid_sub t) (is_valid_sub u) (λ s e h. sub_stays t u s (λ q f. kept_queue s.queue q (not-true (bytes_eq s.queue name) e) f) (count_kept s.queue) h) t.subs p.subs;
        schedules = all_filter (λ s. not (bytes_eq s.queue name)) (is_valid_schedule t) (is_valid_schedule u) (λ s e h. schedule_stays t u s (λ q f. kept_queue s.queue q (not-true (bytes_eq s.queue name) e) f) h) t.schedules p.schedules;
        messages = all_filter (λ m. not (bytes_eq m.queue name)) (is_valid_message t) (is_valid_message u) (λ m e h. message_stays t t.tables u.queues m (λ q f. message_queue m.queue q (not-true (bytes_eq m.queue name) e) f) h) t.messages p.messages;
        seen = p.seen;
      })
    where
      message_queue : (other : List ℕ) (q : QueueRow) → bytes_eq other name ≡ false → find_queue t other ≡ Some q → IsFoundAs t (with_catalogue t t.tables (removed_first (λ x. bytes_eq x.name name) t.queues)) other q
      message_queue other q d f = let x = kept_queue other q d f in record { row = x.row; row_is = x.row_is; seen = x.seen; table_is = x.table_is }

  pub queue_dropped : is_valid (after_change t (changes.DropQueue name)) ≡ true
  queue_dropped = ap is_valid after_is ∙ dropped_valid
