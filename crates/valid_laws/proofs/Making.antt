-- A new table with its exception queue, and single changes of the catalogue, fit.
use Rattle.std.proofs.Common.{◌≡◌, ◌≤◌, ℕ, List, [], ◌∷◌, ◌++◌, Bool, true, false, not, length, max, refl, sym, ap, ◌∙◌, arith, Option, Some, None, ◌&&◌}
use Rattle.std.specs.Prelude.{flat_map, nat_le, is_some, pos, neg_ℤ, int_le}
use Rattle.std.specs.Option.{option_map_or}
use Rattle.std.specs.Str.{bytes_eq}
use Rattle.std.proofs.lemmas.Bool.{and_from, le-leb, false≢true}
use Rattle.std.proofs.lemmas.Option.{none-some}
use Rattle.aq_base.specs.declared.limits.TheConstants.{MAX_RETRIES_LIMIT, MOMENT_LIMIT}
use Rattle.payload_records.specs.declared.TheConstants.{FIELD_LIMIT}
use Rattle.queue_rows.specs.Rows.{find_table, find_queue, exception_name, put_by, is_same_table, is_same_queue, is_same_sub, is_same_schedule}
use Rattle.queue_rows.specs.Tables.{after}
use Rattle.queue_rows.specs.Settling.{is_exception, named_by, with_name, settling, settled}
use Rattle.queue_rows.specs.Catalog.{exception_row}
use Rattle.queue_rows.specs.Within.{is_time}
use Rattle.queue_rows.specs.Distinct.{are_distinct}
use Rattle.queue_rows.specs.Fits.{fits}
use Rattle.queue_rows.specs.Valid.{is_valid, is_same_message, is_same_seen, is_valid_table, is_default_exception, is_valid_queue, has_right_lowest, is_valid_sub, is_valid_schedule, is_valid_message}
use Rattle.queue_rows.specs.declared.tables.Tables.{Tables}
use Rattle.queue_rows.specs.declared.rows.TableRow.{TableRow}
use Rattle.queue_rows.specs.declared.rows.QueueRow.{QueueRow}
use Rattle.queue_rows.specs.declared.change.Change.{Change}
use Rattle.queue_rows.specs.declared.change.Change.TheVariants as changes
use Rattle.row_laws.proofs.Latest.{at_latest}
use Rattle.valid_laws.specs.ValidLaws.{Keeps}
use Rattle.valid_laws.specs.CatalogueLaws.{TableIsNew}
use Rattle.valid_laws.proofs.Parts.{parts_of, valid_from, six_parts, six_from, all_found, all_weaker}
use Rattle.valid_laws.proofs.Keeping.{later_is_valid}
use Rattle.valid_laws.proofs.Placing.{all_put, distinct_put, find_put, find_other_put}
use Rattle.valid_laws.proofs.Completing.{depth_within}
use Rattle.valid_laws.proofs.Committing.{commit_fits}
use Rattle.valid_laws.proofs.Extending.{IsFoundAs, with_catalogue, sub_stays, schedule_stays, table_row_stays, message_stays}
use Rattle.valid_laws.proofs.Cataloguing.{same_name, own_name, alike_queues, alike_tables}

-- ---- one change

pub one_settles : (t : Tables) (c : Change) (o : Option ℕ) → named_by c ≡ o → o ≡ None → settled t (c ∷ []) ≡ c ∷ []
one_settles t c None e h = ap (λ n. c ∷ [] ++ flat_map (settling t (c ∷ [])) (with_name [] n)) e
one_settles t c (Some id) e h = absurd (none-some id (sym h))

pub one_change_fits : (t : Tables) (moment : ℕ) (c : Change) → is_valid t ≡ true → t.latest ≤ moment → moment ≤ MOMENT_LIMIT → Keeps (record t { latest = moment }) c → named_by c ≡ None
    → fits t (record { moment = moment; changes = settled t (c ∷ []) }) ≡ true
one_change_fits t moment c v le top k e =
    ap (λ cs. fits t (record { moment = moment; changes = cs })) (one_settles t c (named_by c) refl e) ∙ commit_fits t moment (c ∷ []) v le top (k, tt)

-- ---- a new table

module _ (t : Tables) (row : TableRow) (v : is_valid t ≡ true) (k : TableIsNew t row) where
  abbrev pub made : Tables
  made = with_catalogue t (put_by is_same_table row t.tables) (put_by is_same_queue (exception_row row.name) t.queues)

  table_by : (name : List ℕ) (table : TableRow) (b : Bool) → bytes_eq row.name name ≡ b → find_table t name ≡ Some table → find_table made name ≡ Some table
  table_by name table true e f = absurd (none-some table (sym (ap (find_table t) (sym (same_name row.name name e)) ∙ k.no_table) ∙ f))
  table_by name table false e f =
      find_other_put is_same_table row (λ x. bytes_eq x.name name) e (λ x g. ap (λ n. bytes_eq n name) (same_name x.name row.name g) ∙ e) t.tables ∙ f

  table_found : (name : List ℕ) (table : TableRow) → find_table t name ≡ Some table → find_table made name ≡ Some table
  table_found name table f = table_by name table (bytes_eq row.name name) refl f

  queue_valid : (name : List ℕ) (q : QueueRow) → find_queue t name ≡ Some q → is_valid_queue t q ≡ true
  queue_valid name q f = all_found (is_valid_queue t) (λ x. bytes_eq x.name name) t.queues q (parts_of t v).queues f

  -- a valid queue's table is there before and after
  same_table : (q : QueueRow) (o : Option TableRow) → find_table t q.table ≡ o → is_some o ≡ true → find_table made q.table ≡ find_table t q.table
  same_table q None e h = absurd (false≢true h)
  same_table q (Some table) e h = table_found q.table table e ∙ sym e

  has_table : (q : QueueRow) → is_valid_queue t q ≡ true → is_some (find_table t q.table) ≡ true
  has_table q h = (six_parts (is_some (find_table t q.table)) (not (is_exception q.kind && q.enqueue)) (nat_le q.max_retries MAX_RETRIES_LIMIT) (is_time q.retry_delay) (is_time q.retention) (has_right_lowest t q) h).0

  queue_by : (name : List ℕ) (q : QueueRow) (b : Bool) → bytes_eq (exception_name row.name) name ≡ b → find_queue t name ≡ Some q → IsFoundAs t made name q
  queue_by name q true e f = absurd (none-some q (sym (ap (find_queue t) (sym (same_name (exception_name row.name) name e)) ∙ k.no_queue) ∙ f))
  queue_by name q false e f = record {
    row = q;
    row_is = find_other_put is_same_queue (exception_row row.name) (λ x. bytes_eq x.name name) e (λ x g. ap (λ n. bytes_eq n name) (same_name x.name (exception_name row.name) g) ∙ e) t.queues ∙ f;
    seen = refl;
    table_is = same_table q (find_table t q.table) refl (has_table q (queue_valid name q f));
  }

  pub queue_found : (name : List ℕ) (q : QueueRow) → find_queue t name ≡ Some q → IsFoundAs t made name q
  queue_found name q f = queue_by name q (bytes_eq (exception_name row.name) name) refl f

  queue_stays : (q : QueueRow) → is_valid_queue t q ≡ true → is_valid_queue made q ≡ true
  queue_stays q h =
      let p = six_parts (is_some (find_table t q.table)) (not (is_exception q.kind && q.enqueue)) (nat_le q.max_retries MAX_RETRIES_LIMIT) (is_time q.retry_delay) (is_time q.retention) (has_right_lowest t q) h in
      six_from (is_some (find_table made q.table)) (not (is_exception q.kind && q.enqueue)) (nat_le q.max_retries MAX_RETRIES_LIMIT) (is_time q.retry_delay) (is_time q.retention) (has_right_lowest t q)
      (ap is_some (same_table q (find_table t q.table) refl p.0) ∙ p.0) p.1 p.2 p.3 p.4 p.5

  own_table : find_table made row.name ≡ Some row
  own_table = find_put is_same_table row (λ x. bytes_eq x.name row.name) (own_name row.name) (λ x g. g) t.tables

  own_queue : find_queue made (exception_name row.name) ≡ Some (exception_row row.name)
  own_queue = find_put is_same_queue (exception_row row.name) (λ x. bytes_eq x.name (exception_name row.name)) (own_name (exception_name row.name)) (λ x g. g) t.queues

  new_table : is_valid_table made row ≡ true
  new_table =
      and_from (nat_le (length row.fields) FIELD_LIMIT) (option_map_or (is_default_exception row.name) (find_queue made (exception_name row.name)) false) (le-leb (length row.fields) FIELD_LIMIT k.few)
      (ap (λ o. option_map_or (is_default_exception row.name) o false) own_queue ∙ own_name row.name)

  new_queue : is_valid_queue made (exception_row row.name) ≡ true
  new_queue =
      six_from (is_some (find_table made row.name)) true (nat_le 0 MAX_RETRIES_LIMIT) (is_time 0) (is_time 0) (int_le (pos 0) (pos 0) && int_le (neg_ℤ (pos t.next)) (pos 0))
      (ap is_some own_table) refl refl refl refl (and_from (int_le (pos 0) (pos 0)) (int_le (neg_ℤ (pos t.next)) (pos 0)) refl (depth_within t.next (pos 0) (omega arith)))

  pub table_made : is_valid made ≡ true
  table_made =
      let p = parts_of t v in
      let u = made in
      let r = six_parts (are_distinct is_same_table t.tables) (are_distinct is_same_queue t.queues) (are_distinct is_same_sub t.subs) (are_distinct is_same_schedule t.schedules) (are_distinct is_same_message t.messages) (are_distinct is_same_seen t.seen) p.rows in
      valid_from made (record {
        rows = six_from (are_distinct is_same_table made.tables) (are_distinct is_same_queue made.queues) (are_distinct is_same_sub t.subs) (are_distinct is_same_schedule t.schedules) (are_distinct is_same_message t.messages) (are_distinct is_same_seen t.seen)
            (distinct_put is_same_table row (λ x y e. alike_tables row x y e) t.tables r.0) (distinct_put is_same_queue (exception_row row.name) (λ x y e. alike_queues (exception_row row.name) x y e) t.queues r.1) r.2 r.3 r.4 r.5;
        numbers = p.numbers;
        tables = all_put is_same_table row (is_valid_table made) t.tables (all_weaker (is_valid_table t) (is_valid_table made) (λ x h. table_row_stays t made x (queue_found (exception_name x.name)) h) t.tables p.tables) new_table;
        queues = all_put is_same_queue (exception_row row.name) (is_valid_queue made) t.queues (all_weaker (is_valid_queue t) (is_valid_queue made) queue_stays t.queues p.queues) new_queue;
        subs = all_weaker (is_valid_sub t) (is_valid_sub made) (λ s h. sub_stays t made s (queue_found s.queue) (λ e. e) h) t.subs p.subs;
        schedules = all_weaker (is_valid_schedule t) (is_valid_schedule made) (λ s h. schedule_stays t made s (queue_found s.queue) h) t.schedules p.schedules;
        messages = all_weaker (is_valid_message t) (is_valid_message made) (λ m h. message_stays t made.tables made.queues m (queue_found m.queue) h) t.messages p.messages;
        seen = p.seen;
      })

new_later : (t : Tables) (row : TableRow) (moment : ℕ) → TableIsNew t row → TableIsNew (at_latest moment t) row
new_later t row moment k = record { no_table = k.no_table; no_queue = k.no_queue; few = k.few }

greater : (a b : ℕ) → a ≤ b → max a b ≡ b
greater a b h = omega arith

pub new_table_fits : (t : Tables) (row : TableRow) (moment : ℕ) → is_valid t ≡ true → t.latest ≤ moment → moment ≤ MOMENT_LIMIT → TableIsNew t row
    → fits t (record { moment = moment; changes = settled t (changes.PutTable row ∷ changes.PutQueue (exception_row row.name) ∷ []) }) ≡ true
unfolding fits after
new_table_fits t row moment v le top k =
    ap (λ n. is_valid (at_latest n (with_catalogue t (put_by is_same_table row t.tables) (put_by is_same_queue (exception_row row.name) t.queues)))) (greater t.latest moment le)
    ∙ table_made (at_latest moment t) row (later_is_valid t moment le v top) (new_later t row moment k)
