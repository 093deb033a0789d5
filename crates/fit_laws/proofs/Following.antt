-- Behind one local change each row is right that was right, but for those that the change marks.
use Rattle.std.proofs.Common.{◌≡◌, ℕ, List, Bool, true, false, not, refl, sym, ap, ◌∙◌, arith, Option, Some, None, ◌&&◌, ◌||◌, ◌⊎◌, inl, inr}
use Rattle.std.specs.Prelude.{nat_le, codes, is_some, length}
use Rattle.std.specs.List.{list_any, list_all}
use Rattle.std.specs.Option.{option_map_or}
use Rattle.std.specs.Str.{bytes_eq}
use Rattle.std.proofs.lemmas.Bool.{and_parts, or_parts, or_cases, or_left, or_right, not-true, not_from_false, false≢true, true≢false}
use Rattle.std.proofs.lemmas.List.{append_cancel_right}
use Rattle.aq_base.specs.declared.limits.TheConstants.{MOMENT_LIMIT}
use Rattle.payload_records.specs.declared.TheConstants.{FIELD_LIMIT}
use Rattle.queue_rows.specs.Rows.{find_table, find_queue, table_of, exception_name, is_same_table, is_same_queue}
use Rattle.queue_rows.specs.Tables.{after_change, drop_queue, drop_table}
use Rattle.queue_rows.specs.Settling.{is_exception}
use Rattle.queue_rows.specs.Catalog.{has_subscribers, is_further_queue, is_table_used}
use Rattle.queue_rows.specs.Within.{if_some, is_span, is_time}
use Rattle.queue_rows.specs.Valid.{is_valid_table, is_default_exception, is_valid_queue, is_right_rule, takes_subscribers, has_subscribers_in, is_valid_schedule, has_right_failures, is_valid_message}
use Rattle.queue_rows.specs.declared.tables.Tables.{Tables}
use Rattle.queue_rows.specs.declared.rows.TableRow.{TableRow}
use Rattle.queue_rows.specs.declared.rows.QueueRow.{QueueRow}
use Rattle.queue_rows.specs.declared.rows.SubRow.{SubRow}
use Rattle.queue_rows.specs.declared.rows.ScheduleRow.{ScheduleRow}
use Rattle.queue_rows.specs.declared.rows.MsgRow.{MsgRow}
use Rattle.queue_rows.specs.declared.change.Change.{Change}
use Rattle.queue_rows.specs.declared.change.Change.TheVariants as changes
use Rattle.row_laws.proofs.Finding.{find_other_removed, found_is}
use Rattle.valid_laws.proofs.Cataloguing.{same_name, own_name, turned}
use Rattle.valid_laws.proofs.Parts.{six_parts, all_found, all_weaker, all_removed_first}
use Rattle.valid_laws.proofs.Placing.{all_filter}
use Rattle.valid_laws.proofs.Tabling.{all_not, all_both, all_gone}
use Rattle.fit_laws.specs.FitLaws.{is_further, is_local}
use Rattle.fit_laws.proofs.Growing.{Follows, none_goes, follows_grown, stands_still, is_right_sub, table_stays, queue_stays, sub_stays, schedule_stays, message_stays}
use Rattle.fit_laws.proofs.Stepping.{if_both, grows, grown_one, marks_table, marks_queue, marks_sub, marks_schedule, marks_message, tables_one, queues_one, subs_one, schedules_one, messages_one, join_names, StandApart}

-- ---- marked or right

module _ {R : Type 0} (m p q : R → Bool) where
  right_by : (r : R) → (p r ≡ true → q r ≡ true) → (m r ≡ true) ⊎ (p r ≡ true) → (m r || q r) ≡ true
  right_by r k (inl e) = or_left (m r) (q r) e
  right_by r k (inr e) = or_right (m r) (q r) (k e)

  -- where it was right, it is so
  still : (r : R) → (p r ≡ true → q r ≡ true) → (m r || p r) ≡ true → (m r || q r) ≡ true
  still r k h = right_by r k (or_cases (m r) (p r) h)

  all_still : ((r : R) → p r ≡ true → q r ≡ true) → (rows : List R) → list_all (λ r. m r || p r) rows ≡ true → list_all (λ r. m r || q r) rows ≡ true
  all_still k rows h = all_weaker (λ r. m r || p r) (λ r. m r || q r) (λ r e. still r (k r) e) rows h

-- ---- a queue goes

module _ (t : Tables) (name : List ℕ) (k : is_local t (changes.DropQueue name) ≡ true) where
  abbrev goes : List ℕ → Bool
  goes other = bytes_eq other name

  other_queue : (other : List ℕ) → bytes_eq other name ≡ false → find_queue (drop_queue t name) other ≡ find_queue t other
  other_queue other d = find_other_removed (λ x. bytes_eq x.name name) (λ x. bytes_eq x.name other) (λ y e. ap (λ n. bytes_eq n other) (same_name y.name name e) ∙ turned other name d) t.queues

  without : Follows goes none_goes t (drop_queue t name)
  without = record {
    tables = λ other r d f. f;
    queues = λ other q d f. stands_still t (drop_queue t name) other q (other_queue other d ∙ f) (λ r e. e);
    next = omega arith;
    transaction = omega arith;
    latest = omega arith;
  }

  -- a right table's default exception queue is another one
  another_by : (table : TableRow) (o : Option QueueRow) (b : Bool) → find_queue t (exception_name table.name) ≡ o → bytes_eq (exception_name table.name) name ≡ b → option_map_or (is_default_exception table.name) o false ≡ true → b ≡ false
  another_by table None b f e h = absurd (false≢true h)
  another_by table (Some q) false f e h = refl
  another_by table (Some q) true f e h =
      let same : exception_name table.name ≡ name = same_name (exception_name table.name) name e in
      let found : find_queue t name ≡ Some q = ap (find_queue t) (sym same) ∙ f in
      let named : q.name ≡ name = same_name q.name name (found_is (λ x. bytes_eq x.name name) t.queues q found) in
      let owner : q.table ≡ table.name = same_name q.table table.name (and_parts (is_exception q.kind) (bytes_eq q.table table.name) h).1 in
      let further : is_further q ≡ true = sym (ap (λ o. option_map_or is_further o true) found) ∙ k in
      let its : bytes_eq q.name (exception_name q.table) ≡ true = ap (λ n. bytes_eq n (exception_name q.table)) named ∙ ap (λ n. bytes_eq name (exception_name n)) owner ∙ ap (bytes_eq name) same ∙ own_name name in
      absurd (true≢false (sym its ∙ not-true (bytes_eq q.name (exception_name q.table)) further))

  another : (table : TableRow) → is_valid_table t table ≡ true → goes (exception_name table.name) ≡ false
  another table h =
      let p = and_parts (nat_le (length table.fields) FIELD_LIMIT) (option_map_or (is_default_exception table.name) (find_queue t (exception_name table.name)) false) h in
      another_by table (find_queue t (exception_name table.name)) (bytes_eq (exception_name table.name) name) refl refl p.1

  tables_without : (m : TableRow → Bool) → list_all (λ r. m r || is_valid_table t r) t.tables ≡ true → list_all (λ r. m r || is_valid_table (drop_queue t name) r) t.tables ≡ true
  tables_without m h = all_still m (is_valid_table t) (is_valid_table (drop_queue t name)) (λ r e. table_stays goes none_goes t (drop_queue t name) without r (another r e) e) t.tables h

  queues_without : (m : QueueRow → Bool) → list_all (λ q. m q || is_valid_queue t q) t.queues ≡ true → list_all (λ q. m q || is_valid_queue (drop_queue t name) q) (drop_queue t name).queues ≡ true
  queues_without m h =
      all_removed_first (λ q. m q || is_valid_queue (drop_queue t name) q) (λ q. bytes_eq q.name name) t.queues
      (all_still m (is_valid_queue t) (is_valid_queue (drop_queue t name)) (λ q e. queue_stays goes none_goes t (drop_queue t name) without q refl e) t.queues h)

  subs_without : (m : SubRow → Bool) → list_all (λ s. m s || is_right_sub t s) t.subs ≡ true → list_all (λ s. m s || is_right_sub (drop_queue t name) s) (drop_queue t name).subs ≡ true
  subs_without m h =
      all_filter (λ s. not (bytes_eq s.queue name)) (λ s. m s || is_right_sub t s) (λ s. m s || is_right_sub (drop_queue t name) s)
      (λ s d e. still m (is_right_sub t) (is_right_sub (drop_queue t name)) s (λ g. sub_stays goes none_goes t (drop_queue t name) without s (not-true (bytes_eq s.queue name) d) g) e) t.subs h

  schedules_without : (m : ScheduleRow → Bool) → list_all (λ s. m s || is_valid_schedule t s) t.schedules ≡ true → list_all (λ s. m s || is_valid_schedule (drop_queue t name) s) (drop_queue t name).schedules ≡ true
  schedules_without m h =
      all_filter (λ s. not (bytes_eq s.queue name)) (λ s. m s || is_valid_schedule t s) (λ s. m s || is_valid_schedule (drop_queue t name) s)
      (λ s d e. still m (is_valid_schedule t) (is_valid_schedule (drop_queue t name)) s (λ g. schedule_stays goes none_goes t (drop_queue t name) without s (not-true (bytes_eq s.queue name) d) g) e) t.schedules h

  messages_without : (m : MsgRow → Bool) → list_all (λ r. m r || is_valid_message t r) t.messages ≡ true → list_all (λ r. m r || is_valid_message (drop_queue t name) r) (drop_queue t name).messages ≡ true
  messages_without m h =
      all_filter (λ r. not (bytes_eq r.queue name)) (λ r. m r || is_valid_message t r) (λ r. m r || is_valid_message (drop_queue t name) r)
      (λ r d e. still m (is_valid_message t) (is_valid_message (drop_queue t name)) r (λ g. message_stays goes none_goes t (drop_queue t name) without r (not-true (bytes_eq r.queue name) d) g) e) t.messages h

-- ---- a queue table goes, and its default exception queue

both_named : (name a b : List ℕ) → bytes_eq a name ≡ true → bytes_eq b name ≡ true → bytes_eq a b ≡ true
both_named name a b e g = join_names a b name e g

exception_apart_by : (a b : List ℕ) (c : Bool) → bytes_eq (exception_name a) (exception_name b) ≡ c → bytes_eq a b ≡ false → c ≡ false
exception_apart_by a b true e h =
    let same : a ≡ b = append_cancel_right a b (codes "_e") (same_name (exception_name a) (exception_name b) e) in absurd (false≢true (sym h ∙ ap (bytes_eq a) (sym same) ∙ own_name a))
exception_apart_by a b false e h = refl

exception_apart : (a b : List ℕ) → bytes_eq a b ≡ false → bytes_eq (exception_name a) (exception_name b) ≡ false
exception_apart a b h = exception_apart_by a b (bytes_eq (exception_name a) (exception_name b)) refl h

not_of_table : (a b : Bool) → not (a && not b) ≡ true → b ≡ false → a ≡ false
not_of_table true true h e = absurd (true≢false e)
not_of_table true false h e = absurd (false≢true h)
not_of_table false b h e = refl

subscribers_normal : (q : QueueRow) (o : Option TableRow) → has_subscribers q o ≡ true → is_exception q.kind ≡ false
subscribers_normal q None h = absurd (false≢true h)
subscribers_normal q (Some table) h = not-true (is_exception q.kind) (and_parts table.multi (not (is_exception q.kind)) h).1

module _ (t : Tables) (name : List ℕ) (k : is_local t (changes.DropTable name) ≡ true) where
  abbrev left : Tables
  left = drop_table t name

  abbrev lost : List ℕ → Bool
  lost other = bytes_eq other (exception_name name)

  abbrev gone : List ℕ → Bool
  gone other = bytes_eq other name

  alone : (option_map_or (λ q. is_exception q.kind) (find_queue t (exception_name name)) true ≡ true) × (not (is_table_used t name) ≡ true)
  alone = and_parts (option_map_or (λ q. is_exception q.kind) (find_queue t (exception_name name)) true) (not (is_table_used t name)) k

  unused : (list_any (is_further_queue name) t.queues ≡ false) × (list_any (λ m. bytes_eq m.queue (exception_name name)) t.messages ≡ false)
  unused = or_parts (list_any (is_further_queue name) t.queues) (list_any (λ m. bytes_eq m.queue (exception_name name)) t.messages) (not-true (is_table_used t name) alone.1)

  further_none : list_all (λ q. not (is_further_queue name q)) t.queues ≡ true
  further_none = all_not (is_further_queue name) t.queues unused.0

  messages_none : list_all (λ m. not (bytes_eq m.queue (exception_name name))) t.messages ≡ true
  messages_none = all_not (λ m. bytes_eq m.queue (exception_name name)) t.messages unused.1

  table_kept : (other : List ℕ) → bytes_eq other name ≡ false → find_table left other ≡ find_table t other
  table_kept other d = find_other_removed (λ x. bytes_eq x.name name) (λ x. bytes_eq x.name other) (λ y e. ap (λ n. bytes_eq n other) (same_name y.name name e) ∙ turned other name d) t.tables

  queue_kept : (other : List ℕ) → bytes_eq other (exception_name name) ≡ false → find_queue left other ≡ find_queue t other
  queue_kept other d =
      find_other_removed (λ x. bytes_eq x.name (exception_name name)) (λ x. bytes_eq x.name other) (λ y e. ap (λ n. bytes_eq n other) (same_name y.name (exception_name name) e) ∙ turned other (exception_name name) d) t.queues

  -- a queue of another name belongs to another table
  its_table : (other : List ℕ) (q : QueueRow) → bytes_eq other (exception_name name) ≡ false → find_queue t other ≡ Some q → bytes_eq q.table name ≡ false
  its_table other q d f =
      let named : q.name ≡ other = same_name q.name other (found_is (λ x. bytes_eq x.name other) t.queues q f) in
      not_of_table (bytes_eq q.table name) (bytes_eq q.name (exception_name name)) (all_found (λ x. not (is_further_queue name x)) (λ x. bytes_eq x.name other) t.queues q further_none f)
      (ap (λ n. bytes_eq n (exception_name name)) named ∙ d)

  behind : Follows lost gone t left
  behind = record {
    tables = λ other r d f. table_kept other d ∙ f;
    queues = λ other q d f. stands_still t left other q (queue_kept other d ∙ f) (λ r e. table_kept q.table (its_table other q d f) ∙ e);
    next = omega arith;
    transaction = omega arith;
    latest = omega arith;
  }

  -- right subscribers and schedules belong to other queues
  normal_by : (queue : List ℕ) (b : Bool) (o : Option QueueRow) → find_queue t queue ≡ o → bytes_eq queue (exception_name name) ≡ b → has_subscribers_in t o ≡ true → b ≡ false
  normal_by queue b None f e h = absurd (false≢true h)
  normal_by queue false (Some q) f e h = refl
  normal_by queue true (Some q) f e h =
      let found : find_queue t (exception_name name) ≡ Some q = ap (find_queue t) (sym (same_name queue (exception_name name) e)) ∙ f in
      let exception : is_exception q.kind ≡ true = sym (ap (λ o. option_map_or (λ x. is_exception x.kind) o true) found) ∙ alone.0 in
      absurd (true≢false (sym exception ∙ subscribers_normal q (find_table t q.table) h))

  normal : (queue : List ℕ) → takes_subscribers t queue ≡ true → lost queue ≡ false
  normal queue h = normal_by queue (bytes_eq queue (exception_name name)) (find_queue t queue) refl refl h

  sub_apart : (s : SubRow) → is_right_sub t s ≡ true → lost s.queue ≡ false
  sub_apart s h = normal s.queue (and_parts (takes_subscribers t s.queue) (if_some (is_right_rule (table_of t s.queue)) s.rule) h).0

  schedule_apart : (s : ScheduleRow) → is_valid_schedule t s ≡ true → lost s.queue ≡ false
  schedule_apart s h = normal s.queue (six_parts (takes_subscribers t s.queue) (has_right_failures s) (nat_le s.start MOMENT_LIMIT) (if_some is_span s.duration) (if_some is_span s.period) (is_time s.latency) h).0

  subs_behind : (m : SubRow → Bool) → list_all (λ s. m s || is_right_sub t s) t.subs ≡ true → list_all (λ s. m s || is_right_sub left s) t.subs ≡ true
  subs_behind m h = all_still m (is_right_sub t) (is_right_sub left) (λ s e. sub_stays lost gone t left behind s (sub_apart s e) e) t.subs h

  schedules_behind : (m : ScheduleRow → Bool) → list_all (λ s. m s || is_valid_schedule t s) t.schedules ≡ true → list_all (λ s. m s || is_valid_schedule left s) t.schedules ≡ true
  schedules_behind m h = all_still m (is_valid_schedule t) (is_valid_schedule left) (λ s e. schedule_stays lost gone t left behind s (schedule_apart s e) e) t.schedules h

  messages_behind : (m : MsgRow → Bool) → list_all (λ r. m r || is_valid_message t r) t.messages ≡ true → list_all (λ r. m r || is_valid_message left r) t.messages ≡ true
  messages_behind m h =
      all_both (λ r. m r || is_valid_message t r) (λ r. not (bytes_eq r.queue (exception_name name))) (λ r. m r || is_valid_message left r)
      (λ r e d. still m (is_valid_message t) (is_valid_message left) r (λ g. message_stays lost gone t left behind r (not-true (bytes_eq r.queue (exception_name name)) d) g) e) t.messages h messages_none

  module _ (apart : StandApart t) where
    tables_left : list_all (λ x. not (bytes_eq x.name name)) left.tables ≡ true
    tables_left = all_gone is_same_table (λ x. bytes_eq x.name name) (λ x y e g. both_named name x.name y.name e g) t.tables apart.tables

    queues_left : list_all (λ x. not (bytes_eq x.name (exception_name name))) left.queues ≡ true
    queues_left = all_gone is_same_queue (λ x. bytes_eq x.name (exception_name name)) (λ x y e g. both_named (exception_name name) x.name y.name e g) t.queues apart.queues

    table_of_left : (q : QueueRow) → not (is_further_queue name q) ≡ true → not (bytes_eq q.name (exception_name name)) ≡ true → not (bytes_eq q.table name) ≡ true
    table_of_left q h g = not_from_false (bytes_eq q.table name) (not_of_table (bytes_eq q.table name) (bytes_eq q.name (exception_name name)) h (not-true (bytes_eq q.name (exception_name name)) g))

    others_left : list_all (λ x. not (bytes_eq x.table name)) left.queues ≡ true
    others_left =
        all_both (λ x. not (is_further_queue name x)) (λ x. not (bytes_eq x.name (exception_name name))) (λ x. not (bytes_eq x.table name)) table_of_left left.queues
        (all_removed_first (λ x. not (is_further_queue name x)) (λ x. bytes_eq x.name (exception_name name)) t.queues further_none) queues_left

    tables_behind : (m : TableRow → Bool) → list_all (λ r. m r || is_valid_table t r) t.tables ≡ true → list_all (λ r. m r || is_valid_table left r) left.tables ≡ true
    tables_behind m h =
        all_both (λ r. m r || is_valid_table t r) (λ x. not (bytes_eq x.name name)) (λ r. m r || is_valid_table left r)
        (λ r e d. still m (is_valid_table t) (is_valid_table left) r (λ g. table_stays lost gone t left behind r (exception_apart r.name name (not-true (bytes_eq r.name name) d)) g) e) left.tables
        (all_removed_first (λ r. m r || is_valid_table t r) (λ x. bytes_eq x.name name) t.tables h) tables_left

    queues_behind : (m : QueueRow → Bool) → list_all (λ q. m q || is_valid_queue t q) t.queues ≡ true → list_all (λ q. m q || is_valid_queue left q) left.queues ≡ true
    queues_behind m h =
        all_both (λ q. m q || is_valid_queue t q) (λ x. not (bytes_eq x.table name)) (λ q. m q || is_valid_queue left q)
        (λ q e d. still m (is_valid_queue t) (is_valid_queue left) q (λ g. queue_stays lost gone t left behind q (not-true (bytes_eq q.table name) d) g) e) left.queues
        (all_removed_first (λ q. m q || is_valid_queue t q) (λ x. bytes_eq x.name (exception_name name)) t.queues h) others_left

-- ---- any change

module _ (t : Tables) (c : Change) (k : is_local t c ≡ true) (g : grows c ≡ true) where
  abbrev then : Tables
  then = after_change t c

  grown : Follows none_goes none_goes t then
  grown = follows_grown t then (grown_one t c k g)

  tables_grown : (m : TableRow → Bool) → ((r : TableRow) → marks_table c r ≡ true → m r ≡ true) → list_all (λ r. m r || is_valid_table t r) t.tables ≡ true → list_all (λ r. m r || is_valid_table then r) then.tables ≡ true
  tables_grown m e h =
      tables_one (λ r. m r || is_valid_table then r) t c g (λ r f. or_left (m r) (is_valid_table then r) (e r f))
      (all_still m (is_valid_table t) (is_valid_table then) (λ r f. table_stays none_goes none_goes t then grown r refl f) t.tables h)

  queues_grown : (m : QueueRow → Bool) → ((q : QueueRow) → marks_queue c q ≡ true → m q ≡ true) → list_all (λ q. m q || is_valid_queue t q) t.queues ≡ true → list_all (λ q. m q || is_valid_queue then q) then.queues ≡ true
  queues_grown m e h =
      queues_one (λ q. m q || is_valid_queue then q) t c g (λ q f. or_left (m q) (is_valid_queue then q) (e q f))
      (all_still m (is_valid_queue t) (is_valid_queue then) (λ q f. queue_stays none_goes none_goes t then grown q refl f) t.queues h)

  subs_grown : (m : SubRow → Bool) → ((s : SubRow) → marks_sub c s ≡ true → m s ≡ true) → list_all (λ s. m s || is_right_sub t s) t.subs ≡ true → list_all (λ s. m s || is_right_sub then s) then.subs ≡ true
  subs_grown m e h =
      subs_one (λ s. m s || is_right_sub then s) t c g (λ s f. or_left (m s) (is_right_sub then s) (e s f))
      (all_still m (is_right_sub t) (is_right_sub then) (λ s f. sub_stays none_goes none_goes t then grown s refl f) t.subs h)

  schedules_grown : (m : ScheduleRow → Bool) → ((s : ScheduleRow) → marks_schedule c s ≡ true → m s ≡ true) → list_all (λ s. m s || is_valid_schedule t s) t.schedules ≡ true
      → list_all (λ s. m s || is_valid_schedule then s) then.schedules ≡ true
  schedules_grown m e h =
      schedules_one (λ s. m s || is_valid_schedule then s) t c g (λ s f. or_left (m s) (is_valid_schedule then s) (e s f))
      (all_still m (is_valid_schedule t) (is_valid_schedule then) (λ s f. schedule_stays none_goes none_goes t then grown s refl f) t.schedules h)

  messages_grown : (m : MsgRow → Bool) → ((r : MsgRow) → marks_message c r ≡ true → m r ≡ true) → list_all (λ r. m r || is_valid_message t r) t.messages ≡ true → list_all (λ r. m r || is_valid_message then r) then.messages ≡ true
  messages_grown m e h =
      messages_one (λ r. m r || is_valid_message then r) t c g (λ r f. or_left (m r) (is_valid_message then r) (e r f))
      (all_still m (is_valid_message t) (is_valid_message then) (λ r f. message_stays none_goes none_goes t then grown r refl f) t.messages h)

pub tables_next : (m : TableRow → Bool) (t : Tables) (c : Change) → is_local t c ≡ true → StandApart t → ((r : TableRow) → marks_table c r ≡ true → m r ≡ true) → list_all (λ r. m r || is_valid_table t r) t.tables ≡ true
    → list_all (λ r. m r || is_valid_table (after_change t c) r) (after_change t c).tables ≡ true
tables_next m t (changes.DropTable name) k a e h = if_both (λ u. list_all (λ r. m r || is_valid_table u r) u.tables ≡ true) (drop_table t name) t (tables_behind t name k a m h) h (is_some (find_table t name))
tables_next m t (changes.DropQueue name) k a e h = if_both (λ u. list_all (λ r. m r || is_valid_table u r) u.tables ≡ true) (drop_queue t name) t (tables_without t name k m h) h (is_some (find_queue t name))
tables_next m t (changes.Counters next transaction latest) k a e h = absurd (false≢true k)
tables_next m t c k a e h = tables_grown t c k refl m e h

pub queues_next : (m : QueueRow → Bool) (t : Tables) (c : Change) → is_local t c ≡ true → StandApart t → ((q : QueueRow) → marks_queue c q ≡ true → m q ≡ true) → list_all (λ q. m q || is_valid_queue t q) t.queues ≡ true
    → list_all (λ q. m q || is_valid_queue (after_change t c) q) (after_change t c).queues ≡ true
queues_next m t (changes.DropTable name) k a e h = if_both (λ u. list_all (λ q. m q || is_valid_queue u q) u.queues ≡ true) (drop_table t name) t (queues_behind t name k a m h) h (is_some (find_table t name))
queues_next m t (changes.DropQueue name) k a e h = if_both (λ u. list_all (λ q. m q || is_valid_queue u q) u.queues ≡ true) (drop_queue t name) t (queues_without t name k m h) h (is_some (find_queue t name))
queues_next m t (changes.Counters next transaction latest) k a e h = absurd (false≢true k)
queues_next m t c k a e h = queues_grown t c k refl m e h

pub subs_next : (m : SubRow → Bool) (t : Tables) (c : Change) → is_local t c ≡ true → StandApart t → ((s : SubRow) → marks_sub c s ≡ true → m s ≡ true) → list_all (λ s. m s || is_right_sub t s) t.subs ≡ true
    → list_all (λ s. m s || is_right_sub (after_change t c) s) (after_change t c).subs ≡ true
subs_next m t (changes.DropTable name) k a e h = if_both (λ u. list_all (λ s. m s || is_right_sub u s) u.subs ≡ true) (drop_table t name) t (subs_behind t name k m h) h (is_some (find_table t name))
subs_next m t (changes.DropQueue name) k a e h = if_both (λ u. list_all (λ s. m s || is_right_sub u s) u.subs ≡ true) (drop_queue t name) t (subs_without t name k m h) h (is_some (find_queue t name))
subs_next m t (changes.Counters next transaction latest) k a e h = absurd (false≢true k)
subs_next m t c k a e h = subs_grown t c k refl m e h

pub schedules_next : (m : ScheduleRow → Bool) (t : Tables) (c : Change) → is_local t c ≡ true → StandApart t → ((s : ScheduleRow) → marks_schedule c s ≡ true → m s ≡ true) → list_all (λ s. m s || is_valid_schedule t s) t.schedules ≡ true
    → list_all (λ s. m s || is_valid_schedule (after_change t c) s) (after_change t c).schedules ≡ true
schedules_next m t (changes.DropTable name) k a e h = if_both (λ u. list_all (λ s. m s || is_valid_schedule u s) u.schedules ≡ true) (drop_table t name) t (schedules_behind t name k m h) h (is_some (find_table t name))
schedules_next m t (changes.DropQueue name) k a e h = if_both (λ u. list_all (λ s. m s || is_valid_schedule u s) u.schedules ≡ true) (drop_queue t name) t (schedules_without t name k m h) h (is_some (find_queue t name))
schedules_next m t (changes.Counters next transaction latest) k a e h = absurd (false≢true k)
schedules_next m t c k a e h = schedules_grown t c k refl m e h

pub messages_next : (m : MsgRow → Bool) (t : Tables) (c : Change) → is_local t c ≡ true → StandApart t → ((r : MsgRow) → marks_message c r ≡ true → m r ≡ true) → list_all (λ r. m r || is_valid_message t r) t.messages ≡ true
    → list_all (λ r. m r || is_valid_message (after_change t c) r) (after_change t c).messages ≡ true
messages_next m t (changes.DropTable name) k a e h = if_both (λ u. list_all (λ r. m r || is_valid_message u r) u.messages ≡ true) (drop_table t name) t (messages_behind t name k m h) h (is_some (find_table t name))
messages_next m t (changes.DropQueue name) k a e h = if_both (λ u. list_all (λ r. m r || is_valid_message u r) u.messages ≡ true) (drop_queue t name) t (messages_without t name k m h) h (is_some (find_queue t name))
messages_next m t (changes.Counters next transaction latest) k a e h = absurd (false≢true k)
messages_next m t c k a e h = messages_grown t c k refl m e h
