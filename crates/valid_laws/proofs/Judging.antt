-- What an administrative statement changes, where it is not refused, fits.
use Rattle.std.proofs.Common.{◌≡◌, ◌≤◌, ℕ, List, [], ◌∷◌, Bool, true, false, not, length, refl, sym, ap, ◌∙◌, subst, arith, Option, Some, None, Result, Ok, Err, ◌&&◌, ◌||◌}
use Rattle.std.specs.Prelude.{nat_le, is_some, is_none, unwrap_or, option_and_then, pos, neg_ℤ, int_le, if◌then◌else◌}
use Rattle.std.specs.List.{list_all}
use Rattle.std.specs.Str.{bytes_eq}
use Rattle.std.proofs.lemmas.Bool.{cond_both, and_parts, and_from, or_parts, leb-true, leb-false, le-leb, not-false, false≢true, true≢false}
use Rattle.std.proofs.lemmas.Option.{none-some}
use Rattle.aq_base.specs.declared.limits.TheConstants.{MAX_RETRIES_LIMIT, MOMENT_LIMIT, SUBSCRIBER_LIMIT}
use Rattle.payload_records.specs.Name.{is_name}
use Rattle.payload_records.specs.declared.TheConstants.{FIELD_LIMIT}
use Rattle.payload_records.specs.declared.kind.Field.{Field}
use Rattle.place_keys.specs.declared.sort_list.Column.{Column}
use Rattle.rule_conditions.specs.Check.{cond_fault}
use Rattle.rule_conditions.specs.Reading.{condition_of}
use Rattle.rule_conditions.specs.declared.condition.Cond.{Cond}
use Rattle.rule_conditions.specs.declared.fault.CondFault.{CondFault}
use Rattle.queue_rows.specs.Rows.{find_table, find_queue, find_sub, find_schedule, is_sub, is_schedule, exception_name}
use Rattle.queue_rows.specs.Settling.{is_exception, named_by, settled}
use Rattle.queue_rows.specs.Catalog as c
use Rattle.queue_rows.specs.Catalog.{Judged, judged, is_table_used, is_queue_used, new_queue, started, stopped, has_subscribers, fresh_schedule}
use Rattle.queue_rows.specs.Conditions.{optional_condition, some_condition, checked, unless_fault}
use Rattle.queue_rows.specs.Recipients.{has_consumers, subscribers_of}
use Rattle.queue_rows.specs.Within.{is_within, is_admin_within, is_table_name, are_fields, if_some, is_time, is_span}
use Rattle.queue_rows.specs.Valid.{is_valid, is_valid_queue, has_right_lowest, takes_subscribers, has_subscribers_in, is_right_rule, is_valid_schedule, has_right_failures}
use Rattle.queue_rows.specs.Fits.{fits}
use Rattle.queue_rows.specs.declared.tables.Tables.{Tables}
use Rattle.queue_rows.specs.declared.rows.TableRow.{TableRow}
use Rattle.queue_rows.specs.declared.rows.QueueRow.{QueueRow}
use Rattle.queue_rows.specs.declared.rows.QueueKind.{QueueKind}
use Rattle.queue_rows.specs.declared.rows.SubRow.{SubRow}
use Rattle.queue_rows.specs.declared.rows.ScheduleRow.{ScheduleRow}
use Rattle.queue_rows.specs.declared.change.Change.{Change}
use Rattle.queue_rows.specs.declared.change.Change.TheVariants as changes
use Rattle.queue_rows.specs.declared.reply.ConditionFault.{ConditionFault}
use Rattle.queue_rows.specs.declared.statement.Admin.{Admin}
use Rattle.queue_rows.specs.declared.statement.Admin.TheVariants as asks
use Rattle.queue_rows.specs.declared.statement.Statement.TheVariants as statements
use Rattle.row_laws.proofs.Finding.{found_is}
use Rattle.row_laws.proofs.Latest.{at_latest}
use Rattle.valid_laws.specs.ValidLaws.{Keeps}
use Rattle.valid_laws.proofs.Parts.{parts_of, all_found, six_parts, six_from}
use Rattle.valid_laws.proofs.Completing.{depth_within}
use Rattle.valid_laws.proofs.Cataloguing.{same_name}
use Rattle.valid_laws.proofs.Making.{one_change_fits, new_table_fits}
use Rattle.valid_laws.proofs.Dropping.{subscriber_removal_fits}

-- ---- what is and is not found

pub none_of : {X : Type 0} (o : Option X) → is_some o ≡ false → o ≡ None
none_of None e = refl
none_of (Some x) e = absurd (true≢false e)

pub some_of : {X : Type 0} (o : Option X) → is_none o ≡ false → (x : X) × (o ≡ Some x)
some_of None e = absurd (true≢false e)
some_of (Some x) e = (x, refl)

same_if : {X : Type 0} (o : Option X) (x y : X) → o ≡ Some x → o ≡ Some y → x ≡ y
same_if o x y e g = let h : Some x ≡ Some y = sym e ∙ g in cc

and_false : (b : Bool) → not (b && false) ≡ true
and_false true = refl
and_false false = refl

-- an exception queue that is started takes no enqueues
starts_right : (x a : Bool) (o : Option Bool) → not (x && a) ≡ true → (x && unwrap_or o false) ≡ false → not (x && (a || unwrap_or o (not x))) ≡ true
starts_right false a o h e = refl
starts_right true true o h e = absurd (false≢true h)
starts_right true false None h e = refl
starts_right true false (Some true) h e = absurd (true≢false e)
starts_right true false (Some false) h e = refl

stops_right : (x a b : Bool) → not (x && a) ≡ true → not (x && (a && b)) ≡ true
stops_right false a b h = refl
stops_right true true b h = absurd (false≢true h)
stops_right true false b h = refl

-- ---- a condition that is read is right

abbrev IsRightFor : List Field → Result (Option Cond) ConditionFault → Type 0
IsRightFor fields (Err fault) = Unit {0}
IsRightFor fields (Ok rule) = if_some (λ x. is_none (cond_fault fields x)) rule ≡ true

unless_right : (fields : List Field) (o : Option CondFault) (x : Cond) → cond_fault fields x ≡ o → IsRightFor fields (some_condition (unless_fault o x))
unless_right fields None x e = ap is_none e
unless_right fields (Some fault) x e = tt

checked_right : (fields : List Field) (r : Result Cond ℕ) → IsRightFor fields (some_condition (checked fields r))
checked_right fields (Err at) = tt
checked_right fields (Ok x) = unless_right fields (cond_fault fields x) x refl

condition_right : (fields : List Field) (text : Option (List ℕ)) → IsRightFor fields (optional_condition fields text)
unfolding optional_condition
condition_right fields None = refl
condition_right fields (Some text) = checked_right fields (condition_of text)

-- ---- what is judged

abbrev IsFit : Tables → ℕ → Judged → Type 0
IsFit t moment (Err reply) = Unit {0}
IsFit t moment (Ok cs) = fits t (record { moment = moment; changes = settled t cs }) ≡ true

module _ (t : Tables) (moment : ℕ) (v : is_valid t ≡ true) (le : t.latest ≤ moment) (top : moment ≤ MOMENT_LIMIT) where
  abbrev later : Tables
  later = at_latest moment t

  fit_if : (b : Bool) (x y : Judged) → (b ≡ true → IsFit t moment x) → (b ≡ false → IsFit t moment y) → IsFit t moment (if b then x else y)
  fit_if b x y p q = cond_both b x y (IsFit t moment) p q

  one : (change : Change) → Keeps (at_latest moment t) change → named_by change ≡ None → fits t (record { moment = moment; changes = settled t (change ∷ []) }) ≡ true
  one change k e = one_change_fits t moment change v le top k e

  -- ---- tables and queues

  queue_parts : (q : QueueRow) → is_valid_queue t q ≡ true
      → (is_some (find_table t q.table) ≡ true) × (not (is_exception q.kind && q.enqueue) ≡ true) × (nat_le q.max_retries MAX_RETRIES_LIMIT ≡ true) × (is_time q.retry_delay ≡ true) × (is_time q.retention ≡ true) × (has_right_lowest t q ≡ true)
  queue_parts q h = six_parts (is_some (find_table t q.table)) (not (is_exception q.kind && q.enqueue)) (nat_le q.max_retries MAX_RETRIES_LIMIT) (is_time q.retry_delay) (is_time q.retention) (has_right_lowest t q) h

  valid_of : (name : List ℕ) (q : QueueRow) → find_queue t name ≡ Some q → is_valid_queue t q ≡ true
  valid_of name q f = all_found (is_valid_queue t) (λ x. bytes_eq x.name name) t.queues q (parts_of t v).queues f

  own : (name : List ℕ) (q : QueueRow) → find_queue t name ≡ Some q → find_queue t q.name ≡ Some q
  own name q f = ap (find_queue t) (same_name q.name name (found_is (λ x. bytes_eq x.name name) t.queues q f)) ∙ f

  create_table : (table : List ℕ) (fields : List Field) (sort : List Column) (multi grouped : Bool) → is_admin_within (asks.CreateTable table fields sort multi grouped) ≡ true
      → IsFit t moment (judged t (asks.CreateTable table fields sort multi grouped) moment)
  unfolding judged
  create_table table fields sort multi grouped w =
      fit_if (is_some (find_table t table) || is_some (find_queue t (exception_name table))) _ _ (λ _. tt) (λ e.
      let p = or_parts (is_some (find_table t table)) (is_some (find_queue t (exception_name table))) e in
      let few = and_parts (nat_le (length fields) FIELD_LIMIT) (list_all (λ f. is_name f.name) fields) (and_parts (is_table_name table) (are_fields fields) w).1 in
      new_table_fits t (record { name = table; fields = fields; columns = sort; multi = multi; grouped = grouped }) moment v le top
      (record { no_table = none_of (find_table t table) p.0; no_queue = none_of (find_queue t (exception_name table)) p.1; few = leb-true (length fields) FIELD_LIMIT few.0 }))

  drop_table : (table : List ℕ) → IsFit t moment (judged t (asks.DropTable table) moment)
  unfolding judged
  drop_table table =
      fit_if (is_none (find_table t table)) _ _ (λ _. tt) (λ there.
      fit_if (is_table_used t table) _ _ (λ _. tt) (λ unused.
      let x = some_of (find_table t table) there in one (changes.DropTable table) (record { table = x.0; found = x.1; unused = unused }) refl))

  create_queue : (queue table : List ℕ) (kind : QueueKind) (max_retries retry_delay retention : ℕ) → is_admin_within (asks.CreateQueue queue table kind max_retries retry_delay retention) ≡ true
      → IsFit t moment (judged t (asks.CreateQueue queue table kind max_retries retry_delay retention) moment)
  unfolding judged
  create_queue queue table kind max_retries retry_delay retention w =
      fit_if (is_none (find_table t table)) _ _ (λ _. tt) (λ there.
      fit_if (is_some (find_queue t queue)) _ _ (λ _. tt) (λ new.
      let x = some_of (find_table t table) there in
      let none = none_of (find_queue t queue) new in
      let p2 = and_parts (is_name queue && is_table_name table && nat_le max_retries MAX_RETRIES_LIMIT && is_time retry_delay) (is_time retention) w in
      let p1 = and_parts (is_name queue && is_table_name table && nat_le max_retries MAX_RETRIES_LIMIT) (is_time retry_delay) p2.0 in
      let p0 = and_parts (is_name queue && is_table_name table) (nat_le max_retries MAX_RETRIES_LIMIT) p1.0 in
      one (changes.PutQueue (new_queue queue table kind max_retries retry_delay retention)) (record {
        valid = six_from (is_some (find_table t table)) (not (is_exception kind && false)) (nat_le max_retries MAX_RETRIES_LIMIT) (is_time retry_delay) (is_time retention) (int_le (pos 0) (pos 0) && int_le (neg_ℤ (pos t.next)) (pos 0))
            (ap is_some x.1) (and_false (is_exception kind)) p0.1 p1.1 p2.1 (and_from (int_le (pos 0) (pos 0)) (int_le (neg_ℤ (pos t.next)) (pos 0)) refl (depth_within t.next (pos 0) (omega arith)));
        table = λ old f. absurd (none-some old (sym none ∙ f));
        kind = λ old f. absurd (none-some old (sym none ∙ f));
        retries = λ old f. absurd (none-some old (sym none ∙ f));
        lowest = λ old f. absurd (none-some old (sym none ∙ f));
      }) refl))

  drop_queue_by : (name : List ℕ) (o : Option QueueRow) → find_queue t name ≡ o → IsFit t moment (c.drop_queue o)
  drop_queue_by name None f = tt
  drop_queue_by name (Some q) f =
      fit_if (is_queue_used q) _ _ (λ _. tt) (λ unused.
      one (changes.DropQueue q.name) (record { queue = q; found = own name q f; further = (or_parts (q.enqueue || q.dequeue) (bytes_eq q.name (exception_name q.table)) unused).1 }) refl)

  start_by : (name : List ℕ) (o : Option QueueRow) (enqueue : Option Bool) (dequeue : Bool) → find_queue t name ≡ o → IsFit t moment (c.start o enqueue dequeue)
  start_by name None enqueue dequeue f = tt
  start_by name (Some q) enqueue dequeue f =
      fit_if (is_exception q.kind && unwrap_or enqueue false) _ _ (λ _. tt) (λ right.
      let p = queue_parts q (valid_of name q f) in
      one (changes.PutQueue (started q enqueue dequeue)) (record {
        valid = six_from (is_some (find_table t q.table)) (not (is_exception q.kind && (q.enqueue || unwrap_or enqueue (not (is_exception q.kind))))) (nat_le q.max_retries MAX_RETRIES_LIMIT) (is_time q.retry_delay) (is_time q.retention) (has_right_lowest t q)
            p.0 (starts_right (is_exception q.kind) q.enqueue enqueue p.1 right) p.2 p.3 p.4 p.5;
        table = λ old g. ap (λ x. x.table) (same_if (find_queue t q.name) q old (own name q f) g);
        kind = λ old g. ap (λ x. x.kind) (same_if (find_queue t q.name) q old (own name q f) g);
        retries = λ old g. ap (λ x. x.max_retries) (same_if (find_queue t q.name) q old (own name q f) g);
        lowest = λ old g. ap (λ x. x.lowest) (same_if (find_queue t q.name) q old (own name q f) g);
      }) refl)

  stop_by : (name : List ℕ) (o : Option QueueRow) (enqueue dequeue : Bool) → find_queue t name ≡ o → IsFit t moment (c.stop o enqueue dequeue)
  stop_by name None enqueue dequeue f = tt
  stop_by name (Some q) enqueue dequeue f =
      let p = queue_parts q (valid_of name q f) in
      one (changes.PutQueue (stopped q enqueue dequeue)) (record {
        valid = six_from (is_some (find_table t q.table)) (not (is_exception q.kind && (q.enqueue && not enqueue))) (nat_le q.max_retries MAX_RETRIES_LIMIT) (is_time q.retry_delay) (is_time q.retention) (has_right_lowest t q)
            p.0 (stops_right (is_exception q.kind) q.enqueue (not enqueue) p.1) p.2 p.3 p.4 p.5;
        table = λ old g. ap (λ x. x.table) (same_if (find_queue t q.name) q old (own name q f) g);
        kind = λ old g. ap (λ x. x.kind) (same_if (find_queue t q.name) q old (own name q f) g);
        retries = λ old g. ap (λ x. x.max_retries) (same_if (find_queue t q.name) q old (own name q f) g);
        lowest = λ old g. ap (λ x. x.lowest) (same_if (find_queue t q.name) q old (own name q f) g);
      }) refl

  -- ---- subscribers

  put_sub_by : (q : QueueRow) (table : TableRow) (name : List ℕ) (address : Option (List ℕ)) (r : Result (Option Cond) ConditionFault) → IsRightFor table.fields r → find_queue t q.name ≡ Some q → find_table t q.table ≡ Some table
      → has_consumers q table ≡ true → nat_le SUBSCRIBER_LIMIT (length (subscribers_of t q.name)) ≡ false → IsFit t moment (c.put_sub q.name name address r)
  put_sub_by q table name address (Err fault) right f g takes few = tt
  put_sub_by q table name address (Ok rule) right f g takes few =
      one (changes.PutSub (record { queue = q.name; name = name; address = address; rule = rule })) (record {
        takes = ap (has_subscribers_in t) f ∙ ap (has_subscribers q) g ∙ takes;
        room = leb-false SUBSCRIBER_LIMIT (length (subscribers_of t q.name)) few;
        rule = ap (λ o. if_some (is_right_rule o) rule) (ap (λ o. option_and_then (λ x. find_table t x.table) o) f ∙ g) ∙ right;
      }) refl

  add_sub_by : (q : QueueRow) (o : Option TableRow) (name : List ℕ) (address rule : Option (List ℕ)) → find_queue t q.name ≡ Some q → find_table t q.table ≡ o → IsFit t moment (c.add_sub t q o name address rule)
  add_sub_by q None name address rule f g = tt
  add_sub_by q (Some table) name address rule f g =
      fit_if (not (has_consumers q table)) _ _ (λ _. tt) (λ takes.
      fit_if (is_some (find_sub t q.name name)) _ _ (λ _. tt) (λ new.
      fit_if (nat_le SUBSCRIBER_LIMIT (length (subscribers_of t q.name))) _ _ (λ _. tt) (λ few.
      put_sub_by q table name address (optional_condition table.fields rule) (condition_right table.fields rule) f g (not-false (has_consumers q table) takes) few)))

  add_subscriber_by : (queue : List ℕ) (o : Option QueueRow) (name : List ℕ) (address rule : Option (List ℕ)) → find_queue t queue ≡ o → IsFit t moment (c.add_subscriber t o name address rule)
  add_subscriber_by queue None name address rule f = tt
  add_subscriber_by queue (Some q) name address rule f = add_sub_by q (find_table t q.table) name address rule (own queue q f) refl

  remove_sub_by : (queue name : List ℕ) (o : Option SubRow) → find_sub t queue name ≡ o → IsFit t moment (c.remove_sub t o moment)
  remove_sub_by queue name None f = tt
  remove_sub_by queue name (Some sub) f =
      let p = and_parts (bytes_eq sub.queue queue) (bytes_eq sub.name name) (found_is (is_sub queue name) t.subs sub f) in
      subscriber_removal_fits t sub moment v le top (ap (λ n. find_sub t n sub.name) (same_name sub.queue queue p.0) ∙ ap (find_sub t queue) (same_name sub.name name p.1) ∙ f)

  remove_subscriber_by : (o : Option QueueRow) (name : List ℕ) → IsFit t moment (c.remove_subscriber t o name moment)
  remove_subscriber_by None name = tt
  remove_subscriber_by (Some q) name = fit_if (not (has_subscribers q (find_table t q.table))) _ _ (λ _. tt) (λ _. remove_sub_by q.name name (find_sub t q.name name) refl)

  -- ---- schedules

  schedule_parts : (s : ScheduleRow) → is_valid_schedule t s ≡ true
      → (takes_subscribers t s.queue ≡ true) × (has_right_failures s ≡ true) × (nat_le s.start MOMENT_LIMIT ≡ true) × (if_some is_span s.duration ≡ true) × (if_some is_span s.period ≡ true) × (is_time s.latency ≡ true)
  schedule_parts s h = six_parts (takes_subscribers t s.queue) (has_right_failures s) (nat_le s.start MOMENT_LIMIT) (if_some is_span s.duration) (if_some is_span s.period) (is_time s.latency) h

  schedule_from : (s : ScheduleRow) → takes_subscribers t s.queue ≡ true → has_right_failures s ≡ true → nat_le s.start MOMENT_LIMIT ≡ true → if_some is_span s.duration ≡ true → if_some is_span s.period ≡ true → is_time s.latency ≡ true → is_valid_schedule t s ≡ true
  schedule_from s = six_from (takes_subscribers t s.queue) (has_right_failures s) (nat_le s.start MOMENT_LIMIT) (if_some is_span s.duration) (if_some is_span s.period) (is_time s.latency)

  starts_by : (start : Option ℕ) → if_some (λ n. nat_le n MOMENT_LIMIT) start ≡ true → nat_le (unwrap_or start moment) MOMENT_LIMIT ≡ true
  starts_by None h = le-leb moment MOMENT_LIMIT top
  starts_by (Some n) h = h

  put_schedule_by : (queue to : List ℕ) (start duration period : Option ℕ) (latency : ℕ) (o : Option QueueRow) → is_admin_within (asks.Schedule queue to start duration period latency) ≡ true → find_queue t queue ≡ o
      → IsFit t moment (c.put_schedule t o (record { queue = queue; to = to; enabled = true; start = unwrap_or start moment; duration = duration; period = period; latency = latency; failures = 0; next = 0 }))
  put_schedule_by queue to start duration period latency None w f = tt
  put_schedule_by queue to start duration period latency (Some q) w f =
      let row : ScheduleRow = record { queue = queue; to = to; enabled = true; start = unwrap_or start moment; duration = duration; period = period; latency = latency; failures = 0; next = 0 } in
      let p = six_parts (is_name queue) (is_name to) (if_some (λ n. nat_le n MOMENT_LIMIT) start) (if_some is_span duration) (if_some is_span period) (is_time latency) w in
      fit_if (not (has_subscribers q (find_table t q.table))) _ _ (λ _. tt) (λ takes.
      fit_if (is_some (find_schedule t queue to)) _ _ (λ _. tt) (λ _.
      one (changes.PutSchedule row) (schedule_from row (ap (has_subscribers_in t) f ∙ not-false (has_subscribers q (find_table t q.table)) takes) refl (starts_by start p.2) p.3 p.4 p.5) refl))

  valid_schedule : (queue to : List ℕ) (s : ScheduleRow) → find_schedule t queue to ≡ Some s → is_valid_schedule t s ≡ true
  valid_schedule queue to s f = all_found (is_valid_schedule t) (is_schedule queue to) t.schedules s (parts_of t v).schedules f

  drop_schedule_by : (queue to : List ℕ) (o : Option ScheduleRow) → find_schedule t queue to ≡ o → IsFit t moment (c.with_schedule (λ s. changes.DropSchedule s.queue s.to) o)
  drop_schedule_by queue to None f = tt
  drop_schedule_by queue to (Some s) f =
      let p = and_parts (bytes_eq s.queue queue) (bytes_eq s.to to) (found_is (is_schedule queue to) t.schedules s f) in
      one (changes.DropSchedule s.queue s.to) (ap is_some (ap (λ n. find_schedule t n s.to) (same_name s.queue queue p.0) ∙ ap (find_schedule t queue) (same_name s.to to p.1) ∙ f)) refl

  enable_by : (queue to : List ℕ) (o : Option ScheduleRow) → find_schedule t queue to ≡ o → IsFit t moment (c.with_schedule (λ s. changes.PutSchedule (fresh_schedule s)) o)
  enable_by queue to None f = tt
  enable_by queue to (Some s) f =
      let p = schedule_parts s (valid_schedule queue to s f) in one (changes.PutSchedule (fresh_schedule s)) (schedule_from (fresh_schedule s) p.0 refl p.2 p.3 p.4 p.5) refl

  fewer : (failures : ℕ) (enabled : Bool) → nat_le failures (if enabled then 15 else 16) ≡ true → nat_le failures 16 ≡ true
  fewer failures true h = let x = leb-true failures 15 h in le-leb failures 16 (omega (arith, x))
  fewer failures false h = h

  disable_by : (queue to : List ℕ) (o : Option ScheduleRow) → find_schedule t queue to ≡ o → IsFit t moment (c.with_schedule (λ s. changes.PutSchedule (record s { enabled = false })) o)
  disable_by queue to None f = tt
  disable_by queue to (Some s) f =
      let p = schedule_parts s (valid_schedule queue to s f) in
      one (changes.PutSchedule (record s { enabled = false })) (schedule_from (record s { enabled = false }) p.0 (fewer s.failures s.enabled p.1) p.2 p.3 p.4 p.5) refl

  schedule_changed : (queue to : List ℕ) (change : ScheduleRow → Change) → IsFit t moment (c.with_schedule change (find_schedule t queue to)) → IsFit t moment (c.change_schedule t queue to change)
  schedule_changed queue to change h = fit_if (is_none (find_queue t queue)) _ _ (λ _. tt) (λ _. h)

  -- ---- all of them

  judged_fit : (ask : Admin) → is_within (statements.Admin ask) ≡ true → IsFit t moment (judged t ask moment)
  unfolding judged is_within
  judged_fit (asks.CreateTable table fields sort multi grouped) w = create_table table fields sort multi grouped w
  judged_fit (asks.DropTable table) w = drop_table table
  judged_fit (asks.CreateQueue queue table kind max_retries retry_delay retention) w = create_queue queue table kind max_retries retry_delay retention w
  judged_fit (asks.DropQueue queue) w = drop_queue_by queue (find_queue t queue) refl
  judged_fit (asks.StartQueue queue enqueue dequeue) w = start_by queue (find_queue t queue) enqueue dequeue refl
  judged_fit (asks.StopQueue queue enqueue dequeue) w = stop_by queue (find_queue t queue) enqueue dequeue refl
  judged_fit (asks.AddSubscriber queue name address rule) w = add_subscriber_by queue (find_queue t queue) name address rule refl
  judged_fit (asks.RemoveSubscriber queue name) w = remove_subscriber_by (find_queue t queue) name
  judged_fit (asks.Schedule queue to start duration period latency) w = put_schedule_by queue to start duration period latency (find_queue t queue) w refl
  judged_fit (asks.Unschedule queue to) w = schedule_changed queue to (λ s. changes.DropSchedule s.queue s.to) (drop_schedule_by queue to (find_schedule t queue to) refl)
  judged_fit (asks.EnableSchedule queue to) w = schedule_changed queue to (λ s. changes.PutSchedule (fresh_schedule s)) (enable_by queue to (find_schedule t queue to) refl)
  judged_fit (asks.DisableSchedule queue to) w = schedule_changed queue to (λ s. changes.PutSchedule (record s { enabled = false })) (disable_by queue to (find_schedule t queue to) refl)

pub judged_fits : (t : Tables) (ask : Admin) (moment : ℕ) (cs : List Change) → is_valid t ≡ true → t.latest ≤ moment → moment ≤ MOMENT_LIMIT → is_within (statements.Admin ask) ≡ true → judged t ask moment ≡ Ok cs
    → fits t (record { moment = moment; changes = settled t cs }) ≡ true
judged_fits t ask moment cs v le top w e = subst (IsFit t moment) e (judged_fit t moment v le top ask w)
