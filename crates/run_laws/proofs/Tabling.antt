-- What is committed leaves the tables of the queues in which messages stand.
use Rattle.std.proofs.Common.{◌≡◌, ◌≤◌, ℕ, List, [], ◌∷◌, Bool, true, false, not, length, refl, sym, ap, ◌∙◌, subst, Option, Some, None, Result, Ok, Err, ◌==◌, ◌&&◌, ◌||◌}
use Rattle.std.specs.Prelude.{find, option_map, option_and_then, nat_le, is_some, is_none, unwrap_or, if◌then◌else◌}
use Rattle.std.specs.List.{list_any, list_all}
use Rattle.std.specs.Str.{bytes_eq}
use Rattle.std.proofs.lemmas.Bool.{cond_both, and_parts, or_parts, leb-true, not-true}
use Rattle.std.proofs.lemmas.Option.{none-some}
use Rattle.aq_base.specs.declared.limits.TheConstants.{MOMENT_LIMIT, SUBSCRIBER_LIMIT}
use Rattle.payload_records.specs.Name.{is_name}
use Rattle.payload_records.specs.declared.TheConstants.{FIELD_LIMIT}
use Rattle.payload_records.specs.declared.kind.Field.{Field}
use Rattle.place_keys.specs.declared.sort_list.Column.{Column}
use Rattle.rule_conditions.specs.declared.condition.Cond.{Cond}
use Rattle.queue_rows.specs.Rows.{find_message, find_table, find_queue, table_of, find_sub, find_schedule, is_sub, is_same_queue, exception_name}
use Rattle.queue_rows.specs.Tables.{after_change, after_all, after, drop_queue, drop_table}
use Rattle.queue_rows.specs.Settling.{is_exception, settled}
use Rattle.queue_rows.specs.Catalog as c
use Rattle.queue_rows.specs.Catalog.{Judged, judged, is_table_used, is_further_queue, is_queue_used, new_queue, started, stopped, has_subscribers, fresh_schedule, dropped_in}
use Rattle.queue_rows.specs.Conditions.{optional_condition}
use Rattle.queue_rows.specs.Recipients.{has_consumers, subscribers_of}
use Rattle.queue_rows.specs.World.{committed_tables}
use Rattle.queue_rows.specs.Within.{is_within, is_admin_within, is_table_name, are_fields}
use Rattle.queue_rows.specs.Valid.{is_valid, is_valid_message}
use Rattle.queue_rows.specs.declared.tables.Tables.{Tables}
use Rattle.queue_rows.specs.declared.rows.TableRow.{TableRow}
use Rattle.queue_rows.specs.declared.rows.QueueRow.{QueueRow}
use Rattle.queue_rows.specs.declared.rows.QueueKind.{QueueKind}
use Rattle.queue_rows.specs.declared.rows.SubRow.{SubRow}
use Rattle.queue_rows.specs.declared.rows.ScheduleRow.{ScheduleRow}
use Rattle.queue_rows.specs.declared.rows.MsgRow.{MsgRow}
use Rattle.queue_rows.specs.declared.change.Change.{Change}
use Rattle.queue_rows.specs.declared.change.Change.TheVariants as changes
use Rattle.queue_rows.specs.declared.reply.ConditionFault.{ConditionFault}
use Rattle.queue_rows.specs.declared.statement.Admin.{Admin}
use Rattle.queue_rows.specs.declared.statement.Admin.TheVariants as asks
use Rattle.queue_rows.specs.declared.statement.Statement.TheVariants as statements
use Rattle.row_laws.proofs.Finding.{found_is}
use Rattle.row_laws.proofs.Latest.{at_latest}
use Rattle.valid_laws.specs.ValidLaws.{QueueGoes, TableGoes}
use Rattle.valid_laws.specs.CatalogueLaws.{TableIsNew}
use Rattle.valid_laws.proofs.Parts.{all_found, valid_messages}
use Rattle.valid_laws.proofs.Placing.{find_put, find_other_put, all_filter}
use Rattle.valid_laws.proofs.Extending.{IsFoundAs}
use Rattle.valid_laws.proofs.Cataloguing.{same_name, kept_queue}
use Rattle.valid_laws.proofs.Exceptions.{home_of}
use Rattle.valid_laws.proofs.Tabling.{all_not, queue_kept}
use Rattle.valid_laws.proofs.Making.{made, queue_found, one_settles}
use Rattle.valid_laws.proofs.Judging.{none_of, some_of}
use Rattle.valid_laws.proofs.Going.{GoesWell, but_lane, after_goes}
use Rattle.valid_laws.proofs.Dropping.{subscriber_goes}

-- the queue of a message that is there before and after has the same table
abbrev pub TablesStay : Tables → Tables → Type 0
TablesStay t u = (id : ℕ) (m n : MsgRow) → find_message t id ≡ Some m → find_message u id ≡ Some n → n.queue ≡ m.queue → table_of u m.queue ≡ table_of t m.queue

-- ---- changes that leave the catalogue

table_blind : (t : Tables) (o : Option QueueRow) → option_and_then (λ q. find_table t q.table) o ≡ option_and_then (λ q. find_table t q.table) (option_map but_lane o)
table_blind t None = refl
table_blind t (Some q) = refl

goes_table : (t : Tables) (cs : List Change) (name : List ℕ) → GoesWell true t cs → table_of (after_all t cs) name ≡ table_of t name
goes_table t cs name g =
    ap (λ rows. option_and_then (λ q. find (λ r. bytes_eq r.name q.table) rows) (find_queue (after_all t cs) name)) g.tables
    ∙ table_blind t (find_queue (after_all t cs) name) ∙ ap (λ o. option_and_then (λ q. find_table t q.table) o) (g.queues name) ∙ sym (table_blind t (find_queue t name))

committed_by : (t : Tables) (moment : ℕ) (cs : List Change) (name : List ℕ) (b : Bool) → t.latest ≤ moment → GoesWell true (at_latest moment t) cs
    → table_of (if b then t else after t (record { moment = moment; changes = cs })) name ≡ table_of t name
committed_by t moment cs name true le g = refl
committed_by t moment cs name false le g = ap (λ u. table_of u name) (after_goes true t moment cs le g) ∙ goes_table (at_latest moment t) cs name g

pub goes_tables : (t : Tables) (moment : ℕ) (cs : List Change) → t.latest ≤ moment → GoesWell true (at_latest moment t) cs → TablesStay t (committed_tables t cs moment)
goes_tables t moment cs le g id m n f e same = committed_by t moment cs m.queue (length cs == 0) le g

pub none_stays : (t : Tables) (moment : ℕ) (cs : List Change) → cs ≡ [] → TablesStay t (committed_tables t cs moment)
none_stays t moment cs none = subst (λ ds. TablesStay t (committed_tables t ds moment)) (sym none) (λ id m n f e same. refl)

-- ---- changes of the catalogue

found_as : (t u : Tables) (name : List ℕ) (q : QueueRow) → find_queue t name ≡ Some q → IsFoundAs t u name q → table_of u name ≡ table_of t name
found_as t u name q f x = ap (option_and_then (λ y. find_table u y.table)) x.row_is ∙ x.table_is ∙ sym (ap (option_and_then (λ y. find_table t y.table)) f)

abbrev pub StayJudged : Tables → ℕ → Judged → Type 0
StayJudged t moment (Err reply) = Unit {0}
StayJudged t moment (Ok cs) = TablesStay t (committed_tables t (settled t cs) moment)

module _ (t : Tables) (moment : ℕ) (v : is_valid t ≡ true) (le : t.latest ≤ moment) (top : moment ≤ MOMENT_LIMIT) where
  stay_if : (b : Bool) (x y : Judged) → (b ≡ true → StayJudged t moment x) → (b ≡ false → StayJudged t moment y) → StayJudged t moment (if b then x else y)
  stay_if b x y p q = cond_both b x y (StayJudged t moment) p q

  one_stays : (change : Change) → TablesStay t (after_change t change) → settled t (change ∷ []) ≡ change ∷ [] → TablesStay t (committed_tables t (settled t (change ∷ [])) moment)
  unfolding after
  one_stays change h e = subst (λ cs. TablesStay t (committed_tables t cs moment)) (sym e) (λ id m n f g same. h id m n f g same)

  -- each queue of a message is found as it was
  each_found_as : (u : Tables) → ((id : ℕ) (m n : MsgRow) (q : QueueRow) → find_message t id ≡ Some m → find_message u id ≡ Some n → n.queue ≡ m.queue → find_queue t m.queue ≡ Some q → IsFoundAs t u m.queue q) → TablesStay t u
  each_found_as u k id m n f e same = let home = home_of t id m v f in found_as t u m.queue home.queue home.queue_is (k id m n home.queue f e same home.queue_is)

  -- the catalogue is the same
  beside : (change : Change) (u : Tables) → after_change t change ≡ u → settled t (change ∷ []) ≡ change ∷ [] → u.queues ≡ t.queues → u.tables ≡ t.tables → TablesStay t (committed_tables t (settled t (change ∷ [])) moment)
  beside change u e h qs ts =
      one_stays change (λ id m n f g same.
      ap (λ x. table_of x m.queue) e ∙ ap (λ rows. option_and_then (λ q. find (λ r. bytes_eq r.name q.table) rows) (find_queue u m.queue)) ts
      ∙ ap (λ rows. option_and_then (λ q. find_table t q.table) (find (λ r. bytes_eq r.name m.queue) rows)) qs) h

  own : (name : List ℕ) (q : QueueRow) → find_queue t name ≡ Some q → find_queue t q.name ≡ Some q
  own name q f = ap (find_queue t) (same_name q.name name (found_is (λ x. bytes_eq x.name name) t.queues q f)) ∙ f

  same_row : (name : List ℕ) (q old : QueueRow) → find_queue t name ≡ Some q → find_queue t name ≡ Some old → q ≡ old
  same_row name q old f h = let a : Some q ≡ Some old = sym f ∙ h in cc

  -- a queue is put with the table that it had
  put_by_name : (row : QueueRow) → ((old : QueueRow) → find_queue t row.name ≡ Some old → row.table ≡ old.table) → (name : List ℕ) (q : QueueRow) (b : Bool) → bytes_eq row.name name ≡ b → find_queue t name ≡ Some q
      → table_of (after_change t (changes.PutQueue row)) name ≡ table_of t name
  put_by_name row same name q true e f =
      let named : row.name ≡ name = same_name row.name name e in
      ap (option_and_then (λ y. find_table t y.table)) (find_put is_same_queue row (λ x. bytes_eq x.name name) e (λ x d. ap (bytes_eq x.name) (sym named) ∙ d) t.queues)
      ∙ ap (find_table t) (same q (ap (find_queue t) named ∙ f)) ∙ sym (ap (option_and_then (λ y. find_table t y.table)) f)
  put_by_name row same name q false e f =
      ap (option_and_then (λ y. find_table t y.table)) (find_other_put is_same_queue row (λ x. bytes_eq x.name name) e (λ x d. ap (λ n. bytes_eq n name) (same_name x.name row.name d) ∙ e) t.queues)

  put_stays : (row : QueueRow) → ((old : QueueRow) → find_queue t row.name ≡ Some old → row.table ≡ old.table) → TablesStay t (after_change t (changes.PutQueue row))
  put_stays row same id m n f e k = let home = home_of t id m v f in put_by_name row same m.queue home.queue (bytes_eq row.name m.queue) refl home.queue_is

  -- ---- tables and queues

  create_table : (table : List ℕ) (fields : List Field) (sort : List Column) (multi grouped : Bool) → is_admin_within (asks.CreateTable table fields sort multi grouped) ≡ true → StayJudged t moment (judged t (asks.CreateTable table fields sort multi grouped) moment)
  unfolding judged after
  create_table table fields sort multi grouped w =
      stay_if (is_some (find_table t table) || is_some (find_queue t (exception_name table))) _ _ (λ _. tt) (λ e.
      let row : TableRow = record { name = table; fields = fields; columns = sort; multi = multi; grouped = grouped } in
      let p = or_parts (is_some (find_table t table)) (is_some (find_queue t (exception_name table))) e in
      let few = and_parts (nat_le (length fields) FIELD_LIMIT) (list_all (λ f. is_name f.name) fields) (and_parts (is_table_name table) (are_fields fields) w).1 in
      let new : TableIsNew t row = record { no_table = none_of (find_table t table) p.0; no_queue = none_of (find_queue t (exception_name table)) p.1; few = leb-true (length fields) FIELD_LIMIT few.0 } in
      λ id m n f g same. each_found_as (made t row v new) (λ i a b q x y z h. queue_found t row v new a.queue q h) id m n f g same)

  -- no message stands in the queue that goes with a table
  not_in_exception : (table : List ℕ) → is_table_used t table ≡ false → (id : ℕ) (m : MsgRow) → find_message t id ≡ Some m → bytes_eq m.queue (exception_name table) ≡ false
  not_in_exception table unused id m f =
      let none = (or_parts (list_any (is_further_queue table) t.queues) (list_any (λ m. bytes_eq m.queue (exception_name table)) t.messages) unused).1 in
      not-true (bytes_eq m.queue (exception_name table))
      (all_found (λ x. not (bytes_eq x.queue (exception_name table))) (λ x. x.id == id) t.messages m (all_not (λ x. bytes_eq x.queue (exception_name table)) t.messages none) f)

  drop_table_stays : (table : List ℕ) → StayJudged t moment (judged t (asks.DropTable table) moment)
  unfolding judged
  drop_table_stays table =
      stay_if (is_none (find_table t table)) _ _ (λ _. tt) (λ there.
      stay_if (is_table_used t table) _ _ (λ _. tt) (λ unused.
      let x = some_of (find_table t table) there in
      let goes : TableGoes t table = record { table = x.0; found = x.1; unused = unused } in
      one_stays (changes.DropTable table)
      (subst (TablesStay t) (sym (ap (λ o. if is_some o then drop_table t table else t) x.1))
      (each_found_as (drop_table t table) (λ id m n q f e same h. queue_kept t table v goes m.queue q (not_in_exception table unused id m f) h)))
      (one_settles t (changes.DropTable table) None refl refl)))

  create_queue : (queue table : List ℕ) (kind : QueueKind) (max_retries retry_delay retention : ℕ) → StayJudged t moment (judged t (asks.CreateQueue queue table kind max_retries retry_delay retention) moment)
  unfolding judged
  create_queue queue table kind max_retries retry_delay retention =
      stay_if (is_none (find_table t table)) _ _ (λ _. tt) (λ there.
      stay_if (is_some (find_queue t queue)) _ _ (λ _. tt) (λ new.
      let row = new_queue queue table kind max_retries retry_delay retention in
      one_stays (changes.PutQueue row) (put_stays row (λ old f. absurd (none-some old (sym (none_of (find_queue t queue) new) ∙ f)))) (one_settles t (changes.PutQueue row) None refl refl)))

  -- a message that is left stands in another queue than the one that goes
  left_elsewhere : (name : List ℕ) (id : ℕ) (n : MsgRow) → find_message (drop_queue t name) id ≡ Some n → bytes_eq n.queue name ≡ false
  left_elsewhere name id n e =
      not-true (bytes_eq n.queue name)
      (all_found (λ x. not (bytes_eq x.queue name)) (λ x. x.id == id) (drop_queue t name).messages n
      (all_filter (λ x. not (bytes_eq x.queue name)) (is_valid_message t) (λ x. not (bytes_eq x.queue name)) (λ x h g. h) t.messages (valid_messages t v)) e)

  drop_queue_by : (name : List ℕ) (o : Option QueueRow) → find_queue t name ≡ o → StayJudged t moment (c.drop_queue o)
  drop_queue_by name None f = tt
  drop_queue_by name (Some q) f =
      stay_if (is_queue_used q) _ _ (λ _. tt) (λ unused.
      let goes : QueueGoes t q.name = record { queue = q; found = own name q f; further = (or_parts (q.enqueue || q.dequeue) (bytes_eq q.name (exception_name q.table)) unused).1 } in
      one_stays (changes.DropQueue q.name)
      (subst (TablesStay t) (sym (ap (λ o. if is_some o then drop_queue t q.name else t) (own name q f)))
      (each_found_as (drop_queue t q.name) (λ id m n x g e same h. kept_queue t q.name v goes m.queue x (ap (λ y. bytes_eq y q.name) (sym same) ∙ left_elsewhere q.name id n e) h)))
      (one_settles t (changes.DropQueue q.name) None refl refl))

  start_by : (name : List ℕ) (o : Option QueueRow) (enqueue : Option Bool) (dequeue : Bool) → find_queue t name ≡ o → StayJudged t moment (c.start o enqueue dequeue)
  start_by name None enqueue dequeue f = tt
  start_by name (Some q) enqueue dequeue f =
      stay_if (is_exception q.kind && unwrap_or enqueue false) _ _ (λ _. tt) (λ right.
      one_stays (changes.PutQueue (started q enqueue dequeue)) (put_stays (started q enqueue dequeue) (λ old h. ap (λ x. x.table) (same_row q.name q old (own name q f) h))) (one_settles t (changes.PutQueue (started q enqueue dequeue)) None refl refl))

  stop_by : (name : List ℕ) (o : Option QueueRow) (enqueue dequeue : Bool) → find_queue t name ≡ o → StayJudged t moment (c.stop o enqueue dequeue)
  stop_by name None enqueue dequeue f = tt
  stop_by name (Some q) enqueue dequeue f =
      one_stays (changes.PutQueue (stopped q enqueue dequeue)) (put_stays (stopped q enqueue dequeue) (λ old h. ap (λ x. x.table) (same_row q.name q old (own name q f) h))) (one_settles t (changes.PutQueue (stopped q enqueue dequeue)) None refl refl)

  -- ---- subscribers and schedules

  put_sub_by : (queue name : List ℕ) (address : Option (List ℕ)) (r : Result (Option Cond) ConditionFault) → StayJudged t moment (c.put_sub queue name address r)
  put_sub_by queue name address (Err fault) = tt
  put_sub_by queue name address (Ok rule) = let change = changes.PutSub (record { queue = queue; name = name; address = address; rule = rule }) in beside change (after_change t change) refl (one_settles t change None refl refl) refl refl

  add_sub_by : (q : QueueRow) (o : Option TableRow) (name : List ℕ) (address rule : Option (List ℕ)) → StayJudged t moment (c.add_sub t q o name address rule)
  add_sub_by q None name address rule = tt
  add_sub_by q (Some table) name address rule =
      stay_if (not (has_consumers q table)) _ _ (λ _. tt) (λ _.
      stay_if (is_some (find_sub t q.name name)) _ _ (λ _. tt) (λ _.
      stay_if (nat_le SUBSCRIBER_LIMIT (length (subscribers_of t q.name))) _ _ (λ _. tt) (λ _.
      put_sub_by q.name name address (optional_condition table.fields rule))))

  add_subscriber_by : (o : Option QueueRow) (name : List ℕ) (address rule : Option (List ℕ)) → StayJudged t moment (c.add_subscriber t o name address rule)
  add_subscriber_by None name address rule = tt
  add_subscriber_by (Some q) name address rule = add_sub_by q (find_table t q.table) name address rule

  remove_sub_by : (queue name : List ℕ) (o : Option SubRow) → find_sub t queue name ≡ o → StayJudged t moment (c.remove_sub t o moment)
  remove_sub_by queue name None f = tt
  remove_sub_by queue name (Some sub) f =
      let p = and_parts (bytes_eq sub.queue queue) (bytes_eq sub.name name) (found_is (is_sub queue name) t.subs sub f) in
      let there : find_sub t sub.queue sub.name ≡ Some sub = ap (λ n. find_sub t n sub.name) (same_name sub.queue queue p.0) ∙ ap (find_sub t queue) (same_name sub.name name p.1) ∙ f in
      goes_tables t moment (settled t (changes.DropSub sub.queue sub.name ∷ dropped_in t sub moment)) le (subscriber_goes t sub moment v le top there)

  remove_subscriber_by : (o : Option QueueRow) (name : List ℕ) → StayJudged t moment (c.remove_subscriber t o name moment)
  remove_subscriber_by None name = tt
  remove_subscriber_by (Some q) name = stay_if (not (has_subscribers q (find_table t q.table))) _ _ (λ _. tt) (λ _. remove_sub_by q.name name (find_sub t q.name name) refl)

  put_schedule_by : (o : Option QueueRow) (row : ScheduleRow) → StayJudged t moment (c.put_schedule t o row)
  put_schedule_by None row = tt
  put_schedule_by (Some q) row =
      stay_if (not (has_subscribers q (find_table t q.table))) _ _ (λ _. tt) (λ _.
      stay_if (is_some (find_schedule t row.queue row.to)) _ _ (λ _. tt) (λ _.
      beside (changes.PutSchedule row) (after_change t (changes.PutSchedule row)) refl (one_settles t (changes.PutSchedule row) None refl refl) refl refl))

  with_schedule_by : (change : ScheduleRow → Change) → ((s : ScheduleRow) → TablesStay t (committed_tables t (settled t (change s ∷ [])) moment)) → (o : Option ScheduleRow) → StayJudged t moment (c.with_schedule change o)
  with_schedule_by change h None = tt
  with_schedule_by change h (Some s) = h s

  change_schedule_by : (queue to : List ℕ) (change : ScheduleRow → Change) → ((s : ScheduleRow) → TablesStay t (committed_tables t (settled t (change s ∷ [])) moment)) → StayJudged t moment (c.change_schedule t queue to change)
  change_schedule_by queue to change h = stay_if (is_none (find_queue t queue)) _ _ (λ _. tt) (λ _. with_schedule_by change h (find_schedule t queue to))

  put_scheduled : (s : ScheduleRow) → TablesStay t (committed_tables t (settled t (changes.PutSchedule s ∷ [])) moment)
  put_scheduled s = beside (changes.PutSchedule s) (after_change t (changes.PutSchedule s)) refl (one_settles t (changes.PutSchedule s) None refl refl) refl refl

  drop_scheduled : (s : ScheduleRow) → TablesStay t (committed_tables t (settled t (changes.DropSchedule s.queue s.to ∷ [])) moment)
  drop_scheduled s = let change = changes.DropSchedule s.queue s.to in beside change (after_change t change) refl (one_settles t change None refl refl) refl refl

  -- ---- each administrative statement

  pub judged_stays : (ask : Admin) → is_within (statements.Admin ask) ≡ true → StayJudged t moment (judged t ask moment)
  unfolding judged is_within
  judged_stays (asks.CreateTable table fields sort multi grouped) w = create_table table fields sort multi grouped w
  judged_stays (asks.DropTable table) w = drop_table_stays table
  judged_stays (asks.CreateQueue queue table kind max_retries retry_delay retention) w = create_queue queue table kind max_retries retry_delay retention
  judged_stays (asks.DropQueue queue) w = drop_queue_by queue (find_queue t queue) refl
  judged_stays (asks.StartQueue queue enqueue dequeue) w = start_by queue (find_queue t queue) enqueue dequeue refl
  judged_stays (asks.StopQueue queue enqueue dequeue) w = stop_by queue (find_queue t queue) enqueue dequeue refl
  judged_stays (asks.AddSubscriber queue name address rule) w = add_subscriber_by (find_queue t queue) name address rule
  judged_stays (asks.RemoveSubscriber queue name) w = remove_subscriber_by (find_queue t queue) name
  judged_stays (asks.Schedule queue to start duration period latency) w =
      put_schedule_by (find_queue t queue) (record { queue = queue; to = to; enabled = true; start = unwrap_or start moment; duration = duration; period = period; latency = latency; failures = 0; next = 0 })
  judged_stays (asks.Unschedule queue to) w = change_schedule_by queue to (λ s. changes.DropSchedule s.queue s.to) drop_scheduled
  judged_stays (asks.EnableSchedule queue to) w = change_schedule_by queue to (λ s. changes.PutSchedule (fresh_schedule s)) (λ s. put_scheduled (fresh_schedule s))
  judged_stays (asks.DisableSchedule queue to) w = change_schedule_by queue to (λ s. changes.PutSchedule (record s { enabled = false })) (λ s. put_scheduled (record s { enabled = false }))
