-- What commits leave of the tables of a database that validity does not say: the order of fields, and the latest moment.
use Rattle.std.proofs.Common.{◌≡◌, ◌≤◌, ℕ, List, [], ◌∷◌, Bool, true, false, not, length, refl, sym, ap, ◌∙◌, arith, Option, Some, None, Result, Ok, Err, ◌==◌, ◌&&◌, ◌||◌}
use Rattle.std.specs.Prelude.{flat_map, nat_le, is_some, is_none, unwrap_or, if◌then◌else◌}
use Rattle.std.specs.List.{list_any, list_all}
use Rattle.std.specs.Str.{bytes_eq}
use Rattle.std.proofs.lemmas.Bool.{cond_both, and_parts, and_from, or_parts, false≢true}
use Rattle.aq_base.specs.declared.limits.TheConstants.{SUBSCRIBER_LIMIT}
use Rattle.payload_records.specs.Order.{is_in_order}
use Rattle.rule_conditions.specs.declared.condition.Cond.{Cond}
use Rattle.queue_rows.specs.Rows.{find_queue, find_table, find_sub, find_schedule, exception_name, is_same_table}
use Rattle.queue_rows.specs.Tables.{after_change, after_all, after, drop_queue, drop_table}
use Rattle.queue_rows.specs.Settling.{is_exception, settling, settled, names_of}
use Rattle.queue_rows.specs.Commits.{changes_from, commit_of, completed}
use Rattle.queue_rows.specs.Transactions.{rollback_of}
use Rattle.queue_rows.specs.Conditions.{optional_condition}
use Rattle.queue_rows.specs.Recipients.{has_consumers, subscribers_of}
use Rattle.queue_rows.specs.World.{committed_tables}
use Rattle.queue_rows.specs.Catalog as c
use Rattle.queue_rows.specs.Catalog.{Judged, judged, is_table_used, is_queue_used, has_subscribers, fresh_schedule, dropped_in}
use Rattle.queue_rows.specs.declared.tables.Tables.{Tables}
use Rattle.queue_rows.specs.declared.rows.TableRow.{TableRow}
use Rattle.queue_rows.specs.declared.rows.QueueRow.{QueueRow}
use Rattle.queue_rows.specs.declared.rows.SubRow.{SubRow}
use Rattle.queue_rows.specs.declared.rows.ScheduleRow.{ScheduleRow}
use Rattle.queue_rows.specs.declared.session.Pending.{Pending}
use Rattle.queue_rows.specs.declared.session.Pending.TheVariants.{Add, Remove}
use Rattle.queue_rows.specs.declared.change.Change.{Change}
use Rattle.queue_rows.specs.declared.change.Change.TheVariants as changes
use Rattle.queue_rows.specs.declared.reply.ConditionFault.{ConditionFault}
use Rattle.queue_rows.specs.declared.statement.Admin.{Admin}
use Rattle.queue_rows.specs.declared.statement.Admin.TheVariants as asks
use Rattle.row_laws.proofs.Latest.{is_counters}
use Rattle.row_laws.proofs.Queues.{tables_same_all}
use Rattle.valid_laws.proofs.Parts.{all_removed_first}
use Rattle.valid_laws.proofs.Placing.{all_put}
use Rattle.valid_laws.proofs.Doing.{all-append}
use Rattle.valid_laws.proofs.Framing.{settled_none}
use Rattle.valid_laws.proofs.Going.{latest_same}
use Rattle.valid_laws.proofs.Saying.{rollback_none}
use Rattle.statement_laws.specs.EnqueueLaws.{has_ordered_fields}
use Rattle.statement_laws.proofs.Administering.{removal_none}
use Rattle.history_laws.specs.Ordered.{asks_ordered}

-- ---- plain changes

-- it sets no numbers, and a table that it puts has its fields in order
abbrev pub is_plain : Change → Bool
is_plain (changes.PutTable row) = is_in_order row.fields
is_plain (changes.Counters next transaction latest) = false
is_plain _ = true

all_plain : (cs : List Change) → list_any (λ x. not (is_plain x)) cs ≡ false → list_all is_plain cs ≡ true
all_plain [] h = refl
all_plain (x ∷ xs) h = let p = or_parts (not (is_plain x)) (list_any (λ y. not (is_plain y)) xs) h in and_from (is_plain x) (list_all is_plain xs) (not_not (is_plain x) p.0) (all_plain xs p.1)
  where
    not_not : (b : Bool) → not b ≡ false → b ≡ true
    not_not true e = refl
    not_not false e = absurd (false≢true (sym e))

uncounted_one : (x : Change) → is_plain x ≡ true → not (is_counters x) ≡ true
uncounted_one (changes.Counters next transaction latest) e = absurd (false≢true e)
uncounted_one (changes.PutTable row) e = refl
uncounted_one _ e = refl

uncounted : (cs : List Change) → list_all is_plain cs ≡ true → list_all (λ x. not (is_counters x)) cs ≡ true
uncounted [] h = refl
uncounted (x ∷ xs) h = let p = and_parts (is_plain x) (list_all is_plain xs) h in and_from (not (is_counters x)) (list_all (λ y. not (is_counters y)) xs) (uncounted_one x p.0) (uncounted xs p.1)

-- ---- what they leave

abbrev is_ordered_table : TableRow → Bool
is_ordered_table table = is_in_order table.fields

queue_tables : (t : Tables) (name : List ℕ) (b : Bool) → (if b then drop_queue t name else t).tables ≡ t.tables
queue_tables t name true = refl
queue_tables t name false = refl

table_fields : (t : Tables) (name : List ℕ) (b : Bool) → has_ordered_fields t ≡ true → has_ordered_fields (if b then drop_table t name else t) ≡ true
table_fields t name true h = all_removed_first is_ordered_table (λ r. bytes_eq r.name name) t.tables h
table_fields t name false h = h

fields_one : (t : Tables) (x : Change) → is_plain x ≡ true → has_ordered_fields t ≡ true → has_ordered_fields (after_change t x) ≡ true
fields_one t (changes.PutTable row) p h = all_put is_same_table row is_ordered_table t.tables h p
fields_one t (changes.DropTable name) p h = table_fields t name (is_some (find_table t name)) h
fields_one t (changes.DropQueue name) p h = ap (list_all is_ordered_table) (queue_tables t name (is_some (find_queue t name))) ∙ h
fields_one t (changes.Moved id queue at) p h = ap (list_all is_ordered_table) (tables_same_all (changes.Moved id queue at ∷ []) t refl) ∙ h
fields_one t (changes.Counters next transaction latest) p h = absurd (false≢true p)
fields_one t _ p h = h

pub fields_all : (cs : List Change) (t : Tables) → list_all is_plain cs ≡ true → has_ordered_fields t ≡ true → has_ordered_fields (after_all t cs) ≡ true
fields_all [] t p h = h
fields_all (x ∷ xs) t p h = let q = and_parts (is_plain x) (list_all is_plain xs) p in fields_all xs (after_change t x) q.1 (fields_one t x q.0 h)

fields_by : (t : Tables) (moment : ℕ) (cs : List Change) (b : Bool) → list_all is_plain cs ≡ true → has_ordered_fields t ≡ true → has_ordered_fields (if b then t else after t (record { moment = moment; changes = cs })) ≡ true
unfolding after
fields_by t moment cs true p h = h
fields_by t moment cs false p h = fields_all cs t p h

pub committed_fields : (t : Tables) (moment : ℕ) (cs : List Change) → list_all is_plain cs ≡ true → has_ordered_fields t ≡ true → has_ordered_fields (committed_tables t cs moment) ≡ true
committed_fields t moment cs p h = fields_by t moment cs (length cs == 0) p h

latest_by : (t : Tables) (moment : ℕ) (cs : List Change) (b : Bool) → list_all is_plain cs ≡ true → t.latest ≤ moment → (if b then t else after t (record { moment = moment; changes = cs })).latest ≤ moment
unfolding after
latest_by t moment cs true p le = le
latest_by t moment cs false p le = let e = latest_same cs t (uncounted cs p) in omega (arith, le, e)

pub committed_latest : (t : Tables) (moment : ℕ) (cs : List Change) → list_all is_plain cs ≡ true → t.latest ≤ moment → (committed_tables t cs moment).latest ≤ moment
committed_latest t moment cs p le = latest_by t moment cs (length cs == 0) p le

-- ---- which commits are plain

changes_plain : (rest : List Pending) (t : Tables) (group moment : ℕ) → list_all is_plain (changes_from t group moment rest) ≡ true
changes_plain [] t group moment = refl
changes_plain (Add m ∷ more) t group moment = changes_plain more (after_change t (changes.Enqueued (completed t group moment m))) group moment
changes_plain (Remove id slot ∷ more) t group moment = changes_plain more (after_change t (changes.Done id slot moment)) group moment

-- what is settled is plain
pub settled_plain : (t : Tables) (cs : List Change) → list_all is_plain cs ≡ true → list_all is_plain (settled t cs) ≡ true
settled_plain t cs h = all-append is_plain cs (flat_map (settling t cs) (names_of cs)) h (all_plain (flat_map (settling t cs) (names_of cs)) (settled_none (λ x. not (is_plain x)) (λ id queue at. refl) (λ id. refl) t cs))

pub commit_plain : (t : Tables) (moment : ℕ) (pending : List Pending) → list_all is_plain (commit_of t moment pending) ≡ true
commit_plain t moment pending = settled_plain t (changes_from t t.transaction moment pending) (changes_plain pending t t.transaction moment)

pub rollback_plain : (t : Tables) (moment : ℕ) (pending : List Pending) → list_all is_plain (rollback_of t moment pending) ≡ true
rollback_plain t moment pending =
    all_plain (rollback_of t moment pending) (rollback_none t moment pending (λ x. not (is_plain x)) (λ id slot retries until at. refl) (λ id slot at. refl) (λ id queue at. refl) (λ id. refl))

-- ---- what is judged is plain

abbrev pub IsPlainJudged : Tables → Judged → Type 0
IsPlainJudged t (Err reply) = Unit {0}
IsPlainJudged t (Ok cs) = list_all is_plain (settled t cs) ≡ true

module _ (t : Tables) (moment : ℕ) where
  plain_if : (b : Bool) (x y : Judged) → (b ≡ true → IsPlainJudged t x) → (b ≡ false → IsPlainJudged t y) → IsPlainJudged t (if b then x else y)
  plain_if b x y p q = cond_both b x y (IsPlainJudged t) p q

  one_plain : (x : Change) → is_plain x ≡ true → list_all is_plain (settled t (x ∷ [])) ≡ true
  one_plain x h = settled_plain t (x ∷ []) (and_from (is_plain x) true h refl)

  drop_plain : (o : Option QueueRow) → IsPlainJudged t (c.drop_queue o)
  drop_plain None = tt
  drop_plain (Some q) = plain_if (is_queue_used q) _ _ (λ _. tt) (λ _. one_plain (changes.DropQueue q.name) refl)

  start_plain : (o : Option QueueRow) (enqueue : Option Bool) (dequeue : Bool) → IsPlainJudged t (c.start o enqueue dequeue)
  start_plain None enqueue dequeue = tt
  start_plain (Some q) enqueue dequeue = plain_if (is_exception q.kind && unwrap_or enqueue false) _ _ (λ _. tt) (λ _. one_plain (changes.PutQueue (c.started q enqueue dequeue)) refl)

  stop_plain : (o : Option QueueRow) (enqueue dequeue : Bool) → IsPlainJudged t (c.stop o enqueue dequeue)
  stop_plain None enqueue dequeue = tt
  stop_plain (Some q) enqueue dequeue = one_plain (changes.PutQueue (c.stopped q enqueue dequeue)) refl

  put_sub_plain : (queue name : List ℕ) (address : Option (List ℕ)) (r : Result (Option Cond) ConditionFault) → IsPlainJudged t (c.put_sub queue name address r)
  put_sub_plain queue name address (Err fault) = tt
  put_sub_plain queue name address (Ok rule) = one_plain (changes.PutSub (record { queue = queue; name = name; address = address; rule = rule })) refl

  add_sub_plain : (q : QueueRow) (o : Option TableRow) (name : List ℕ) (address rule : Option (List ℕ)) → IsPlainJudged t (c.add_sub t q o name address rule)
  add_sub_plain q None name address rule = tt
  add_sub_plain q (Some table) name address rule =
      plain_if (not (has_consumers q table)) _ _ (λ _. tt) (λ _.
      plain_if (is_some (find_sub t q.name name)) _ _ (λ _. tt) (λ _.
      plain_if (nat_le SUBSCRIBER_LIMIT (length (subscribers_of t q.name))) _ _ (λ _. tt) (λ _.
      put_sub_plain q.name name address (optional_condition table.fields rule))))

  add_plain : (o : Option QueueRow) (name : List ℕ) (address rule : Option (List ℕ)) → IsPlainJudged t (c.add_subscriber t o name address rule)
  add_plain None name address rule = tt
  add_plain (Some q) name address rule = add_sub_plain q (find_table t q.table) name address rule

  remove_sub_plain : (o : Option SubRow) → IsPlainJudged t (c.remove_sub t o moment)
  remove_sub_plain None = tt
  remove_sub_plain (Some sub) =
      all_plain (settled t (changes.DropSub sub.queue sub.name ∷ dropped_in t sub moment)) (removal_none t sub moment (λ x. not (is_plain x)) (λ a b. refl) (λ id slot at. refl) (λ id queue at. refl) (λ id. refl))

  remove_plain : (o : Option QueueRow) (name : List ℕ) → IsPlainJudged t (c.remove_subscriber t o name moment)
  remove_plain None name = tt
  remove_plain (Some q) name = plain_if (not (has_subscribers q (find_table t q.table))) _ _ (λ _. tt) (λ _. remove_sub_plain (find_sub t q.name name))

  put_schedule_plain : (o : Option QueueRow) (row : ScheduleRow) → IsPlainJudged t (c.put_schedule t o row)
  put_schedule_plain None row = tt
  put_schedule_plain (Some q) row =
      plain_if (not (has_subscribers q (find_table t q.table))) _ _ (λ _. tt) (λ _.
      plain_if (is_some (find_schedule t row.queue row.to)) _ _ (λ _. tt) (λ _. one_plain (changes.PutSchedule row) refl))

  with_schedule_plain : (change : ScheduleRow → Change) → ((s : ScheduleRow) → is_plain (change s) ≡ true) → (o : Option ScheduleRow) → IsPlainJudged t (c.with_schedule change o)
  with_schedule_plain change h None = tt
  with_schedule_plain change h (Some s) = one_plain (change s) (h s)

  change_plain : (queue to : List ℕ) (change : ScheduleRow → Change) → ((s : ScheduleRow) → is_plain (change s) ≡ true) → IsPlainJudged t (c.change_schedule t queue to change)
  change_plain queue to change h = plain_if (is_none (find_queue t queue)) _ _ (λ _. tt) (λ _. with_schedule_plain change h (find_schedule t queue to))

  pub judged_plain : (ask : Admin) → asks_ordered ask ≡ true → IsPlainJudged t (judged t ask moment)
  unfolding judged
  judged_plain (asks.CreateTable table fields sort multi grouped) o =
      plain_if (is_some (find_table t table) || is_some (find_queue t (exception_name table))) _ _ (λ _. tt) (λ _.
      let row : TableRow = record { name = table; fields = fields; columns = sort; multi = multi; grouped = grouped } in
      settled_plain t (changes.PutTable row ∷ changes.PutQueue (c.exception_row table) ∷ []) (and_from (is_in_order fields) true o refl))
  judged_plain (asks.DropTable table) o =
      plain_if (is_none (find_table t table)) _ _ (λ _. tt) (λ _. plain_if (is_table_used t table) _ _ (λ _. tt) (λ _. one_plain (changes.DropTable table) refl))
  judged_plain (asks.CreateQueue queue table kind max_retries retry_delay retention) o =
      plain_if (is_none (find_table t table)) _ _ (λ _. tt) (λ _. plain_if (is_some (find_queue t queue)) _ _ (λ _. tt) (λ _. one_plain (changes.PutQueue (c.new_queue queue table kind max_retries retry_delay retention)) refl))
  judged_plain (asks.DropQueue queue) o = drop_plain (find_queue t queue)
  judged_plain (asks.StartQueue queue enqueue dequeue) o = start_plain (find_queue t queue) enqueue dequeue
  judged_plain (asks.StopQueue queue enqueue dequeue) o = stop_plain (find_queue t queue) enqueue dequeue
  judged_plain (asks.AddSubscriber queue name address rule) o = add_plain (find_queue t queue) name address rule
  judged_plain (asks.RemoveSubscriber queue name) o = remove_plain (find_queue t queue) name
  judged_plain (asks.Schedule queue to start duration period latency) o =
      put_schedule_plain (find_queue t queue) (record { queue = queue; to = to; enabled = true; start = unwrap_or start moment; duration = duration; period = period; latency = latency; failures = 0; next = 0 })
  judged_plain (asks.Unschedule queue to) o = change_plain queue to (λ s. changes.DropSchedule s.queue s.to) (λ s. refl)
  judged_plain (asks.EnableSchedule queue to) o = change_plain queue to (λ s. changes.PutSchedule (fresh_schedule s)) (λ s. refl)
  judged_plain (asks.DisableSchedule queue to) o = change_plain queue to (λ s. changes.PutSchedule (record s { enabled = false })) (λ s. refl)
