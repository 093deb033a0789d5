-- An administrative statement leaves the slot that is being sent: it is refused where it would take it away.
use Rattle.std.proofs.Common.{◌≡◌, ◌≤◌, ℕ, List, [], ◌∷◌, Bool, true, false, not, length, refl, sym, ap, ◌∙◌, subst, arith, Option, Some, None, Result, Ok, Err, ◌==◌, ◌&&◌, ◌||◌}
use Rattle.std.specs.Prelude.{find, filter, nat_le, is_some, is_none, unwrap_or, option_and_then, if◌then◌else◌}
use Rattle.std.specs.List.{list_any}
use Rattle.std.specs.Option.{option_map_or}
use Rattle.std.specs.Str.{bytes_eq}
use Rattle.std.proofs.lemmas.Bool.{cond_both, and_parts, and_from, or_parts, not_from_false, false_from_ne_true, false≢true, true≢false}
use Rattle.aq_base.specs.declared.DbId.{DbId}
use Rattle.aq_base.specs.declared.limits.TheConstants.{MOMENT_LIMIT, SUBSCRIBER_LIMIT}
use Rattle.payload_records.specs.declared.kind.Field.{Field}
use Rattle.place_keys.specs.declared.sort_list.Column.{Column}
use Rattle.rule_conditions.specs.declared.condition.Cond.{Cond}
use Rattle.queue_rows.specs.Rows.{find_table, find_queue, find_sub, find_schedule, is_sub, is_schedule, exception_name, slot_of, is_same_schedule}
use Rattle.queue_rows.specs.Tables.{after_change, after, drop_queue, drop_table}
use Rattle.queue_rows.specs.Settling.{is_exception, settled}
use Rattle.queue_rows.specs.Catalog as c
use Rattle.queue_rows.specs.Catalog.{Judged, judged, is_table_used, is_queue_used, new_queue, started, stopped, has_subscribers, fresh_schedule, dropped_in}
use Rattle.queue_rows.specs.Conditions.{optional_condition}
use Rattle.queue_rows.specs.Recipients.{has_consumers, subscribers_of}
use Rattle.queue_rows.specs.Session.{Session, is_same_db, is_same_consumer}
use Rattle.queue_rows.specs.Administration.{Affected, is_affected_at, is_sent, is_outstanding, works_on, in_queue, of_subscriber, to_destination, is_hindered}
use Rattle.queue_rows.specs.Propagating.{goes_to, is_schedule_of}
use Rattle.queue_rows.specs.World.{committed_tables}
use Rattle.queue_rows.specs.Valid.{is_valid}
use Rattle.queue_rows.specs.declared.tables.Tables.{Tables}
use Rattle.queue_rows.specs.declared.rows.TableRow.{TableRow}
use Rattle.queue_rows.specs.declared.rows.QueueRow.{QueueRow}
use Rattle.queue_rows.specs.declared.rows.QueueKind.{QueueKind}
use Rattle.queue_rows.specs.declared.rows.SubRow.{SubRow}
use Rattle.queue_rows.specs.declared.rows.ScheduleRow.{ScheduleRow}
use Rattle.queue_rows.specs.declared.rows.SlotRow.{SlotRow}
use Rattle.queue_rows.specs.declared.history.SlotRef.{SlotRef}
use Rattle.queue_rows.specs.declared.change.Change.{Change}
use Rattle.queue_rows.specs.declared.change.Change.TheVariants as changes
use Rattle.queue_rows.specs.declared.reply.ConditionFault.{ConditionFault}
use Rattle.queue_rows.specs.declared.statement.Admin.{Admin}
use Rattle.queue_rows.specs.declared.statement.Admin.TheVariants as asks
use Rattle.row_laws.proofs.Finding.{found_is, find-yes, find-no, filter-yes, filter-no, find_filter, find_other_removed, kept}
use Rattle.row_laws.proofs.Distinctly.{single_if_distinct}
use Rattle.valid_laws.specs.Touching.{puts_in}
use Rattle.valid_laws.proofs.Parts.{valid_distinct}
use Rattle.valid_laws.proofs.Placing.{find_put, find_other_put}
use Rattle.valid_laws.proofs.Cataloguing.{same_name, own_name}
use Rattle.valid_laws.proofs.Making.{one_settles}
use Rattle.valid_laws.proofs.Judging.{some_of}
use Rattle.valid_laws.proofs.Dropping.{subscriber_goes}
use Rattle.valid_laws.proofs.Going.{proper_if_goes}
use Rattle.statement_laws.proofs.Administering.{removal_clear, removal_none}
use Rattle.run_laws.specs.ValidRun.{IsBeingSent}
use Rattle.run_laws.proofs.Resting.{touches, sent_as, sent_rests}

abbrev pub SentJudged : Tables → ℕ → SlotRef → Judged → Type 0
SentJudged t moment at (Err reply) = Unit {0}
SentJudged t moment at (Ok cs) = IsBeingSent (committed_tables t (settled t cs) moment) at

-- ---- schedules that are found

module _ {X : Type 0} (p q : X → Bool) where
  kept_step : ((x : X) → p x ≡ true → q x ≡ true) → (x : X) (xs : List X) (a b : Bool) → p x ≡ a → q x ≡ b → find p (filter q xs) ≡ find p xs → find p (filter q (x ∷ xs)) ≡ find p (x ∷ xs)
  kept_step k x xs true b e f ih = ap (find p) (filter-yes q q x xs (k x e)) ∙ find-yes p x (filter q xs) e ∙ sym (find-yes p x xs e)
  kept_step k x xs false true e f ih = ap (find p) (filter-yes q q x xs f) ∙ find-no p x (filter q xs) e ∙ ih ∙ sym (find-no p x xs e)
  kept_step k x xs false false e f ih = ap (find p) (filter-no q q x xs f) ∙ ih ∙ sym (find-no p x xs e)

  -- what is found is found where all that is kept for it stays
  find_kept : ((x : X) → p x ≡ true → q x ≡ true) → (xs : List X) → find p (filter q xs) ≡ find p xs
  find_kept k [] = refl
  find_kept k (x ∷ xs) = kept_step k x xs (p x) (q x) refl refl (find_kept k xs)

  agree_step : ((x : X) → p x ≡ true → q x ≡ true) → ((x : X) → q x ≡ true → p x ≡ true) → (x : X) (xs : List X) (a b : Bool) → p x ≡ a → q x ≡ b → find p xs ≡ find q xs → find p (x ∷ xs) ≡ find q (x ∷ xs)
  agree_step k l x xs true b e f ih = find-yes p x xs e ∙ sym (find-yes q x xs (k x e))
  agree_step k l x xs false true e f ih = absurd (true≢false (sym (l x f) ∙ e))
  agree_step k l x xs false false e f ih = find-no p x xs e ∙ ih ∙ sym (find-no q x xs f)

  pub find_agree : ((x : X) → p x ≡ true → q x ≡ true) → ((x : X) → q x ≡ true → p x ≡ true) → (xs : List X) → find p xs ≡ find q xs
  find_agree k l [] = refl
  find_agree k l (x ∷ xs) = agree_step k l x xs (p x) (q x) refl refl (find_agree k l xs)

  -- two tests that agree find the same
  same_found : (xs : List X) (x y : X) → ((z : X) → p z ≡ true → q z ≡ true) → ((z : X) → q z ≡ true → p z ≡ true) → find p xs ≡ Some x → find q xs ≡ Some y → x ≡ y
  same_found xs x y k l e f = let h : Some x ≡ Some y = sym e ∙ find_agree k l xs ∙ f in cc

-- a slot goes to one queue
one_address : (o : Option (List ℕ)) (a b : List ℕ) → option_map_or (λ address. bytes_eq address a) o false ≡ true → option_map_or (λ address. bytes_eq address b) o false ≡ true → bytes_eq a b ≡ true
one_address None a b h g = absurd (false≢true h)
one_address (Some address) a b h g = ap (λ n. bytes_eq n b) (sym (same_name address a h)) ∙ g

-- so its schedules are for the same
pub same_schedules : (queue : List ℕ) (slot : SlotRow) (x y : ScheduleRow) → is_schedule_of queue slot x ≡ true → is_schedule_of queue slot y ≡ true → is_same_schedule x y ≡ true
same_schedules queue slot x y e f =
    let p = and_parts (bytes_eq x.queue queue) (goes_to x.to slot) e in
    let q = and_parts (bytes_eq y.queue queue) (goes_to y.to slot) f in
    and_from (bytes_eq x.queue y.queue) (bytes_eq x.to y.to) (ap (bytes_eq x.queue) (same_name y.queue queue q.0) ∙ p.0) (one_address slot.address x.to y.to p.1 q.1)

-- ---- what is not affected

-- what is not sent from a queue does not stand in it
second_of : (a b : Bool) → a ≡ true → (a && b) ≡ false → b ≡ false
second_of true b e h = h
second_of false b e h = absurd (false≢true e)

unaffected : (t : Tables) (db : DbId) (affects : Affected) (at : SlotRef) (k : IsBeingSent t at) → is_same_db at.db db ≡ true → is_sent t db affects (Some at) ≡ false → affects k.message (Some k.slot) ≡ false
unaffected t db affects at k same h =
    let none : is_affected_at t affects at.id at.slot ≡ false = second_of (is_same_db at.db db) (is_affected_at t affects at.id at.slot) same h in
    ap (affects k.message) (sym k.slot_is) ∙ sym (ap (λ o. option_map_or (λ m. affects m (slot_of m at.slot)) o false) k.message_is) ∙ none

outstanding_sent : (t : Tables) (db : DbId) (sessions : List Session) (sent : Option SlotRef) (affects : Affected) → is_outstanding t db sessions sent affects ≡ false → is_sent t db affects sent ≡ false
outstanding_sent t db sessions sent affects h = (or_parts (list_any (works_on t db affects) sessions) (is_sent t db affects sent) h).1

module _ (t : Tables) (moment : ℕ) (v : is_valid t ≡ true) (le : t.latest ≤ moment) (top : moment ≤ MOMENT_LIMIT) (at : SlotRef) (k : IsBeingSent t at) where
  sent_if : (b : Bool) (x y : Judged) → (b ≡ true → SentJudged t moment at x) → (b ≡ false → SentJudged t moment at y) → SentJudged t moment at (if b then x else y)
  sent_if b x y p q = cond_both b x y (SentJudged t moment at) p q

  one_sent : (change : Change) → IsBeingSent (after_change t change) at → settled t (change ∷ []) ≡ change ∷ [] → IsBeingSent (committed_tables t (settled t (change ∷ [])) moment) at
  unfolding after
  one_sent change h e =
      subst (λ cs. IsBeingSent (committed_tables t cs moment) at) (sym e)
      (record { message = h.message; slot = h.slot; schedule = h.schedule; message_is = h.message_is; slot_is = h.slot_is; ready = h.ready; remote = h.remote; schedule_is = h.schedule_is; few = h.few })

  -- messages and schedules are the same
  beside : (change : Change) (u : Tables) → after_change t change ≡ u → settled t (change ∷ []) ≡ change ∷ [] → u.messages ≡ t.messages → u.schedules ≡ t.schedules → IsBeingSent (committed_tables t (settled t (change ∷ [])) moment) at
  beside change u e h ms ss =
      one_sent change
      (subst (λ x. IsBeingSent x at) (sym e)
      (sent_as t u at k k.message k.schedule (ap (find (λ m. m.id == at.id)) ms ∙ k.message_is) k.slot_is refl (ap (find (is_schedule_of k.message.queue k.slot)) ss ∙ k.schedule_is) k.few)) h

  -- ---- tables and queues

  create_table : (table : List ℕ) (fields : List Field) (sort : List Column) (multi grouped : Bool) → SentJudged t moment at (judged t (asks.CreateTable table fields sort multi grouped) moment)
  unfolding judged after
  create_table table fields sort multi grouped =
      sent_if (is_some (find_table t table) || is_some (find_queue t (exception_name table))) _ _ (λ _. tt)
      (λ _. record { message = k.message; slot = k.slot; schedule = k.schedule; message_is = k.message_is; slot_is = k.slot_is; ready = k.ready; remote = k.remote; schedule_is = k.schedule_is; few = k.few })

  drop_table_sent : (table : List ℕ) → SentJudged t moment at (judged t (asks.DropTable table) moment)
  unfolding judged
  drop_table_sent table =
      sent_if (is_none (find_table t table)) _ _ (λ _. tt) (λ there.
      sent_if (is_table_used t table) _ _ (λ _. tt) (λ unused.
      let x = some_of (find_table t table) there in
      beside (changes.DropTable table) (drop_table t table) (ap (λ o. if is_some o then drop_table t table else t) x.1) (one_settles t (changes.DropTable table) None refl refl) refl refl))

  create_queue : (queue table : List ℕ) (kind : QueueKind) (max_retries retry_delay retention : ℕ) → SentJudged t moment at (judged t (asks.CreateQueue queue table kind max_retries retry_delay retention) moment)
  unfolding judged
  create_queue queue table kind max_retries retry_delay retention =
      sent_if (is_none (find_table t table)) _ _ (λ _. tt) (λ _.
      sent_if (is_some (find_queue t queue)) _ _ (λ _. tt) (λ _.
      let change = changes.PutQueue (new_queue queue table kind max_retries retry_delay retention) in beside change (after_change t change) refl (one_settles t change None refl refl) refl refl))

  put_queue : (row : QueueRow) → IsBeingSent (committed_tables t (settled t (changes.PutQueue row ∷ [])) moment) at
  put_queue row = beside (changes.PutQueue row) (after_change t (changes.PutQueue row)) refl (one_settles t (changes.PutQueue row) None refl refl) refl refl

  own : (name : List ℕ) (q : QueueRow) → find_queue t name ≡ Some q → find_queue t q.name ≡ Some q
  own name q f = ap (find_queue t) (same_name q.name name (found_is (λ x. bytes_eq x.name name) t.queues q f)) ∙ f

  -- the slot's schedule belongs to its queue, and to its destination
  its_schedule : (bytes_eq k.schedule.queue k.message.queue ≡ true) × (goes_to k.schedule.to k.slot ≡ true)
  its_schedule = and_parts (bytes_eq k.schedule.queue k.message.queue) (goes_to k.schedule.to k.slot) (found_is (is_schedule_of k.message.queue k.slot) t.schedules k.schedule k.schedule_is)

  dropped_sent : (name : List ℕ) → bytes_eq k.message.queue name ≡ false → IsBeingSent (drop_queue t name) at
  dropped_sent name other =
      let message_stays : kept (λ m. not (bytes_eq m.queue name)) k.message ≡ Some k.message = rw (not_from_false (bytes_eq k.message.queue name) other) refl in
      sent_as t (drop_queue t name) at k k.message k.schedule
      (find_filter (λ m. m.id == at.id) (λ m. not (bytes_eq m.queue name)) t.messages (single_if_distinct t at.id (valid_distinct t v)) ∙ ap (option_and_then (kept (λ m. not (bytes_eq m.queue name)))) k.message_is ∙ message_stays) k.slot_is refl
      (find_kept (is_schedule_of k.message.queue k.slot) (λ s. not (bytes_eq s.queue name)) (λ s h. schedule_stays s (and_parts (bytes_eq s.queue k.message.queue) (goes_to s.to k.slot) h).0) t.schedules ∙ k.schedule_is) k.few
    where
      schedule_stays : (s : ScheduleRow) → bytes_eq s.queue k.message.queue ≡ true → not (bytes_eq s.queue name) ≡ true
      schedule_stays s e = not_from_false (bytes_eq s.queue name) (ap (λ n. bytes_eq n name) (same_name s.queue k.message.queue e) ∙ other)

  drop_queue_by : (name : List ℕ) (o : Option QueueRow) → find_queue t name ≡ o → bytes_eq k.message.queue name ≡ false → SentJudged t moment at (c.drop_queue o)
  drop_queue_by name None f other = tt
  drop_queue_by name (Some q) f other =
      let named : q.name ≡ name = same_name q.name name (found_is (λ x. bytes_eq x.name name) t.queues q f) in
      sent_if (is_queue_used q) _ _ (λ _. tt) (λ _.
      one_sent (changes.DropQueue q.name)
      (subst (λ u. IsBeingSent u at) (sym (ap (λ o. if is_some o then drop_queue t q.name else t) (own name q f))) (dropped_sent q.name (ap (bytes_eq k.message.queue) named ∙ other)))
      (one_settles t (changes.DropQueue q.name) None refl refl))

  start_by : (o : Option QueueRow) (enqueue : Option Bool) (dequeue : Bool) → SentJudged t moment at (c.start o enqueue dequeue)
  start_by None enqueue dequeue = tt
  start_by (Some q) enqueue dequeue = sent_if (is_exception q.kind && unwrap_or enqueue false) _ _ (λ _. tt) (λ _. put_queue (started q enqueue dequeue))

  stop_by : (o : Option QueueRow) (enqueue dequeue : Bool) → SentJudged t moment at (c.stop o enqueue dequeue)
  stop_by None enqueue dequeue = tt
  stop_by (Some q) enqueue dequeue = put_queue (stopped q enqueue dequeue)

  -- ---- subscribers

  put_sub_by : (queue name : List ℕ) (address : Option (List ℕ)) (r : Result (Option Cond) ConditionFault) → SentJudged t moment at (c.put_sub queue name address r)
  put_sub_by queue name address (Err fault) = tt
  put_sub_by queue name address (Ok rule) = let change = changes.PutSub (record { queue = queue; name = name; address = address; rule = rule }) in beside change (after_change t change) refl (one_settles t change None refl refl) refl refl

  add_sub_by : (q : QueueRow) (o : Option TableRow) (name : List ℕ) (address rule : Option (List ℕ)) → SentJudged t moment at (c.add_sub t q o name address rule)
  add_sub_by q None name address rule = tt
  add_sub_by q (Some table) name address rule =
      sent_if (not (has_consumers q table)) _ _ (λ _. tt) (λ _.
      sent_if (is_some (find_sub t q.name name)) _ _ (λ _. tt) (λ _.
      sent_if (nat_le SUBSCRIBER_LIMIT (length (subscribers_of t q.name))) _ _ (λ _. tt) (λ _.
      put_sub_by q.name name address (optional_condition table.fields rule))))

  add_subscriber_by : (o : Option QueueRow) (name : List ℕ) (address rule : Option (List ℕ)) → SentJudged t moment at (c.add_subscriber t o name address rule)
  add_subscriber_by None name address rule = tt
  add_subscriber_by (Some q) name address rule = add_sub_by q (find_table t q.table) name address rule

  remove_sub_by : (queue name : List ℕ) (o : Option SubRow) → find_sub t queue name ≡ o → is_affected_at t (of_subscriber queue o) at.id at.slot ≡ false → SentJudged t moment at (c.remove_sub t o moment)
  remove_sub_by queue name None f clear = tt
  remove_sub_by queue name (Some sub) f clear =
      let p = and_parts (bytes_eq sub.queue queue) (bytes_eq sub.name name) (found_is (is_sub queue name) t.subs sub f) in
      let named : sub.queue ≡ queue = same_name sub.queue queue p.0 in
      let there : find_sub t sub.queue sub.name ≡ Some sub = ap (λ n. find_sub t n sub.name) named ∙ ap (find_sub t queue) (same_name sub.name name p.1) ∙ f in
      let free : is_affected_at t (of_subscriber sub.queue (Some sub)) at.id at.slot ≡ false = ap (λ n. is_affected_at t (of_subscriber n (Some sub)) at.id at.slot) named ∙ clear in
      let cs = settled t (changes.DropSub sub.queue sub.name ∷ dropped_in t sub moment) in
      let proper = proper_if_goes t moment cs (subscriber_goes t sub moment v le top there) in
      sent_rests t moment cs at v proper (removal_none t sub moment (puts_in at.id) (λ a b. refl) (λ n slot a. refl) (λ n q a. refl) (λ n. refl)) (removal_clear t sub moment at.id at.slot free v there)
      (removal_none t sub moment touches (λ a b. refl) (λ n slot a. refl) (λ n q a. refl) (λ n. refl)) k

  remove_subscriber_by : (queue : List ℕ) (o : Option QueueRow) (name : List ℕ) → find_queue t queue ≡ o → is_affected_at t (of_subscriber queue (find_sub t queue name)) at.id at.slot ≡ false → SentJudged t moment at (c.remove_subscriber t o name moment)
  remove_subscriber_by queue None name f clear = tt
  remove_subscriber_by queue (Some q) name f clear =
      let named : q.name ≡ queue = same_name q.name queue (found_is (λ x. bytes_eq x.name queue) t.queues q f) in
      sent_if (not (has_subscribers q (find_table t q.table))) _ _ (λ _. tt) (λ _.
      remove_sub_by q.name name (find_sub t q.name name) refl (ap (λ n. is_affected_at t (of_subscriber n (find_sub t n name)) at.id at.slot) named ∙ clear))

  -- ---- schedules

  -- a schedule is put that failed fifteen times at most, if it is the slot's
  put_by_its : (row : ScheduleRow) (b : Bool) → is_schedule_of k.message.queue k.slot row ≡ b → (b ≡ true → row.failures ≤ 15) → IsBeingSent (after_change t (changes.PutSchedule row)) at
  put_by_its row true e few =
      sent_as t (after_change t (changes.PutSchedule row)) at k k.message row k.message_is k.slot_is refl
      (find_put is_same_schedule row (is_schedule_of k.message.queue k.slot) e (λ x d. other_schedule x (is_schedule_of k.message.queue k.slot x) refl d) t.schedules) (few refl)
    where
      other_schedule : (x : ScheduleRow) (b : Bool) → is_schedule_of k.message.queue k.slot x ≡ b → is_same_schedule x row ≡ false → b ≡ false
      other_schedule x true f d = absurd (true≢false (sym (same_schedules k.message.queue k.slot x row f e) ∙ d))
      other_schedule x false f d = refl
  put_by_its row false e few =
      sent_as t (after_change t (changes.PutSchedule row)) at k k.message k.schedule k.message_is k.slot_is refl
      (find_other_put is_same_schedule row (is_schedule_of k.message.queue k.slot) e
      (λ x d. let p = and_parts (bytes_eq x.queue row.queue) (bytes_eq x.to row.to) d in ap (λ n. bytes_eq n k.message.queue && goes_to x.to k.slot) (same_name x.queue row.queue p.0) ∙ ap (λ n. bytes_eq row.queue k.message.queue && goes_to n k.slot) (same_name x.to row.to p.1) ∙ e)
      t.schedules ∙ k.schedule_is) k.few

  pub put_schedule_sent : (row : ScheduleRow) → (is_schedule_of k.message.queue k.slot row ≡ true → row.failures ≤ 15) → IsBeingSent (after_change t (changes.PutSchedule row)) at
  put_schedule_sent row few = put_by_its row (is_schedule_of k.message.queue k.slot row) refl few

  put_scheduled : (row : ScheduleRow) → (is_schedule_of k.message.queue k.slot row ≡ true → row.failures ≤ 15) → IsBeingSent (committed_tables t (settled t (changes.PutSchedule row ∷ [])) moment) at
  put_scheduled row few = one_sent (changes.PutSchedule row) (put_schedule_sent row few) (one_settles t (changes.PutSchedule row) None refl refl)

  put_schedule_by : (o : Option QueueRow) (row : ScheduleRow) → row.failures ≤ 15 → SentJudged t moment at (c.put_schedule t o row)
  put_schedule_by None row few = tt
  put_schedule_by (Some q) row few =
      sent_if (not (has_subscribers q (find_table t q.table))) _ _ (λ _. tt) (λ _.
      sent_if (is_some (find_schedule t row.queue row.to)) _ _ (λ _. tt) (λ _. put_scheduled row (λ _. few)))

  with_schedule_by : (queue to : List ℕ) (change : ScheduleRow → Change) → ((s : ScheduleRow) → find_schedule t queue to ≡ Some s → IsBeingSent (committed_tables t (settled t (change s ∷ [])) moment) at) → (o : Option ScheduleRow) → find_schedule t queue to ≡ o → SentJudged t moment at (c.with_schedule change o)
  with_schedule_by queue to change h None e = tt
  with_schedule_by queue to change h (Some s) e = h s e

  change_schedule_by : (queue to : List ℕ) (change : ScheduleRow → Change) → ((s : ScheduleRow) → find_schedule t queue to ≡ Some s → IsBeingSent (committed_tables t (settled t (change s ∷ [])) moment) at) → SentJudged t moment at (c.change_schedule t queue to change)
  change_schedule_by queue to change h = sent_if (is_none (find_queue t queue)) _ _ (λ _. tt) (λ _. with_schedule_by queue to change h (find_schedule t queue to) refl)

  -- the schedule that is found for the slot's queue and destination is the slot's
  is_its : (queue to : List ℕ) (s : ScheduleRow) → find_schedule t queue to ≡ Some s → is_schedule_of k.message.queue k.slot s ≡ true → s ≡ k.schedule
  is_its queue to s e f =
      let p = and_parts (bytes_eq s.queue queue) (bytes_eq s.to to) (found_is (is_schedule queue to) t.schedules s e) in
      same_found (is_schedule queue to) (is_schedule_of k.message.queue k.slot) t.schedules s k.schedule
      (λ x g. let q = and_parts (bytes_eq x.queue queue) (bytes_eq x.to to) g in
      ap (λ n. bytes_eq n k.message.queue && goes_to x.to k.slot) (same_name x.queue queue q.0 ∙ sym (same_name s.queue queue p.0)) ∙ ap (λ n. bytes_eq s.queue k.message.queue && goes_to n k.slot) (same_name x.to to q.1 ∙ sym (same_name s.to to p.1)) ∙ f)
      (λ x g. let q = and_parts (bytes_eq x.queue s.queue) (bytes_eq x.to s.to) (same_schedules k.message.queue k.slot x s g f) in
      and_from (bytes_eq x.queue queue) (bytes_eq x.to to) (ap (bytes_eq x.queue) (sym (same_name s.queue queue p.0)) ∙ q.0) (ap (bytes_eq x.to) (sym (same_name s.to to p.1)) ∙ q.1))
      e k.schedule_is

  disabled_by : (queue to : List ℕ) (s : ScheduleRow) → find_schedule t queue to ≡ Some s → IsBeingSent (committed_tables t (settled t (changes.PutSchedule (record s { enabled = false }) ∷ [])) moment) at
  disabled_by queue to s e = put_scheduled (record s { enabled = false }) (λ f. let x = k.few in let same = ap (λ y. y.failures) (is_its queue to s e f) in omega (arith, x, same))

  unscheduled_by : (queue to : List ℕ) (s : ScheduleRow) → to_destination queue to k.message (Some k.slot) ≡ false → find_schedule t queue to ≡ Some s → IsBeingSent (committed_tables t (settled t (changes.DropSchedule s.queue s.to ∷ [])) moment) at
  unscheduled_by queue to s clear e =
      let change = changes.DropSchedule s.queue s.to in
      let p = and_parts (bytes_eq s.queue queue) (bytes_eq s.to to) (found_is (is_schedule queue to) t.schedules s e) in
      one_sent change
      (sent_as t (after_change t change) at k k.message k.schedule k.message_is k.slot_is refl
      (find_other_removed (λ x. bytes_eq x.queue s.queue && bytes_eq x.to s.to) (is_schedule_of k.message.queue k.slot)
      (λ x g. let q = and_parts (bytes_eq x.queue s.queue) (bytes_eq x.to s.to) g in
      false_from_ne_true (is_schedule_of k.message.queue k.slot x)
      (λ yes. let r = and_parts (bytes_eq x.queue k.message.queue) (goes_to x.to k.slot) yes in
      true≢false (sym (and_from (bytes_eq k.message.queue queue) (option_map_or (λ y. is_same_consumer y.address (Some to)) (Some k.slot) false)
      (ap (λ n. bytes_eq n queue) (sym (same_name x.queue k.message.queue r.0) ∙ same_name x.queue s.queue q.0 ∙ same_name s.queue queue p.0) ∙ own_name queue)
      (destination k.slot.address (ap (λ n. goes_to n k.slot) (sym (same_name x.to s.to q.1 ∙ same_name s.to to p.1)) ∙ r.1))) ∙ clear)))
      t.schedules ∙ k.schedule_is) k.few) (one_settles t change None refl refl)
    where
      destination : (o : Option (List ℕ)) → option_map_or (λ address. bytes_eq address to) o false ≡ true → is_same_consumer o (Some to) ≡ true
      destination None h = absurd (false≢true h)
      destination (Some address) h = h

  -- ---- each administrative statement

  pub judged_sent : (db : DbId) (sessions : List Session) (ask : Admin) → is_same_db at.db db ≡ true → is_hindered t db sessions (Some at) ask ≡ false → SentJudged t moment at (judged t ask moment)
  unfolding judged
  judged_sent db sessions (asks.CreateTable table fields sort multi grouped) same h = create_table table fields sort multi grouped
  judged_sent db sessions (asks.DropTable table) same h = drop_table_sent table
  judged_sent db sessions (asks.CreateQueue queue table kind max_retries retry_delay retention) same h = create_queue queue table kind max_retries retry_delay retention
  judged_sent db sessions (asks.DropQueue queue) same h = drop_queue_by queue (find_queue t queue) refl (unaffected t db (in_queue queue) at k same (outstanding_sent t db sessions (Some at) (in_queue queue) h))
  judged_sent db sessions (asks.StartQueue queue enqueue dequeue) same h = start_by (find_queue t queue) enqueue dequeue
  judged_sent db sessions (asks.StopQueue queue enqueue dequeue) same h = stop_by (find_queue t queue) enqueue dequeue
  judged_sent db sessions (asks.AddSubscriber queue name address rule) same h = add_subscriber_by (find_queue t queue) name address rule
  judged_sent db sessions (asks.RemoveSubscriber queue name) same h =
      let affects = of_subscriber queue (find_sub t queue name) in
      remove_subscriber_by queue (find_queue t queue) name refl (second_of (is_same_db at.db db) (is_affected_at t affects at.id at.slot) same (outstanding_sent t db sessions (Some at) affects h))
  judged_sent db sessions (asks.Schedule queue to start duration period latency) same h =
      put_schedule_by (find_queue t queue) (record { queue = queue; to = to; enabled = true; start = unwrap_or start moment; duration = duration; period = period; latency = latency; failures = 0; next = 0 }) (omega arith)
  judged_sent db sessions (asks.Unschedule queue to) same h = change_schedule_by queue to (λ s. changes.DropSchedule s.queue s.to) (λ s e. unscheduled_by queue to s (unaffected t db (to_destination queue to) at k same h) e)
  judged_sent db sessions (asks.EnableSchedule queue to) same h = change_schedule_by queue to (λ s. changes.PutSchedule (fresh_schedule s)) (λ s e. put_scheduled (fresh_schedule s) (λ _. omega arith))
  judged_sent db sessions (asks.DisableSchedule queue to) same h = change_schedule_by queue to (λ s. changes.PutSchedule (record s { enabled = false })) (λ s e. disabled_by queue to s e)
