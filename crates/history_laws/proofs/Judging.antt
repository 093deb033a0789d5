-- What an administrative statement changes, where it is not refused, is proper.
use Rattle.std.proofs.Common.{◌≡◌, ◌≤◌, ℕ, List, [], ◌∷◌, Bool, true, false, not, length, refl, sym, ap, ◌∙◌, subst, Option, Some, None, Result, Ok, Err, ◌&&◌, ◌||◌}
use Rattle.std.specs.Prelude.{nat_le, is_some, is_none, unwrap_or, if◌then◌else◌}
use Rattle.std.specs.List.{list_any}
use Rattle.std.specs.Str.{bytes_eq}
use Rattle.std.proofs.lemmas.Bool.{cond_both, and_parts, and_from, or_parts}
use Rattle.aq_base.specs.declared.limits.TheConstants.{MOMENT_LIMIT, SUBSCRIBER_LIMIT}
use Rattle.rule_conditions.specs.declared.condition.Cond.{Cond}
use Rattle.queue_rows.specs.Rows.{find_table, find_queue, find_sub, find_schedule, is_sub, exception_name}
use Rattle.queue_rows.specs.Settling.{is_exception, named_by, settled}
use Rattle.queue_rows.specs.Catalog as c
use Rattle.queue_rows.specs.Catalog.{Judged, judged, is_further_queue, is_table_used, is_queue_used, new_queue, started, stopped, has_subscribers, fresh_schedule}
use Rattle.queue_rows.specs.Conditions.{optional_condition}
use Rattle.queue_rows.specs.Recipients.{has_consumers, subscribers_of}
use Rattle.queue_rows.specs.Valid.{is_valid}
use Rattle.queue_rows.specs.declared.tables.Tables.{Tables}
use Rattle.queue_rows.specs.declared.rows.TableRow.{TableRow}
use Rattle.queue_rows.specs.declared.rows.QueueRow.{QueueRow}
use Rattle.queue_rows.specs.declared.rows.SubRow.{SubRow}
use Rattle.queue_rows.specs.declared.rows.ScheduleRow.{ScheduleRow}
use Rattle.queue_rows.specs.declared.change.Change.{Change}
use Rattle.queue_rows.specs.declared.change.Change.TheVariants as changes
use Rattle.queue_rows.specs.declared.reply.ConditionFault.{ConditionFault}
use Rattle.queue_rows.specs.declared.statement.Admin.{Admin}
use Rattle.queue_rows.specs.declared.statement.Admin.TheVariants as asks
use Rattle.row_laws.proofs.Finding.{found_is}
use Rattle.valid_laws.specs.Touching.{is_put_in, is_proper, are_proper}
use Rattle.valid_laws.proofs.Cataloguing.{same_name}
use Rattle.valid_laws.proofs.Making.{one_settles}
use Rattle.history_laws.specs.CommitLaws.{IsProperCommit}
use Rattle.history_laws.proofs.Committing.{no_ids, subscriber_removal_is_proper}

abbrev IsWell : Tables → Judged → Type 0
IsWell t (Err reply) = Unit {0}
IsWell t (Ok cs) = IsProperCommit t (settled t cs) []

one_is_proper : (t : Tables) (change : Change) → is_proper t change ≡ true → are_proper t (change ∷ []) ≡ true
unfolding are_proper
one_is_proper t change h = and_from (is_proper t change) true h refl

-- one change of which nothing else comes
one : (t : Tables) (change : Change) → is_proper t change ≡ true → is_put_in change ≡ false → named_by change ≡ None → IsProperCommit t (settled t (change ∷ [])) []
one t change h p n =
    subst (λ cs. IsProperCommit t cs []) (sym (one_settles t change (named_by change) refl n))
    (record { proper = one_is_proper t change h; ids_are = no_ids (change ∷ []) (ap (λ b. b || false) p) })

module _ (t : Tables) (moment : ℕ) (v : is_valid t ≡ true) (le : t.latest ≤ moment) (top : moment ≤ MOMENT_LIMIT) where
  well_if : (b : Bool) (x y : Judged) → (b ≡ true → IsWell t x) → (b ≡ false → IsWell t y) → IsWell t (if b then x else y)
  well_if b x y p q = cond_both b x y (IsWell t) p q

  drop_queue_by : (name : List ℕ) (o : Option QueueRow) → find_queue t name ≡ o → IsWell t (c.drop_queue o)
  drop_queue_by name None f = tt
  drop_queue_by name (Some q) f =
      well_if (is_queue_used q) _ _ (λ _. tt) (λ _.
      one t (changes.DropQueue q.name) (ap is_some (ap (find_queue t) (same_name q.name name (found_is (λ x. bytes_eq x.name name) t.queues q f)) ∙ f)) refl refl)

  start_by : (o : Option QueueRow) (enqueue : Option Bool) (dequeue : Bool) → IsWell t (c.start o enqueue dequeue)
  start_by None enqueue dequeue = tt
  start_by (Some q) enqueue dequeue = well_if (is_exception q.kind && unwrap_or enqueue false) _ _ (λ _. tt) (λ _. one t (changes.PutQueue (started q enqueue dequeue)) refl refl refl)

  stop_by : (o : Option QueueRow) (enqueue dequeue : Bool) → IsWell t (c.stop o enqueue dequeue)
  stop_by None enqueue dequeue = tt
  stop_by (Some q) enqueue dequeue = one t (changes.PutQueue (stopped q enqueue dequeue)) refl refl refl

  put_sub_by : (queue name : List ℕ) (address : Option (List ℕ)) (r : Result (Option Cond) ConditionFault) → IsWell t (c.put_sub queue name address r)
  put_sub_by queue name address (Err fault) = tt
  put_sub_by queue name address (Ok rule) = one t (changes.PutSub (record { queue = queue; name = name; address = address; rule = rule })) refl refl refl

  add_sub_by : (q : QueueRow) (o : Option TableRow) (name : List ℕ) (address rule : Option (List ℕ)) → IsWell t (c.add_sub t q o name address rule)
  add_sub_by q None name address rule = tt
  add_sub_by q (Some table) name address rule =
      well_if (not (has_consumers q table)) _ _ (λ _. tt) (λ _.
      well_if (is_some (find_sub t q.name name)) _ _ (λ _. tt) (λ _.
      well_if (nat_le SUBSCRIBER_LIMIT (length (subscribers_of t q.name))) _ _ (λ _. tt) (λ _. put_sub_by q.name name address (optional_condition table.fields rule))))

  add_subscriber_by : (o : Option QueueRow) (name : List ℕ) (address rule : Option (List ℕ)) → IsWell t (c.add_subscriber t o name address rule)
  add_subscriber_by None name address rule = tt
  add_subscriber_by (Some q) name address rule = add_sub_by q (find_table t q.table) name address rule

  remove_sub_by : (queue name : List ℕ) (o : Option SubRow) → find_sub t queue name ≡ o → IsWell t (c.remove_sub t o moment)
  remove_sub_by queue name None f = tt
  remove_sub_by queue name (Some sub) f =
      let p = and_parts (bytes_eq sub.queue queue) (bytes_eq sub.name name) (found_is (is_sub queue name) t.subs sub f) in
      subscriber_removal_is_proper t sub moment v le top (ap (λ n. find_sub t n sub.name) (same_name sub.queue queue p.0) ∙ ap (find_sub t queue) (same_name sub.name name p.1) ∙ f)

  remove_subscriber_by : (o : Option QueueRow) (name : List ℕ) → IsWell t (c.remove_subscriber t o name moment)
  remove_subscriber_by None name = tt
  remove_subscriber_by (Some q) name = well_if (not (has_subscribers q (find_table t q.table))) _ _ (λ _. tt) (λ _. remove_sub_by q.name name (find_sub t q.name name) refl)

  put_schedule_by : (o : Option QueueRow) (row : ScheduleRow) → IsWell t (c.put_schedule t o row)
  put_schedule_by None row = tt
  put_schedule_by (Some q) row =
      well_if (not (has_subscribers q (find_table t q.table))) _ _ (λ _. tt) (λ _. well_if (is_some (find_schedule t row.queue row.to)) _ _ (λ _. tt) (λ _. one t (changes.PutSchedule row) refl refl refl))

  unschedule_by : (o : Option ScheduleRow) → IsWell t (c.with_schedule (λ s. changes.DropSchedule s.queue s.to) o)
  unschedule_by None = tt
  unschedule_by (Some s) = one t (changes.DropSchedule s.queue s.to) refl refl refl

  enable_by : (o : Option ScheduleRow) → IsWell t (c.with_schedule (λ s. changes.PutSchedule (fresh_schedule s)) o)
  enable_by None = tt
  enable_by (Some s) = one t (changes.PutSchedule (fresh_schedule s)) refl refl refl

  disable_by : (o : Option ScheduleRow) → IsWell t (c.with_schedule (λ s. changes.PutSchedule (record s { enabled = false })) o)
  disable_by None = tt
  disable_by (Some s) = one t (changes.PutSchedule (record s { enabled = false })) refl refl refl

  judged_well : (ask : Admin) → IsWell t (judged t ask moment)
  unfolding judged are_proper
  judged_well (asks.CreateTable table fields sort multi grouped) =
      well_if (is_some (find_table t table) || is_some (find_queue t (exception_name table))) _ _ (λ _. tt) (λ _. record { proper = refl; ids_are = refl })
  judged_well (asks.DropTable table) =
      well_if (is_none (find_table t table)) _ _ (λ _. tt) (λ _.
      well_if (is_table_used t table) _ _ (λ _. tt) (λ unused.
      one t (changes.DropTable table) (ap not (or_parts (list_any (is_further_queue table) t.queues) (list_any (λ m. bytes_eq m.queue (exception_name table)) t.messages) unused).1) refl refl))
  judged_well (asks.CreateQueue queue table kind max_retries retry_delay retention) =
      well_if (is_none (find_table t table)) _ _ (λ _. tt) (λ _.
      well_if (is_some (find_queue t queue)) _ _ (λ _. tt) (λ _. one t (changes.PutQueue (new_queue queue table kind max_retries retry_delay retention)) refl refl refl))
  judged_well (asks.DropQueue queue) = drop_queue_by queue (find_queue t queue) refl
  judged_well (asks.StartQueue queue enqueue dequeue) = start_by (find_queue t queue) enqueue dequeue
  judged_well (asks.StopQueue queue enqueue dequeue) = stop_by (find_queue t queue) enqueue dequeue
  judged_well (asks.AddSubscriber queue name address rule) = add_subscriber_by (find_queue t queue) name address rule
  judged_well (asks.RemoveSubscriber queue name) = remove_subscriber_by (find_queue t queue) name
  judged_well (asks.Schedule queue to start duration period latency) =
      put_schedule_by (find_queue t queue) (record { queue = queue; to = to; enabled = true; start = unwrap_or start moment; duration = duration; period = period; latency = latency; failures = 0; next = 0 })
  judged_well (asks.Unschedule queue to) = well_if (is_none (find_queue t queue)) _ _ (λ _. tt) (λ _. unschedule_by (find_schedule t queue to))
  judged_well (asks.EnableSchedule queue to) = well_if (is_none (find_queue t queue)) _ _ (λ _. tt) (λ _. enable_by (find_schedule t queue to))
  judged_well (asks.DisableSchedule queue to) = well_if (is_none (find_queue t queue)) _ _ (λ _. tt) (λ _. disable_by (find_schedule t queue to))

pub administration_is_proper : (t : Tables) (ask : Admin) (moment : ℕ) (cs : List Change) → is_valid t ≡ true → t.latest ≤ moment → moment ≤ MOMENT_LIMIT → judged t ask moment ≡ Ok cs → IsProperCommit t (settled t cs) []
administration_is_proper t ask moment cs v le top e = subst (IsWell t) e (judged_well t moment v le top ask)
