-- What administrative statements change is spellable.
use Rattle.std.proofs.Common.{◌≡◌, ℕ, List, Bool, true, false, not, length, refl, Option, Some, None, Result, Ok, Err, ◌&&◌, ◌||◌}
use Rattle.std.specs.Prelude.{filter, nat_le, is_some, is_none, unwrap_or, if◌then◌else◌}
use Rattle.std.specs.List.{enumerate_from}
use Rattle.std.specs.Option.{IfSome}
use Rattle.std.specs.Str.{bytes_eq, is_utf8}
use Rattle.std.proofs.lemmas.Bool.{cond_both}
use Rattle.aq_base.specs.declared.limits.TheConstants.{SUBSCRIBER_LIMIT}
use Rattle.payload_records.specs.declared.kind.Field.{Field}
use Rattle.rule_conditions.specs.declared.condition.Cond.{Cond}
use Rattle.queue_rows.specs.Rows.{find_table, find_queue, find_sub, find_schedule, exception_name}
use Rattle.queue_rows.specs.Settling.{is_exception, is_open}
use Rattle.queue_rows.specs.Catalog as c
use Rattle.queue_rows.specs.Catalog.{Judged, judged, is_table_used, is_queue_used, new_queue, exception_row, started, stopped, has_subscribers, fresh_schedule, is_slot_of, dropped_slot, dropped_of, dropped_in}
use Rattle.queue_rows.specs.Conditions.{optional_condition}
use Rattle.queue_rows.specs.Recipients.{has_consumers, subscribers_of}
use Rattle.queue_rows.specs.Within.{if_some}
use Rattle.queue_rows.specs.declared.tables.Tables.{Tables}
use Rattle.queue_rows.specs.declared.rows.TableRow.{TableRow}
use Rattle.queue_rows.specs.declared.rows.QueueRow.{QueueRow}
use Rattle.queue_rows.specs.declared.rows.SubRow.{SubRow}
use Rattle.queue_rows.specs.declared.rows.ScheduleRow.{ScheduleRow}
use Rattle.queue_rows.specs.declared.change.Change.{Change}
use Rattle.queue_rows.specs.declared.change.Change.TheVariants as changes
use Rattle.queue_rows.specs.declared.reply.ConditionFault.{ConditionFault}
use Rattle.queue_rows.specs.declared.statement.Admin.{Admin}
use Rattle.queue_rows.specs.declared.statement.Admin.TheVariants as asks
use Rattle.redo_records.specs.Spellable.{IsSpellable}
use Rattle.run_spellings.specs.SpellableRun.{AreSpellable, asks_text_rule}
use Rattle.run_spellings.proofs.Each.{each_flat, each_found}
use Rattle.run_spellings.proofs.Rules.{rule_given}

abbrev pub SpellsJudged : Judged → Type 0
SpellsJudged (Err reply) = Unit {0}
SpellsJudged (Ok cs) = AreSpellable cs

-- ---- slots of a subscriber that goes

found_if : (b : Bool) (change : Change) → IsSpellable change → IfSome (if b then Some change else None) IsSpellable
found_if true change h = h
found_if false change h = tt

dropped_spell : (t : Tables) (sub : SubRow) (moment : ℕ) → AreSpellable (dropped_in t sub moment)
dropped_spell t sub moment =
    each_flat IsSpellable (dropped_of sub moment)
    (λ m. each_found IsSpellable (dropped_slot sub moment m.id) (λ s. found_if (is_slot_of sub s.1 && is_open (s.1).state) (changes.Dropped m.id s.0 moment) tt) (enumerate_from 1 m.slots))
    (filter (λ m. bytes_eq m.queue sub.queue) t.messages)

-- ---- each statement

module _ (t : Tables) (moment : ℕ) where
  judged_if : (b : Bool) (x y : Judged) → SpellsJudged x → SpellsJudged y → SpellsJudged (if b then x else y)
  judged_if b x y h k = cond_both b x y SpellsJudged (λ _. h) (λ _. k)

  drop_queue_by : (o : Option QueueRow) → SpellsJudged (c.drop_queue o)
  drop_queue_by None = tt
  drop_queue_by (Some q) = judged_if (is_queue_used q) _ _ tt (tt, tt)

  start_by : (o : Option QueueRow) (enqueue : Option Bool) (dequeue : Bool) → SpellsJudged (c.start o enqueue dequeue)
  start_by None enqueue dequeue = tt
  start_by (Some q) enqueue dequeue = judged_if (is_exception q.kind && unwrap_or enqueue false) _ _ tt (tt, tt)

  stop_by : (o : Option QueueRow) (enqueue dequeue : Bool) → SpellsJudged (c.stop o enqueue dequeue)
  stop_by None enqueue dequeue = tt
  stop_by (Some q) enqueue dequeue = (tt, tt)

  put_sub_by : (queue name : List ℕ) (address rule : Option (List ℕ)) (fields : List Field) (r : Result (Option Cond) ConditionFault) → optional_condition fields rule ≡ r → if_some is_utf8 rule ≡ true → SpellsJudged (c.put_sub queue name address r)
  put_sub_by queue name address rule fields (Err fault) e u = tt
  put_sub_by queue name address rule fields (Ok o) e u = (rule_given fields rule o u e, tt)

  add_sub_by : (q : QueueRow) (o : Option TableRow) (name : List ℕ) (address rule : Option (List ℕ)) → if_some is_utf8 rule ≡ true → SpellsJudged (c.add_sub t q o name address rule)
  add_sub_by q None name address rule u = tt
  add_sub_by q (Some table) name address rule u =
      judged_if (not (has_consumers q table)) _ _ tt
      (judged_if (is_some (find_sub t q.name name)) _ _ tt
      (judged_if (nat_le SUBSCRIBER_LIMIT (length (subscribers_of t q.name))) _ _ tt
      (put_sub_by q.name name address rule table.fields (optional_condition table.fields rule) refl u)))

  add_subscriber_by : (o : Option QueueRow) (name : List ℕ) (address rule : Option (List ℕ)) → if_some is_utf8 rule ≡ true → SpellsJudged (c.add_subscriber t o name address rule)
  add_subscriber_by None name address rule u = tt
  add_subscriber_by (Some q) name address rule u = add_sub_by q (find_table t q.table) name address rule u

  remove_sub_by : (o : Option SubRow) → SpellsJudged (c.remove_sub t o moment)
  remove_sub_by None = tt
  remove_sub_by (Some sub) = (tt, dropped_spell t sub moment)

  remove_subscriber_by : (o : Option QueueRow) (name : List ℕ) → SpellsJudged (c.remove_subscriber t o name moment)
  remove_subscriber_by None name = tt
  remove_subscriber_by (Some q) name = judged_if (not (has_subscribers q (find_table t q.table))) _ _ tt (remove_sub_by (find_sub t q.name name))

  put_schedule_by : (o : Option QueueRow) (row : ScheduleRow) → SpellsJudged (c.put_schedule t o row)
  put_schedule_by None row = tt
  put_schedule_by (Some q) row = judged_if (not (has_subscribers q (find_table t q.table))) _ _ tt (judged_if (is_some (find_schedule t row.queue row.to)) _ _ tt (tt, tt))

  with_schedule_by : (change : ScheduleRow → Change) → ((s : ScheduleRow) → IsSpellable (change s)) → (o : Option ScheduleRow) → SpellsJudged (c.with_schedule change o)
  with_schedule_by change h None = tt
  with_schedule_by change h (Some s) = (h s, tt)

  change_schedule_by : (queue to : List ℕ) (change : ScheduleRow → Change) → ((s : ScheduleRow) → IsSpellable (change s)) → SpellsJudged (c.change_schedule t queue to change)
  change_schedule_by queue to change h = judged_if (is_none (find_queue t queue)) _ _ tt (with_schedule_by change h (find_schedule t queue to))

  pub judged_spells : (ask : Admin) → asks_text_rule ask ≡ true → SpellsJudged (judged t ask moment)
  unfolding judged
  judged_spells (asks.CreateTable table fields sort multi grouped) text = judged_if (is_some (find_table t table) || is_some (find_queue t (exception_name table))) _ _ tt (tt, (tt, tt))
  judged_spells (asks.DropTable table) text = judged_if (is_none (find_table t table)) _ _ tt (judged_if (is_table_used t table) _ _ tt (tt, tt))
  judged_spells (asks.CreateQueue queue table kind max_retries retry_delay retention) text = judged_if (is_none (find_table t table)) _ _ tt (judged_if (is_some (find_queue t queue)) _ _ tt (tt, tt))
  judged_spells (asks.DropQueue queue) text = drop_queue_by (find_queue t queue)
  judged_spells (asks.StartQueue queue enqueue dequeue) text = start_by (find_queue t queue) enqueue dequeue
  judged_spells (asks.StopQueue queue enqueue dequeue) text = stop_by (find_queue t queue) enqueue dequeue
  judged_spells (asks.AddSubscriber queue name address rule) text = add_subscriber_by (find_queue t queue) name address rule text
  judged_spells (asks.RemoveSubscriber queue name) text = remove_subscriber_by (find_queue t queue) name
  judged_spells (asks.Schedule queue to start duration period latency) text =
      put_schedule_by (find_queue t queue) (record { queue = queue; to = to; enabled = true; start = unwrap_or start moment; duration = duration; period = period; latency = latency; failures = 0; next = 0 })
  judged_spells (asks.Unschedule queue to) text = change_schedule_by queue to (λ s. changes.DropSchedule s.queue s.to) (λ s. tt)
  judged_spells (asks.EnableSchedule queue to) text = change_schedule_by queue to (λ s. changes.PutSchedule (fresh_schedule s)) (λ s. tt)
  judged_spells (asks.DisableSchedule queue to) text = change_schedule_by queue to (λ s. changes.PutSchedule (record s { enabled = false })) (λ s. tt)
