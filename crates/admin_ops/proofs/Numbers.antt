-- No administrative statement takes an id.
use Rattle.std.proofs.Common.{◌≡◌, ℕ, List, [], ◌∷◌, Bool, true, false, Option, Some, None, Result, Ok, Err, refl, sym, ap, ◌∙◌}
use Rattle.std.specs.Prelude.{if◌then◌else◌}
use Rattle.queue_rows.specs.Turns.{ids_taken}
use Rattle.queue_rows.specs.Rows.{find_table, find_queue, find_sub, find_schedule}
use Rattle.queue_rows.specs.Conditions.{optional_condition}
use Rattle.queue_rows.specs.Catalog.{Judged, judged, new_queue, drop_queue, start, stop, put_sub, add_sub, add_subscriber, remove_sub, remove_subscriber, put_schedule, with_schedule, change_schedule}
use Rattle.queue_rows.specs.declared.tables.Tables.{Tables}
use Rattle.queue_rows.specs.declared.rows.TableRow.{TableRow}
use Rattle.queue_rows.specs.declared.rows.QueueRow.{QueueRow}
use Rattle.queue_rows.specs.declared.rows.SubRow.{SubRow}
use Rattle.queue_rows.specs.declared.rows.ScheduleRow.{ScheduleRow}
use Rattle.queue_rows.specs.declared.change.Change.{Change}
use Rattle.queue_rows.specs.declared.reply.Reply.{Reply}
use Rattle.queue_rows.specs.declared.reply.Reply.TheVariants as replies
use Rattle.queue_rows.specs.declared.reply.LimitName.TheVariants as limits
use Rattle.queue_rows.specs.declared.change.Change.TheVariants.{PutSchedule, DropTable, PutQueue}
use Rattle.queue_rows.specs.declared.reply.ConditionFault.{ConditionFault}
use Rattle.rule_conditions.specs.declared.condition.Cond.{Cond}
use Rattle.queue_rows.specs.declared.statement.Admin.{Admin}
use Rattle.queue_rows.specs.declared.statement.Admin.TheVariants as asks

-- what is judged takes no id, as changes take none
data TakesNone : Judged → Type 0 where
  changed : (changes : List Change) → TakesNone (Ok changes)
  refused : (reply : Reply) → ids_taken reply ≡ 0 → TakesNone (Err reply)

either : (b : Bool) (x y : Judged) → TakesNone x → TakesNone y → TakesNone (if b then x else y)
either true x y p q = p
either false x y p q = q

dropping : (o : Option QueueRow) → TakesNone (drop_queue o)
dropping None = refused _ refl
dropping (Some queue) = either _ _ _ (refused _ refl) (changed _)

starting : (o : Option QueueRow) (enqueue : Option Bool) (dequeue : Bool) → TakesNone (start o enqueue dequeue)
starting None enqueue dequeue = refused _ refl
starting (Some queue) enqueue dequeue = either _ _ _ (refused _ refl) (changed _)

stopping : (o : Option QueueRow) (enqueue dequeue : Bool) → TakesNone (stop o enqueue dequeue)
stopping None enqueue dequeue = refused _ refl
stopping (Some queue) enqueue dequeue = changed _

putting : (queue name : List ℕ) (address : Option (List ℕ)) (rule : Result (Option Cond) ConditionFault) → TakesNone (put_sub queue name address rule)
putting queue name address (Err fault) = refused _ refl
putting queue name address (Ok rule) = changed _

adding : (t : Tables) (queue : QueueRow) (table : Option TableRow) (name : List ℕ) (address rule : Option (List ℕ)) → TakesNone (add_sub t queue table name address rule)
adding t queue None name address rule = refused _ refl
adding t queue (Some table) name address rule =
    either _ _ _ (refused replies.WrongKind refl) (either _ _ _ (refused replies.Exists refl) (either _ _ _ (refused (replies.Limit limits.Subscribers) refl) (putting queue.name name address (optional_condition table.fields rule))))

adding_to : (t : Tables) (queue : Option QueueRow) (name : List ℕ) (address rule : Option (List ℕ)) → TakesNone (add_subscriber t queue name address rule)
adding_to t None name address rule = refused _ refl
adding_to t (Some queue) name address rule = adding t queue (find_table t queue.table) name address rule

removing : (t : Tables) (sub : Option SubRow) (moment : ℕ) → TakesNone (remove_sub t sub moment)
removing t None moment = refused _ refl
removing t (Some sub) moment = changed _

removing_from : (t : Tables) (queue : Option QueueRow) (name : List ℕ) (moment : ℕ) → TakesNone (remove_subscriber t queue name moment)
removing_from t None name moment = refused _ refl
removing_from t (Some queue) name moment = either _ _ _ (refused _ refl) (removing t (find_sub t queue.name name) moment)

scheduling : (t : Tables) (queue : Option QueueRow) (row : ScheduleRow) → TakesNone (put_schedule t queue row)
scheduling t None row = refused _ refl
scheduling t (Some queue) row = either _ _ _ (refused replies.WrongKind refl) (either _ _ _ (refused replies.Exists refl) (changed (PutSchedule row ∷ [])))

with_it : (change : ScheduleRow → Change) (row : Option ScheduleRow) → TakesNone (with_schedule change row)
with_it change None = refused _ refl
with_it change (Some row) = changed _

changing : (t : Tables) (queue to : List ℕ) (change : ScheduleRow → Change) → TakesNone (change_schedule t queue to change)
changing t queue to change = either _ _ _ (refused _ refl) (with_it change (find_schedule t queue to))

takes_none : (t : Tables) (ask : Admin) (moment : ℕ) → TakesNone (judged t ask moment)
unfolding judged
takes_none t (asks.CreateTable table fields sort multi grouped) moment = either _ _ _ (refused _ refl) (changed _)
takes_none t (asks.DropTable table) moment = either _ _ _ (refused replies.NoTable refl) (either _ _ _ (refused replies.InUse refl) (changed (DropTable table ∷ [])))
takes_none t (asks.CreateQueue queue table kind max_retries retry_delay retention) moment =
    either _ _ _ (refused replies.NoTable refl) (either _ _ _ (refused replies.Exists refl) (changed (PutQueue (new_queue queue table kind max_retries retry_delay retention) ∷ [])))
takes_none t (asks.DropQueue queue) moment = dropping (find_queue t queue)
takes_none t (asks.StartQueue queue enqueue dequeue) moment = starting (find_queue t queue) enqueue dequeue
takes_none t (asks.StopQueue queue enqueue dequeue) moment = stopping (find_queue t queue) enqueue dequeue
takes_none t (asks.AddSubscriber queue name address rule) moment = adding_to t (find_queue t queue) name address rule
takes_none t (asks.RemoveSubscriber queue name) moment = removing_from t (find_queue t queue) name moment
takes_none t (asks.Schedule queue to start duration period latency) moment = scheduling t (find_queue t queue) _
takes_none t (asks.Unschedule queue to) moment = changing t queue to _
takes_none t (asks.EnableSchedule queue to) moment = changing t queue to _
takes_none t (asks.DisableSchedule queue to) moment = changing t queue to _

-- a refusal takes none
pub refusal_takes_none : (t : Tables) (ask : Admin) (moment : ℕ) (reply : Reply) → judged t ask moment ≡ Err reply → ids_taken reply ≡ 0
refusal_takes_none t ask moment reply e = none (judged t ask moment) (takes_none t ask moment) e
  where
    none : (j : Judged) → TakesNone j → j ≡ Err reply → ids_taken reply ≡ 0
    none j (changed changes) same = cc same
    none j (refused other e) same = let one : other ≡ reply = cc same in ap ids_taken (sym one) ∙ e
