-- Only an enqueue that is answered Enqueued takes an id.
use Rattle.std.proofs.Common.{◌≡◌, ℕ, List, [], ◌∷◌, Bool, true, false, not, length, refl, Option, Some, None, Result, Ok, Err, ◌+◌, ◌&&◌, ◌||◌}
use Rattle.std.specs.Prelude.{nat_le, is_some, is_none, unwrap_or, if◌then◌else◌}
use Rattle.std.specs.Option.{option_or}
use Rattle.std.specs.Str.{bytes_eq}
use Rattle.std.proofs.lemmas.Bool.{cond_both, true≢false}
use Rattle.aq_base.specs.declared.limits.TheConstants.{SUBSCRIBER_LIMIT}
use Rattle.rule_conditions.specs.declared.condition.Cond.{Cond}
use Rattle.queue_rows.specs.Rows.{find_table, find_queue, find_sub, find_schedule, exception_name, slot_of}
use Rattle.queue_rows.specs.Settling.{is_exception}
use Rattle.queue_rows.specs.Conditions.{optional_condition}
use Rattle.queue_rows.specs.Recipients.{has_consumers, subscribers_of}
use Rattle.queue_rows.specs.Session.{Session, has_removed, message_named}
use Rattle.queue_rows.specs.Meaning.{answers, parks, unparked, refused, still_waits, first_look}
use Rattle.queue_rows.specs.Administration.{administer, administered, is_hindered}
use Rattle.queue_rows.specs.Catalog as c
use Rattle.queue_rows.specs.Catalog.{Judged, judged, is_table_used, is_queue_used, has_subscribers, fresh_schedule}
use Rattle.queue_rows.specs.Dequeueing as d
use Rattle.queue_rows.specs.Listening.{listen, listened, agent_fault, agent_fault_in, agent_fault_at, agents_fault, served_from, is_served}
use Rattle.queue_rows.specs.Statements.{meaning, slot_sent}
use Rattle.queue_rows.specs.Transactions.{commit, rollback}
use Rattle.queue_rows.specs.Turns.{ids_taken}
use Rattle.queue_rows.specs.World.{World, database_at}
use Rattle.queue_rows.specs.declared.tables.Tables.{Tables}
use Rattle.queue_rows.specs.declared.rows.TableRow.{TableRow}
use Rattle.queue_rows.specs.declared.rows.QueueRow.{QueueRow}
use Rattle.queue_rows.specs.declared.rows.SubRow.{SubRow}
use Rattle.queue_rows.specs.declared.rows.ScheduleRow.{ScheduleRow}
use Rattle.queue_rows.specs.declared.rows.MsgRow.{MsgRow}
use Rattle.queue_rows.specs.declared.change.Change.{Change}
use Rattle.queue_rows.specs.declared.change.Change.TheVariants as changes
use Rattle.queue_rows.specs.declared.reply.Reply.{Reply}
use Rattle.queue_rows.specs.declared.reply.Reply.TheVariants as replies
use Rattle.queue_rows.specs.declared.reply.ConditionFault.{ConditionFault}
use Rattle.queue_rows.specs.declared.statement.Admin.{Admin}
use Rattle.queue_rows.specs.declared.statement.Admin.TheVariants as asks
use Rattle.queue_rows.specs.declared.statement.Dequeue.{Dequeue}
use Rattle.queue_rows.specs.declared.statement.Listen.{Listen}
use Rattle.queue_rows.specs.declared.statement.Listener.{Listener}
use Rattle.queue_rows.specs.declared.statement.MsgId.{MsgId}
use Rattle.queue_rows.specs.declared.statement.Mode.{Mode}
use Rattle.queue_rows.specs.declared.statement.Mode.TheVariants as modes
use Rattle.queue_rows.specs.declared.statement.Statement.{Statement}
use Rattle.queue_rows.specs.declared.statement.Statement.TheVariants as statements
use Rattle.queue_rows.specs.declared.statement.Visibility.{Visibility}
use Rattle.queue_rows.specs.declared.statement.Visibility.TheVariants as visibilities
use Rattle.statement_laws.proofs.Among.{Says, says_if, says_so}

abbrev NoId : Reply → List Change → Session → Type 0
NoId reply cs after = ids_taken reply ≡ 0

-- ---- administrative statements

abbrev NoIdJudged : Judged → Type 0
NoIdJudged (Err reply) = ids_taken reply ≡ 0
NoIdJudged (Ok cs) = Unit {0}

no_id_if : (b : Bool) (x y : Judged) → NoIdJudged x → NoIdJudged y → NoIdJudged (if b then x else y)
no_id_if b x y p q = cond_both b x y NoIdJudged (λ _. p) (λ _. q)

drop_no_id : (o : Option QueueRow) → NoIdJudged (c.drop_queue o)
drop_no_id None = refl
drop_no_id (Some q) = no_id_if (is_queue_used q) _ _ refl tt

start_no_id : (o : Option QueueRow) (enqueue : Option Bool) (dequeue : Bool) → NoIdJudged (c.start o enqueue dequeue)
start_no_id None enqueue dequeue = refl
start_no_id (Some q) enqueue dequeue = no_id_if (is_exception q.kind && unwrap_or enqueue false) _ _ refl tt

stop_no_id : (o : Option QueueRow) (enqueue dequeue : Bool) → NoIdJudged (c.stop o enqueue dequeue)
stop_no_id None enqueue dequeue = refl
stop_no_id (Some q) enqueue dequeue = tt

put_sub_no_id : (queue name : List ℕ) (address : Option (List ℕ)) (r : Result (Option Cond) ConditionFault) → NoIdJudged (c.put_sub queue name address r)
put_sub_no_id queue name address (Err fault) = refl
put_sub_no_id queue name address (Ok rule) = tt

add_sub_no_id : (t : Tables) (q : QueueRow) (o : Option TableRow) (name : List ℕ) (address rule : Option (List ℕ)) → NoIdJudged (c.add_sub t q o name address rule)
add_sub_no_id t q None name address rule = refl
add_sub_no_id t q (Some table) name address rule =
    no_id_if (not (has_consumers q table)) _ _ refl
    (no_id_if (is_some (find_sub t q.name name)) _ _ refl
    (no_id_if (nat_le SUBSCRIBER_LIMIT (length (subscribers_of t q.name))) _ _ refl (put_sub_no_id q.name name address (optional_condition table.fields rule))))

add_no_id : (t : Tables) (o : Option QueueRow) (name : List ℕ) (address rule : Option (List ℕ)) → NoIdJudged (c.add_subscriber t o name address rule)
add_no_id t None name address rule = refl
add_no_id t (Some q) name address rule = add_sub_no_id t q (find_table t q.table) name address rule

remove_sub_no_id : (t : Tables) (o : Option SubRow) (moment : ℕ) → NoIdJudged (c.remove_sub t o moment)
remove_sub_no_id t None moment = refl
remove_sub_no_id t (Some sub) moment = tt

remove_no_id : (t : Tables) (o : Option QueueRow) (name : List ℕ) (moment : ℕ) → NoIdJudged (c.remove_subscriber t o name moment)
remove_no_id t None name moment = refl
remove_no_id t (Some q) name moment = no_id_if (not (has_subscribers q (find_table t q.table))) _ _ refl (remove_sub_no_id t (find_sub t q.name name) moment)

put_schedule_no_id : (t : Tables) (o : Option QueueRow) (row : ScheduleRow) → NoIdJudged (c.put_schedule t o row)
put_schedule_no_id t None row = refl
put_schedule_no_id t (Some q) row = no_id_if (not (has_subscribers q (find_table t q.table))) _ _ refl (no_id_if (is_some (find_schedule t row.queue row.to)) _ _ refl tt)

with_schedule_no_id : (change : ScheduleRow → Change) (o : Option ScheduleRow) → NoIdJudged (c.with_schedule change o)
with_schedule_no_id change None = refl
with_schedule_no_id change (Some s) = tt

change_no_id : (t : Tables) (queue to : List ℕ) (change : ScheduleRow → Change) → NoIdJudged (c.change_schedule t queue to change)
change_no_id t queue to change = no_id_if (is_none (find_queue t queue)) _ _ refl (with_schedule_no_id change (find_schedule t queue to))

judged_no_id : (t : Tables) (ask : Admin) (moment : ℕ) → NoIdJudged (judged t ask moment)
unfolding judged
judged_no_id t (asks.CreateTable table fields sort multi grouped) moment = no_id_if (is_some (find_table t table) || is_some (find_queue t (exception_name table))) _ _ refl tt
judged_no_id t (asks.DropTable table) moment = no_id_if (is_none (find_table t table)) _ _ refl (no_id_if (is_table_used t table) _ _ refl tt)
judged_no_id t (asks.CreateQueue queue table kind max_retries retry_delay retention) moment = no_id_if (is_none (find_table t table)) _ _ refl (no_id_if (is_some (find_queue t queue)) _ _ refl tt)
judged_no_id t (asks.DropQueue queue) moment = drop_no_id (find_queue t queue)
judged_no_id t (asks.StartQueue queue enqueue dequeue) moment = start_no_id (find_queue t queue) enqueue dequeue
judged_no_id t (asks.StopQueue queue enqueue dequeue) moment = stop_no_id (find_queue t queue) enqueue dequeue
judged_no_id t (asks.AddSubscriber queue name address rule) moment = add_no_id t (find_queue t queue) name address rule
judged_no_id t (asks.RemoveSubscriber queue name) moment = remove_no_id t (find_queue t queue) name moment
judged_no_id t (asks.Schedule queue to start duration period latency) moment =
    put_schedule_no_id t (find_queue t queue) (record { queue = queue; to = to; enabled = true; start = unwrap_or start moment; duration = duration; period = period; latency = latency; failures = 0; next = 0 })
judged_no_id t (asks.Unschedule queue to) moment = change_no_id t queue to (λ s. changes.DropSchedule s.queue s.to)
judged_no_id t (asks.EnableSchedule queue to) moment = change_no_id t queue to (λ s. changes.PutSchedule (fresh_schedule s))
judged_no_id t (asks.DisableSchedule queue to) moment = change_no_id t queue to (λ s. changes.PutSchedule (record s { enabled = false }))

administered_no_id : (t : Tables) (s : Session) (hindered : Bool) (j : Judged) → NoIdJudged j → Says NoId (administered t s hindered j)
administered_no_id t s hindered (Err reply) h = h
administered_no_id t s true (Ok changes) h = refl
administered_no_id t s false (Ok changes) h = refl

-- ---- a dequeue

module _ (l : d.Look) (moment : ℕ) where
  given_no_id : (mode : Mode) (visibility : Visibility) (s : Session) (m : MsgRow) (slot : ℕ) → Says NoId (d.given_in mode visibility l s moment m slot)
  given_no_id modes.Remove visibilities.Immediate s m slot = refl
  given_no_id modes.RemoveNodata visibilities.Immediate s m slot = refl
  given_no_id modes.Browse visibility s m slot = refl
  given_no_id modes.Locked visibilities.Immediate s m slot = refl
  given_no_id modes.Remove visibilities.OnCommit s m slot = refl
  given_no_id modes.RemoveNodata visibilities.OnCommit s m slot = refl
  given_no_id modes.Locked visibilities.OnCommit s m slot = refl

  chosen_no_id : (m : MsgRow) (o : Option ℕ) → Says NoId (d.given_chosen l moment m o)
  chosen_no_id m None = refl
  chosen_no_id m (Some slot) = given_no_id l.ask.mode l.ask.visibility (d.standing_at l m) m slot

  choice_no_id : (x : d.Choice) → Says NoId (d.given_by l moment x)
  choice_no_id (d.found m) = chosen_no_id m (d.slot_in l m)
  choice_no_id d.end_of_group = refl
  choice_no_id d.nothing =
      says_if NoId (still_waits l.session l.ask.wait moment) (parks (first_look l.session moment)) (refused (d.forgetting l.ask.navigation l.ask l.session) replies.NoMessage) (λ _. tt) (λ _. refl)

  unheld_no_id : (m : MsgRow) (slot : ℕ) (o : Option ℕ) → Says NoId (d.given_unheld l moment m slot o)
  unheld_no_id m slot (Some other) = refl
  unheld_no_id m slot None = given_no_id l.ask.mode l.ask.visibility (unparked l.session) m slot

  slot_no_id : (m : MsgRow) (o : Option ℕ) → Says NoId (d.given_slot l moment m o)
  slot_no_id m None = refl
  slot_no_id m (Some slot) =
      says_if NoId (not (d.is_open_slot (slot_of m slot)) || has_removed l.session m.id slot || not (d.meets l m)) _ _ (λ _. refl) (λ _. unheld_no_id m slot (d.holder_for l m slot))

  named_no_id : (o : Option MsgRow) → Says NoId (d.given_named l moment o)
  named_no_id None = refl
  named_no_id (Some m) = says_if NoId (not (bytes_eq m.queue l.queue.name)) _ _ (λ _. refl) (λ _. slot_no_id m (d.slot_in l m))

  way_no_id : (o : Option MsgId) → Says NoId (d.dequeue_by l moment o)
  way_no_id (Some id) = named_no_id (message_named l.tables l.session.at id)
  way_no_id None = choice_no_id (d.chosen l)

module _ (t : Tables) (sessions : List Session) (actor : ℕ) (s : Session) (ask : Dequeue) (moment : ℕ) where
  where_no_id : (queue : QueueRow) (table : TableRow) (r : Result (Option Cond) ConditionFault) → Says NoId (d.dequeue_where t sessions actor s queue table ask r moment)
  where_no_id queue table (Err fault) = refl
  where_no_id queue table (Ok condition) = way_no_id (record { tables = t; sessions = sessions; actor = actor; session = s; queue = queue; table = table; ask = ask; condition = condition }) moment ask.msgid

  typed_no_id : (queue : QueueRow) (o : Option TableRow) → Says NoId (d.dequeue_typed t sessions actor s queue o ask moment)
  typed_no_id queue None = refl
  typed_no_id queue (Some table) =
      says_if NoId (d.lacks_consumer queue table ask.consumer) _ _ (λ _. refl) (λ _.
      says_if NoId (d.has_needless_consumer queue table ask.consumer) _ _ (λ _. refl) (λ _.
      says_if NoId (d.is_wrong_mode queue table ask.mode) _ _ (λ _. refl) (λ _.
      says_if NoId (d.is_by_transaction ask.navigation && not table.grouped) _ _ (λ _. refl) (λ _.
      where_no_id queue table (optional_condition table.fields ask.condition)))))

  from_no_id : (o : Option QueueRow) → Says NoId (d.dequeue_from t sessions actor s o ask moment)
  from_no_id None = refl
  from_no_id (Some queue) = says_if NoId (not queue.dequeue) _ _ (λ _. refl) (λ _. typed_no_id queue (find_table t queue.table))

  dequeue_no_id : Says NoId (d.dequeue t sessions actor s ask moment)
  unfolding d.dequeue
  dequeue_no_id = from_no_id (find_queue t ask.queue)

-- ---- a listen

abbrev NoIdIn : Option Reply → Type 0
NoIdIn None = Unit {0}
NoIdIn (Some reply) = ids_taken reply ≡ 0

in_if : (b : Bool) (x y : Option Reply) → NoIdIn x → NoIdIn y → NoIdIn (if b then x else y)
in_if b x y p q = cond_both b x y NoIdIn (λ _. p) (λ _. q)

in_or : (x y : Option Reply) → NoIdIn x → NoIdIn y → NoIdIn (option_or x y)
in_or None y p q = q
in_or (Some reply) y p q = p

fault_in : (queue : QueueRow) (o : Option TableRow) (consumer : Option (List ℕ)) → NoIdIn (agent_fault_in queue o consumer)
fault_in queue None consumer = refl
fault_in queue (Some table) consumer =
    in_if (is_exception queue.kind) _ _ refl (in_if (not queue.dequeue) _ _ refl (in_if (d.lacks_consumer queue table consumer) _ _ refl (in_if (d.has_needless_consumer queue table consumer) _ _ refl tt)))

fault_at : (t : Tables) (o : Option QueueRow) (consumer : Option (List ℕ)) → NoIdIn (agent_fault_at t o consumer)
fault_at t None consumer = refl
fault_at t (Some queue) consumer = fault_in queue (find_table t queue.table) consumer

faults_of : (t : Tables) (agents : List Listener) → NoIdIn (agents_fault t agents)
faults_of t [] = tt
faults_of t (agent ∷ more) = in_or (agent_fault t agent) (agents_fault t more) (fault_at t (find_queue t agent.queue) agent.consumer) (faults_of t more)

served_no_id : (number : ℕ) (is_it : Listener → Bool) (agents : List Listener) → NoIdIn (served_from number is_it agents)
served_no_id number is_it [] = tt
served_no_id number is_it (agent ∷ more) = in_if (is_it agent) _ _ refl (served_no_id (number + 1) is_it more)

listened_no_id : (s : Session) (wait moment : ℕ) (o : Option Reply) → NoIdIn o → Says NoId (listened s wait moment o)
listened_no_id s wait moment (Some reply) h = h
listened_no_id s wait moment None h = says_if NoId (still_waits s wait moment) (parks (first_look s moment)) (refused s replies.NoMessage) (λ _. tt) (λ _. refl)

-- ---- all of them

abbrev pub is_enqueue : Statement → Bool
is_enqueue (statements.Enqueue ask) = true
is_enqueue _ = false

administer_no_id : (t : Tables) (sessions : List Session) (w : World) (s : Session) (ask : Admin) (moment : ℕ) → Says NoId (administer t sessions (slot_sent w) s ask moment)
unfolding administer
administer_no_id t sessions w s ask moment = administered_no_id t s (is_hindered t s.at sessions (slot_sent w) ask) (judged t ask moment) (judged_no_id t ask moment)

listen_no_id : (t : Tables) (sessions : List Session) (i : ℕ) (s : Session) (ask : Listen) (moment : ℕ) → Says NoId (listen t sessions i s ask moment)
unfolding listen
listen_no_id t sessions i s ask moment =
    listened_no_id s ask.wait moment (option_or (agents_fault t ask.agents) (served_from 1 (is_served t sessions i s) ask.agents)) (in_or (agents_fault t ask.agents) (served_from 1 (is_served t sessions i s) ask.agents) (faults_of t ask.agents) (served_no_id 1 (is_served t sessions i s) ask.agents))

commit_no_id : (t : Tables) (s : Session) (moment : ℕ) → Says NoId (commit t s moment)
unfolding commit
commit_no_id t s moment = refl

rollback_no_id : (t : Tables) (s : Session) (moment : ℕ) → Says NoId (rollback t s moment)
unfolding rollback
rollback_no_id t s moment = refl

meaning_no_id : (w : World) (i : ℕ) (s : Session) (statement : Statement) → is_enqueue statement ≡ false → Says NoId (meaning w i s statement)
unfolding meaning
meaning_no_id w i s (statements.Admin ask) n = administer_no_id (database_at s.at w).tables w.sessions w s ask w.moment
meaning_no_id w i s (statements.Enqueue ask) n = absurd (true≢false n)
meaning_no_id w i s (statements.Dequeue ask) n = dequeue_no_id (database_at s.at w).tables w.sessions i s ask w.moment
meaning_no_id w i s (statements.Listen ask) n = listen_no_id (database_at s.at w).tables w.sessions i s ask w.moment
meaning_no_id w i s statements.Commit n = commit_no_id (database_at s.at w).tables s w.moment
meaning_no_id w i s statements.Rollback n = rollback_no_id (database_at s.at w).tables s w.moment

-- a statement that is no enqueue takes no id
pub takes_no_id : (w : World) (i : ℕ) (s : Session) (statement : Statement) (reply : Reply) (cs : List Change) (after : Session) → is_enqueue statement ≡ false → meaning w i s statement ≡ answers reply cs after → ids_taken reply ≡ 0
takes_no_id w i s statement reply cs after n e = says_so NoId (meaning w i s statement) reply cs after (meaning_no_id w i s statement n) e
