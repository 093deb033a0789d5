-- What statements leave of what was pending.
use Rattle.std.proofs.Common.{◌≡◌, ◌⊎◌, inl, inr, ℕ, List, Bool, true, false, not, length, refl, Option, Some, None, Result, Ok, Err, ◌==◌, ◌&&◌, ◌||◌}
use Rattle.std.specs.Prelude.{nat_le, nat_lt, is_some, is_none}
use Rattle.std.specs.Option.{option_or}
use Rattle.std.specs.Str.{bytes_eq}
use Rattle.aq_base.specs.declared.limits.TheConstants.{NEXT_LIMIT, RECIPIENT_LIMIT}
use Rattle.payload_records.specs.Record.{record_of}
use Rattle.payload_records.specs.declared.record.PayloadFault.{PayloadFault}
use Rattle.payload_records.specs.declared.record.Record.{Record}
use Rattle.rule_conditions.specs.declared.condition.Cond.{Cond}
use Rattle.queue_rows.specs.Rows.{find_table, find_queue, slot_of}
use Rattle.queue_rows.specs.Settling.{is_exception}
use Rattle.queue_rows.specs.Conditions.{optional_condition}
use Rattle.queue_rows.specs.Recipients.{names_recipients, recipients}
use Rattle.queue_rows.specs.Session.{Session, has_removed, message_named}
use Rattle.queue_rows.specs.Meaning.{answers, parks, unparked, refused, still_waits, first_look}
use Rattle.queue_rows.specs.Administration.{administer, administered, is_hindered}
use Rattle.queue_rows.specs.Catalog.{Judged, judged}
use Rattle.queue_rows.specs.Dequeueing as d
use Rattle.queue_rows.specs.Enqueueing as q
use Rattle.queue_rows.specs.Listening.{listen, listened, agents_fault, served_from, is_served}
use Rattle.queue_rows.specs.Statements.{meaning, slot_sent}
use Rattle.queue_rows.specs.Transactions.{commit, rollback}
use Rattle.queue_rows.specs.World.{World, database_at}
use Rattle.queue_rows.specs.declared.tables.Tables.{Tables}
use Rattle.queue_rows.specs.declared.rows.TableRow.{TableRow}
use Rattle.queue_rows.specs.declared.rows.QueueRow.{QueueRow}
use Rattle.queue_rows.specs.declared.rows.MsgRow.{MsgRow}
use Rattle.queue_rows.specs.declared.session.Agent.{Agent}
use Rattle.queue_rows.specs.declared.change.Change.{Change}
use Rattle.queue_rows.specs.declared.history.SlotRef.{SlotRef}
use Rattle.queue_rows.specs.declared.reply.Reply.{Reply}
use Rattle.queue_rows.specs.declared.reply.Reply.TheVariants as replies
use Rattle.queue_rows.specs.declared.reply.ConditionFault.{ConditionFault}
use Rattle.queue_rows.specs.declared.statement.Admin.{Admin}
use Rattle.queue_rows.specs.declared.statement.Dequeue.{Dequeue}
use Rattle.queue_rows.specs.declared.statement.Enqueue.{Enqueue}
use Rattle.queue_rows.specs.declared.statement.Listen.{Listen}
use Rattle.queue_rows.specs.declared.statement.MsgId.{MsgId}
use Rattle.queue_rows.specs.declared.statement.Mode.{Mode}
use Rattle.queue_rows.specs.declared.statement.Mode.TheVariants as modes
use Rattle.queue_rows.specs.declared.statement.Navigation.{Navigation}
use Rattle.queue_rows.specs.declared.statement.Navigation.TheVariants as navigations
use Rattle.queue_rows.specs.declared.statement.Statement.{Statement}
use Rattle.queue_rows.specs.declared.statement.Statement.TheVariants as statements
use Rattle.queue_rows.specs.declared.statement.Visibility.{Visibility}
use Rattle.queue_rows.specs.declared.statement.Visibility.TheVariants as visibilities
use Rattle.statement_laws.specs.KeepingLaws.{KeepsPending, AddsOne, RemovesOne, Empties, LeavesPending}
use Rattle.statement_laws.proofs.Among.{Says, says_if, says_so}

-- ---- an administrative statement

abbrev Same : Session → Reply → List Change → Session → Type 0
Same s reply cs after = KeepsPending s after

administered_same : (t : Tables) (s : Session) (hindered : Bool) (j : Judged) → Says (Same s) (administered t s hindered j)
administered_same t s hindered (Err reply) = refl
administered_same t s true (Ok changes) = refl
administered_same t s false (Ok changes) = refl

administer_same : (t : Tables) (sessions : List Session) (sent : Option SlotRef) (s : Session) (ask : Admin) (moment : ℕ) → Says (Same s) (administer t sessions sent s ask moment)
unfolding administer
administer_same t sessions sent s ask moment = administered_same t s (is_hindered t s.at sessions sent ask) (judged t ask moment)

-- ---- a listen

listened_same : (s : Session) (wait moment : ℕ) (o : Option Reply) → Says (Same s) (listened s wait moment o)
listened_same s wait moment (Some reply) = refl
listened_same s wait moment None = says_if (Same s) (still_waits s wait moment) (parks (first_look s moment)) (refused s replies.NoMessage) (λ _. tt) (λ _. refl)

listen_same : (t : Tables) (sessions : List Session) (actor : ℕ) (s : Session) (ask : Listen) (moment : ℕ) → Says (Same s) (listen t sessions actor s ask moment)
unfolding listen
listen_same t sessions actor s ask moment = listened_same s ask.wait moment (option_or (agents_fault t ask.agents) (served_from 1 (is_served t sessions actor s) ask.agents))

-- ---- an enqueue

module _ (t : Tables) (s : Session) (ask : Enqueue) (next moment : ℕ) where
  abbrev Added : Reply → List Change → Session → Type 0
  Added reply cs after = KeepsPending s after ⊎ AddsOne s after

  add_leaves : (visibility : Visibility) (m : MsgRow) → Says Added (q.add visibility t s m moment)
  add_leaves visibilities.OnCommit m = inr (record { message = m; pending = refl })
  add_leaves visibilities.Immediate m = inl refl

  for_leaves : (table : TableRow) (cells : Record) (agents : List Agent) (relative : Option MsgRow) → Says Added (q.enqueue_for t s table ask cells agents relative next moment)
  for_leaves table cells agents relative =
      says_if Added (names_recipients ask && not table.multi) _ _ (λ _. inl refl) (λ _.
      says_if Added (q.names_bad_exception t table ask) _ _ (λ _. inl refl) (λ _.
      says_if Added (table.grouped && (is_some ask.before || ask.top)) _ _ (λ _. inl refl) (λ _.
      says_if Added (is_some ask.before && is_none relative) _ _ (λ _. inl refl) (λ _.
      says_if Added (q.is_too_deep table relative) _ _ (λ _. inl refl) (λ _.
      says_if Added (length agents == 0) _ _ (λ _. inl refl) (λ _.
      says_if Added (nat_lt RECIPIENT_LIMIT (length agents)) _ _ (λ _. inl refl) (λ _.
      says_if Added (nat_le NEXT_LIMIT next) _ _ (λ _. inl refl) (λ _.
      add_leaves ask.visibility (q.addition table ask cells agents relative next moment)))))))))

  cells_leave : (table : TableRow) (r : Result Record PayloadFault) → Says Added (q.enqueue_cells t s table ask r next moment)
  cells_leave table (Err fault) = inl refl
  cells_leave table (Ok cells) = for_leaves table cells (recipients t table ask cells) (q.relative_of t s.at ask)

  typed_leaves : (o : Option TableRow) → Says Added (q.enqueue_typed t s o ask next moment)
  typed_leaves None = inl refl
  typed_leaves (Some table) = cells_leave table (record_of table.fields ask.payload)

  into_leaves : (o : Option QueueRow) → Says Added (q.enqueue_into t s o ask next moment)
  into_leaves None = inl refl
  into_leaves (Some queue) =
      says_if Added (is_exception queue.kind) _ _ (λ _. inl refl) (λ _.
      says_if Added (not queue.enqueue) _ _ (λ _. inl refl) (λ _. typed_leaves (find_table t queue.table)))

  enqueue_leaves : Says Added (q.enqueue t s ask next moment)
  unfolding q.enqueue
  enqueue_leaves = into_leaves (find_queue t ask.queue)

-- ---- a dequeue

abbrev Removed : Session → Reply → List Change → Session → Type 0
Removed s reply cs after = KeepsPending s after ⊎ RemovesOne s after

module _ (l : d.Look) (moment : ℕ) where
  given_unparked : (mode : Mode) (visibility : Visibility) (m : MsgRow) (slot : ℕ) → Says (Removed l.session) (d.given_in mode visibility l (unparked l.session) moment m slot)
  given_unparked modes.Remove visibilities.Immediate m slot = inl refl
  given_unparked modes.RemoveNodata visibilities.Immediate m slot = inl refl
  given_unparked modes.Browse visibility m slot = inl refl
  given_unparked modes.Locked visibilities.Immediate m slot = inl refl
  given_unparked modes.Remove visibilities.OnCommit m slot = inr (record { id = m.id; slot = slot; pending = refl })
  given_unparked modes.RemoveNodata visibilities.OnCommit m slot = inr (record { id = m.id; slot = slot; pending = refl })
  given_unparked modes.Locked visibilities.OnCommit m slot = inl refl

  given_standing : (mode : Mode) (visibility : Visibility) (m : MsgRow) (slot : ℕ) → Says (Removed l.session) (d.given_in mode visibility l (d.standing_at l m) moment m slot)
  given_standing modes.Remove visibilities.Immediate m slot = inl refl
  given_standing modes.RemoveNodata visibilities.Immediate m slot = inl refl
  given_standing modes.Browse visibility m slot = inl refl
  given_standing modes.Locked visibilities.Immediate m slot = inl refl
  given_standing modes.Remove visibilities.OnCommit m slot = inr (record { id = m.id; slot = slot; pending = refl })
  given_standing modes.RemoveNodata visibilities.OnCommit m slot = inr (record { id = m.id; slot = slot; pending = refl })
  given_standing modes.Locked visibilities.OnCommit m slot = inl refl

  forgetting_keeps : (n : Navigation) → KeepsPending l.session (unparked (d.forgetting n l.ask l.session))
  forgetting_keeps navigations.First = refl
  forgetting_keeps navigations.Next = refl
  forgetting_keeps navigations.NextTransaction = refl

  chosen_leaves : (m : MsgRow) (o : Option ℕ) → Says (Removed l.session) (d.given_chosen l moment m o)
  chosen_leaves m None = inl refl
  chosen_leaves m (Some slot) = given_standing l.ask.mode l.ask.visibility m slot

  choice_leaves : (c : d.Choice) → Says (Removed l.session) (d.given_by l moment c)
  choice_leaves (d.found m) = chosen_leaves m (d.slot_in l m)
  choice_leaves d.end_of_group = inl refl
  choice_leaves d.nothing =
      says_if (Removed l.session) (still_waits l.session l.ask.wait moment) (parks (first_look l.session moment)) (refused (d.forgetting l.ask.navigation l.ask l.session) replies.NoMessage) (λ _. tt) (λ _. inl (forgetting_keeps l.ask.navigation))

  unheld_leaves : (m : MsgRow) (slot : ℕ) (o : Option ℕ) → Says (Removed l.session) (d.given_unheld l moment m slot o)
  unheld_leaves m slot (Some other) = inl refl
  unheld_leaves m slot None = given_unparked l.ask.mode l.ask.visibility m slot

  slot_leaves : (m : MsgRow) (o : Option ℕ) → Says (Removed l.session) (d.given_slot l moment m o)
  slot_leaves m None = inl refl
  slot_leaves m (Some slot) =
      says_if (Removed l.session) (not (d.is_open_slot (slot_of m slot)) || has_removed l.session m.id slot || not (d.meets l m)) _ _ (λ _. inl refl) (λ _. unheld_leaves m slot (d.holder_for l m slot))

  named_leaves : (o : Option MsgRow) → Says (Removed l.session) (d.given_named l moment o)
  named_leaves None = inl refl
  named_leaves (Some m) = says_if (Removed l.session) (not (bytes_eq m.queue l.queue.name)) _ _ (λ _. inl refl) (λ _. slot_leaves m (d.slot_in l m))

  by_leaves : (o : Option MsgId) → Says (Removed l.session) (d.dequeue_by l moment o)
  by_leaves (Some id) = named_leaves (message_named l.tables l.session.at id)
  by_leaves None = choice_leaves (d.chosen l)

module _ (t : Tables) (sessions : List Session) (actor : ℕ) (s : Session) (ask : Dequeue) (moment : ℕ) where
  where_leaves : (queue : QueueRow) (table : TableRow) (r : Result (Option Cond) ConditionFault) → Says (Removed s) (d.dequeue_where t sessions actor s queue table ask r moment)
  where_leaves queue table (Err fault) = inl refl
  where_leaves queue table (Ok condition) =
      by_leaves (record { tables = t; sessions = sessions; actor = actor; session = s; queue = queue; table = table; ask = ask; condition = condition }) moment ask.msgid

  dequeue_typed_leaves : (queue : QueueRow) (o : Option TableRow) → Says (Removed s) (d.dequeue_typed t sessions actor s queue o ask moment)
  dequeue_typed_leaves queue None = inl refl
  dequeue_typed_leaves queue (Some table) =
      says_if (Removed s) (d.lacks_consumer queue table ask.consumer) _ _ (λ _. inl refl) (λ _.
      says_if (Removed s) (d.has_needless_consumer queue table ask.consumer) _ _ (λ _. inl refl) (λ _.
      says_if (Removed s) (d.is_wrong_mode queue table ask.mode) _ _ (λ _. inl refl) (λ _.
      says_if (Removed s) (d.is_by_transaction ask.navigation && not table.grouped) _ _ (λ _. inl refl) (λ _.
      where_leaves queue table (optional_condition table.fields ask.condition)))))

  from_leaves : (o : Option QueueRow) → Says (Removed s) (d.dequeue_from t sessions actor s o ask moment)
  from_leaves None = inl refl
  from_leaves (Some queue) = says_if (Removed s) (not queue.dequeue) _ _ (λ _. inl refl) (λ _. dequeue_typed_leaves queue (find_table t queue.table))

  dequeue_leaves : Says (Removed s) (d.dequeue t sessions actor s ask moment)
  unfolding d.dequeue
  dequeue_leaves = from_leaves (find_queue t ask.queue)

-- ---- the ends of a transaction

abbrev Emptied : Reply → List Change → Session → Type 0
Emptied reply cs after = Empties after

pub commit_empties : (t : Tables) (s : Session) (moment : ℕ) → Says Emptied (commit t s moment)
unfolding commit
commit_empties t s moment = record { pending = refl; marks = refl }

pub rollback_empties : (t : Tables) (s : Session) (moment : ℕ) → Says Emptied (rollback t s moment)
unfolding rollback
rollback_empties t s moment = record { pending = refl; marks = refl }

-- ---- all statements

leaves : (w : World) (i : ℕ) (s : Session) (statement : Statement) → Says (λ reply cs after. LeavesPending statement s after) (meaning w i s statement)
unfolding meaning
leaves w i s (statements.Admin ask) = administer_same (database_at s.at w).tables w.sessions (slot_sent w) s ask w.moment
leaves w i s (statements.Enqueue ask) = enqueue_leaves (database_at s.at w).tables s ask (database_at s.at w).next w.moment
leaves w i s (statements.Dequeue ask) = dequeue_leaves (database_at s.at w).tables w.sessions i s ask w.moment
leaves w i s (statements.Listen ask) = listen_same (database_at s.at w).tables w.sessions i s ask w.moment
leaves w i s statements.Commit = commit_empties (database_at s.at w).tables s w.moment
leaves w i s statements.Rollback = rollback_empties (database_at s.at w).tables s w.moment

pub statements_keep_pending : (w : World) (i : ℕ) (s : Session) (statement : Statement) (reply : Reply) (cs : List Change) (after : Session) → meaning w i s statement ≡ answers reply cs after → LeavesPending statement s after
statements_keep_pending w i s statement reply cs after e = says_so (λ reply cs after. LeavesPending statement s after) (meaning w i s statement) reply cs after (leaves w i s statement) e
