-- At the greatest moment nothing waits.
use Rattle.std.proofs.Common.{◌≡◌, ◌≤◌, ◌+◌, ◌^◌, ℕ, List, Bool, true, false, not, refl, sym, ap, subst, ◌∙◌, Option, Some, None, Result, Ok, Err, ◌&&◌, ◌||◌, ◌==◌, length, if◌then◌else◌}
use Rattle.std.specs.Prelude.{nat_le, nat_lt, is_some, is_none}
use Rattle.std.specs.Option.{option_or}
use Rattle.std.specs.Str.{bytes_eq}
use Rattle.std.proofs.lemmas.Bool.{cond_both, le-ltb, false≢true}
use Rattle.aq_base.specs.declared.limits.TheConstants.{NEXT_LIMIT, RECIPIENT_LIMIT}
use Rattle.payload_records.specs.Record.{record_of}
use Rattle.payload_records.specs.declared.record.PayloadFault.{PayloadFault}
use Rattle.payload_records.specs.declared.record.Record.{Record}
use Rattle.rule_conditions.specs.declared.condition.Cond.{Cond}
use Rattle.queue_rows.specs.Rows.{find_table, find_queue, slot_of}
use Rattle.queue_rows.specs.Settling.{is_exception}
use Rattle.queue_rows.specs.Conditions.{optional_condition}
use Rattle.queue_rows.specs.Recipients.{names_recipients, recipients}
use Rattle.queue_rows.specs.Session.{Session, has_removed, message_named}
use Rattle.queue_rows.specs.Meaning.{Meaning, answers, parks, unparked, refused, still_waits, first_look}
use Rattle.queue_rows.specs.Administration.{administer, administered, is_hindered}
use Rattle.queue_rows.specs.Catalog.{Judged, judged}
use Rattle.queue_rows.specs.Dequeueing as d
use Rattle.queue_rows.specs.Enqueueing as q
use Rattle.queue_rows.specs.Listening.{listen, listened, agents_fault, served_from, is_served}
use Rattle.queue_rows.specs.Transactions.{commit, rollback}
use Rattle.queue_rows.specs.declared.tables.Tables.{Tables}
use Rattle.queue_rows.specs.declared.rows.TableRow.{TableRow}
use Rattle.queue_rows.specs.declared.rows.QueueRow.{QueueRow}
use Rattle.queue_rows.specs.declared.rows.MsgRow.{MsgRow}
use Rattle.queue_rows.specs.declared.session.Agent.{Agent}
use Rattle.queue_rows.specs.declared.history.SlotRef.{SlotRef}
use Rattle.queue_rows.specs.declared.reply.Reply.{Reply}
use Rattle.queue_rows.specs.declared.reply.Reply.TheVariants as replies
use Rattle.queue_rows.specs.declared.reply.ConditionFault.{ConditionFault}
use Rattle.queue_rows.specs.declared.statement.Admin.{Admin}
use Rattle.queue_rows.specs.declared.statement.Dequeue.{Dequeue}
use Rattle.queue_rows.specs.declared.statement.Enqueue.{Enqueue}
use Rattle.queue_rows.specs.declared.statement.Listen.{Listen}
use Rattle.queue_rows.specs.declared.statement.MsgId.{MsgId}
use Rattle.queue_rows.specs.declared.statement.Mode.{Mode}
use Rattle.queue_rows.specs.declared.statement.Mode.TheVariants as modes
use Rattle.queue_rows.specs.declared.statement.Statement.{Statement}
use Rattle.queue_rows.specs.declared.statement.Statement.TheVariants as statements
use Rattle.queue_rows.specs.declared.statement.Visibility.{Visibility}
use Rattle.queue_rows.specs.declared.statement.Visibility.TheVariants as visibilities
use Rattle.queue_rows.specs.Statements.{meaning, slot_sent}
use Rattle.queue_rows.specs.World.{World, database_at}

-- it is answered, and does not wait
abbrev pub IsAnswer : Meaning → Type 0
IsAnswer (answers reply cs after) = Unit {0}
IsAnswer (parks since) = ⊥

if_so : (b : Bool) (x y : Meaning) → IsAnswer x → IsAnswer y → IsAnswer (if b then x else y)
if_so b x y p q = cond_both b x y IsAnswer (λ _. p) (λ _. q)

and_false : (b : Bool) → (b && false) ≡ false
and_false true = refl
and_false false = refl

-- at that moment each wait is over
wait_over : (s : Session) (wait moment : ℕ) → 2 ^ 62 ≤ moment → still_waits s wait moment ≡ false
wait_over s wait moment late =
    let before = nat_lt moment (first_look s moment + wait) in
    ap (λ b. before && b) (le-ltb moment (2 ^ 62) late) ∙ and_false before

waiting_so : (s : Session) (wait moment : ℕ) (m : Meaning) → 2 ^ 62 ≤ moment → IsAnswer m → IsAnswer (if still_waits s wait moment then parks (first_look s moment) else m)
waiting_so s wait moment m late is =
    cond_both (still_waits s wait moment) (parks (first_look s moment)) m IsAnswer (λ waits. absurd (false≢true (sym (wait_over s wait moment late) ∙ waits))) (λ _. is)

-- ---- administrative statements, and listens

administered_so : (t : Tables) (s : Session) (hindered : Bool) (j : Judged) → IsAnswer (administered t s hindered j)
administered_so t s hindered (Err reply) = tt
administered_so t s true (Ok changes) = tt
administered_so t s false (Ok changes) = tt

administer_so : (t : Tables) (sessions : List Session) (sent : Option SlotRef) (s : Session) (ask : Admin) (moment : ℕ) → IsAnswer (administer t sessions sent s ask moment)
unfolding administer
administer_so t sessions sent s ask moment = administered_so t s (is_hindered t s.at sessions sent ask) (judged t ask moment)

listened_so : (s : Session) (wait moment : ℕ) (o : Option Reply) → 2 ^ 62 ≤ moment → IsAnswer (listened s wait moment o)
listened_so s wait moment (Some reply) late = tt
listened_so s wait moment None late = waiting_so s wait moment (refused s replies.NoMessage) late tt

listen_so : (t : Tables) (sessions : List Session) (actor : ℕ) (s : Session) (ask : Listen) (moment : ℕ) → 2 ^ 62 ≤ moment → IsAnswer (listen t sessions actor s ask moment)
unfolding listen
listen_so t sessions actor s ask moment late = listened_so s ask.wait moment (option_or (agents_fault t ask.agents) (served_from 1 (is_served t sessions actor s) ask.agents)) late

-- ---- enqueues

module _ (t : Tables) (s : Session) (ask : Enqueue) (next moment : ℕ) where
  add_so : (visibility : Visibility) (m : MsgRow) → IsAnswer (q.add visibility t s m moment)
  add_so visibilities.OnCommit m = tt
  add_so visibilities.Immediate m = tt

  for_so : (table : TableRow) (cells : Record) (agents : List Agent) → IsAnswer (q.enqueue_for t s table ask cells agents (q.relative_of t s.at ask) next moment)
  for_so table cells agents =
      let relative = q.relative_of t s.at ask in
      if_so (names_recipients ask && not table.multi) _ _ tt
      (if_so (q.names_bad_exception t table ask) _ _ tt
      (if_so (table.grouped && (is_some ask.before || ask.top)) _ _ tt
      (if_so (is_some ask.before && is_none relative) _ _ tt
      (if_so (q.is_too_deep table relative) _ _ tt
      (if_so (length agents == 0) _ _ tt
      (if_so (nat_lt RECIPIENT_LIMIT (length agents)) _ _ tt
      (if_so (nat_le NEXT_LIMIT next) _ _ tt (add_so ask.visibility (q.addition table ask cells agents relative next moment)))))))))

  cells_so : (table : TableRow) (r : Result Record PayloadFault) → IsAnswer (q.enqueue_cells t s table ask r next moment)
  cells_so table (Err fault) = tt
  cells_so table (Ok cells) = for_so table cells (recipients t table ask cells)

  typed_so : (o : Option TableRow) → IsAnswer (q.enqueue_typed t s o ask next moment)
  typed_so None = tt
  typed_so (Some table) = cells_so table (record_of table.fields ask.payload)

  into_so : (o : Option QueueRow) → IsAnswer (q.enqueue_into t s o ask next moment)
  into_so None = tt
  into_so (Some queue) = if_so (is_exception queue.kind) _ _ tt (if_so (not queue.enqueue) _ _ tt (typed_so (find_table t queue.table)))

  enqueue_so : IsAnswer (q.enqueue t s ask next moment)
  unfolding q.enqueue
  enqueue_so = into_so (find_queue t ask.queue)

-- ---- dequeues

module _ (l : d.Look) (moment : ℕ) (late : 2 ^ 62 ≤ moment) where
  given_so : (mode : Mode) (visibility : Visibility) (s : Session) (m : MsgRow) (slot : ℕ) → IsAnswer (d.given_in mode visibility l s moment m slot)
  given_so modes.Remove visibilities.Immediate s m slot = tt
  given_so modes.RemoveNodata visibilities.Immediate s m slot = tt
  given_so modes.Browse visibility s m slot = tt
  given_so modes.Locked visibilities.Immediate s m slot = tt
  given_so modes.Remove visibilities.OnCommit s m slot = tt
  given_so modes.RemoveNodata visibilities.OnCommit s m slot = tt
  given_so modes.Locked visibilities.OnCommit s m slot = tt

  chosen_so : (m : MsgRow) (o : Option ℕ) → IsAnswer (d.given_chosen l moment m o)
  chosen_so m None = tt
  chosen_so m (Some slot) = given_so l.ask.mode l.ask.visibility (d.standing_at l m) m slot

  choice_so : (c : d.Choice) → IsAnswer (d.given_by l moment c)
  choice_so (d.found m) = chosen_so m (d.slot_in l m)
  choice_so d.end_of_group = tt
  choice_so d.nothing = waiting_so l.session l.ask.wait moment (refused (d.forgetting l.ask.navigation l.ask l.session) replies.NoMessage) late tt

  unheld_so : (m : MsgRow) (slot : ℕ) (o : Option ℕ) → IsAnswer (d.given_unheld l moment m slot o)
  unheld_so m slot (Some other) = tt
  unheld_so m slot None = given_so l.ask.mode l.ask.visibility (unparked l.session) m slot

  slot_so : (m : MsgRow) (o : Option ℕ) → IsAnswer (d.given_slot l moment m o)
  slot_so m None = tt
  slot_so m (Some slot) = if_so (not (d.is_open_slot (slot_of m slot)) || has_removed l.session m.id slot || not (d.meets l m)) _ _ tt (unheld_so m slot (d.holder_for l m slot))

  named_so : (o : Option MsgRow) → IsAnswer (d.given_named l moment o)
  named_so None = tt
  named_so (Some m) = if_so (not (bytes_eq m.queue l.queue.name)) _ _ tt (slot_so m (d.slot_in l m))

  by_so : (o : Option MsgId) → IsAnswer (d.dequeue_by l moment o)
  by_so (Some id) = named_so (message_named l.tables l.session.at id)
  by_so None = choice_so (d.chosen l)

module _ (t : Tables) (sessions : List Session) (actor : ℕ) (s : Session) (ask : Dequeue) (moment : ℕ) (late : 2 ^ 62 ≤ moment) where
  where_so : (queue : QueueRow) (table : TableRow) (r : Result (Option Cond) ConditionFault) → IsAnswer (d.dequeue_where t sessions actor s queue table ask r moment)
  where_so queue table (Err fault) = tt
  where_so queue table (Ok condition) =
      by_so (record { tables = t; sessions = sessions; actor = actor; session = s; queue = queue; table = table; ask = ask; condition = condition }) moment late ask.msgid

  table_so : (queue : QueueRow) (o : Option TableRow) → IsAnswer (d.dequeue_typed t sessions actor s queue o ask moment)
  table_so queue None = tt
  table_so queue (Some table) =
      if_so (d.lacks_consumer queue table ask.consumer) _ _ tt
      (if_so (d.has_needless_consumer queue table ask.consumer) _ _ tt
      (if_so (d.is_wrong_mode queue table ask.mode) _ _ tt
      (if_so (d.is_by_transaction ask.navigation && not table.grouped) _ _ tt (where_so queue table (optional_condition table.fields ask.condition)))))

  from_so : (o : Option QueueRow) → IsAnswer (d.dequeue_from t sessions actor s o ask moment)
  from_so None = tt
  from_so (Some queue) = if_so (not queue.dequeue) _ _ tt (table_so queue (find_table t queue.table))

  dequeue_so : IsAnswer (d.dequeue t sessions actor s ask moment)
  unfolding d.dequeue
  dequeue_so = from_so (find_queue t ask.queue)

-- ---- the ends of a transaction

commit_so : (t : Tables) (s : Session) (moment : ℕ) → IsAnswer (commit t s moment)
unfolding commit
commit_so t s moment = tt

rollback_so : (t : Tables) (s : Session) (moment : ℕ) → IsAnswer (rollback t s moment)
unfolding rollback
rollback_so t s moment = tt

-- ---- all statements

pub late_answer : (w : World) (i : ℕ) (s : Session) (statement : Statement) → 2 ^ 62 ≤ w.moment → IsAnswer (meaning w i s statement)
unfolding meaning
late_answer w i s (statements.Admin ask) late = administer_so (database_at s.at w).tables w.sessions (slot_sent w) s ask w.moment
late_answer w i s (statements.Enqueue ask) late = enqueue_so (database_at s.at w).tables s ask (database_at s.at w).next w.moment
late_answer w i s (statements.Dequeue ask) late = dequeue_so (database_at s.at w).tables w.sessions i s ask w.moment late
late_answer w i s (statements.Listen ask) late = listen_so (database_at s.at w).tables w.sessions i s ask w.moment late
late_answer w i s statements.Commit late = commit_so (database_at s.at w).tables s w.moment
late_answer w i s statements.Rollback late = rollback_so (database_at s.at w).tables s w.moment

-- no statement waits at the greatest moment
pub no_wait : (w : World) (i : ℕ) (s : Session) (statement : Statement) (since : ℕ) → 2 ^ 62 ≤ w.moment → meaning w i s statement ≡ parks since → ⊥
no_wait w i s statement since late waits = subst IsAnswer waits (late_answer w i s statement late)
