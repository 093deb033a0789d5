-- What statements that are answered add to what is pending: what is added can be committed, and comes with no commit.
use Rattle.std.proofs.Common.{◌≡◌, ◌⊎◌, inl, inr, ◌+◌, ◌<◌, ◌≤◌, ◌^◌, ℕ, List, [], ◌∷◌, ◌++◌, Bool, true, false, not, length, length-append, refl, sym, ap, subst, ◌∙◌, arith, Option, Some, None, Result, Ok, Err, All, ◌==◌, ◌&&◌, ◌||◌, if◌then◌else◌}
use Rattle.std.specs.Prelude.{nat_le, nat_lt, is_some, is_none, option_and_then}
use Rattle.std.specs.Option.{option_or}
use Rattle.std.specs.Str.{bytes_eq}
use Rattle.std.proofs.lemmas.Bool.{cond_both, leb-false}
use Rattle.std.proofs.lemmas.List.Elements.{All-nil, All-push}
use Rattle.aq_base.specs.declared.limits.TheConstants.{NEXT_LIMIT, RECIPIENT_LIMIT}
use Rattle.payload_records.specs.Record.{record_of}
use Rattle.payload_records.specs.declared.record.PayloadFault.{PayloadFault}
use Rattle.payload_records.specs.declared.record.Record.{Record}
use Rattle.rule_conditions.specs.declared.condition.Cond.{Cond}
use Rattle.queue_rows.specs.Rows.{find_table, find_queue, slot_of, table_of}
use Rattle.queue_rows.specs.Settling.{is_exception}
use Rattle.queue_rows.specs.Conditions.{optional_condition}
use Rattle.queue_rows.specs.Recipients.{names_recipients, recipients}
use Rattle.queue_rows.specs.Session.{Session, has_removed, message_named}
use Rattle.queue_rows.specs.Meaning.{Meaning, answers, parks, unparked, refused, still_waits, first_look}
use Rattle.queue_rows.specs.Administration.{administer, administered, is_hindered}
use Rattle.queue_rows.specs.Catalog.{Judged, judged}
use Rattle.queue_rows.specs.Dequeueing as d
use Rattle.queue_rows.specs.Enqueueing as q
use Rattle.queue_rows.specs.Listening.{listen, listened, agents_fault, served_from, is_served}
use Rattle.queue_rows.specs.Statements.{meaning, slot_sent}
use Rattle.queue_rows.specs.Transactions.{commit, rollback}
use Rattle.queue_rows.specs.Valid.{is_valid}
use Rattle.run_laws.specs.ValidRun.{IsValidWorld}
use Rattle.queue_rows.specs.World.{World, database_at}
use Rattle.queue_rows.specs.declared.tables.Tables.{Tables}
use Rattle.queue_rows.specs.declared.rows.TableRow.{TableRow}
use Rattle.queue_rows.specs.declared.rows.QueueRow.{QueueRow}
use Rattle.queue_rows.specs.declared.rows.MsgRow.{MsgRow}
use Rattle.queue_rows.specs.declared.session.Agent.{Agent}
use Rattle.queue_rows.specs.declared.session.Pending.{Pending}
use Rattle.queue_rows.specs.declared.session.Pending.TheVariants.{Add, Remove}
use Rattle.queue_rows.specs.declared.change.Change.{Change}
use Rattle.queue_rows.specs.declared.history.SlotRef.{SlotRef}
use Rattle.queue_rows.specs.declared.reply.Reply.{Reply}
use Rattle.queue_rows.specs.declared.reply.Reply.TheVariants as replies
use Rattle.queue_rows.specs.declared.reply.ConditionFault.{ConditionFault}
use Rattle.queue_rows.specs.declared.statement.Admin.{Admin}
use Rattle.queue_rows.specs.declared.statement.Dequeue.{Dequeue}
use Rattle.queue_rows.specs.declared.statement.Enqueue.{Enqueue}
use Rattle.queue_rows.specs.declared.statement.Listen.{Listen}
use Rattle.queue_rows.specs.declared.statement.MsgId.{MsgId}
use Rattle.queue_rows.specs.declared.statement.Mode.{Mode}
use Rattle.queue_rows.specs.declared.statement.Mode.TheVariants as modes
use Rattle.queue_rows.specs.declared.statement.Navigation.{Navigation}
use Rattle.queue_rows.specs.declared.statement.Navigation.TheVariants as navigations
use Rattle.queue_rows.specs.declared.statement.Statement.{Statement}
use Rattle.queue_rows.specs.declared.statement.Statement.TheVariants as statements
use Rattle.queue_rows.specs.declared.statement.Visibility.{Visibility}
use Rattle.queue_rows.specs.declared.statement.Visibility.TheVariants as visibilities
use Rattle.sessions.specs.Numbers.{IsPendable}
use Rattle.enqueue_ops.proofs.Numbers.{addition_known, relative_known}

-- ---- what is pending behind a statement

-- one thing more, which can be committed; and nothing is committed now
pub record PendsOne (s : Session) (cs : List Change) (after : Session) : Type 0 where
  pub added : Pending
  pub pendable : IsPendable added
  pub later : cs ≡ []
  pub pending : after.pending ≡ s.pending ++ added ∷ []

-- the same as before, nothing, or one thing more
abbrev pub Pends : Session → Reply → List Change → Session → Type 0
Pends s reply cs after = (after.pending ≡ s.pending) ⊎ ((after.pending ≡ []) ⊎ PendsOne s cs after)

-- where it is answered, this holds
abbrev pub AnswersSo : (Reply → List Change → Session → Type 0) → Meaning → Type 0
AnswersSo P (answers reply cs after) = P reply cs after
AnswersSo P (parks since) = Unit {0}

same : (s : Session) (reply : Reply) → AnswersSo (Pends s) (refused s reply)
same s reply = inl refl

module _ (s : Session) where
  so_if : (b : Bool) (x y : Meaning) → (b ≡ true → AnswersSo (Pends s) x) → (b ≡ false → AnswersSo (Pends s) y) → AnswersSo (Pends s) (if b then x else y)
  so_if b x y p q = cond_both b x y (AnswersSo (Pends s)) p q

-- ---- administrative statements, and listens

administered_so : (t : Tables) (s : Session) (hindered : Bool) (j : Judged) → AnswersSo (Pends s) (administered t s hindered j)
administered_so t s hindered (Err reply) = inl refl
administered_so t s true (Ok changes) = inl refl
administered_so t s false (Ok changes) = inl refl

administer_so : (t : Tables) (sessions : List Session) (sent : Option SlotRef) (s : Session) (ask : Admin) (moment : ℕ) → AnswersSo (Pends s) (administer t sessions sent s ask moment)
unfolding administer
administer_so t sessions sent s ask moment = administered_so t s (is_hindered t s.at sessions sent ask) (judged t ask moment)

listened_so : (s : Session) (wait moment : ℕ) (o : Option Reply) → AnswersSo (Pends s) (listened s wait moment o)
listened_so s wait moment (Some reply) = inl refl
listened_so s wait moment None = so_if s (still_waits s wait moment) (parks (first_look s moment)) (refused s replies.NoMessage) (λ _. tt) (λ _. inl refl)

listen_so : (t : Tables) (sessions : List Session) (actor : ℕ) (s : Session) (ask : Listen) (moment : ℕ) → AnswersSo (Pends s) (listen t sessions actor s ask moment)
unfolding listen
listen_so t sessions actor s ask moment = listened_so s ask.wait moment (option_or (agents_fault t ask.agents) (served_from 1 (is_served t sessions actor s) ask.agents))

-- ---- enqueues

module _ (t : Tables) (s : Session) (ask : Enqueue) (next moment : ℕ) (v : is_valid t ≡ true) (top : moment ≤ 2 ^ 62) where
  add_so : (visibility : Visibility) (m : MsgRow) → IsPendable (Add m) → AnswersSo (Pends s) (q.add visibility t s m moment)
  add_so visibilities.OnCommit m k = inr (inr (record { added = Add m; pendable = k; later = refl; pending = refl }))
  add_so visibilities.Immediate m k = inl refl

  for_so : (table : TableRow) (cells : Record) (agents : List Agent) → table_of t ask.queue ≡ Some table → AnswersSo (Pends s) (q.enqueue_for t s table ask cells agents (q.relative_of t s.at ask) next moment)
  for_so table cells agents table_is =
      let relative = q.relative_of t s.at ask in
      so_if s (names_recipients ask && not table.multi) _ _ (λ _. inl refl) (λ _.
      so_if s (q.names_bad_exception t table ask) _ _ (λ _. inl refl) (λ _.
      so_if s (table.grouped && (is_some ask.before || ask.top)) _ _ (λ _. inl refl) (λ ungrouped.
      so_if s (is_some ask.before && is_none relative) _ _ (λ _. inl refl) (λ _.
      so_if s (q.is_too_deep table relative) _ _ (λ _. inl refl) (λ _.
      so_if s (length agents == 0) _ _ (λ _. inl refl) (λ _.
      so_if s (nat_lt RECIPIENT_LIMIT (length agents)) _ _ (λ _. inl refl) (λ _.
      so_if s (nat_le NEXT_LIMIT next) _ _ (λ _. inl refl) (λ ids.
      let low : next < NEXT_LIMIT = leb-false NEXT_LIMIT next ids in
      add_so ask.visibility (q.addition table ask cells agents relative next moment)
      (addition_known table ask cells agents relative next moment (omega (arith, low)) top (relative_known t s.at ask table v table_is ungrouped))))))))))

  cells_so : (table : TableRow) (r : Result Record PayloadFault) → table_of t ask.queue ≡ Some table → AnswersSo (Pends s) (q.enqueue_cells t s table ask r next moment)
  cells_so table (Err fault) table_is = inl refl
  cells_so table (Ok cells) table_is = for_so table cells (recipients t table ask cells) table_is

  typed_so : (o : Option TableRow) → table_of t ask.queue ≡ o → AnswersSo (Pends s) (q.enqueue_typed t s o ask next moment)
  typed_so None table_is = inl refl
  typed_so (Some table) table_is = cells_so table (record_of table.fields ask.payload) table_is

  into_so : (o : Option QueueRow) → find_queue t ask.queue ≡ o → AnswersSo (Pends s) (q.enqueue_into t s o ask next moment)
  into_so None e = inl refl
  into_so (Some queue) e =
      so_if s (is_exception queue.kind) _ _ (λ _. inl refl) (λ _.
      so_if s (not queue.enqueue) _ _ (λ _. inl refl) (λ _.
      typed_so (find_table t queue.table) (ap (λ o. option_and_then (λ r. find_table t r.table) o) e)))

  enqueue_so : AnswersSo (Pends s) (q.enqueue t s ask next moment)
  unfolding q.enqueue
  enqueue_so = into_so (find_queue t ask.queue) refl

-- ---- dequeues

module _ (l : d.Look) (moment : ℕ) where
  given_unparked : (mode : Mode) (visibility : Visibility) (m : MsgRow) (slot : ℕ) → AnswersSo (Pends l.session) (d.given_in mode visibility l (unparked l.session) moment m slot)
  given_unparked modes.Remove visibilities.Immediate m slot = inl refl
  given_unparked modes.RemoveNodata visibilities.Immediate m slot = inl refl
  given_unparked modes.Browse visibility m slot = inl refl
  given_unparked modes.Locked visibilities.Immediate m slot = inl refl
  given_unparked modes.Remove visibilities.OnCommit m slot = inr (inr (record { added = Remove m.id slot; pendable = tt; later = refl; pending = refl }))
  given_unparked modes.RemoveNodata visibilities.OnCommit m slot = inr (inr (record { added = Remove m.id slot; pendable = tt; later = refl; pending = refl }))
  given_unparked modes.Locked visibilities.OnCommit m slot = inl refl

  given_standing : (mode : Mode) (visibility : Visibility) (m : MsgRow) (slot : ℕ) → AnswersSo (Pends l.session) (d.given_in mode visibility l (d.standing_at l m) moment m slot)
  given_standing modes.Remove visibilities.Immediate m slot = inl refl
  given_standing modes.RemoveNodata visibilities.Immediate m slot = inl refl
  given_standing modes.Browse visibility m slot = inl refl
  given_standing modes.Locked visibilities.Immediate m slot = inl refl
  given_standing modes.Remove visibilities.OnCommit m slot = inr (inr (record { added = Remove m.id slot; pendable = tt; later = refl; pending = refl }))
  given_standing modes.RemoveNodata visibilities.OnCommit m slot = inr (inr (record { added = Remove m.id slot; pendable = tt; later = refl; pending = refl }))
  given_standing modes.Locked visibilities.OnCommit m slot = inl refl

  forgetting_same : (n : Navigation) → (d.forgetting n l.ask l.session).pending ≡ l.session.pending
  forgetting_same navigations.First = refl
  forgetting_same navigations.Next = refl
  forgetting_same navigations.NextTransaction = refl

  chosen_so : (m : MsgRow) (o : Option ℕ) → AnswersSo (Pends l.session) (d.given_chosen l moment m o)
  chosen_so m None = inl refl
  chosen_so m (Some slot) = given_standing l.ask.mode l.ask.visibility m slot

  choice_so : (c : d.Choice) → AnswersSo (Pends l.session) (d.given_by l moment c)
  choice_so (d.found m) = chosen_so m (d.slot_in l m)
  choice_so d.end_of_group = inl refl
  choice_so d.nothing =
      so_if l.session (still_waits l.session l.ask.wait moment) (parks (first_look l.session moment)) (refused (d.forgetting l.ask.navigation l.ask l.session) replies.NoMessage)
      (λ _. tt) (λ _. inl (forgetting_same l.ask.navigation))

  unheld_so : (m : MsgRow) (slot : ℕ) (o : Option ℕ) → AnswersSo (Pends l.session) (d.given_unheld l moment m slot o)
  unheld_so m slot (Some other) = inl refl
  unheld_so m slot None = given_unparked l.ask.mode l.ask.visibility m slot

  slot_so : (m : MsgRow) (o : Option ℕ) → AnswersSo (Pends l.session) (d.given_slot l moment m o)
  slot_so m None = inl refl
  slot_so m (Some slot) =
      so_if l.session (not (d.is_open_slot (slot_of m slot)) || has_removed l.session m.id slot || not (d.meets l m)) _ _ (λ _. inl refl) (λ _. unheld_so m slot (d.holder_for l m slot))

  named_so : (o : Option MsgRow) → AnswersSo (Pends l.session) (d.given_named l moment o)
  named_so None = inl refl
  named_so (Some m) = so_if l.session (not (bytes_eq m.queue l.queue.name)) _ _ (λ _. inl refl) (λ _. slot_so m (d.slot_in l m))

  by_so : (o : Option MsgId) → AnswersSo (Pends l.session) (d.dequeue_by l moment o)
  by_so (Some id) = named_so (message_named l.tables l.session.at id)
  by_so None = choice_so (d.chosen l)

module _ (t : Tables) (sessions : List Session) (actor : ℕ) (s : Session) (ask : Dequeue) (moment : ℕ) where
  where_so : (queue : QueueRow) (table : TableRow) (r : Result (Option Cond) ConditionFault) → AnswersSo (Pends s) (d.dequeue_where t sessions actor s queue table ask r moment)
  where_so queue table (Err fault) = inl refl
  where_so queue table (Ok condition) =
      by_so (record { tables = t; sessions = sessions; actor = actor; session = s; queue = queue; table = table; ask = ask; condition = condition }) moment ask.msgid

  table_so : (queue : QueueRow) (o : Option TableRow) → AnswersSo (Pends s) (d.dequeue_typed t sessions actor s queue o ask moment)
  table_so queue None = inl refl
  table_so queue (Some table) =
      so_if s (d.lacks_consumer queue table ask.consumer) _ _ (λ _. inl refl) (λ _.
      so_if s (d.has_needless_consumer queue table ask.consumer) _ _ (λ _. inl refl) (λ _.
      so_if s (d.is_wrong_mode queue table ask.mode) _ _ (λ _. inl refl) (λ _.
      so_if s (d.is_by_transaction ask.navigation && not table.grouped) _ _ (λ _. inl refl) (λ _.
      where_so queue table (optional_condition table.fields ask.condition)))))

  from_so : (o : Option QueueRow) → AnswersSo (Pends s) (d.dequeue_from t sessions actor s o ask moment)
  from_so None = inl refl
  from_so (Some queue) = so_if s (not queue.dequeue) _ _ (λ _. inl refl) (λ _. table_so queue (find_table t queue.table))

  dequeue_so : AnswersSo (Pends s) (d.dequeue t sessions actor s ask moment)
  unfolding d.dequeue
  dequeue_so = from_so (find_queue t ask.queue)

-- ---- the ends of a transaction

commit_so : (t : Tables) (s : Session) (moment : ℕ) → AnswersSo (Pends s) (commit t s moment)
unfolding commit
commit_so t s moment = inr (inl refl)

rollback_so : (t : Tables) (s : Session) (moment : ℕ) → AnswersSo (Pends s) (rollback t s moment)
unfolding rollback
rollback_so t s moment = inr (inl refl)

-- ---- all statements

pub statement_so : (w : World) (i : ℕ) (s : Session) (statement : Statement) → is_valid (database_at s.at w).tables ≡ true → w.moment ≤ 2 ^ 62 → AnswersSo (Pends s) (meaning w i s statement)
unfolding meaning
statement_so w i s (statements.Admin ask) v top = administer_so (database_at s.at w).tables w.sessions (slot_sent w) s ask w.moment
statement_so w i s (statements.Enqueue ask) v top = enqueue_so (database_at s.at w).tables s ask (database_at s.at w).next w.moment v top
statement_so w i s (statements.Dequeue ask) v top = dequeue_so (database_at s.at w).tables w.sessions i s ask w.moment
statement_so w i s (statements.Listen ask) v top = listen_so (database_at s.at w).tables w.sessions i s ask w.moment
statement_so w i s statements.Commit v top = commit_so (database_at s.at w).tables s w.moment
statement_so w i s statements.Rollback v top = rollback_so (database_at s.at w).tables s w.moment

-- in a valid world
pub answered_so : (w : World) (i : ℕ) (s : Session) (statement : Statement) (reply : Reply) (cs : List Change) (after : Session) → IsValidWorld w → meaning w i s statement ≡ answers reply cs after → Pends s reply cs after
answered_so w i s statement reply cs after v means =
    subst (AnswersSo (Pends s)) means (statement_so w i s statement (v.databases s.at).valid v.last)

-- ---- what is pending then

-- what can be committed can be afterwards
pub pendable_after : (s : Session) (reply : Reply) (cs : List Change) (after : Session) → Pends s reply cs after → All IsPendable s.pending → All IsPendable after.pending
pendable_after s reply cs after so all = elim so [
  | inl e ↦ subst (All IsPendable) (sym e) all
  | inr more ↦ elim more [
    | inl e ↦ subst (All IsPendable) (sym e) (All-nil IsPendable)
    | inr one ↦ subst (All IsPendable) (sym one.pending) (All-push IsPendable s.pending one.added all one.pendable)
  ]
]

-- at most one thing more is pending
pub few_after : (s : Session) (reply : Reply) (cs : List Change) (after : Session) → Pends s reply cs after → length after.pending ≤ length s.pending + 1
few_after s reply cs after so = elim so [
  | inl e ↦ let n = ap length e in omega (arith, n)
  | inr more ↦ elim more [
    | inl e ↦ let n = ap length e in omega (arith, n)
    | inr one ↦ let n = ap length one.pending ∙ length-append s.pending (one.added ∷ []) in omega (arith, n)
  ]
]
