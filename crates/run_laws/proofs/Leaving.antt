-- What a statement that is answered leaves of the marks of its session and of the tables of queues.
use Rattle.std.proofs.Common.{◌≡◌, ◌≤◌, ◌⊎◌, inl, inr, ℕ, List, [], ◌∷◌, Bool, true, false, refl, sym, ap, ◌∙◌, subst, arith, Option, Some, None, Ok, Err}
use Rattle.std.specs.Prelude.{slice_get}
use Rattle.std.specs.List.{list_any}
use Rattle.std.proofs.lemmas.Bool.{false≢true}
use Rattle.std.proofs.lemmas.List.Elements.{All-nil, All-cons}
use Rattle.aq_base.specs.declared.DbId.{DbId}
use Rattle.aq_base.specs.declared.limits.TheConstants.{MOMENT_LIMIT}
use Rattle.queue_rows.specs.Session.{Session, marks_slot}
use Rattle.queue_rows.specs.Meaning.{answers}
use Rattle.queue_rows.specs.Administration.{is_hindered, administered, administer}
use Rattle.queue_rows.specs.Catalog.{Judged, judged}
use Rattle.queue_rows.specs.Commits.{commit_of}
use Rattle.queue_rows.specs.Listening.{listen}
use Rattle.queue_rows.specs.Settling.{settled}
use Rattle.queue_rows.specs.Transactions.{commit, rollback, rollback_of}
use Rattle.queue_rows.specs.Statements.{meaning, slot_sent}
use Rattle.queue_rows.specs.World.{World, database_at, committed_tables}
use Rattle.queue_rows.specs.Within.{is_within}
use Rattle.queue_rows.specs.Valid.{is_valid}
use Rattle.queue_rows.specs.declared.tables.Tables.{Tables}
use Rattle.queue_rows.specs.declared.rows.MsgRow.{MsgRow}
use Rattle.queue_rows.specs.declared.session.Pending.{Pending}
use Rattle.queue_rows.specs.declared.session.Pending.TheVariants.{Add, Remove}
use Rattle.queue_rows.specs.declared.change.Change.{Change}
use Rattle.queue_rows.specs.declared.history.SlotRef.{SlotRef}
use Rattle.queue_rows.specs.declared.reply.Reply.{Reply}
use Rattle.queue_rows.specs.declared.reply.Reply.TheVariants as replies
use Rattle.queue_rows.specs.declared.statement.Admin.{Admin}
use Rattle.queue_rows.specs.declared.statement.Enqueue.{Enqueue}
use Rattle.queue_rows.specs.declared.statement.Statement.{Statement}
use Rattle.queue_rows.specs.declared.statement.Statement.TheVariants as statements
use Rattle.queue_rows.specs.declared.statement.Visibility.{Visibility}
use Rattle.queue_rows.specs.declared.statement.Visibility.TheVariants as visibilities
use Rattle.valid_laws.specs.Openness.{is_open_at}
use Rattle.valid_laws.specs.PendingLaws.{IsAdditionRight, IsPendingRight, AreApart, MayCommit}
use Rattle.valid_laws.proofs.Pending.{commit_goes, removal_may, pairs-one}
use Rattle.valid_laws.proofs.Retrying.{rollback_goes_well}
use Rattle.statement_laws.specs.EnqueueLaws.{AddsIn, Adds}
use Rattle.statement_laws.specs.StandingLaws.{AreStanding}
use Rattle.statement_laws.proofs.Among.{Says, says_so}
use Rattle.statement_laws.proofs.Adding.{enqueue_adds_right, not_passed}
use Rattle.statement_laws.proofs.Ending.{may_roll_back}
use Rattle.statement_laws.proofs.Taking.{dequeue_removes_open, dequeue_takes_free}
use Rattle.statement_laws.proofs.Standing.{IsCommit, is_commit, IsRollback, is_rollback, standing_may_end}
use Rattle.statement_laws.proofs.Stepping.{TakesSo, none, once, takes_so, HoldsSame, listen_same}
use Rattle.history_laws.specs.ValidWorld.{IsRight}
use Rattle.history_laws.proofs.Making.{own_db}
use Rattle.run_laws.specs.GroupedMarks.{group_at, AreOfGroups}
use Rattle.run_laws.proofs.Tabling.{TablesStay, goes_tables, none_stays, StayJudged, judged_stays}
use Rattle.run_laws.proofs.Looking.{dequeue_groups}

-- ---- what a statement leaves

-- Its session's marks are in their groups where they were; each slot that it has marked can be taken; and the tables of the queues in
-- which messages stand are the same.
pub record Leaves (t : Tables) (moment : ℕ) (s : Session) (cs : List Change) (after : Session) : Type 0 where
  pub groups : AreOfGroups t s.marks → AreOfGroups t after.marks
  pub opens : ((id slot : ℕ) → list_any (marks_slot id slot) s.marks ≡ true → is_open_at t id slot ≡ true) → (id slot : ℕ) → list_any (marks_slot id slot) after.marks ≡ true → is_open_at t id slot ≡ true
  pub tables : TablesStay t (committed_tables t cs moment)

leaves_same : (t : Tables) (moment : ℕ) (s : Session) (cs : List Change) (after : Session) → after.marks ≡ s.marks → TablesStay t (committed_tables t cs moment) → Leaves t moment s cs after
leaves_same t moment s cs after e h = record {
  groups = λ g. subst (AreOfGroups t) (sym e) g;
  opens = λ k id slot m. k id slot (sym (ap (list_any (marks_slot id slot)) e) ∙ m);
  tables = h;
}

leaves_none : (t : Tables) (moment : ℕ) (s : Session) (cs : List Change) (after : Session) → after.marks ≡ [] → TablesStay t (committed_tables t cs moment) → Leaves t moment s cs after
leaves_none t moment s cs after e h = record {
  groups = λ g. subst (AreOfGroups t) (sym e) (All-nil (λ mark. mark.group ≡ group_at t mark.id mark.slot));
  opens = λ k id slot m. absurd (false≢true (sym (ap (list_any (marks_slot id slot)) e) ∙ m));
  tables = h;
}

abbrev AdminLeaves : Tables → ℕ → Session → Reply → List Change → Session → Type 0
AdminLeaves t moment s reply cs after = Leaves t moment s cs after

module _ (t : Tables) (moment : ℕ) (s : Session) (v : is_valid t ≡ true) (le : t.latest ≤ moment) (top : moment ≤ MOMENT_LIMIT) where
  administered_leaves : (hindered : Bool) (j : Judged) → StayJudged t moment j → Says (AdminLeaves t moment s) (administered t s hindered j)
  administered_leaves hindered (Err reply) h = leaves_same t moment s [] (record s { parked = None }) refl (none_stays t moment [] refl)
  administered_leaves true (Ok changes) h = leaves_same t moment s [] (record s { parked = None }) refl (none_stays t moment [] refl)
  administered_leaves false (Ok changes) h = leaves_same t moment s (settled t changes) (record s { parked = None }) refl h

  administer_leaves : (sessions : List Session) (sent : Option SlotRef) (ask : Admin) → is_within (statements.Admin ask) ≡ true → Says (AdminLeaves t moment s) (administer t sessions sent s ask moment)
  unfolding administer
  administer_leaves sessions sent ask w = administered_leaves (is_hindered t s.at sessions sent ask) (judged t ask moment) (judged_stays t moment v le top ask w)

  commit_tables : (cs : List Change) (pending : List Pending) → MayCommit t moment pending → cs ≡ commit_of t moment pending → TablesStay t (committed_tables t cs moment)
  commit_tables cs pending k e = subst (λ ds. TablesStay t (committed_tables t ds moment)) (sym e) (goes_tables t moment (commit_of t moment pending) le (commit_goes t moment pending v le top k))

  module _ (db : DbId) (next : ℕ) (sessions : List Session) (k : AreStanding t db next moment sessions) where
    may_add : (m : MsgRow) → m.id ≡ next → IsAdditionRight t moment m → MayCommit t moment (Add m ∷ [])
    may_add m e right = record {
      right = All-cons (IsPendingRight t moment) (Add m) [] right (All-nil (IsPendingRight t moment));
      apart = pairs-one AreApart (Add m);
      lanes = λ name q f. let a = k.room.lanes t.next (omega arith) name q f in let b = not_passed t next m k.up e in omega (arith, a, b);
      groups = λ some. absurd (let b = not_passed t next m k.up e in omega (arith, some, b));
    }

    visible_leaves : (visibility : Visibility) (m : MsgRow) (cs : List Change) (after : Session) → m.id ≡ next → IsAdditionRight t moment m → AddsIn visibility t s m moment cs after → Leaves t moment s cs after
    visible_leaves visibilities.OnCommit m cs after e right h = leaves_same t moment s cs after h.marks (none_stays t moment cs h.none)
    visible_leaves visibilities.Immediate m cs after e right h = leaves_same t moment s cs after h.marks (commit_tables cs (Add m ∷ []) (may_add m e right) h.commits)

    adds_leaves : (reply : Reply) (ask : Enqueue) (cs : List Change) (after : Session) → Adds reply ask t s next moment cs after → Leaves t moment s cs after
    adds_leaves (replies.Enqueued id) ask cs after h = visible_leaves ask.visibility h.message cs after h.number_is h.right h.adds
    adds_leaves _ ask cs after h = leaves_same t moment s cs after h.marks (none_stays t moment cs h.none)

  takes_tables : (cs : List Change) (after : Session) → TakesSo t s moment cs after → TablesStay t (committed_tables t cs moment)
  takes_tables cs after (none e adds counts) = none_stays t moment cs e
  takes_tables cs after (once id slot o e p) = commit_tables cs (Remove id slot ∷ []) (removal_may t moment id slot v o) e

pub answered_leaves : (w : World) (i : ℕ) (s : Session) (statement : Statement) (reply : Reply) (cs : List Change) (after : Session) → IsRight (database_at s.at w).tables s.at (database_at s.at w).next w.moment w.sessions → w.moment ≤ MOMENT_LIMIT
    → slice_get w.sessions i ≡ Some s → is_within statement ≡ true → meaning w i s statement ≡ answers reply cs after → Leaves (database_at s.at w).tables w.moment s cs after
unfolding meaning
answered_leaves w i s (statements.Admin ask) reply cs after r top there within e =
    let t = (database_at s.at w).tables in
    says_so (AdminLeaves t w.moment s) (administer t w.sessions (slot_sent w) s ask w.moment) reply cs after (administer_leaves t w.moment s r.valid r.latest top w.sessions (slot_sent w) ask within) e
answered_leaves w i s (statements.Enqueue ask) reply cs after r top there within e =
    let t = (database_at s.at w).tables in
    let next = (database_at s.at w).next in
    adds_leaves t w.moment s r.valid r.latest top s.at next w.sessions r.standing reply ask cs after (enqueue_adds_right t s ask next w.moment reply cs after r.valid r.fields r.latest top r.standing.up within e)
answered_leaves w i s (statements.Dequeue ask) reply cs after r top there within e =
    let t = (database_at s.at w).tables in
    let agree = (r.standing.each i s there (own_db s.at)).agree in
    record {
      groups = λ g. dequeue_groups t w.sessions i s ask w.moment reply cs after r.valid g e;
      opens = λ k id slot h. opens_by k id slot ((dequeue_takes_free t w.sessions i s ask w.moment reply cs after r.valid r.latest top agree e).marked id slot h);
      tables = takes_tables t w.moment s r.valid r.latest top cs after (takes_so reply ask t s w.moment cs after (dequeue_removes_open t w.sessions i s ask w.moment reply cs after r.valid r.latest top agree e).0);
    }
  where
    opens_by : {A : Type 0} → ((id slot : ℕ) → list_any (marks_slot id slot) s.marks ≡ true → is_open_at (database_at s.at w).tables id slot ≡ true) → (id slot : ℕ)
        → (list_any (marks_slot id slot) s.marks ≡ true) ⊎ (A × (is_open_at (database_at s.at w).tables id slot ≡ true)) → is_open_at (database_at s.at w).tables id slot ≡ true
    opens_by k id slot (inl g) = k id slot g
    opens_by k id slot (inr p) = p.1
answered_leaves w i s (statements.Listen ask) reply cs after r top there within e =
    let t = (database_at s.at w).tables in
    let h = says_so (HoldsSame s) (listen t w.sessions i s ask w.moment) reply cs after (listen_same t w.sessions i s ask w.moment) e in
    leaves_same t w.moment s cs after h.2 (none_stays t w.moment cs h.0)
answered_leaves w i s statements.Commit reply cs after r top there within e =
    let t = (database_at s.at w).tables in
    let h = says_so (IsCommit t s w.moment) (commit t s w.moment) reply cs after (is_commit t s w.moment) e in
    let end = standing_may_end t s.at (database_at s.at w).next w.moment i s w.sessions r.standing there (own_db s.at) in
    leaves_none t w.moment s cs after h.2 (commit_tables t w.moment s r.valid r.latest top cs s.pending end.commits h.0)
answered_leaves w i s statements.Rollback reply cs after r top there within e =
    let t = (database_at s.at w).tables in
    let h = says_so (IsRollback t s w.moment) (rollback t s w.moment) reply cs after (is_rollback t s w.moment) e in
    let end = standing_may_end t s.at (database_at s.at w).next w.moment i s w.sessions r.standing there (own_db s.at) in
    leaves_none t w.moment s cs after h.2
    (subst (λ ds. TablesStay t (committed_tables t ds w.moment)) (sym h.0)
    (goes_tables t w.moment (rollback_of t w.moment s.pending) r.latest (rollback_goes_well t w.moment s.pending r.valid r.latest top (may_roll_back t w.moment s.pending end.commits))))
