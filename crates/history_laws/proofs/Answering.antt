-- Behind a statement that is answered its database is right.
use Rattle.std.proofs.Common.{◌≡◌, ◌≤◌, ◌<◌, ◌+◌, ◌⊎◌, inl, inr, ℕ, List, [], ◌∷◌, Bool, true, false, length, refl, sym, ap, ◌∙◌, subst, arith, Option, Some, Ok, Err, ◌==◌}
use Rattle.std.specs.Prelude.{slice_get, slice_set, if◌then◌else◌}
use Rattle.std.specs.List.{list_all}
use Rattle.std.proofs.lemmas.Bool.{and_parts}
use Rattle.aq_base.specs.declared.DbId.{DbId}
use Rattle.aq_base.specs.declared.DbId.TheVariants.{Home, Away}
use Rattle.aq_base.specs.declared.limits.TheConstants.{MOMENT_LIMIT, NEXT_LIMIT}
use Rattle.queue_rows.specs.Tables.{after}
use Rattle.queue_rows.specs.Session.{Session, is_same_db}
use Rattle.queue_rows.specs.Meaning.{answers}
use Rattle.queue_rows.specs.Administration.{is_hindered, administered, administer}
use Rattle.queue_rows.specs.Catalog.{Judged, judged}
use Rattle.queue_rows.specs.Listening.{listen}
use Rattle.queue_rows.specs.Transactions.{commit, rollback}
use Rattle.queue_rows.specs.Statements.{meaning, slot_sent}
use Rattle.queue_rows.specs.Turns.{ids_taken}
use Rattle.queue_rows.specs.World.{World, database_at, committed_tables}
use Rattle.queue_rows.specs.Within.{is_within}
use Rattle.queue_rows.specs.Valid.{is_valid}
use Rattle.queue_rows.specs.Fits.{fits, all_name_what_is_there}
use Rattle.queue_rows.specs.declared.tables.Tables.{Tables}
use Rattle.queue_rows.specs.declared.rows.MsgRow.{MsgRow}
use Rattle.queue_rows.specs.declared.session.Pending.TheVariants.{Add, Remove}
use Rattle.queue_rows.specs.declared.change.Change.{Change}
use Rattle.queue_rows.specs.declared.history.SlotRef.{SlotRef}
use Rattle.queue_rows.specs.declared.reply.Reply.{Reply}
use Rattle.queue_rows.specs.declared.reply.Reply.TheVariants as replies
use Rattle.queue_rows.specs.declared.statement.Admin.{Admin}
use Rattle.queue_rows.specs.declared.statement.Enqueue.{Enqueue}
use Rattle.queue_rows.specs.declared.statement.Statement.{Statement}
use Rattle.queue_rows.specs.declared.statement.Statement.TheVariants as statements
use Rattle.queue_rows.specs.declared.statement.Visibility.{Visibility}
use Rattle.queue_rows.specs.declared.statement.Visibility.TheVariants as visibilities
use Rattle.valid_laws.proofs.Committing.{commit_fits}
use Rattle.valid_laws.proofs.Judging.{judged_fits}
use Rattle.valid_laws.proofs.Pending.{removal_fits}
use Rattle.statement_laws.specs.EnqueueLaws.{Adds, AddsIn}
use Rattle.statement_laws.specs.StandingLaws.{AreStanding, HoldsAs}
use Rattle.statement_laws.proofs.Among.{Says, says_so}
use Rattle.statement_laws.proofs.Adding.{enqueue_adds_right}
use Rattle.statement_laws.proofs.Taking.{dequeue_removes_open}
use Rattle.statement_laws.proofs.Ending.{commit_fits_for_sessions, rollback_fits_for_sessions}
use Rattle.statement_laws.proofs.Standing.{IsCommit, is_commit, IsRollback, is_rollback, standing_may_end, standing_later, commit_keeps_standing, rollback_keeps_standing}
use Rattle.statement_laws.proofs.Stepping.{TakesSo, none, once, takes_so, HoldsSame, listen_same, enqueue_keeps_standing, dequeue_keeps_standing, listen_keeps_standing}
use Rattle.statement_laws.proofs.Administering.{administration_keeps_standing}
use Rattle.history_laws.specs.Ordered.{asks_ordered, is_ordered}
use Rattle.history_laws.specs.ValidWorld.{IsRight}
use Rattle.history_laws.proofs.Ids.{takes_no_id}
use Rattle.history_laws.proofs.Plain.{is_plain, committed_fields, committed_latest, commit_plain, rollback_plain, IsPlainJudged, judged_plain}

-- ---- what is committed

fitting_by : (t : Tables) (moment : ℕ) (cs : List Change) (b : Bool) → is_valid t ≡ true → fits t (record { moment = moment; changes = cs }) ≡ true → is_valid (if b then t else after t (record { moment = moment; changes = cs })) ≡ true
unfolding fits
fitting_by t moment cs true v f = v
fitting_by t moment cs false v f = (and_parts (all_name_what_is_there t cs) (is_valid (after t (record { moment = moment; changes = cs }))) f).1

-- what fits leaves valid tables
pub committed_valid : (t : Tables) (moment : ℕ) (cs : List Change) → is_valid t ≡ true → fits t (record { moment = moment; changes = cs }) ≡ true → is_valid (committed_tables t cs moment) ≡ true
committed_valid t moment cs v f = fitting_by t moment cs (length cs == 0) v f

-- what is committed fits, and is plain
pub record IsFine (t : Tables) (moment : ℕ) (cs : List Change) : Type 0 where
  pub fit : fits t (record { moment = moment; changes = cs }) ≡ true
  pub plain : list_all is_plain cs ≡ true

-- that nothing is committed fits
module _ (t : Tables) (moment : ℕ) (v : is_valid t ≡ true) (le : t.latest ≤ moment) (top : moment ≤ MOMENT_LIMIT) where
  empty_fine : IsFine t moment []
  empty_fine = record { fit = commit_fits t moment [] v le top tt; plain = refl }

  nothing_fine : (cs : List Change) → cs ≡ [] → IsFine t moment cs
  nothing_fine cs e = subst (IsFine t moment) (sym e) empty_fine

  visible_fine : (visibility : Visibility) (s : Session) (m : MsgRow) (cs : List Change) (after : Session) → AddsIn visibility t s m moment cs after → IsFine t moment cs
  visible_fine visibilities.OnCommit s m cs after h = nothing_fine cs h.none
  visible_fine visibilities.Immediate s m cs after h = record { fit = h.fit; plain = ap (list_all is_plain) h.commits ∙ commit_plain t moment (Add m ∷ []) }

  adds_fine : (reply : Reply) (ask : Enqueue) (s : Session) (next : ℕ) (cs : List Change) (after : Session) → Adds reply ask t s next moment cs after → IsFine t moment cs
  adds_fine (replies.Enqueued id) ask s next cs after h = visible_fine ask.visibility s h.message cs after h.adds
  adds_fine _ ask s next cs after h = nothing_fine cs h.none

  takes_fine : (s : Session) (cs : List Change) (after : Session) → TakesSo t s moment cs after → IsFine t moment cs
  takes_fine s cs after (none e adds counts) = nothing_fine cs e
  takes_fine s cs after (once id slot o e p) = record {
    fit = ap (λ ds. fits t (record { moment = moment; changes = ds })) e ∙ removal_fits t moment id slot v le top o;
    plain = ap (list_all is_plain) e ∙ commit_plain t moment (Remove id slot ∷ []);
  }

  administered_fine : (s : Session) (ask : Admin) → is_within (statements.Admin ask) ≡ true → (hindered : Bool) (j : Judged) → judged t ask moment ≡ j → IsPlainJudged t j → Says (λ reply cs after. IsFine t moment cs) (administered t s hindered j)
  administered_fine s ask w hindered (Err reply) e p = empty_fine
  administered_fine s ask w true (Ok changes) e p = empty_fine
  administered_fine s ask w false (Ok changes) e p = record { fit = judged_fits t ask moment changes v le top w e; plain = p }

  administer_fine : (sessions : List Session) (sent : Option SlotRef) (s : Session) (ask : Admin) → is_within (statements.Admin ask) ≡ true → asks_ordered ask ≡ true → Says (λ reply cs after. IsFine t moment cs) (administer t sessions sent s ask moment)
  unfolding administer
  administer_fine sessions sent s ask w o = administered_fine s ask w (is_hindered t s.at sessions sent ask) (judged t ask moment) refl (judged_plain t moment ask o)

-- ---- what is right

own_db : (db : DbId) → is_same_db db db ≡ true
own_db Home = refl
own_db Away = refl

-- with further ids
more_standing : (t : Tables) (db : DbId) (next more moment : ℕ) (sessions : List Session) → AreStanding t db next moment sessions → AreStanding t db (next + more) moment sessions
more_standing t db next more moment sessions k = standing_later t db next moment (next + more) moment sessions (omega arith) (omega arith) k

-- what an answered statement commits fits
pub answered_fine : (w : World) (i : ℕ) (s : Session) (statement : Statement) (reply : Reply) (cs : List Change) (after : Session) → IsRight (database_at s.at w).tables s.at (database_at s.at w).next w.moment w.sessions → w.moment ≤ MOMENT_LIMIT
    → slice_get w.sessions i ≡ Some s → is_within statement ≡ true → is_ordered statement ≡ true → meaning w i s statement ≡ answers reply cs after → IsFine (database_at s.at w).tables w.moment cs
unfolding meaning
answered_fine w i s (statements.Admin ask) reply cs after r top there within ordered e =
    let t = (database_at s.at w).tables in
    says_so (λ x ds y. IsFine t w.moment ds) (administer t w.sessions (slot_sent w) s ask w.moment) reply cs after (administer_fine t w.moment r.valid r.latest top w.sessions (slot_sent w) s ask within ordered) e
answered_fine w i s (statements.Enqueue ask) reply cs after r top there within ordered e =
    let t = (database_at s.at w).tables in
    let next = (database_at s.at w).next in
    adds_fine t w.moment r.valid r.latest top reply ask s next cs after (enqueue_adds_right t s ask next w.moment reply cs after r.valid r.fields r.latest top r.standing.up within e)
answered_fine w i s (statements.Dequeue ask) reply cs after r top there within ordered e =
    let t = (database_at s.at w).tables in
    let agree = (r.standing.each i s there (own_db s.at)).agree in
    takes_fine t w.moment r.valid r.latest top s cs after (takes_so reply ask t s w.moment cs after (dequeue_removes_open t w.sessions i s ask w.moment reply cs after r.valid r.latest top agree e).0)
answered_fine w i s (statements.Listen ask) reply cs after r top there within ordered e =
    let t = (database_at s.at w).tables in
    nothing_fine t w.moment r.valid r.latest top cs (says_so (HoldsSame s) (listen t w.sessions i s ask w.moment) reply cs after (listen_same t w.sessions i s ask w.moment) e).0
answered_fine w i s statements.Commit reply cs after r top there within ordered e =
    let t = (database_at s.at w).tables in
    let next = (database_at s.at w).next in
    let h = says_so (IsCommit t s w.moment) (commit t s w.moment) reply cs after (is_commit t s w.moment) e in
    record {
      fit = commit_fits_for_sessions t s next w.moment reply cs after r.valid r.latest top (standing_may_end t s.at next w.moment i s w.sessions r.standing there (own_db s.at)) e;
      plain = ap (list_all is_plain) h.0 ∙ commit_plain t w.moment s.pending;
    }
answered_fine w i s statements.Rollback reply cs after r top there within ordered e =
    let t = (database_at s.at w).tables in
    let next = (database_at s.at w).next in
    let h = says_so (IsRollback t s w.moment) (rollback t s w.moment) reply cs after (is_rollback t s w.moment) e in
    record {
      fit = rollback_fits_for_sessions t s next w.moment reply cs after r.valid r.latest top (standing_may_end t s.at next w.moment i s w.sessions r.standing there (own_db s.at)) e;
      plain = ap (list_all is_plain) h.0 ∙ rollback_plain t w.moment s.pending;
    }

-- and leaves what sessions hold standing
answered_standing : (w : World) (i : ℕ) (s : Session) (statement : Statement) (reply : Reply) (cs : List Change) (after behind : Session) → IsRight (database_at s.at w).tables s.at (database_at s.at w).next w.moment w.sessions → w.moment ≤ MOMENT_LIMIT
    → slice_get w.sessions i ≡ Some s → is_within statement ≡ true → meaning w i s statement ≡ answers reply cs after → HoldsAs behind s after
    → AreStanding (committed_tables (database_at s.at w).tables cs w.moment) s.at ((database_at s.at w).next + ids_taken reply) w.moment (slice_set w.sessions i behind)
unfolding meaning
answered_standing w i s (statements.Admin ask) reply cs after behind r top there within e held =
    let t = (database_at s.at w).tables in
    let next = (database_at s.at w).next in
    more_standing (committed_tables t cs w.moment) s.at next (ids_taken reply) w.moment (slice_set w.sessions i behind)
    (administration_keeps_standing t s.at next w.moment i s w.sessions (slot_sent w) ask reply cs after behind r.valid r.latest top within r.standing there (own_db s.at) e held)
answered_standing w i s (statements.Enqueue ask) reply cs after behind r top there within e held =
    enqueue_keeps_standing (database_at s.at w).tables s.at (database_at s.at w).next w.moment i s w.sessions ask reply cs after behind r.valid r.fields r.latest top within r.standing there (own_db s.at) e held
answered_standing w i s (statements.Dequeue ask) reply cs after behind r top there within e held =
    let t = (database_at s.at w).tables in
    let next = (database_at s.at w).next in
    more_standing (committed_tables t cs w.moment) s.at next (ids_taken reply) w.moment (slice_set w.sessions i behind)
    (dequeue_keeps_standing t s.at next w.moment i s w.sessions ask reply cs after behind r.valid r.latest top r.standing there (own_db s.at) e held)
answered_standing w i s (statements.Listen ask) reply cs after behind r top there within e held =
    let t = (database_at s.at w).tables in
    let next = (database_at s.at w).next in
    more_standing (committed_tables t cs w.moment) s.at next (ids_taken reply) w.moment (slice_set w.sessions i behind)
    (listen_keeps_standing t s.at next w.moment i s w.sessions ask reply cs after behind r.standing there (own_db s.at) e held)
answered_standing w i s statements.Commit reply cs after behind r top there within e held =
    let t = (database_at s.at w).tables in
    let next = (database_at s.at w).next in
    more_standing (committed_tables t cs w.moment) s.at next (ids_taken reply) w.moment (slice_set w.sessions i behind)
    (commit_keeps_standing t s.at next w.moment i s w.sessions reply cs after behind r.valid r.latest top r.standing there (own_db s.at) e held)
answered_standing w i s statements.Rollback reply cs after behind r top there within e held =
    let t = (database_at s.at w).tables in
    let next = (database_at s.at w).next in
    more_standing (committed_tables t cs w.moment) s.at next (ids_taken reply) w.moment (slice_set w.sessions i behind)
    (rollback_keeps_standing t s.at next w.moment i s w.sessions reply cs after behind r.valid r.latest top r.standing there (own_db s.at) e held)

-- it takes an id where one is left, or none
takes_or_not : (reply : Reply) (ask : Enqueue) (t : Tables) (s : Session) (next moment : ℕ) (cs : List Change) (after : Session) → Adds reply ask t s next moment cs after → (ids_taken reply ≡ 0) ⊎ ((ids_taken reply ≡ 1) × (next < NEXT_LIMIT))
takes_or_not (replies.Enqueued id) ask t s next moment cs after h =
    let e = h.number_is in
    let w = h.right.id_within in
    let below : next < NEXT_LIMIT = omega (arith, e, w) in
    inr (refl, below)
takes_or_not _ ask t s next moment cs after h = inl refl

answered_takes : (w : World) (i : ℕ) (s : Session) (statement : Statement) (reply : Reply) (cs : List Change) (after : Session) → IsRight (database_at s.at w).tables s.at (database_at s.at w).next w.moment w.sessions → w.moment ≤ MOMENT_LIMIT
    → is_within statement ≡ true → meaning w i s statement ≡ answers reply cs after → (ids_taken reply ≡ 0) ⊎ ((ids_taken reply ≡ 1) × ((database_at s.at w).next < NEXT_LIMIT))
unfolding meaning
answered_takes w i s (statements.Admin ask) reply cs after r top within e = inl (takes_no_id w i s (statements.Admin ask) reply cs after refl e)
answered_takes w i s (statements.Enqueue ask) reply cs after r top within e =
    let t = (database_at s.at w).tables in
    let next = (database_at s.at w).next in
    takes_or_not reply ask t s next w.moment cs after (enqueue_adds_right t s ask next w.moment reply cs after r.valid r.fields r.latest top r.standing.up within e)
answered_takes w i s (statements.Dequeue ask) reply cs after r top within e = inl (takes_no_id w i s (statements.Dequeue ask) reply cs after refl e)
answered_takes w i s (statements.Listen ask) reply cs after r top within e = inl (takes_no_id w i s (statements.Listen ask) reply cs after refl e)
answered_takes w i s statements.Commit reply cs after r top within e = inl (takes_no_id w i s statements.Commit reply cs after refl e)
answered_takes w i s statements.Rollback reply cs after r top within e = inl (takes_no_id w i s statements.Rollback reply cs after refl e)

taken_within : (next taken : ℕ) → next ≤ NEXT_LIMIT → (taken ≡ 0) ⊎ ((taken ≡ 1) × (next < NEXT_LIMIT)) → next + taken ≤ NEXT_LIMIT
taken_within next taken le (inl e) = omega (arith, le, e)
taken_within next taken le (inr p) = let e = p.0 in let below = p.1 in omega (arith, e, below)

pub answered_right : (w : World) (i : ℕ) (s : Session) (statement : Statement) (reply : Reply) (cs : List Change) (after behind : Session) → IsRight (database_at s.at w).tables s.at (database_at s.at w).next w.moment w.sessions → w.moment ≤ MOMENT_LIMIT
    → slice_get w.sessions i ≡ Some s → is_within statement ≡ true → is_ordered statement ≡ true → meaning w i s statement ≡ answers reply cs after → HoldsAs behind s after
    → IsRight (committed_tables (database_at s.at w).tables cs w.moment) s.at ((database_at s.at w).next + ids_taken reply) w.moment (slice_set w.sessions i behind)
answered_right w i s statement reply cs after behind r top there within ordered e held =
    let t = (database_at s.at w).tables in
    let f = answered_fine w i s statement reply cs after r top there within ordered e in
    record {
      valid = committed_valid t w.moment cs r.valid f.fit;
      fields = committed_fields t w.moment cs f.plain r.fields;
      latest = committed_latest t w.moment cs f.plain r.latest;
      standing = answered_standing w i s statement reply cs after behind r top there within e held;
      most = taken_within (database_at s.at w).next (ids_taken reply) r.most (answered_takes w i s statement reply cs after r top within e);
    }
