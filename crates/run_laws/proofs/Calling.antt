-- A call leaves a valid world valid.
use Rattle.std.proofs.Common.{◌≡◌, ◌≢◌, ◌≤◌, ◌+◌, ◌⊎◌, inl, inr, ℕ, List, [], Bool, true, false, refl, sym, ap, ◌∙◌, subst, arith, Option, Some, Ok, Err}
use Rattle.std.specs.Prelude.{slice_get, slice_set, option_map, if◌then◌else◌}
use Rattle.std.specs.List.{list_any}
use Rattle.std.proofs.lemmas.Bool.{false≢true}
use Rattle.std.proofs.lemmas.Option.{slice_get_within}
use Rattle.aq_base.specs.declared.DbId.{DbId}
use Rattle.aq_base.specs.declared.limits.TheConstants.{MOMENT_LIMIT}
use Rattle.queue_rows.specs.Session.{Session, is_same_db, marks_slot}
use Rattle.queue_rows.specs.Meaning.{answers}
use Rattle.queue_rows.specs.Administration.{is_hindered, administered, administer}
use Rattle.queue_rows.specs.Catalog.{Judged, judged}
use Rattle.queue_rows.specs.Listening.{listen}
use Rattle.queue_rows.specs.Transactions.{commit, rollback}
use Rattle.queue_rows.specs.Turns.{ids_taken, having_called, called}
use Rattle.queue_rows.specs.Within.{is_within}
use Rattle.queue_rows.specs.World.{committed_tables, World, Transit, database_at}
use Rattle.queue_rows.specs.Valid.{is_valid}
use Rattle.queue_rows.specs.Fits.{fits}
use Rattle.queue_rows.specs.declared.tables.Tables.{Tables}
use Rattle.queue_rows.specs.declared.change.Change.{Change}
use Rattle.queue_rows.specs.declared.history.SlotRef.{SlotRef}
use Rattle.queue_rows.specs.declared.reply.Reply.{Reply}
use Rattle.queue_rows.specs.declared.statement.Admin.{Admin}
use Rattle.queue_rows.specs.declared.statement.Statement.{Statement}
use Rattle.queue_rows.specs.declared.statement.Statement.TheVariants as statements
use Rattle.queue_rows.proofs.Sessions.{get_set-cases}
use Rattle.valid_laws.specs.Openness.{is_open_at}
use Rattle.valid_laws.specs.Touching.{puts_in}
use Rattle.statement_laws.specs.StandingLaws.{HoldsAs}
use Rattle.statement_laws.proofs.Among.{Says, says_so}
use Rattle.statement_laws.proofs.Adding.{enqueue_adds_right}
use Rattle.statement_laws.proofs.Administering.{same_is}
use Rattle.statement_laws.proofs.Standing.{IsCommit, is_commit, IsRollback, is_rollback}
use Rattle.statement_laws.proofs.Stepping.{HoldsSame, listen_same}
use Rattle.history_laws.specs.ValidWorld.{IsRight}
use Rattle.history_laws.proofs.Answering.{answered_fine, answered_right}
use Rattle.history_laws.proofs.Worlds.{asked, replaced_by}
use Rattle.history_laws.specs.LocalMarks.{is_remote_at, MarksAreLocal}
use Rattle.history_laws.proofs.Giving.{Gives, answered_gives}
use Rattle.history_laws.proofs.Making.{own_db}
use Rattle.history_laws.proofs.Marking.{MarkedSo, answered_marks, marked_unput}
use Rattle.history_laws.proofs.Staying.{local_committed}
use Rattle.run_laws.proofs.Leaving.{Leaves, answered_leaves}
use Rattle.queue_rows.specs.Statements.{slot_sent, meaning, next_statement}
use Rattle.run_laws.specs.ValidRun.{IsBeingSent, IsValidWorld}
use Rattle.run_laws.proofs.Positions.{dropped_right, dropped_local}
use Rattle.run_laws.proofs.Resting.{sent_open, sent_rests}
use Rattle.run_laws.proofs.Passing.{PassBy, none_pass, commit_passes, rollback_passes, adds_pass, dequeue_passes}
use Rattle.run_laws.proofs.Hindering.{SentJudged, judged_sent}
use Rattle.run_laws.proofs.Working.{sent_remote}
use Rattle.run_laws.proofs.Stepping.{only_at, ids_at, world_at, called_at, call_leads, call_sessions, call_transit, valid_behind}

-- ---- what a call commits, in the tables of its session's database

module _ (w : World) (i : ℕ) (s : Session) (statement : Statement) (reply : Reply) (cs : List Change) (after : Session) (v : IsValidWorld w) (there : slice_get w.sessions i ≡ Some s) (next : next_statement w i s ≡ Some statement)
    (means : meaning w i s statement ≡ answers reply cs after) where
  abbrev pub here : Tables
  here = (database_at s.at w).tables

  abbrev pub next_id : ℕ
  next_id = (database_at s.at w).next

  right_here : IsRight here s.at next_id w.moment w.sessions
  right_here = v.databases s.at

  pub statement_within : is_within statement ≡ true
  statement_within = (asked w i s statement v.scripts next).0

  pub call_right : (behind : Session) → HoldsAs behind s after → IsRight (committed_tables here cs w.moment) s.at (next_id + ids_taken reply) w.moment (slice_set w.sessions i behind)
  call_right behind held = let k = asked w i s statement v.scripts next in answered_right w i s statement reply cs after behind right_here v.last there k.0 k.1 means held

  pub call_fits : fits here (record { moment = w.moment; changes = cs }) ≡ true
  call_fits = let k = asked w i s statement v.scripts next in (answered_fine w i s statement reply cs after right_here v.last there k.0 k.1 means).fit

  pub call_gives : (ids : List ℕ) × Gives here next_id (ids_taken reply) s after cs ids
  call_gives = answered_gives w i s statement reply cs after right_here v.last there statement_within means

  pub call_leaves : Leaves here w.moment s cs after
  call_leaves = answered_leaves w i s statement reply cs after right_here v.last there statement_within means

  call_marks : (id slot : ℕ) → list_any (marks_slot id slot) after.marks ≡ true → MarkedSo here s id slot
  call_marks = answered_marks w i s statement reply cs after right_here v.last there statement_within means

  -- a slot that can be taken is in no message that it puts in
  pub call_unput : (id slot : ℕ) → is_open_at here id slot ≡ true → list_any (puts_in id) cs ≡ false
  call_unput id slot o =
      let x = call_gives in
      marked_unput here s.at next_id w.moment i s w.sessions right_here.valid right_here.standing there (own_db s.at) (ids_taken reply) id slot after cs x.0 o x.1

  -- ---- marks

  own_marks : (id slot : ℕ) → list_any (marks_slot id slot) after.marks ≡ true → (is_remote_at here id slot ≡ false) × (is_open_at here id slot ≡ true)
  own_marks id slot h = by (call_marks id slot h)
    where
      by : MarkedSo here s id slot → (is_remote_at here id slot ≡ false) × (is_open_at here id slot ≡ true)
      by (inl g) = (v.local s.at i s there (own_db s.at) id slot g, (right_here.standing.each i s there (own_db s.at)).marked id slot g)
      by (inr p) = p

  local_then : (id slot : ℕ) → is_remote_at here id slot ≡ false → is_open_at here id slot ≡ true → is_remote_at (committed_tables here cs w.moment) id slot ≡ false
  local_then id slot h o = local_committed slot id here w.moment cs right_here.valid call_gives.1.commit.proper (call_unput id slot o) h

  pub call_local : (behind : Session) → HoldsAs behind s after → MarksAreLocal (committed_tables here cs w.moment) s.at (slice_set w.sessions i behind)
  call_local behind held j y e f id slot h = by (get_set-cases w.sessions i j behind y (slice_get_within w.sessions i s there) e)
    where
      by : ((j ≡ i) × (Some behind ≡ Some y)) ⊎ ((j ≢ i) × (slice_get w.sessions j ≡ Some y)) → is_remote_at (committed_tables here cs w.moment) id slot ≡ false
      by (inl p) =
          let same : behind ≡ y = (let a : Some behind ≡ Some y = p.1 in cc) in
          let own = own_marks id slot (ap (list_any (marks_slot id slot)) (sym held.marks) ∙ ap (λ x. list_any (marks_slot id slot) x.marks) same ∙ h) in
          local_then id slot own.0 own.1
      by (inr p) = local_then id slot (v.local s.at j y p.1 f id slot h) ((right_here.standing.each j y p.1 f).marked id slot h)

  -- ---- the slot that is being sent

  local_own : (n a : ℕ) → list_any (marks_slot n a) s.marks ≡ true → is_remote_at here n a ≡ false
  local_own n a h = v.local s.at i s there (own_db s.at) n a h

  passed : (at : SlotRef) → IsBeingSent here at → PassBy here cs → IsBeingSent (committed_tables here cs w.moment) at
  passed at k p =
      sent_rests here w.moment cs at right_here.valid call_gives.1.commit.proper (call_unput at.id at.slot (sent_open here at k)) (p.slots at.id at.slot (sent_remote here at right_here.valid k)) p.schedules k

abbrev AdminSends : Tables → ℕ → SlotRef → Reply → List Change → Session → Type 0
AdminSends t moment at reply cs after = IsBeingSent (committed_tables t cs moment) at

administered_sent : (t : Tables) (moment : ℕ) (at : SlotRef) (s : Session) → IsBeingSent t at → (hindered : Bool) (j : Judged) → (hindered ≡ false → SentJudged t moment at j) → Says (AdminSends t moment at) (administered t s hindered j)
administered_sent t moment at s k hindered (Err reply) h = k
administered_sent t moment at s k true (Ok changes) h = k
administered_sent t moment at s k false (Ok changes) h = h refl

administer_sent : (t : Tables) (moment : ℕ) (at : SlotRef) (sessions : List Session) (sent : Option SlotRef) (s : Session) (ask : Admin) → is_valid t ≡ true → t.latest ≤ moment → moment ≤ MOMENT_LIMIT → sent ≡ Some at → is_same_db at.db s.at ≡ true → IsBeingSent t at
    → Says (AdminSends t moment at) (administer t sessions sent s ask moment)
unfolding administer
administer_sent t moment at sessions sent s ask v le top e same k =
    administered_sent t moment at s k (is_hindered t s.at sessions sent ask) (judged t ask moment) (λ free. judged_sent t moment v le top at k s.at sessions ask same (ap (λ o. is_hindered t s.at sessions o ask) (sym e) ∙ free))

module _ (w : World) (i : ℕ) (s : Session) (reply : Reply) (cs : List Change) (after : Session) (v : IsValidWorld w) (there : slice_get w.sessions i ≡ Some s) where
  call_sent : (statement : Statement) (next : next_statement w i s ≡ Some statement) (means : meaning w i s statement ≡ answers reply cs after) (at : SlotRef) → slot_sent w ≡ Some at → is_same_db at.db s.at ≡ true
      → IsBeingSent (database_at s.at w).tables at → IsBeingSent (committed_tables (database_at s.at w).tables cs w.moment) at
  unfolding meaning
  call_sent (statements.Admin ask) next means at sent same k =
      let t = (database_at s.at w).tables in
      let r = v.databases s.at in
      says_so (AdminSends t w.moment at) (administer t w.sessions (slot_sent w) s ask w.moment) reply cs after (administer_sent t w.moment at w.sessions (slot_sent w) s ask r.valid r.latest v.last sent same k) means
  call_sent (statements.Enqueue ask) next means at sent same k =
      let t = (database_at s.at w).tables in
      let n = (database_at s.at w).next in
      let r = v.databases s.at in
      passed w i s (statements.Enqueue ask) reply cs after v there next means at k
      (adds_pass reply ask t s n w.moment cs after (enqueue_adds_right t s ask n w.moment reply cs after r.valid r.fields r.latest v.last r.standing.up (statement_within w i s (statements.Enqueue ask) reply cs after v there next means) means))
  call_sent (statements.Dequeue ask) next means at sent same k =
      passed w i s (statements.Dequeue ask) reply cs after v there next means at k (dequeue_passes (database_at s.at w).tables w.sessions i s ask w.moment (v.databases s.at).valid reply cs after means)
  call_sent (statements.Listen ask) next means at sent same k =
      let t = (database_at s.at w).tables in
      passed w i s (statements.Listen ask) reply cs after v there next means at k (none_pass t cs (says_so (HoldsSame s) (listen t w.sessions i s ask w.moment) reply cs after (listen_same t w.sessions i s ask w.moment) means).0)
  call_sent statements.Commit next means at sent same k =
      let t = (database_at s.at w).tables in
      let agree = ((v.databases s.at).standing.each i s there (own_db s.at)).agree in
      passed w i s statements.Commit reply cs after v there next means at k
      (commit_passes t w.moment s cs (says_so (IsCommit t s w.moment) (commit t s w.moment) reply cs after (is_commit t s w.moment) means).0 agree (local_own w i s statements.Commit reply cs after v there next means))
  call_sent statements.Rollback next means at sent same k =
      let t = (database_at s.at w).tables in
      let agree = ((v.databases s.at).standing.each i s there (own_db s.at)).agree in
      passed w i s statements.Rollback reply cs after v there next means at k
      (rollback_passes t w.moment s cs (says_so (IsRollback t s w.moment) (rollback t s w.moment) reply cs after (is_rollback t s w.moment) means).0 agree (local_own w i s statements.Rollback reply cs after v there next means))

-- ---- the world behind it

module _ (w : World) (i : ℕ) (s : Session) (statement : Statement) (reply : Reply) (cs : List Change) (after : Session) (v : IsValidWorld w) (there : slice_get w.sessions i ≡ Some s) (next : next_statement w i s ≡ Some statement)
    (means : meaning w i s statement ≡ answers reply cs after) where
  abbrev behind : Session
  behind = having_called (world_at w i s reply cs after s.at) s after

  abbrev set : List Session
  set = slice_set w.sessions i behind

  held : HoldsAs behind s after
  held = record { at = refl; pending = refl; marks = refl }

  right_by : (db : DbId) (b : Bool) → is_same_db s.at db ≡ b → IsRight (committed_tables (database_at db w).tables (if b then cs else []) w.moment) db ((database_at db w).next + (if b then ids_taken reply else 0)) w.moment set
  right_by db true e = subst (λ d. IsRight (committed_tables (database_at d w).tables cs w.moment) d ((database_at d w).next + ids_taken reply) w.moment set) (same_is s.at db e) (call_right w i s statement reply cs after v there next means behind held)
  right_by db false e =
      let n : (database_at db w).next ≡ (database_at db w).next + 0 = omega arith in
      subst (λ k. IsRight (database_at db w).tables db k w.moment set) n
      (replaced_by (database_at db w).tables db (database_at db w).next w.moment i s behind w.sessions false e (v.databases db) there refl (λ same. absurd (false≢true (sym e ∙ same))))

  local_by : (db : DbId) (b : Bool) → is_same_db s.at db ≡ b → MarksAreLocal (committed_tables (database_at db w).tables (if b then cs else []) w.moment) db set
  local_by db true e = subst (λ d. MarksAreLocal (committed_tables (database_at d w).tables cs w.moment) d set) (same_is s.at db e) (call_local w i s statement reply cs after v there next means behind held)
  local_by db false e = λ j y f g id slot h. by j y g id slot h (get_set-cases w.sessions i j behind y (slice_get_within w.sessions i s there) f)
    where
      by : (j : ℕ) (y : Session) → is_same_db y.at db ≡ true → (id slot : ℕ) → list_any (marks_slot id slot) y.marks ≡ true → ((j ≡ i) × (Some behind ≡ Some y)) ⊎ ((j ≢ i) × (slice_get w.sessions j ≡ Some y)) → is_remote_at (database_at db w).tables id slot ≡ false
      by j y g id slot h (inl p) = let same : behind ≡ y = (let a : Some behind ≡ Some y = p.1 in cc) in absurd (false≢true (sym e ∙ ap (λ x. is_same_db x.at db) same ∙ g))
      by j y g id slot h (inr p) = v.local db j y p.1 g id slot h

  sent_by : (t : Transit) → w.transit ≡ Some t → (b : Bool) → is_same_db s.at t.slot.db ≡ b → IsBeingSent (committed_tables (database_at t.slot.db w).tables (if b then cs else []) w.moment) t.slot
  sent_by t e true same =
      let at : s.at ≡ t.slot.db = same_is s.at t.slot.db same in
      subst (λ d. IsBeingSent (committed_tables (database_at d w).tables cs w.moment) t.slot) at
      (call_sent w i s reply cs after v there statement next means t.slot (ap (option_map (λ x. x.slot)) e) (ap (λ d. is_same_db d s.at) (sym at) ∙ own_db s.at) (subst (λ d. IsBeingSent (database_at d w).tables t.slot) (sym at) (v.sent t e)))
  sent_by t e false same = v.sent t e

  pub call_valid : IsValidWorld (called i s reply cs after w)
  call_valid =
      let new = called_at w i s reply cs after s.at in
      let sessions = call_sessions w i s reply cs after s.at in
      valid_behind w new (only_at s.at cs) (ids_at s.at (ids_taken reply)) v (call_leads w i s reply cs after s.at)
      (λ db. subst (IsRight (committed_tables (database_at db w).tables (only_at s.at cs db) w.moment) db ((database_at db w).next + ids_at s.at (ids_taken reply) db) w.moment) (sym sessions)
      (dropped_right (committed_tables (database_at db w).tables (only_at s.at cs db) w.moment) s.at db ((database_at db w).next + ids_at s.at (ids_taken reply) db) w.moment set cs (right_by db (is_same_db s.at db) refl)))
      (λ db. subst (MarksAreLocal (committed_tables (database_at db w).tables (only_at s.at cs db) w.moment) db) (sym sessions)
      (dropped_local (committed_tables (database_at db w).tables (only_at s.at cs db) w.moment) s.at db ((database_at db w).next + ids_at s.at (ids_taken reply) db) w.moment set cs (local_by db (is_same_db s.at db) refl)))
      (λ t e. sent_by t (sym (call_transit w i s reply cs after s.at) ∙ e) (is_same_db s.at t.slot.db) refl)
