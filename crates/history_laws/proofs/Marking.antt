-- A statement marks no slot that goes to the other database, and puts no message in of which its session has a slot marked.
use Rattle.std.proofs.Common.{◌≡◌, ◌≢◌, ◌≤◌, ◌+◌, ◌⊎◌, inl, inr, ℕ, List, [], ◌∷◌, Bool, true, false, refl, sym, ap, ◌∙◌, subst, arith, Option, Some, None, Ok, Err, ◌==◌}
use Rattle.std.specs.Prelude.{slice_get, slice_set, map, All}
use Rattle.std.specs.List.{list_any}
use Rattle.std.proofs.lemmas.Bool.{eqb-true, ne_eqb, or_cases, or_from, false_from_ne_true, false≢true, true≢false}
use Rattle.std.proofs.lemmas.Option.{none-some, slice_get_within}
use Rattle.std.proofs.lemmas.List.Elements.{All-head, All-tail, All-weaker}
use Rattle.aq_base.specs.declared.DbId.{DbId}
use Rattle.aq_base.specs.declared.limits.TheConstants.{MOMENT_LIMIT}
use Rattle.queue_rows.specs.Rows.{find_message}
use Rattle.queue_rows.specs.Session.{Session, is_same_db, marks_slot}
use Rattle.queue_rows.specs.Meaning.{answers}
use Rattle.queue_rows.specs.Administration.{is_hindered, administered, administer}
use Rattle.queue_rows.specs.Catalog.{Judged, judged}
use Rattle.queue_rows.specs.Listening.{listen}
use Rattle.queue_rows.specs.Transactions.{commit, rollback}
use Rattle.queue_rows.specs.Propagating.{Dispatch, dispatch, confirming}
use Rattle.queue_rows.specs.Statements.{meaning, slot_sent}
use Rattle.queue_rows.specs.World.{World, database_at, committed_tables}
use Rattle.queue_rows.specs.Within.{is_within}
use Rattle.queue_rows.specs.Valid.{is_valid, is_valid_schedule}
use Rattle.queue_rows.specs.declared.tables.Tables.{Tables}
use Rattle.queue_rows.specs.declared.rows.MsgRow.{MsgRow}
use Rattle.queue_rows.specs.declared.rows.ScheduleRow.{ScheduleRow}
use Rattle.queue_rows.specs.declared.session.Pending.{Pending}
use Rattle.queue_rows.specs.declared.session.Pending.TheVariants.{Add, Remove}
use Rattle.queue_rows.specs.declared.change.Change.{Change}
use Rattle.queue_rows.specs.declared.change.Change.TheVariants as changes
use Rattle.queue_rows.specs.declared.history.SlotRef.{SlotRef}
use Rattle.queue_rows.specs.declared.reply.Reply.{Reply}
use Rattle.queue_rows.specs.declared.reply.Reply.TheVariants as replies
use Rattle.queue_rows.specs.declared.statement.Admin.{Admin}
use Rattle.queue_rows.specs.declared.statement.Enqueue.{Enqueue}
use Rattle.queue_rows.specs.declared.statement.Statement.{Statement}
use Rattle.queue_rows.specs.declared.statement.Statement.TheVariants as statements
use Rattle.queue_rows.specs.declared.statement.Visibility.{Visibility}
use Rattle.queue_rows.specs.declared.statement.Visibility.TheVariants as visibilities
use Rattle.valid_laws.specs.Openness.{is_open_at}
use Rattle.valid_laws.specs.Touching.{puts_in}
use Rattle.valid_laws.specs.PendingLaws.{IsAdditionRight, IsPendingRight}
use Rattle.valid_laws.proofs.Opened.{open_at}
use Rattle.valid_laws.proofs.Parts.{valid_id}
use Rattle.statement_laws.specs.Sessions.{is_addition_of}
use Rattle.statement_laws.specs.EnqueueLaws.{AddsIn, Adds}
use Rattle.statement_laws.specs.StandingLaws.{AreStanding}
use Rattle.statement_laws.proofs.Among.{Says, says_so}
use Rattle.statement_laws.proofs.Adding.{enqueue_adds_right}
use Rattle.statement_laws.proofs.Taking.{dequeue_takes_free}
use Rattle.statement_laws.proofs.Standing.{IsCommit, is_commit, IsRollback, is_rollback, confirmation_keeps_standing}
use Rattle.statement_laws.proofs.Stepping.{HoldsSame, listen_same}
use Rattle.history_laws.specs.Proper.{ids_put_in}
use Rattle.history_laws.specs.ValidWorld.{IsRight}
use Rattle.history_laws.specs.LocalMarks.{is_remote_at, MarksAreLocal}
use Rattle.history_laws.proofs.Giving.{IsOwn, Gives}
use Rattle.history_laws.proofs.Making.{own_db}
use Rattle.history_laws.proofs.Looking.{dequeue_marks_local}
use Rattle.history_laws.proofs.Sending.{sent_is_remote}

-- ---- what a statement marks

-- the slot was marked, or it can be taken and goes nowhere
abbrev pub MarkedSo : Tables → Session → ℕ → ℕ → Type 0
MarkedSo t s id slot = (list_any (marks_slot id slot) s.marks ≡ true) ⊎ ((is_remote_at t id slot ≡ false) × (is_open_at t id slot ≡ true))

same_marked : (t : Tables) (s after : Session) → after.marks ≡ s.marks → (id slot : ℕ) → list_any (marks_slot id slot) after.marks ≡ true → MarkedSo t s id slot
same_marked t s after m id slot h = inl (sym (ap (list_any (marks_slot id slot)) m) ∙ h)

none_marked : {A : Type 0} (after : Session) → after.marks ≡ [] → (id slot : ℕ) → list_any (marks_slot id slot) after.marks ≡ true → A
none_marked after m id slot h = absurd (false≢true (sym (ap (list_any (marks_slot id slot)) m) ∙ h))

abbrev KeepsMarks : Session → Reply → List Change → Session → Type 0
KeepsMarks s reply cs after = after.marks ≡ s.marks

administered_same : (t : Tables) (s : Session) (hindered : Bool) (j : Judged) → Says (KeepsMarks s) (administered t s hindered j)
administered_same t s hindered (Err reply) = refl
administered_same t s true (Ok cs) = refl
administered_same t s false (Ok cs) = refl

administer_same : (t : Tables) (sessions : List Session) (sent : Option SlotRef) (s : Session) (ask : Admin) (moment : ℕ) → Says (KeepsMarks s) (administer t sessions sent s ask moment)
unfolding administer
administer_same t sessions sent s ask moment = administered_same t s (is_hindered t s.at sessions sent ask) (judged t ask moment)

visible_same : (visibility : Visibility) (t : Tables) (s : Session) (m : MsgRow) (moment : ℕ) (cs : List Change) (after : Session) → AddsIn visibility t s m moment cs after → after.marks ≡ s.marks
visible_same visibilities.OnCommit t s m moment cs after h = h.marks
visible_same visibilities.Immediate t s m moment cs after h = h.marks

adds_same : (reply : Reply) (ask : Enqueue) (t : Tables) (s : Session) (next moment : ℕ) (cs : List Change) (after : Session) → Adds reply ask t s next moment cs after → after.marks ≡ s.marks
adds_same (replies.Enqueued id) ask t s next moment cs after h = visible_same ask.visibility t s h.message moment cs after h.adds
adds_same _ ask t s next moment cs after h = h.marks

pub answered_marks : (w : World) (i : ℕ) (s : Session) (statement : Statement) (reply : Reply) (cs : List Change) (after : Session) → IsRight (database_at s.at w).tables s.at (database_at s.at w).next w.moment w.sessions → w.moment ≤ MOMENT_LIMIT
    → slice_get w.sessions i ≡ Some s → is_within statement ≡ true → meaning w i s statement ≡ answers reply cs after
    → (id slot : ℕ) → list_any (marks_slot id slot) after.marks ≡ true → MarkedSo (database_at s.at w).tables s id slot
unfolding meaning
answered_marks w i s (statements.Admin ask) reply cs after r top there within e =
    let t = (database_at s.at w).tables in
    same_marked t s after (says_so (KeepsMarks s) (administer t w.sessions (slot_sent w) s ask w.moment) reply cs after (administer_same t w.sessions (slot_sent w) s ask w.moment) e)
answered_marks w i s (statements.Enqueue ask) reply cs after r top there within e =
    let t = (database_at s.at w).tables in
    let next = (database_at s.at w).next in
    same_marked t s after (adds_same reply ask t s next w.moment cs after (enqueue_adds_right t s ask next w.moment reply cs after r.valid r.fields r.latest top r.standing.up within e))
answered_marks w i s (statements.Dequeue ask) reply cs after r top there within e = λ id slot h.
    let t = (database_at s.at w).tables in
    let agree = (r.standing.each i s there (own_db s.at)).agree in
    by id slot (dequeue_marks_local t w.sessions i s ask w.moment reply cs after r.valid e id slot h) ((dequeue_takes_free t w.sessions i s ask w.moment reply cs after r.valid r.latest top agree e).marked id slot h)
  where
    by : {A : Type 0} (id slot : ℕ) → (list_any (marks_slot id slot) s.marks ≡ true) ⊎ (is_remote_at (database_at s.at w).tables id slot ≡ false)
        → (list_any (marks_slot id slot) s.marks ≡ true) ⊎ (A × (is_open_at (database_at s.at w).tables id slot ≡ true)) → MarkedSo (database_at s.at w).tables s id slot
    by id slot (inl g) k = inl g
    by id slot (inr r) (inl g) = inl g
    by id slot (inr r) (inr p) = inr (r, p.1)
answered_marks w i s (statements.Listen ask) reply cs after r top there within e =
    let t = (database_at s.at w).tables in
    same_marked t s after (says_so (HoldsSame s) (listen t w.sessions i s ask w.moment) reply cs after (listen_same t w.sessions i s ask w.moment) e).2
answered_marks w i s statements.Commit reply cs after r top there within e =
    let t = (database_at s.at w).tables in
    λ id slot h. none_marked after (says_so (IsCommit t s w.moment) (commit t s w.moment) reply cs after (is_commit t s w.moment) e).2 id slot h
answered_marks w i s statements.Rollback reply cs after r top there within e =
    let t = (database_at s.at w).tables in
    λ id slot h. none_marked after (says_so (IsRollback t s w.moment) (rollback t s w.moment) reply cs after (is_rollback t s w.moment) e).2 id slot h

-- ---- a marked slot's message is not put in

puts_by_ids : (id : ℕ) (cs : List Change) → All (λ a. (a == id) ≡ false) (ids_put_in cs) → list_any (puts_in id) cs ≡ false
puts_by_ids id [] h = refl
puts_by_ids id (changes.Enqueued row ∷ cs) h =
    or_from (row.id == id) (list_any (puts_in id) cs) (All-head (λ a. (a == id) ≡ false) row.id (ids_put_in cs) h) (puts_by_ids id cs (All-tail (λ a. (a == id) ≡ false) row.id (ids_put_in cs) h))
puts_by_ids id (changes.PutTable row ∷ cs) h = puts_by_ids id cs h
puts_by_ids id (_ ∷ cs) h = puts_by_ids id cs h

added_new : (t : Tables) (moment a : ℕ) (pending : List Pending) → All (IsPendingRight t moment) pending → list_any (is_addition_of a) pending ≡ true → find_message t a ≡ None
added_new t moment a [] h k = absurd (false≢true k)
added_new t moment a (Add m ∷ more) h k = by (or_cases (m.id == a) (list_any (is_addition_of a) more) k) (added_new t moment a more (All-tail (IsPendingRight t moment) (Add m) more h))
  where
    right : IsAdditionRight t moment m
    right = All-head (IsPendingRight t moment) (Add m) more h

    by : ((m.id == a) ≡ true) ⊎ (list_any (is_addition_of a) more ≡ true) → (list_any (is_addition_of a) more ≡ true → find_message t a ≡ None) → find_message t a ≡ None
    by (inl e) ih = ap (find_message t) (sym (eqb-true m.id a e)) ∙ right.new
    by (inr e) ih = ih e
added_new t moment a (Remove id slot ∷ more) h k = added_new t moment a more (All-tail (IsPendingRight t moment) (Remove id slot) more h) k

module _ (t : Tables) (db : DbId) (next moment i : ℕ) (s : Session) (sessions : List Session) (v : is_valid t ≡ true) (k : AreStanding t db next moment sessions) (there : slice_get sessions i ≡ Some s) (at : is_same_db s.at db ≡ true) where
  other_id : (taken id slot a : ℕ) → is_open_at t id slot ≡ true → IsOwn s next taken a → (a == id) ≡ false
  other_id taken id slot a o (inl h) =
      let found = open_at t id slot o in
      ne_eqb a id (λ e. absurd (none-some found.message (sym (ap (find_message t) (sym e) ∙ added_new t moment a s.pending (k.each i s there at).right h) ∙ found.found)))
  other_id taken id slot a o (inr p) =
      let found = open_at t id slot o in
      let lt = valid_id t id found.message v found.found in
      let up = k.up in
      ne_eqb a id (λ e. absurd (let q = p.0 in omega (arith, lt, up, e, q)))

  pub marked_unput : (taken id slot : ℕ) (after : Session) (cs : List Change) (ids : List ℕ) → is_open_at t id slot ≡ true → Gives t next taken s after cs ids → list_any (puts_in id) cs ≡ false
  marked_unput taken id slot after cs ids o g =
      puts_by_ids id cs (subst (All (λ a. (a == id) ≡ false)) (sym g.commit.ids_are) (All-weaker (IsOwn s next taken) (λ a. (a == id) ≡ false) (λ a own. other_id taken id slot a o own) ids g.from))

-- ---- what was sent

pub sent_confirmation_keeps_standing : (t : Tables) (db : DbId) (at : SlotRef) (d : Dispatch) (schedule : ScheduleRow) (next moment : ℕ) (sessions : List Session) → is_valid t ≡ true → t.latest ≤ moment → moment ≤ MOMENT_LIMIT → dispatch t at ≡ Some d → is_open_at t at.id at.slot ≡ true → is_valid_schedule t schedule ≡ true
    → MarksAreLocal t db sessions → AreStanding t db next moment sessions → AreStanding (committed_tables t (confirming t at schedule moment) moment) db next moment sessions
sent_confirmation_keeps_standing t db at d schedule next moment sessions v le top e o k m s =
    let r = sent_is_remote t at d v e in
    confirmation_keeps_standing t db at schedule next moment sessions v le top o k
    (λ i x f g. false_from_ne_true (list_any (marks_slot at.id at.slot) x.marks) (λ yes. true≢false (sym r ∙ m i x f g at.id at.slot yes))) s
