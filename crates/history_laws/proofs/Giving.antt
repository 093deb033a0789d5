-- What a statement that is answered commits is proper, and with which ids it puts messages in.
use Rattle.std.proofs.Common.{◌≡◌, ◌≤◌, ◌<◌, ◌⊎◌, inl, inr, ℕ, List, [], ◌∷◌, ◌++◌, Bool, true, false, refl, sym, ap, ◌∙◌, subst, arith, Option, Some, Ok, Err, ◌==◌}
use Rattle.std.specs.Prelude.{slice_get, All, AllPairs}
use Rattle.std.specs.List.{list_any}
use Rattle.std.proofs.lemmas.Bool.{eqb-true, eq-eqb, ne_eqb, or_left, or_right, or_cases, false≢true}
use Rattle.std.proofs.lemmas.List.Elements.{All-cons, All-nil, All-head, All-tail, All-weaker}
use Rattle.std.proofs.lemmas.List.Kept.{AllPairs-cons}
use Rattle.aq_base.specs.declared.DbId.{DbId}
use Rattle.aq_base.specs.declared.DbId.TheVariants.{Home, Away}
use Rattle.aq_base.specs.declared.limits.TheConstants.{MOMENT_LIMIT}
use Rattle.queue_rows.specs.Commits.{commit_of}
use Rattle.queue_rows.specs.Session.{Session, is_same_db}
use Rattle.queue_rows.specs.Meaning.{answers}
use Rattle.queue_rows.specs.Administration.{is_hindered, administered, administer}
use Rattle.queue_rows.specs.Catalog.{Judged, judged}
use Rattle.queue_rows.specs.Listening.{listen}
use Rattle.queue_rows.specs.Transactions.{rollback_of, commit, rollback}
use Rattle.queue_rows.specs.Statements.{meaning, slot_sent}
use Rattle.queue_rows.specs.Turns.{ids_taken}
use Rattle.queue_rows.specs.World.{World, database_at}
use Rattle.queue_rows.specs.Within.{is_within}
use Rattle.queue_rows.specs.Valid.{is_valid}
use Rattle.queue_rows.specs.declared.tables.Tables.{Tables}
use Rattle.queue_rows.specs.declared.rows.MsgRow.{MsgRow}
use Rattle.queue_rows.specs.declared.session.Pending.{Pending}
use Rattle.queue_rows.specs.declared.session.Pending.TheVariants.{Add, Remove}
use Rattle.queue_rows.specs.declared.change.Change.{Change}
use Rattle.queue_rows.specs.declared.history.SlotRef.{SlotRef}
use Rattle.queue_rows.specs.declared.reply.Reply.{Reply}
use Rattle.queue_rows.specs.declared.reply.Reply.TheVariants as replies
use Rattle.queue_rows.specs.declared.statement.Admin.{Admin}
use Rattle.queue_rows.specs.declared.statement.Enqueue.{Enqueue}
use Rattle.queue_rows.specs.declared.statement.Statement.{Statement}
use Rattle.queue_rows.specs.declared.statement.Statement.TheVariants as statements
use Rattle.queue_rows.specs.declared.statement.Visibility.{Visibility}
use Rattle.queue_rows.specs.declared.statement.Visibility.TheVariants as visibilities
use Rattle.valid_laws.specs.Touching.{are_proper}
use Rattle.valid_laws.specs.PendingLaws.{IsAdditionRight, IsPendingRight, AreApart, MayCommit}
use Rattle.valid_laws.proofs.Pending.{removal_may, pairs-head, pairs-tail, pairs-one}
use Rattle.statement_laws.specs.Sessions.{is_addition_of}
use Rattle.statement_laws.specs.SessionLaws.{IsGiven}
use Rattle.statement_laws.specs.EnqueueLaws.{AddsIn, Adds}
use Rattle.statement_laws.specs.StandingLaws.{AreStanding}
use Rattle.statement_laws.proofs.Among.{Says, says_so, any_last}
use Rattle.statement_laws.proofs.Adding.{enqueue_adds_right, not_passed}
use Rattle.statement_laws.proofs.Taking.{dequeue_removes_open}
use Rattle.statement_laws.proofs.Ending.{may_roll_back}
use Rattle.statement_laws.proofs.Standing.{IsCommit, is_commit, IsRollback, is_rollback, standing_may_end}
use Rattle.statement_laws.proofs.Stepping.{TakesSo, none, once, takes_so, HoldsSame, listen_same}
use Rattle.history_laws.specs.CommitLaws.{IsProperCommit, ids_added}
use Rattle.history_laws.proofs.Committing.{commit_is_proper, rollback_is_proper}
use Rattle.history_laws.proofs.Judging.{administration_is_proper}
use Rattle.history_laws.specs.ValidWorld.{IsRight}

-- the session added it, or it is the one that is taken
abbrev pub IsOwn : Session → ℕ → ℕ → ℕ → Type 0
IsOwn s next taken id = (list_any (is_addition_of id) s.pending ≡ true) ⊎ ((id ≡ next) × (taken ≡ 1))

-- What a call of the session commits is proper. It puts in messages with these ids, which are all different, and which the session
-- added before or takes now; and so are those that it holds afterwards, which are none of these.
pub record Gives (t : Tables) (next taken : ℕ) (s after : Session) (cs : List Change) (ids : List ℕ) : Type 0 where
  pub commit : IsProperCommit t cs ids
  pub apart : AllPairs (λ a b. (a == b) ≡ false) ids
  pub from : All (IsOwn s next taken) ids
  pub left : (id : ℕ) → list_any (is_addition_of id) after.pending ≡ true → IsOwn s next taken id
  pub gone : (id : ℕ) → list_any (is_addition_of id) after.pending ≡ true → All (λ a. (a == id) ≡ false) ids

-- ---- ids

no_pairs : {X : Type 0} (R : X → X → Type 0) → AllPairs R []
no_pairs R = λ i j d lt at. absurd (let no : j < 0 = at in omega arith)

nothing_proper : (t : Tables) → IsProperCommit t [] []
unfolding are_proper
nothing_proper t = record { proper = refl; ids_are = refl }

-- what is added is among the additions
added_own : (pending : List Pending) → All (λ id. list_any (is_addition_of id) pending ≡ true) (ids_added pending)
added_own [] = All-nil (λ id. list_any (is_addition_of id) [] ≡ true)
added_own (Add m ∷ more) =
    All-cons (λ id. list_any (is_addition_of id) (Add m ∷ more) ≡ true) m.id (ids_added more) (or_left (m.id == m.id) (list_any (is_addition_of m.id) more) (eq-eqb m.id m.id refl))
    (All-weaker (λ id. list_any (is_addition_of id) more ≡ true) (λ id. list_any (is_addition_of id) (Add m ∷ more) ≡ true) (λ id h. or_right (m.id == id) (list_any (is_addition_of id) more) h) (ids_added more) (added_own more))
added_own (Remove id slot ∷ more) = added_own more

above_all : (m : MsgRow) (more : List Pending) → All (AreApart (Add m)) more → All (λ id. (m.id == id) ≡ false) (ids_added more)
above_all m [] h = All-nil (λ id. (m.id == id) ≡ false)
above_all m (Add a ∷ more) h =
    let lt : m.id < a.id = All-head (AreApart (Add m)) (Add a) more h in
    All-cons (λ id. (m.id == id) ≡ false) a.id (ids_added more) (ne_eqb m.id a.id (λ e. absurd (omega (arith, lt, e)))) (above_all m more (All-tail (AreApart (Add m)) (Add a) more h))
above_all m (Remove id slot ∷ more) h = above_all m more (All-tail (AreApart (Add m)) (Remove id slot) more h)

added_apart : (pending : List Pending) → AllPairs AreApart pending → AllPairs (λ a b. (a == b) ≡ false) (ids_added pending)
added_apart [] h = no_pairs (λ a b. (a == b) ≡ false)
added_apart (Add m ∷ more) h = AllPairs-cons (λ a b. (a == b) ≡ false) m.id (ids_added more) (above_all m more (pairs-head AreApart (Add m) more h)) (added_apart more (pairs-tail AreApart (Add m) more h))
added_apart (Remove id slot ∷ more) h = added_apart more (pairs-tail AreApart (Remove id slot) more h)

-- what was added has ids that were given
pub added_below : (next id : ℕ) (pending : List Pending) → All (IsGiven next) pending → list_any (is_addition_of id) pending ≡ true → id < next
added_below next id [] g k = absurd (false≢true k)
added_below next id (Add m ∷ more) g k = by (or_cases (m.id == id) (list_any (is_addition_of id) more) k) (added_below next id more (All-tail (IsGiven next) (Add m) more g))
  where
    by : ((m.id == id) ≡ true) ⊎ (list_any (is_addition_of id) more ≡ true) → (list_any (is_addition_of id) more ≡ true → id < next) → id < next
    by (inl a) ih = let same = eqb-true m.id id a in let lt : m.id < next = All-head (IsGiven next) (Add m) more g in omega (arith, lt, same)
    by (inr a) ih = ih a
added_below next id (Remove named slot ∷ more) g k = added_below next id more (All-tail (IsGiven next) (Remove named slot) more g) k

-- ---- what is given

none_added_in : {A : Type 0} (id : ℕ) (pending : List Pending) → pending ≡ [] → list_any (is_addition_of id) pending ≡ true → A
none_added_in id pending p h = absurd (false≢true (sym (ap (list_any (is_addition_of id)) p) ∙ h))

module _ (t : Tables) (next taken : ℕ) (s after : Session) where
  -- no message is put in
  gives_none : (cs : List Change) → IsProperCommit t cs [] → ((id : ℕ) → list_any (is_addition_of id) after.pending ≡ true → IsOwn s next taken id) → Gives t next taken s after cs []
  gives_none cs p left = record {
    commit = p;
    apart = no_pairs (λ a b. (a == b) ≡ false);
    from = All-nil (IsOwn s next taken);
    left = left;
    gone = λ id h. All-nil (λ a. (a == id) ≡ false);
  }

  -- nothing is committed
  pub gives_nothing : (cs : List Change) → cs ≡ [] → ((id : ℕ) → list_any (is_addition_of id) after.pending ≡ true → IsOwn s next taken id) → Gives t next taken s after cs []
  gives_nothing cs e left = gives_none cs (subst (λ ds. IsProperCommit t ds []) (sym e) (nothing_proper t)) left

  kept : after.pending ≡ s.pending → (id : ℕ) → list_any (is_addition_of id) after.pending ≡ true → IsOwn s next taken id
  kept p id h = inl (sym (ap (list_any (is_addition_of id)) p) ∙ h)

  -- it holds nothing afterwards
  gives_all : (cs : List Change) (ids : List ℕ) → IsProperCommit t cs ids → AllPairs (λ a b. (a == b) ≡ false) ids → All (IsOwn s next taken) ids → after.pending ≡ [] → Gives t next taken s after cs ids
  gives_all cs ids p apart from e = record {
    commit = p;
    apart = apart;
    from = from;
    left = λ id h. none_added_in id after.pending e h;
    gone = λ id h. none_added_in id after.pending e h;
  }

-- ---- enqueues

module _ (t : Tables) (db : DbId) (next moment i : ℕ) (s : Session) (sessions : List Session) (v : is_valid t ≡ true) (le : t.latest ≤ moment) (top : moment ≤ MOMENT_LIMIT) (k : AreStanding t db next moment sessions) (there : slice_get sessions i ≡ Some s)
    (at : is_same_db s.at db ≡ true) where
  may_add : (m : MsgRow) → m.id ≡ next → IsAdditionRight t moment m → MayCommit t moment (Add m ∷ [])
  may_add m e right = record {
    right = All-cons (IsPendingRight t moment) (Add m) [] right (All-nil (IsPendingRight t moment));
    apart = pairs-one AreApart (Add m);
    lanes = λ name q f. let a = k.room.lanes t.next (omega arith) name q f in let b = not_passed t next m k.up e in omega (arith, a, b);
    groups = λ some. absurd (let b = not_passed t next m k.up e in omega (arith, some, b));
  }

  -- the message is added at once
  gives_one : (m : MsgRow) (cs : List Change) (after : Session) → m.id ≡ next → IsAdditionRight t moment m → cs ≡ commit_of t moment (Add m ∷ []) → after.pending ≡ s.pending → Gives t next 1 s after cs (m.id ∷ [])
  gives_one m cs after e right c p = record {
    commit = subst (λ ds. IsProperCommit t ds (m.id ∷ [])) (sym c) (commit_is_proper t moment (Add m ∷ []) v le top (may_add m e right));
    apart = pairs-one (λ a b. (a == b) ≡ false) m.id;
    from = All-cons (IsOwn s next 1) m.id [] (inr (e, refl)) (All-nil (IsOwn s next 1));
    left = λ id h. kept t next 1 s after p id h;
    gone = λ id h. All-cons (λ a. (a == id) ≡ false) m.id [] (new id (sym (ap (list_any (is_addition_of id)) p) ∙ h)) (All-nil (λ a. (a == id) ≡ false));
  }
    where
      new : (id : ℕ) → list_any (is_addition_of id) s.pending ≡ true → (m.id == id) ≡ false
      new id h = let lt = added_below next id s.pending (k.each i s there at).given h in ne_eqb m.id id (λ same. absurd (omega (arith, lt, same, e)))

  -- the message is added later
  last_own : (m : MsgRow) (after : Session) → m.id ≡ next → after.pending ≡ s.pending ++ Add m ∷ [] → (id : ℕ) → list_any (is_addition_of id) after.pending ≡ true → IsOwn s next 1 id
  last_own m after e p id h = by (or_cases (list_any (is_addition_of id) s.pending) (m.id == id) (sym (ap (list_any (is_addition_of id)) p ∙ any_last (is_addition_of id) s.pending (Add m)) ∙ h))
    where
      by : (list_any (is_addition_of id) s.pending ≡ true) ⊎ ((m.id == id) ≡ true) → IsOwn s next 1 id
      by (inl a) = inl a
      by (inr a) = inr (sym (eqb-true m.id id a) ∙ e, refl)

  gives_visible : (visibility : Visibility) (m : MsgRow) (cs : List Change) (after : Session) → m.id ≡ next → IsAdditionRight t moment m → AddsIn visibility t s m moment cs after → (ids : List ℕ) × Gives t next 1 s after cs ids
  gives_visible visibilities.OnCommit m cs after e right h = ([], gives_nothing t next 1 s after cs h.none (last_own m after e h.pending))
  gives_visible visibilities.Immediate m cs after e right h = (m.id ∷ [], gives_one m cs after e right h.commits h.pending)

  gives_adds : (ask : Enqueue) (reply : Reply) (cs : List Change) (after : Session) → Adds reply ask t s next moment cs after → (ids : List ℕ) × Gives t next (ids_taken reply) s after cs ids
  gives_adds ask (replies.Enqueued id) cs after h = gives_visible ask.visibility h.message cs after h.number_is h.right h.adds
  gives_adds ask _ cs after h = ([], gives_nothing t next 0 s after cs h.none (kept t next 0 s after h.pending))

-- ---- the others

module _ (t : Tables) (next moment taken : ℕ) (s after : Session) (cs : List Change) (v : is_valid t ≡ true) (le : t.latest ≤ moment) (top : moment ≤ MOMENT_LIMIT) where
  gives_taken : TakesSo t s moment cs after → (ids : List ℕ) × Gives t next taken s after cs ids
  gives_taken (none e adds counts) = ([], gives_nothing t next taken s after cs e (λ id h. inl (sym (adds id) ∙ h)))
  gives_taken (once id slot o e p) =
      ([], gives_none t next taken s after cs (subst (λ ds. IsProperCommit t ds []) (sym e) (commit_is_proper t moment (Remove id slot ∷ []) v le top (removal_may t moment id slot v o))) (kept t next taken s after p))

  gives_committed : MayCommit t moment s.pending → cs ≡ commit_of t moment s.pending → after.pending ≡ [] → (ids : List ℕ) × Gives t next taken s after cs ids
  gives_committed k e p = (
    ids_added s.pending,
    gives_all t next taken s after cs (ids_added s.pending) (subst (λ ds. IsProperCommit t ds (ids_added s.pending)) (sym e) (commit_is_proper t moment s.pending v le top k)) (added_apart s.pending k.apart)
        (All-weaker (λ id. list_any (is_addition_of id) s.pending ≡ true) (IsOwn s next taken) (λ id h. inl h) (ids_added s.pending) (added_own s.pending)) p,
  )

  gives_rolled : MayCommit t moment s.pending → cs ≡ rollback_of t moment s.pending → after.pending ≡ [] → (ids : List ℕ) × Gives t next taken s after cs ids
  gives_rolled k e p =
      ([], gives_all t next taken s after cs [] (subst (λ ds. IsProperCommit t ds []) (sym e) (rollback_is_proper t moment s.pending v le top (may_roll_back t moment s.pending k))) (no_pairs (λ a b. (a == b) ≡ false)) (All-nil (IsOwn s next taken)) p)

-- an administrative statement
abbrev IsAdministered : Tables → Session → Reply → List Change → Session → Type 0
IsAdministered t s reply cs after = IsProperCommit t cs [] × (after.pending ≡ s.pending)

module _ (t : Tables) (moment : ℕ) (s : Session) (v : is_valid t ≡ true) (le : t.latest ≤ moment) (top : moment ≤ MOMENT_LIMIT) where
  administered_proper : (ask : Admin) (hindered : Bool) (j : Judged) → judged t ask moment ≡ j → Says (IsAdministered t s) (administered t s hindered j)
  administered_proper ask hindered (Err reply) e = (nothing_proper t, refl)
  administered_proper ask true (Ok changes) e = (nothing_proper t, refl)
  administered_proper ask false (Ok changes) e = (administration_is_proper t ask moment changes v le top e, refl)

  administer_proper : (sessions : List Session) (sent : Option SlotRef) (ask : Admin) → Says (IsAdministered t s) (administer t sessions sent s ask moment)
  unfolding administer
  administer_proper sessions sent ask = administered_proper ask (is_hindered t s.at sessions sent ask) (judged t ask moment) refl

-- ---- each statement

own_db : (db : DbId) → is_same_db db db ≡ true
own_db Home = refl
own_db Away = refl

pub answered_gives : (w : World) (i : ℕ) (s : Session) (statement : Statement) (reply : Reply) (cs : List Change) (after : Session) → IsRight (database_at s.at w).tables s.at (database_at s.at w).next w.moment w.sessions → w.moment ≤ MOMENT_LIMIT
    → slice_get w.sessions i ≡ Some s → is_within statement ≡ true → meaning w i s statement ≡ answers reply cs after → (ids : List ℕ) × Gives (database_at s.at w).tables (database_at s.at w).next (ids_taken reply) s after cs ids
unfolding meaning
answered_gives w i s (statements.Admin ask) reply cs after r top there within e =
    let t = (database_at s.at w).tables in
    let next = (database_at s.at w).next in
    let h = says_so (IsAdministered t s) (administer t w.sessions (slot_sent w) s ask w.moment) reply cs after (administer_proper t w.moment s r.valid r.latest top w.sessions (slot_sent w) ask) e in
    ([], gives_none t next (ids_taken reply) s after cs h.0 (kept t next (ids_taken reply) s after h.1))
answered_gives w i s (statements.Enqueue ask) reply cs after r top there within e =
    let t = (database_at s.at w).tables in
    let next = (database_at s.at w).next in
    gives_adds t s.at next w.moment i s w.sessions r.valid r.latest top r.standing there (own_db s.at) ask reply cs after (enqueue_adds_right t s ask next w.moment reply cs after r.valid r.fields r.latest top r.standing.up within e)
answered_gives w i s (statements.Dequeue ask) reply cs after r top there within e =
    let t = (database_at s.at w).tables in
    let next = (database_at s.at w).next in
    let agree = (r.standing.each i s there (own_db s.at)).agree in
    gives_taken t next w.moment (ids_taken reply) s after cs r.valid r.latest top (takes_so reply ask t s w.moment cs after (dequeue_removes_open t w.sessions i s ask w.moment reply cs after r.valid r.latest top agree e).0)
answered_gives w i s (statements.Listen ask) reply cs after r top there within e =
    let t = (database_at s.at w).tables in
    let next = (database_at s.at w).next in
    let h = says_so (HoldsSame s) (listen t w.sessions i s ask w.moment) reply cs after (listen_same t w.sessions i s ask w.moment) e in
    ([], gives_nothing t next (ids_taken reply) s after cs h.0 (kept t next (ids_taken reply) s after h.1))
answered_gives w i s statements.Commit reply cs after r top there within e =
    let t = (database_at s.at w).tables in
    let next = (database_at s.at w).next in
    let h = says_so (IsCommit t s w.moment) (commit t s w.moment) reply cs after (is_commit t s w.moment) e in
    let end = standing_may_end t s.at next w.moment i s w.sessions r.standing there (own_db s.at) in
    gives_committed t next w.moment (ids_taken reply) s after cs r.valid r.latest top end.commits h.0 h.1
answered_gives w i s statements.Rollback reply cs after r top there within e =
    let t = (database_at s.at w).tables in
    let next = (database_at s.at w).next in
    let h = says_so (IsRollback t s w.moment) (rollback t s w.moment) reply cs after (is_rollback t s w.moment) e in
    let end = standing_may_end t s.at next w.moment i s w.sessions r.standing there (own_db s.at) in
    gives_rolled t next w.moment (ids_taken reply) s after cs r.valid r.latest top end.commits h.0 h.1
