-- A database stays what its commits made of it.
use Rattle.std.proofs.Common.{◌≡◌, ◌≢◌, ◌≤◌, ◌<◌, ◌+◌, ◌⊎◌, inl, inr, ℕ, List, [], ◌++◌, Bool, true, false, refl, sym, ap, ◌∙◌, subst, arith, Some, None, ◌==◌, length}
use Rattle.std.specs.Prelude.{slice_get, slice_set, map, All, AllPairs, if◌then◌else◌}
use Rattle.std.specs.List.{list_any}
use Rattle.std.proofs.lemmas.Bool.{ne_eqb, false≢true, true≢false}
use Rattle.std.proofs.lemmas.Option.{slice_get_within}
use Rattle.std.proofs.lemmas.List.Elements.{All-nil, All-append, All-weaker, filter_map-append}
use Rattle.aq_base.specs.declared.DbId.{DbId}
use Rattle.aq_base.specs.declared.DbId.TheVariants.{Home, Away}
use Rattle.queue_rows.specs.Tables.{after_all}
use Rattle.queue_rows.specs.Session.{Session, is_same_db}
use Rattle.queue_rows.specs.Fits.{fits}
use Rattle.queue_rows.specs.declared.session.Pending.{Pending}
use Rattle.queue_rows.specs.World.{World, database_at, opened, fresh, committed_tables, commits_in}
use Rattle.queue_rows.specs.declared.tables.Tables.{Tables}
use Rattle.queue_rows.specs.declared.change.Change.{Change}
use Rattle.queue_rows.specs.declared.history.SessionScript.{SessionScript}
use Rattle.queue_rows.proofs.Sessions.{get_set-cases}
use Rattle.row_laws.proofs.Latest.{at_latest}
use Rattle.valid_laws.specs.Touching.{are_proper}
use Rattle.statement_laws.specs.Sessions.{is_addition_of}
use Rattle.statement_laws.specs.StandingLaws.{AreStanding}
use Rattle.statement_laws.proofs.Framing.{not_same}
use Rattle.history_laws.specs.CommitLaws.{IsProperCommit}
use Rattle.history_laws.specs.Made.{changes_at, commits_of, changes_of, after_commits}
use Rattle.history_laws.specs.Proper.{id_put_in, ids_put_in, AreProper}
use Rattle.history_laws.proofs.ProperCommits.{after_commits_latest}
use Rattle.history_laws.proofs.Committing.{proper_grows}
use Rattle.history_laws.proofs.Worlds.{fresh_empty}
use Rattle.history_laws.specs.LegalFates.{opening_at, changes_so_far, all_fit, IsUnused, AreUnused, IsMade, AddsEntry}
use Rattle.history_laws.proofs.Commits.{tables-more, changes-more, count-more, fit-more, none-more}
use Rattle.history_laws.proofs.Giving.{IsOwn, Gives, added_below}

-- ---- what a step makes of a database

module _ (opening : Tables) (db : DbId) where
  -- a session is replaced by one that has added no more
  pub unused_quiet : (cs : List Change) (i : ℕ) (s behind : Session) (sessions : List Session) → AreUnused opening cs db sessions → slice_get sessions i ≡ Some s
      → (is_same_db behind.at db ≡ true → (is_same_db s.at db ≡ true) × ((id : ℕ) → list_any (is_addition_of id) behind.pending ≡ true → list_any (is_addition_of id) s.pending ≡ true)) → AreUnused opening cs db (slice_set sessions i behind)
  unused_quiet cs i s behind sessions held there same = λ j y e at id h. by j y at id h (get_set-cases sessions i j behind y (slice_get_within sessions i s there) e)
    where
      by : (j : ℕ) (y : Session) → is_same_db y.at db ≡ true → (id : ℕ) → list_any (is_addition_of id) y.pending ≡ true → ((j ≡ i) × (Some behind ≡ Some y)) ⊎ ((j ≢ i) × (slice_get sessions j ≡ Some y)) → IsUnused opening cs id
      by j y at id h (inl p) =
          let e : behind ≡ y = (let a : Some behind ≡ Some y = p.1 in cc) in
          let k = same (ap (λ x. is_same_db x.at db) e ∙ at) in
          held i s there k.0 id (k.1 id (ap (λ x. list_any (is_addition_of id) x.pending) e ∙ h))
      by j y at id h (inr p) = held j y p.1 at id h

  -- nothing is committed
  pub quiet_made : (w new : World) → AddsEntry db w new [] 0 → AreUnused opening (changes_so_far db w) db new.sessions → IsMade opening db w → IsMade opening db new
  quiet_made w new b held m =
      let same : commits_of db new.entries ≡ commits_of db w.entries = ap (commits_of db) b.entries ∙ none-more db w.entries b.entry b.changes in
      let so : changes_so_far db new ≡ changes_so_far db w = ap changes_of same in
      let next : (database_at db new).next ≡ (database_at db w).next = (let e = b.next in omega (arith, e)) in
      record {
        tables = b.tables ∙ m.tables ∙ ap (after_commits opening) (sym same);
        count = let e = b.count in let c = m.count in let d = ap length same in omega (arith, e, c, d);
        fit = ap (all_fit opening) same ∙ m.fit;
        proper = subst (AreProper opening) (sym so) m.proper;
        first = subst (λ n. opening.next ≤ n) (sym next) m.first;
        given = subst (λ n. All (λ id. id < n) (ids_put_in (changes_so_far db new))) (sym next) (subst (λ cs. All (λ id. id < (database_at db w).next) (ids_put_in cs)) (sym so) m.given);
        held = λ i s e at id h. subst (λ cs. IsUnused opening cs id) (sym so) (held i s e at id h);
      }

  -- changes are committed that put in messages with these ids
  module _ (w new : World) (taken : ℕ) (cs : List Change) (ids : List ℕ) (m : IsMade opening db w) (b : AddsEntry db w new cs taken) (c : IsProperCommit (database_at db w).tables cs ids) where
    so_far : changes_so_far db new ≡ changes_so_far db w ++ cs
    so_far = ap (λ es. changes_of (commits_of db es)) b.entries ∙ changes-more db w.entries b.entry ∙ ap (λ ds. changes_so_far db w ++ ds) b.changes

    ids_so_far : ids_put_in (changes_so_far db new) ≡ ids_put_in (changes_so_far db w) ++ ids
    ids_so_far = ap ids_put_in so_far ∙ filter_map-append id_put_in (changes_so_far db w) cs ∙ ap (λ xs. ids_put_in (changes_so_far db w) ++ xs) c.ids_are

    -- an id that is none of these is as unused as it was
    pub unused_more : (id : ℕ) → IsUnused opening (changes_so_far db w) id → All (λ a. (a == id) ≡ false) ids → IsUnused opening (changes_so_far db new) id
    unused_more id u none = record { later = u.later; new = subst (All (λ a. (a == id) ≡ false)) (sym ids_so_far) (All-append (λ a. (a == id) ≡ false) (ids_put_in (changes_so_far db w)) ids u.new none) }

    made_proper : AllPairs (λ a e. (a == e) ≡ false) ids → All (IsUnused opening (changes_so_far db w)) ids → AreProper opening (changes_so_far db new)
    made_proper apart unused =
        let after = after_commits_latest opening (commits_of db w.entries) in
        let now : (database_at db w).tables ≡ at_latest after.0 (after_all opening (changes_so_far db w)) = m.tables ∙ after.1 in
        let new_to : All (λ e. All (λ a. (a == e) ≡ false) (ids_put_in (changes_so_far db w))) ids =
        All-weaker (IsUnused opening (changes_so_far db w)) (λ e. All (λ a. (a == e) ≡ false) (ids_put_in (changes_so_far db w))) (λ e u. u.new) ids unused in
        subst (AreProper opening) (sym so_far)
        (proper_grows opening (changes_so_far db w) cs ids after.0 m.proper (subst (λ t. IsProperCommit t cs ids) now c) apart (All-weaker (IsUnused opening (changes_so_far db w)) (λ id. opening.next ≤ id) (λ id u. u.later) ids unused)
        (λ j d lt n e le. new_to n e le j d lt))

    commit_made : AllPairs (λ a e. (a == e) ≡ false) ids → All (IsUnused opening (changes_so_far db w)) ids → All (λ id. id < (database_at db w).next + taken) ids → fits (database_at db w).tables (record { moment = w.moment; changes = cs }) ≡ true
        → AreUnused opening (changes_so_far db new) db new.sessions → IsMade opening db new
    commit_made apart unused below fit held =
        let next = b.next in
        let e = b.entry in
        record {
          tables = b.tables ∙ ap (λ t. committed_tables t cs w.moment) m.tables ∙ ap (λ ds. committed_tables (after_commits opening (commits_of db w.entries)) ds w.moment) (sym b.changes)
              ∙ ap (committed_tables (after_commits opening (commits_of db w.entries)) (changes_at db e)) (sym b.moment) ∙ sym (tables-more db w.entries e opening) ∙ ap (λ es. after_commits opening (commits_of db es)) (sym b.entries);
          count = let x = b.count in let y = m.count in let z = count-more db w.entries e in let a = ap (λ es. length (commits_of db es)) b.entries in let n = ap commits_in b.changes in omega (arith, x, y, z, a, n);
          fit = ap (λ es. all_fit opening (commits_of db es)) b.entries
              ∙ fit-more db w.entries e opening m.fit (ap (λ t. fits t (record { moment = e.moment; changes = changes_at db e })) (sym m.tables) ∙ ap (λ n. fits (database_at db w).tables (record { moment = n; changes = changes_at db e })) b.moment ∙ ap (λ ds. fits (database_at db w).tables (record { moment = w.moment; changes = ds })) b.changes ∙ fit);
          proper = made_proper apart unused;
          first = let f = m.first in omega (arith, f, next);
          given = subst (λ n. All (λ id. id < n) (ids_put_in (changes_so_far db new))) (sym next)
              (subst (All (λ id. id < (database_at db w).next + taken)) (sym ids_so_far)
              (All-append (λ id. id < (database_at db w).next + taken) (ids_put_in (changes_so_far db w)) ids
              (All-weaker (λ id. id < (database_at db w).next) (λ id. id < (database_at db w).next + taken) (λ id lt. omega (arith, lt)) (ids_put_in (changes_so_far db w)) m.given) below));
          held = held;
        }

  -- a session of the database commits and takes ids
  module _ (w new : World) (i taken : ℕ) (s behind : Session) (cs : List Change) (ids : List ℕ) (m : IsMade opening db w) (k : AreStanding (database_at db w).tables db (database_at db w).next w.moment w.sessions) (there : slice_get w.sessions i ≡ Some s)
      (at : is_same_db s.at db ≡ true) (g : Gives (database_at db w).tables (database_at db w).next taken s behind cs ids) (b : AddsEntry db w new cs taken) where
    own_unused : (id : ℕ) → IsOwn s (database_at db w).next taken id → IsUnused opening (changes_so_far db w) id
    own_unused id (inl h) = m.held i s there at id h
    own_unused id (inr p) = record {
      later = let e = p.0 in let f = m.first in omega (arith, e, f);
      new = All-weaker (λ a. a < (database_at db w).next) (λ a. (a == id) ≡ false) (λ a lt. ne_eqb a id (λ e. absurd (let q = p.0 in omega (arith, lt, e, q)))) (ids_put_in (changes_so_far db w)) m.given;
    }

    own_below : (id : ℕ) → IsOwn s (database_at db w).next taken id → id < (database_at db w).next + taken
    own_below id (inl h) = let lt = added_below (database_at db w).next id s.pending (k.each i s there at).given h in omega (arith, lt)
    own_below id (inr p) = let e = p.0 in let f = p.1 in omega (arith, e, f)

    -- what another session has added is none of them
    own_other : (j : ℕ) (y : Session) → slice_get w.sessions j ≡ Some y → is_same_db y.at db ≡ true → j ≢ i → (id : ℕ) → list_any (is_addition_of id) y.pending ≡ true → (a : ℕ) → IsOwn s (database_at db w).next taken a → (a == id) ≡ false
    own_other j y e f d id h a (inl o) =
        ne_eqb a id (λ same. absurd (true≢false (sym h ∙ ap (λ n. list_any (is_addition_of n) y.pending) (sym same) ∙ (k.two i j s y there e at f (not_same j i (ne_eqb j i d))).ids a o)))
    own_other j y e f d id h a (inr p) = ne_eqb a id (λ same. absurd (let lt = added_below (database_at db w).next id y.pending (k.each j y e f).given h in let q = p.0 in omega (arith, lt, q, same)))

    unused_by : (j : ℕ) (y : Session) → is_same_db y.at db ≡ true → (id : ℕ) → list_any (is_addition_of id) y.pending ≡ true → ((j ≡ i) × (Some behind ≡ Some y)) ⊎ ((j ≢ i) × (slice_get w.sessions j ≡ Some y)) → IsUnused opening (changes_so_far db new) id
    unused_by j y f id h (inl p) =
        let e : behind ≡ y = (let a : Some behind ≡ Some y = p.1 in cc) in
        let here : list_any (is_addition_of id) behind.pending ≡ true = ap (λ x. list_any (is_addition_of id) x.pending) e ∙ h in
        unused_more w new taken cs ids m b g.commit id (own_unused id (g.left id here)) (g.gone id here)
    unused_by j y f id h (inr p) =
        unused_more w new taken cs ids m b g.commit id (m.held j y p.1 f id h) (All-weaker (IsOwn s (database_at db w).next taken) (λ a. (a == id) ≡ false) (own_other j y p.1 f p.0 id h) ids g.from)

    pub own_made : fits (database_at db w).tables (record { moment = w.moment; changes = cs }) ≡ true → new.sessions ≡ slice_set w.sessions i behind → IsMade opening db new
    own_made fit set =
        commit_made w new taken cs ids m b g.commit g.apart (All-weaker (IsOwn s (database_at db w).next taken) (IsUnused opening (changes_so_far db w)) own_unused ids g.from)
        (All-weaker (IsOwn s (database_at db w).next taken) (λ id. id < (database_at db w).next + taken) own_below ids g.from) fit
        (λ j y at_j f id h. unused_by j y f id h (get_set-cases w.sessions i j behind y (slice_get_within w.sessions i s there) (ap (λ xs. slice_get xs j) (sym set) ∙ at_j)))

pub own_db : (db : DbId) → is_same_db db db ≡ true
own_db Home = refl
own_db Away = refl

-- ---- the beginning

none_added_in : {A : Type 0} (id : ℕ) (pending : List Pending) → pending ≡ [] → list_any (is_addition_of id) pending ≡ true → A
none_added_in id pending p h = absurd (false≢true (sym (ap (list_any (is_addition_of id)) p) ∙ h))

no_pairs : {X : Type 0} (R : X → X → Type 0) → AllPairs R []
no_pairs R = λ i j d lt at. absurd (let no : j < 0 = at in omega arith)

module _ (home away : Tables) (scripts : List SessionScript) where
  nothing_made : (t : Tables) → AreProper t []
  unfolding are_proper
  nothing_made t = record { proper = refl; new = record { distinct = no_pairs (λ a b. (a == b) ≡ false); later = All-nil (λ id. t.next ≤ id) } }

  none_unused : (t : Tables) (db : DbId) → AreUnused t [] db (map fresh scripts)
  none_unused t db i s e at id h = none_added_in id s.pending (fresh_empty scripts i s e).0 h

  pub opened_made : (db : DbId) → IsMade (opening_at db home away) db (opened home away scripts)
  unfolding opened after_commits
  opened_made Home = record { tables = refl; count = refl; fit = refl; proper = nothing_made home; first = omega arith; given = All-nil (λ id. id < home.next); held = none_unused home Home }
  opened_made Away = record { tables = refl; count = refl; fit = refl; proper = nothing_made away; first = omega arith; given = All-nil (λ id. id < away.next); held = none_unused away Away }

-- ---- whoever commits

pub commit_keeps_made : (opening : Tables) (db : DbId) (w new : World) (cs : List Change) (taken : ℕ) (ids : List ℕ) → IsMade opening db w → AddsEntry db w new cs taken → IsProperCommit (database_at db w).tables cs ids → AllPairs (λ a e. (a == e) ≡ false) ids
    → All (IsUnused opening (changes_so_far db w)) ids → All (λ id. id < (database_at db w).next + taken) ids → fits (database_at db w).tables (record { moment = w.moment; changes = cs }) ≡ true → AreUnused opening (changes_so_far db new) db new.sessions → IsMade opening db new
commit_keeps_made opening db w new cs taken ids m b c apart unused below fit held = commit_made opening db w new taken cs ids m b c apart unused below fit held
