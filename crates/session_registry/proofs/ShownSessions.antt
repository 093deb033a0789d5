-- The sessions as contracts see them, where a session or its marks change.
use Rattle.std.proofs.Common.{◌≡◌, ◌≢◌, ◌<◌, ℕ, zero, suc, ◌+◌, ◌⊎◌, inl, inr, List, [], ◌∷◌, true, false, Option, Some, None, refl, sym, ap, subst, ◌∙◌, arith, length, get_or}
use Rattle.std.specs.Prelude.{map, slice_get, slice_set, option_map, IfSome}
use Rattle.std.specs.List.{list_any}
use Rattle.std.proofs.lemmas.Bool.{cases_Bool}
use Rattle.std.proofs.lemmas.Option.{slice_get_within, get_or_from_slice_get}
use Rattle.std.proofs.lemmas.List.{set-set, set-get_or}
use Rattle.aq_base.specs.declared.DbId.{DbId}
use Rattle.aq_base.specs.declared.DbId.TheVariants.{Home, Away}
use Rattle.slot_marks.specs.Marks.{marks_of}
use Rattle.slot_marks.specs.declared.mark.Mark.{Mark}
use Rattle.queue_rows.specs.Session.{Session, is_same_db}
use Rattle.queue_rows.specs.World.{fresh}
use Rattle.queue_rows.specs.Turns.{is_live}
use Rattle.queue_rows.specs.declared.history.SessionScript.{SessionScript}
use Rattle.queue_rows.proofs.Sessions.{same_or_not, get_set-same, get_set-other}
use Rattle.queue_rows.specs.Session.{AreMarks}
use Rattle.session_registry.specs.Locks.{locks_at, marks_at, KeepsMarks, ChangesMarks, shown_from, shown}
use Rattle.session_registry.specs.Sessions.{SessionsWithLocks, is_of, AreMarksOwned, changed_in, changed_at, unmarked}
use Rattle.session_registry.specs.declared.locks.Locks.{Locks}
use Rattle.session_registry.proofs.Results.{of_some}

abbrev marked : ℕ → Locks → Session → Session
marked i l s = record s { marks = marks_at s.at i l }

got_from : (n : ℕ) (l : Locks) (ss : List Session) (i : ℕ) → slice_get (shown_from n l ss) i ≡ option_map (marked (n + i) l) (slice_get ss i)
got_from n l [] i = refl
got_from n l (s ∷ more) zero = let e : n ≡ n + 0 = omega arith in ap (λ k. Some (marked k l s)) e
got_from n l (s ∷ more) (suc i) = let e : n + 1 + i ≡ n + suc i = omega arith in got_from (n + 1) l more i ∙ ap (λ k. option_map (marked k l) (slice_get more i)) e

pub got_shown : (l : Locks) (ss : List Session) (i : ℕ) → slice_get (shown l ss) i ≡ option_map (marked i l) (slice_get ss i)
got_shown l ss i = let e : 0 + i ≡ i = omega arith in got_from 0 l ss i ∙ ap (λ k. option_map (marked k l) (slice_get ss i)) e

length_from : (n : ℕ) (l : Locks) (ss : List Session) → length (shown_from n l ss) ≡ length ss
length_from n l [] = refl
length_from n l (s ∷ more) = ap suc (length_from (n + 1) l more)

pub length-shown : (l : Locks) (ss : List Session) → length (shown l ss) ≡ length ss
length-shown l ss = length_from 0 l ss

live_from : (n : ℕ) (l : Locks) (ss : List Session) → list_any is_live (shown_from n l ss) ≡ list_any is_live ss
live_from n l [] = refl
live_from n l (s ∷ more) = rw (live_from (n + 1) l more) refl

pub live-shown : (l : Locks) (ss : List Session) → list_any is_live (shown l ss) ≡ list_any is_live ss
live-shown l ss = live_from 0 l ss

unmarked_some : (i : ℕ) (l : Locks) (o : Option Session) → option_map unmarked (option_map (marked i l) o) ≡ option_map unmarked o
unmarked_some i l None = refl
unmarked_some i l (Some s) = refl

pub unmarked-shown : (l : Locks) (ss : List Session) (i : ℕ) → option_map unmarked (slice_get (shown l ss) i) ≡ option_map unmarked (slice_get ss i)
unmarked-shown l ss i = ap (option_map unmarked) (got_shown l ss i) ∙ unmarked_some i l (slice_get ss i)

-- ---- a session changes

set_from : (n : ℕ) (l : Locks) (ss : List Session) (i : ℕ) (t : Session) → shown_from n l (slice_set ss i t) ≡ slice_set (shown_from n l ss) i (marked (n + i) l t)
set_from n l [] i t = refl
set_from n l (s ∷ more) zero t = let e : n ≡ n + 0 = omega arith in ap (λ k. marked k l t ∷ shown_from (n + 1) l more) e
set_from n l (s ∷ more) (suc i) t =
    let e : n + 1 + i ≡ n + suc i = omega arith in
    ap (λ rest. marked n l s ∷ rest) (set_from (n + 1) l more i t ∙ ap (λ k. slice_set (shown_from (n + 1) l more) i (marked k l t)) e)

set_shown : (l : Locks) (ss : List Session) (i : ℕ) (t : Session) → shown l (slice_set ss i t) ≡ slice_set (shown l ss) i (marked i l t)
set_shown l ss i t = let e : 0 + i ≡ i = omega arith in set_from 0 l ss i t ∙ ap (λ k. slice_set (shown l ss) i (marked k l t)) e

changed_some : (f : Session → Session) (l : Locks) (ss : List Session) (i : ℕ) (o : Option Session) → ((s : Session) → marked i l (f s) ≡ f (marked i l s))
    → shown l (changed_in i f ss o) ≡ changed_in i f (shown l ss) (option_map (marked i l) o)
changed_some f l ss i None same = refl
changed_some f l ss i (Some s) same = set_shown l ss i (f s) ∙ ap (slice_set (shown l ss) i) (same s)

pub changed-shown : (f : Session → Session) (l : Locks) (ss : List Session) (i : ℕ) → ((s : Session) → marked i l (f s) ≡ f (marked i l s))
    → shown l (changed_at i f ss) ≡ changed_at i f (shown l ss)
changed-shown f l ss i same = changed_some f l ss i (slice_get ss i) same ∙ ap (changed_in i f (shown l ss)) (sym (got_shown l ss i))

-- ---- marks change

pub kept_from : (n : ℕ) (l k : Locks) (ss : List Session) → KeepsMarks l k → shown_from n k ss ≡ shown_from n l ss
kept_from n l k [] same = refl
kept_from n l k (s ∷ more) same = rw (same s.at n, kept_from (n + 1) l k more same) refl

pub kept-shown : (l k : Locks) (ss : List Session) → KeepsMarks l k → shown k ss ≡ shown l ss
kept-shown l k ss same = kept_from 0 l k ss same

-- the sessions behind the one whose marks change
behind_from : (m i : ℕ) (db : DbId) (marks : List Mark) (l k : Locks) (ss : List Session) → i < m → ChangesMarks db i marks l k → shown_from m k ss ≡ shown_from m l ss
behind_from m i db marks l k [] lt c = refl
behind_from m i db marks l k (s ∷ more) lt c =
    let other : m ≢ i = λ e. absurd (omega arith) in
    rw (c.others s.at m (inl other), behind_from (m + 1) i db marks l k more (omega arith) c) refl

marks_from : (n i j : ℕ) (g : List Mark → List Mark) (l k : Locks) (ss : List Session) (s : Session) → j ≡ n + i → slice_get ss i ≡ Some s → ChangesMarks s.at j (g (marks_at s.at j l)) l k
    → shown_from n k ss ≡ slice_set (shown_from n l ss) i (record s { marks = g (marks_at s.at j l) })
marks_from n i j g l k [] s e there c = absurd (let no : None ≡ Some s = there in cc)
marks_from n zero j g l k (x ∷ more) s e there c =
    let same : x ≡ s = let is : Some x ≡ Some s = there in cc in
    let at : n ≡ j = omega arith in
    let own : marks_at x.at n k ≡ g (marks_at s.at j l) = ap (λ y. marks_at y.at n k) same ∙ ap (λ m. marks_at s.at m k) at ∙ c.own in
    let head : Session → List Session = λ y. record y { marks = g (marks_at s.at j l) } ∷ shown_from (n + 1) l more in
    rw (own, behind_from (n + 1) j s.at (g (marks_at s.at j l)) l k more (omega arith) c) (ap head same)
marks_from n (suc i) j g l k (x ∷ more) s e there c =
    let other : n ≢ j = λ same. absurd (omega arith) in
    rw (c.others x.at n (inl other), marks_from (n + 1) i j g l k more s (omega arith) there c) refl

pub marks-shown : (i : ℕ) (g : List Mark → List Mark) (l k : Locks) (ss : List Session) (s : Session) → slice_get ss i ≡ Some s → ChangesMarks s.at i (g (marks_at s.at i l)) l k
    → shown k ss ≡ changed_at i (λ t. record t { marks = g t.marks }) (shown l ss)
marks-shown i g l k ss s there c =
    let seen : slice_get (shown l ss) i ≡ Some (marked i l s) = got_shown l ss i ∙ ap (option_map (marked i l)) there in
    marks_from 0 i i g l k ss s (omega arith) there c ∙ ap (changed_in i (λ t. record t { marks = g t.marks }) (shown l ss)) (sym seen)

-- ---- marks are those of sessions

kept_of : (db : DbId) (f : Session → Session) (ss : List Session) (i j : ℕ) (o : Option Session) → slice_get ss i ≡ o → ((s : Session) → (f s).at ≡ s.at) → (j ≡ i) ⊎ (j ≢ i)
    → is_of db (slice_get (changed_in i f ss o) j) ≡ is_of db (slice_get ss j)
kept_of db f ss i j None there at place = refl
kept_of db f ss i j (Some s) there at (inl e) =
    let new : slice_get (slice_set ss i (f s)) j ≡ Some (f s) = ap (slice_get (slice_set ss i (f s))) e ∙ get_set-same ss i (f s) (slice_get_within ss i s there) in
    let old : slice_get ss j ≡ Some s = ap (slice_get ss) e ∙ there in
    rw (new, old) (ap (λ a. is_same_db a db) (at s))
kept_of db f ss i j (Some s) there at (inr ne) = ap (is_of db) (get_set-other ss i j (f s) ne)

-- a session changes, and stays at its database
pub owned-changed : (f : Session → Session) (l : Locks) (ss : List Session) (i : ℕ) → ((s : Session) → (f s).at ≡ s.at) → AreMarksOwned l ss → AreMarksOwned l (changed_at i f ss)
owned-changed f l ss i at owned = λ db j none. owned db j (sym (kept_of db f ss i j (slice_get ss i) refl at (same_or_not i j)) ∙ none)

pub owned-kept : (l k : Locks) (ss : List Session) → KeepsMarks l k → AreMarksOwned l ss → AreMarksOwned k ss
owned-kept l k ss same owned = λ db i none. same db i ∙ owned db i none

same_db-sym : (a b : DbId) → is_same_db a b ≡ is_same_db b a
same_db-sym Home Home = refl
same_db-sym Home Away = refl
same_db-sym Away Home = refl
same_db-sym Away Away = refl

owned_at : (i : ℕ) (marks : List Mark) (l k : Locks) (ss : List Session) (s : Session) (db : DbId) (j : ℕ) → slice_get ss i ≡ Some s → ChangesMarks s.at i marks l k → AreMarksOwned l ss
    → is_of db (slice_get ss j) ≡ false → (j ≡ i) ⊎ (j ≢ i) → marks_at db j k ≡ []
owned_at i marks l k ss s db j there c owned none (inl e) =
    let of : is_of db (slice_get ss j) ≡ is_same_db s.at db = ap (λ n. is_of db (slice_get ss n)) e ∙ ap (is_of db) there in
    let other : is_same_db db s.at ≡ false = same_db-sym db s.at ∙ sym of ∙ none in
    c.others db j (inr other) ∙ owned db j none
owned_at i marks l k ss s db j there c owned none (inr ne) = c.others db j (inl ne) ∙ owned db j none

pub owned-marked : (i : ℕ) (marks : List Mark) (l k : Locks) (ss : List Session) (s : Session) → slice_get ss i ≡ Some s → ChangesMarks s.at i marks l k → AreMarksOwned l ss → AreMarksOwned k ss
owned-marked i marks l k ss s there c owned = λ db j none. owned_at i marks l k ss s db j there c owned none (same_or_not i j)

own_marks : (db : DbId) (l : Locks) (i : ℕ) (s : Session) (o : Option Session) → option_map (marked i l) o ≡ Some s → s.at ≡ db → s.marks ≡ marks_at db i l
own_marks db l i s None e at = absurd (let no : None ≡ Some s = e in cc)
own_marks db l i s (Some t) e at =
    let is : marked i l t ≡ s = let there : Some (marked i l t) ≡ Some s = e in cc in
    subst (λ x. x.at ≡ db → x.marks ≡ marks_at db i l) is (λ (a : t.at ≡ db). ap (λ d. marks_at d i l) a) at

db_of : (a db : DbId) → is_same_db a db ≡ true → a ≡ db
db_of Home Home e = refl
db_of Home Away e = absurd (let no : false ≡ true = e in cc)
db_of Away Home e = absurd (let no : false ≡ true = e in cc)
db_of Away Away e = refl

there_of : (db : DbId) (l : Locks) (ss : List Session) (i : ℕ) (s : Session) → slice_get ss i ≡ Some s → (is_same_db s.at db ≡ true) ⊎ (is_same_db s.at db ≡ false) → AreMarksOwned l ss
    → (marks_at db i l ≡ []) ⊎ ((s : Session) × (slice_get (shown l ss) i ≡ Some s) × (s.at ≡ db))
there_of db l ss i s there (inl same) owned = inr (marked i l s, got_shown l ss i ∙ ap (option_map (marked i l)) there, db_of s.at db same)
there_of db l ss i s there (inr other) owned = inl (owned db i (ap (is_of db) there ∙ other))

only_marks : (db : DbId) (l : Locks) (ss : List Session) (i : ℕ) (o : Option Session) → slice_get ss i ≡ o → AreMarksOwned l ss
    → (marks_at db i l ≡ []) ⊎ ((s : Session) × (slice_get (shown l ss) i ≡ Some s) × (s.at ≡ db))
only_marks db l ss i None there owned = inl (owned db i (ap (is_of db) there))
only_marks db l ss i (Some s) there owned = there_of db l ss i s there (cases_Bool (is_same_db s.at db)) owned

pub marks_stand : (db : DbId) (l : Locks) (ss : List Session) → AreMarksOwned l ss → AreMarks db (shown l ss) (locks_at db l)
marks_stand db l ss owned = record {
  own = λ i s there at. own_marks db l i s (slice_get ss i) (sym (got_shown l ss i) ∙ there) at;
  only = λ i. only_marks db l ss i (slice_get ss i) refl owned;
}

-- ---- a session changes twice

changed_again : (f g : Session → Session) (ss : List Session) (i : ℕ) (o : Option Session) → slice_get ss i ≡ o → changed_at i g (changed_in i f ss o) ≡ changed_in i (λ s. g (f s)) ss o
changed_again f g ss i None there = ap (changed_in i g ss) there
changed_again f g ss i (Some s) there =
    ap (changed_in i g (slice_set ss i (f s))) (get_set-same ss i (f s) (slice_get_within ss i s there)) ∙ set-set ss i (f s) (g (f s))

pub changed_twice : (f g : Session → Session) (ss : List Session) (i : ℕ) → changed_at i g (changed_at i f ss) ≡ changed_at i (λ s. g (f s)) ss
changed_twice f g ss i = changed_again f g ss i (slice_get ss i) refl

-- ---- what methods change

pub session_changes : (f : Session → Session) (l : Locks) (old new : List Session) (i : ℕ) (v : SessionsWithLocks) → record { sessions = shown l old; locks = l } ≡ v → ((s : Session) → marked i l (f s) ≡ f (marked i l s))
    → new ≡ changed_at i f old → shown l new ≡ changed_at i f v.sessions
session_changes f l old new i v is same e = ap (shown l) e ∙ changed-shown f l old i same ∙ ap (λ w. changed_at i f w.sessions) is

pub marks_change : (g : List Mark → List Mark) (l k : Locks) (ss : List Session) (s : Session) (i : ℕ) (v : SessionsWithLocks) → record { sessions = shown l ss; locks = l } ≡ v → slice_get ss i ≡ Some s
    → ChangesMarks s.at i (g (marks_at s.at i l)) l k → shown k ss ≡ changed_at i (λ t. record t { marks = g t.marks }) v.sessions
marks_change g l k ss s i v is there c = marks-shown i g l k ss s there c ∙ ap (λ w. changed_at i (λ t. record t { marks = g t.marks }) w.sessions) is

none_changes : (f : Session → Session) (ss : List Session) (i : ℕ) (o : Option Session) → o ≡ None → ss ≡ changed_in i f ss o
none_changes f ss i None e = refl
none_changes f ss i (Some s) e = absurd (let no : Some s ≡ None = e in cc)

pub nothing_changes : (f : Session → Session) (l : Locks) (ss : List Session) (i : ℕ) (v : SessionsWithLocks) → record { sessions = shown l ss; locks = l } ≡ v → slice_get ss i ≡ None → v.sessions ≡ changed_at i f v.sessions
nothing_changes f l ss i v is none =
    none_changes f v.sessions i (slice_get v.sessions i) (ap (λ w. slice_get w.sessions i) (sym is) ∙ got_shown l ss i ∙ ap (option_map (marked i l)) none)

-- ---- what is asked of the session of a number is asked of the one that is shown

shown_has : (P : Session → Type 0) (l : Locks) (ss : List Session) (i : ℕ) (o : Option Session) → slice_get ss i ≡ o → IfSome o (λ s. P (marked i l s)) → IfSome (slice_get (shown l ss) i) P
shown_has P l ss i None there h = rw (got_shown l ss i, there) tt
shown_has P l ss i (Some s) there h = rw (got_shown l ss i, there) h

pub if-shown : (P : Session → Type 0) (l : Locks) (ss : List Session) (i : ℕ) → IfSome (slice_get ss i) (λ s. P (marked i l s)) → IfSome (slice_get (shown l ss) i) P
if-shown P l ss i h = shown_has P l ss i (slice_get ss i) refl h

has_shown : (P : Session → Type 0) (l : Locks) (ss : List Session) (i : ℕ) (o : Option Session) → slice_get ss i ≡ o → IfSome (slice_get (shown l ss) i) P → IfSome o (λ s. P (marked i l s))
has_shown P l ss i None there h = tt
has_shown P l ss i (Some s) there h = of_some P (slice_get (shown l ss) i) (marked i l s) (got_shown l ss i ∙ ap (option_map (marked i l)) there) h

pub of-shown : (P : Session → Type 0) (l : Locks) (ss : List Session) (i : ℕ) → IfSome (slice_get (shown l ss) i) P → IfSome (slice_get ss i) (λ s. P (marked i l s))
of-shown P l ss i h = has_shown P l ss i (slice_get ss i) refl h

-- a session that stays as it is
pub set_there : (ss : List Session) (i : ℕ) (s t : Session) → slice_get ss i ≡ Some s → t ≡ s → slice_set ss i t ≡ ss
set_there ss i s t there e =
    let is : get_or ss i s ≡ s = get_or_from_slice_get ss i s s there in
    ap (slice_set ss i) (e ∙ sym is) ∙ set-get_or ss i s

-- ---- sessions that have called nothing

fresh_from : (n : ℕ) (l : Locks) (scripts : List SessionScript) → ((db : DbId) (i : ℕ) → marks_at db i l ≡ []) → shown_from n l (map fresh scripts) ≡ map fresh scripts
fresh_from n l [] none = refl
fresh_from n l (script ∷ more) none = rw (none script.at n, fresh_from (n + 1) l more none) refl

none_at : (l : Locks) → l.home ≡ [] → l.away ≡ [] → (db : DbId) (i : ℕ) → marks_at db i l ≡ []
none_at l home away Home i = ap (λ locks. marks_of locks i) home
none_at l home away Away i = ap (λ locks. marks_of locks i) away

pub fresh-shown : (l : Locks) (ss : List Session) (scripts : List SessionScript) → l.home ≡ [] → l.away ≡ [] → ss ≡ map fresh scripts → shown l ss ≡ map fresh scripts
fresh-shown l ss scripts home away e = ap (shown l) e ∙ fresh_from 0 l scripts (none_at l home away)
