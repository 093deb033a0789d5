-- The sessions where one of them changes.
use Rattle.std.proofs.Common.{◌≡◌, ◌≢◌, ℕ, ◌⊎◌, inl, inr, List, [], Option, Some, None, refl, sym, ap, subst, ◌∙◌, length}
use Rattle.std.specs.Prelude.{slice_get, slice_set, option_map, IfSome}
use Rattle.std.proofs.Math.ListN.{length-set}
use Rattle.std.proofs.lemmas.Option.{slice_get_within}
use Rattle.aq_base.specs.declared.DbId.{DbId}
use Rattle.slot_marks.specs.Marks.{SessionMarks, marks_of, IsFreeFor}
use Rattle.slot_marks.specs.declared.mark.Mark.{Mark}
use Rattle.queue_rows.specs.Session.{Session}
use Rattle.queue_rows.proofs.Sessions.{same_or_not, get_set-same, get_set-other}
use Rattle.queue_rows.specs.Session.{AreMarks}
use Rattle.session_registry.specs.Sessions.{changed_in, changed_at, IsFreeIn}
use Rattle.session_registry.proofs.ShownSessions.{set_there}

got_in : (f : Session → Session) (ss : List Session) (i : ℕ) (o : Option Session) → slice_get ss i ≡ o → slice_get (changed_in i f ss o) i ≡ option_map f o
got_in f ss i None there = there
got_in f ss i (Some s) there = get_set-same ss i (f s) (slice_get_within ss i s there)

pub got_changed : (f : Session → Session) (ss : List Session) (i : ℕ) → slice_get (changed_at i f ss) i ≡ option_map f (slice_get ss i)
got_changed f ss i = got_in f ss i (slice_get ss i) refl

others_in : (f : Session → Session) (ss : List Session) (i j : ℕ) (o : Option Session) → j ≢ i → slice_get (changed_in i f ss o) j ≡ slice_get ss j
others_in f ss i j None ne = refl
others_in f ss i j (Some s) ne = get_set-other ss i j (f s) ne

pub got_other : (f : Session → Session) (ss : List Session) (i j : ℕ) → j ≢ i → slice_get (changed_at i f ss) j ≡ slice_get ss j
got_other f ss i j ne = others_in f ss i j (slice_get ss i) ne

length_in : (f : Session → Session) (ss : List Session) (i : ℕ) (o : Option Session) → length (changed_in i f ss o) ≡ length ss
length_in f ss i None = refl
length_in f ss i (Some s) = length-set ss i (f s)

pub length-changed : (f : Session → Session) (ss : List Session) (i : ℕ) → length (changed_at i f ss) ≡ length ss
length-changed f ss i = length_in f ss i (slice_get ss i)

pub changed_there : (f : Session → Session) (ss : List Session) (i : ℕ) (s : Session) → slice_get ss i ≡ Some s → changed_at i f ss ≡ slice_set ss i (f s)
changed_there f ss i s there = ap (changed_in i f ss) there

kept_in : (f : Session → Session) (ss : List Session) (i : ℕ) (o : Option Session) → slice_get ss i ≡ o → ((s : Session) → f s ≡ s) → ss ≡ changed_in i f ss o
kept_in f ss i None there same = refl
kept_in f ss i (Some s) there same = sym (set_there ss i s (f s) there (same s))

-- nothing changes
pub kept_at : (f : Session → Session) (ss : List Session) (i : ℕ) → ((s : Session) → f s ≡ s) → ss ≡ changed_at i f ss
kept_at f ss i same = kept_in f ss i (slice_get ss i) refl same

-- ---- marks that stay

own_before : (db : DbId) (f : Session → Session) (ss : List Session) (i j : ℕ) (s : Session) (locks : List SessionMarks) → ((s : Session) → (f s).at ≡ s.at) → ((s : Session) → (f s).marks ≡ s.marks)
    → AreMarks db (changed_at i f ss) locks → slice_get ss j ≡ Some s → s.at ≡ db → (j ≡ i) ⊎ (j ≢ i) → s.marks ≡ marks_of locks j
own_before db f ss i j s locks at marks a there here (inl e) =
    let new : slice_get (changed_at i f ss) j ≡ Some (f s) = ap (slice_get (changed_at i f ss)) e ∙ got_changed f ss i ∙ ap (option_map f) (ap (slice_get ss) (sym e) ∙ there) in
    sym (marks s) ∙ a.own j (f s) new (at s ∙ here)
own_before db f ss i j s locks at marks a there here (inr ne) = a.own j s (got_other f ss i j ne ∙ there) here

at_before : (db : DbId) (f : Session → Session) (ss : List Session) (j : ℕ) (t : Session) (o : Option Session) → ((s : Session) → (f s).at ≡ s.at) → slice_get ss j ≡ o → option_map f o ≡ Some t → t.at ≡ db
    → (s : Session) × (slice_get ss j ≡ Some s) × (s.at ≡ db)
at_before db f ss j t None at there e here = absurd (let no : None ≡ Some t = e in cc)
at_before db f ss j t (Some s) at there e here = (s, there, sym (at s) ∙ ap (λ x. x.at) (let is : Some (f s) ≡ Some t = e in let same : f s ≡ t = cc in same) ∙ here)

only_before : (db : DbId) (f : Session → Session) (ss : List Session) (i j : ℕ) (locks : List SessionMarks) → ((s : Session) → (f s).at ≡ s.at) → (j ≡ i) ⊎ (j ≢ i)
    → (marks_of locks j ≡ []) ⊎ ((s : Session) × (slice_get (changed_at i f ss) j ≡ Some s) × (s.at ≡ db)) → (marks_of locks j ≡ []) ⊎ ((s : Session) × (slice_get ss j ≡ Some s) × (s.at ≡ db))
only_before db f ss i j locks at place (inl none) = inl none
only_before db f ss i j locks at (inl e) (inr t) =
    let new : option_map f (slice_get ss j) ≡ Some t.0 = ap (λ n. option_map f (slice_get ss n)) e ∙ sym (got_changed f ss i) ∙ ap (slice_get (changed_at i f ss)) (sym e) ∙ t.1 in
    inr (at_before db f ss j t.0 (slice_get ss j) at refl new t.2)
only_before db f ss i j locks at (inr ne) (inr t) = inr (t.0, sym (got_other f ss i j ne) ∙ t.1, t.2)

marks_before : (db : DbId) (f : Session → Session) (ss : List Session) (i : ℕ) (locks : List SessionMarks) → ((s : Session) → (f s).at ≡ s.at) → ((s : Session) → (f s).marks ≡ s.marks)
    → AreMarks db (changed_at i f ss) locks → AreMarks db ss locks
marks_before db f ss i locks at marks a = record {
  own = λ j s there here. own_before db f ss i j s locks at marks a there here (same_or_not i j);
  only = λ j. only_before db f ss i j locks at (same_or_not i j) (a.only j);
}

free_in : (f : Session → Session) (ss : List Session) (i : ℕ) (mark : Mark) (o : Option Session) → ((s : Session) → (f s).at ≡ s.at) → ((s : Session) → (f s).marks ≡ s.marks)
    → IfSome o (λ s. (locks : List SessionMarks) → AreMarks s.at ss locks → IsFreeFor locks i mark)
    → IfSome (option_map f o) (λ s. (locks : List SessionMarks) → AreMarks s.at (changed_at i f ss) locks → IsFreeFor locks i mark)
free_in f ss i mark None at marks h = tt
free_in f ss i mark (Some s) at marks h = λ locks a. h locks (marks_before s.at f ss i locks at marks (subst (λ db. AreMarks db (changed_at i f ss) locks) (at s) a))

pub free_kept : (f : Session → Session) (ss : List Session) (i : ℕ) (mark : Mark) → ((s : Session) → (f s).at ≡ s.at) → ((s : Session) → (f s).marks ≡ s.marks) → IsFreeIn i mark ss → IsFreeIn i mark (changed_at i f ss)
free_kept f ss i mark at marks h =
    subst (λ o. IfSome o (λ s. (locks : List SessionMarks) → AreMarks s.at (changed_at i f ss) locks → IsFreeFor locks i mark)) (sym (got_changed f ss i)) (free_in f ss i mark (slice_get ss i) at marks h)

pub room_then : {P Q : Mark → Type 0} (o : Option Mark) → ((m : Mark) → P m → Q m) → IfSome o P → IfSome o Q
room_then None f h = tt
room_then (Some m) f h = f m h
