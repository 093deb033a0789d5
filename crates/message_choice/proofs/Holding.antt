-- Who holds a slot, as the locks show it and as the sessions say.
use Rattle.std.proofs.Common.{◌≡◌, ◌≢◌, ℕ, ◌+◌, ◌==◌, suc, zero, List, [], ◌∷◌, Bool, true, false, Option, Some, None, IfSome, refl, sym, ap, ◌∙◌, subst, inl, inr, arith, eq-eqb}
use Rattle.std.specs.Prelude.{◌&&◌, ◌||◌, ◌⊎◌, not, slice_get}
use Rattle.std.specs.List.{list_any}
use Rattle.std.specs.Option.{option_eq}
use Rattle.std.specs.Str.{bytes_eq}
use Rattle.std.proofs.lemmas.Bool.{false≢true, or_cases, or_left, or_right, and_parts, and_from, not-true, not_from_false, ne_eqb, eqb-true, cases_eq, both_ways, false_from_ne_true}
use Rattle.std.proofs.lemmas.Slice.Eq.{bytes_eq-Decides}
use Rattle.aq_base.specs.declared.DbId.{DbId}
use Rattle.aq_base.specs.declared.DbId.TheVariants.{Home, Away}
use Rattle.slot_marks.specs.declared.mark.Mark.{Mark}
use Rattle.slot_marks.specs.declared.mark.Group.{Group}
use Rattle.slot_marks.specs.Marks.{SessionMarks, no_marks, marks_of, is_on, is_in_group, has_slot, has_group, has_any_group, has_removed, IsFreeSlot, IsFreeGroup, HasSlot, HasGroup, IsHolder, AreHeldOnce}
use Rattle.slot_marks.specs.Marks as row
use Rattle.queue_rows.specs.Session as session
use Rattle.queue_rows.specs.Session.{Session, is_same_db, is_same_consumer, holds, marks_slot, marks_group, is_held_from, is_held}
use Rattle.queue_rows.specs.Session.{AreMarks}
use Rattle.message_choice.specs.Asking.{session_of, sessions_of}

-- ---- tests

same_test : (a b : Bool) → (a ≡ true → b ≡ true) → (b ≡ true → a ≡ true) → a ≡ b
same_test true b f g = sym (f refl)
same_test false true f g = g refl
same_test false false f g = refl

and_turned : (a b : Bool) → (a && b) ≡ (b && a)
and_turned true true = refl
and_turned true false = refl
and_turned false true = refl
and_turned false false = refl

or_between : (a b c d : Bool) → ((a || b) || (c || d)) ≡ ((a || c) || (b || d))
or_between true b c d = refl
or_between false true true d = refl
or_between false true false d = refl
or_between false false true d = refl
or_between false false false d = refl

pub other_number : (h actor : ℕ) → not (h == actor) ≡ true → h ≢ actor
other_number h actor e same = both_ways (h == actor) (not-true (h == actor) e) (eq-eqb h actor same)

pub not_equal : (h actor : ℕ) → h ≢ actor → not (h == actor) ≡ true
not_equal h actor ne = not_from_false (h == actor) (ne_eqb h actor ne)

-- ---- a test of items and their numbers

module _ {X : Type 0} where
  list_any-same : (p q : X → Bool) (xs : List X) → ((x : X) → p x ≡ q x) → list_any p xs ≡ list_any q xs
  list_any-same p q [] h = refl
  list_any-same p q (x ∷ xs) h = ap (λ b. b || list_any p xs) (h x) ∙ ap (λ b. q x || b) (list_any-same p q xs h)

  list_any-either : (p q : X → Bool) (xs : List X) → list_any (λ x. p x || q x) xs ≡ (list_any p xs || list_any q xs)
  list_any-either p q [] = refl
  list_any-either p q (x ∷ xs) = ap (λ b. (p x || q x) || b) (list_any-either p q xs) ∙ or_between (p x) (q x) (list_any p xs) (list_any q xs)

  list_any-none : (xs : List X) → list_any (λ x. false) xs ≡ false
  list_any-none [] = refl
  list_any-none (x ∷ xs) = list_any-none xs

  abbrev any_from : (ℕ → X → Bool) → ℕ → List X → Bool
  any_from f n [] = false
  any_from f n (x ∷ xs) = f n x || any_from f (n + 1) xs

  record Passing (f : ℕ → X → Bool) (n : ℕ) (xs : List X) : Type 0 where
    at : ℕ
    item : X
    there : slice_get xs at ≡ Some item
    passes : f (n + at) item ≡ true

  any-at : (f : ℕ → X → Bool) (n : ℕ) (xs : List X) (i : ℕ) (x : X) → slice_get xs i ≡ Some x → f (n + i) x ≡ true → any_from f n xs ≡ true
  any-at f n [] i x e h = cc
  any-at f n (y ∷ ys) zero x e h = let z : n + 0 ≡ n = omega arith in or_left (f n y) (any_from f (n + 1) ys) (cc)
  any-at f n (y ∷ ys) (suc i) x e h = let z : n + 1 + i ≡ n + suc i = omega arith in or_right (f n y) (any_from f (n + 1) ys) (any-at f (n + 1) ys i x e (cc))

  any-got : (f : ℕ → X → Bool) (n : ℕ) (xs : List X) → any_from f n xs ≡ true → Passing f n xs
  any-got f n [] h = absurd (false≢true h)
  any-got f n (y ∷ ys) h = elim (or_cases (f n y) (any_from f (n + 1) ys) h) [
    | inl here ↦ let z : n + 0 ≡ n = omega arith in record { at = 0; item = y; there = refl; passes = cc }
    | inr later ↦
        let r = any-got f (n + 1) ys later in
        let z : n + 1 + r.at ≡ n + suc r.at = omega arith in
        record { at = suc r.at; item = r.item; there = r.there; passes = cc (r.passes) }
  ]

-- ---- groups

same_consumer : (a b : Option (List ℕ)) → option_eq bytes_eq a b ≡ true → a ≡ b
same_consumer None None e = refl
same_consumer None (Some y) e = absurd (false≢true e)
same_consumer (Some x) None e = absurd (false≢true e)
same_consumer (Some x) (Some y) e = ap Some ((bytes_eq-Decides x y).0 e)

consumer_self : (c : Option (List ℕ)) → option_eq bytes_eq c c ≡ true
consumer_self None = refl
consumer_self (Some name) = (bytes_eq-Decides name name).1 refl

row_same : (a b : Group) → row.is_same_group a b ≡ true → a ≡ b
row_same a b e =
    let outer = and_parts ((a.number == b.number) && bytes_eq a.queue b.queue) (option_eq bytes_eq a.consumer b.consumer) e in
    let inner = and_parts (a.number == b.number) (bytes_eq a.queue b.queue) outer.0 in
    let number = eqb-true a.number b.number inner.0 in
    let queue = (bytes_eq-Decides a.queue b.queue).0 inner.1 in
    let consumer = same_consumer a.consumer b.consumer outer.1 in
    λ i. record { queue = queue i; number = number i; consumer = consumer i }

row_self : (g : Group) → row.is_same_group g g ≡ true
row_self g = and_from ((g.number == g.number) && bytes_eq g.queue g.queue) (option_eq bytes_eq g.consumer g.consumer)
    (and_from (g.number == g.number) (bytes_eq g.queue g.queue) (eq-eqb g.number g.number refl) ((bytes_eq-Decides g.queue g.queue).1 refl)) (consumer_self g.consumer)

session_same : (a b : Group) → session.is_same_group a b ≡ true → a ≡ b
session_same a b e =
    let outer = and_parts (bytes_eq a.queue b.queue && (a.number == b.number)) (option_eq bytes_eq a.consumer b.consumer) e in
    let inner = and_parts (bytes_eq a.queue b.queue) (a.number == b.number) outer.0 in
    let number = eqb-true a.number b.number inner.1 in
    let queue = (bytes_eq-Decides a.queue b.queue).0 inner.0 in
    let consumer = same_consumer a.consumer b.consumer outer.1 in
    λ i. record { queue = queue i; number = number i; consumer = consumer i }

session_self : (g : Group) → session.is_same_group g g ≡ true
session_self g = and_from (bytes_eq g.queue g.queue && (g.number == g.number)) (option_eq bytes_eq g.consumer g.consumer)
    (and_from (bytes_eq g.queue g.queue) (g.number == g.number) ((bytes_eq-Decides g.queue g.queue).1 refl) (eq-eqb g.number g.number refl)) (consumer_self g.consumer)

-- the two definitions of a group that is the same agree
same_groups : (group own : Group) → session.is_same_group group own ≡ row.is_same_group own group
same_groups group own = same_test (session.is_same_group group own) (row.is_same_group own group)
    (λ e. subst (λ (g : Group). row.is_same_group own g ≡ true) (sym (session_same group own e)) (row_self own))
    (λ e. subst (λ (g : Group). session.is_same_group group g ≡ true) (sym (row_same own group e)) (session_self group))

group_by : (group : Group) (mark : Mark) → marks_group (Some group) mark ≡ is_in_group group mark
group_by group mark = by mark.group refl
  where
    by : (own : Option Group) → mark.group ≡ own → marks_group (Some group) mark ≡ is_in_group group mark
    by None e =
        let m : Mark = record mark { group = None } in
        cc
    by (Some own) e = cc (same_groups group own)

-- ---- what a session has

-- the slot, or its group
abbrev pub has_either : ℕ → ℕ → Option Group → List Mark → Bool
has_either id slot group marks = has_slot id slot marks || has_any_group group marks

pub group_any : (group : Option Group) (marks : List Mark) → list_any (marks_group group) marks ≡ has_any_group group marks
group_any None marks = list_any-none marks
group_any (Some group) marks = list_any-same (marks_group (Some group)) (is_in_group group) marks (group_by group)

holds-either : (id slot : ℕ) (group : Option Group) (marks : List Mark) → list_any (holds id slot group) marks ≡ has_either id slot group marks
holds-either id slot group marks =
    list_any-either (marks_slot id slot) (marks_group group) marks
    ∙ ap (λ b. list_any (marks_slot id slot) marks || b) (group_any group marks)

pub removed-same : (id slot : ℕ) (marks : List Mark) → list_any (λ mark. mark.removed && marks_slot id slot mark) marks ≡ has_removed id slot marks
removed-same id slot marks = list_any-same (λ mark. mark.removed && marks_slot id slot mark) (λ mark. is_on id slot mark && mark.removed) marks (λ mark. and_turned mark.removed (is_on id slot mark))

-- ---- by sessions and by locks

-- another session has the slot or its group
pub record OtherHolder (locks : List SessionMarks) (actor id slot : ℕ) (group : Option Group) : Type 0 where
  pub number : ℕ
  pub other : number ≢ actor
  pub has : has_either id slot group (marks_of locks number) ≡ true

pub same_db : (db : DbId) → is_same_db db db ≡ true
same_db Home = refl
same_db Away = refl

pub db_same : (a b : DbId) → is_same_db a b ≡ true → a ≡ b
db_same Home Home e = refl
db_same Home Away e = absurd (false≢true e)
db_same Away Home e = absurd (false≢true e)
db_same Away Away e = refl

abbrev holding : ℕ → DbId → ℕ → ℕ → Option Group → ℕ → Session → Bool
holding actor db id slot group i s = not (i == actor) && is_same_db s.at db && list_any (holds id slot group) s.marks

holding-any : (n : ℕ) (sessions : List Session) (actor : ℕ) (db : DbId) (id slot : ℕ) (group : Option Group) → is_held_from n actor db id slot group sessions ≡ any_from (holding actor db id slot group) n sessions
holding-any n [] actor db id slot group = refl
holding-any n (s ∷ more) actor db id slot group = ap (λ b. holding actor db id slot group n s || b) (holding-any (n + 1) more actor db id slot group)

module _ (db : DbId) (sessions : List Session) (locks : List SessionMarks) (are : AreMarks db sessions locks) (actor id slot : ℕ) (group : Option Group) where
  pub held-got : is_held sessions actor db id slot group ≡ true → OtherHolder locks actor id slot group
  held-got e =
      let r = any-got (holding actor db id slot group) 0 sessions (sym (holding-any 0 sessions actor db id slot group) ∙ e) in
      let z : 0 + r.at ≡ r.at = omega arith in
      let passes = and_parts (not (r.at == actor) && is_same_db r.item.at db) (list_any (holds id slot group) r.item.marks) (rw z at r.passes) in
      let both = and_parts (not (r.at == actor)) (is_same_db r.item.at db) passes.0 in
      let own = are.own r.at r.item r.there (db_same r.item.at db both.1) in
      record {
        number = r.at;
        other = other_number r.at actor both.0;
        has = ap (has_either id slot group) (sym own) ∙ sym (holds-either id slot group r.item.marks) ∙ passes.1;
      }

  none_has : has_either id slot group [] ≡ false
  none_has = by group
    where
      by : (g : Option Group) → has_either id slot g [] ≡ false
      by None = refl
      by (Some g) = refl

  shown_by : (number : ℕ) → number ≢ actor → has_either id slot group (marks_of locks number) ≡ true → (marks_of locks number ≡ []) ⊎ ((s : Session) × (slice_get sessions number ≡ Some s) × (s.at ≡ db)) → is_held sessions actor db id slot group ≡ true
  shown_by number other has (inl none) = absurd (false≢true (sym none_has ∙ sym (ap (has_either id slot group) none) ∙ has))
  shown_by number other has (inr (s, there, at)) =
      let z : 0 + number ≡ number = omega arith in
      let own = are.own number s there at in
      holding-any 0 sessions actor db id slot group
      ∙ any-at (holding actor db id slot group) 0 sessions number s there
      (rw z (and_from (not (number == actor) && is_same_db s.at db) (list_any (holds id slot group) s.marks)
      (and_from (not (number == actor)) (is_same_db s.at db) (not_equal number actor other) (ap (λ (x : DbId). is_same_db x db) at ∙ same_db db))
      (holds-either id slot group s.marks ∙ ap (has_either id slot group) own ∙ has)))

  pub held-from : OtherHolder locks actor id slot group → is_held sessions actor db id slot group ≡ true
  held-from r = shown_by r.number r.other r.has (are.only r.number)

-- sessions with the same marks hold the same
pub held-same : (db db₂ : DbId) (sessions sessions₂ : List Session) (locks : List SessionMarks) → AreMarks db sessions locks → AreMarks db₂ sessions₂ locks
    → (actor id slot : ℕ) (group : Option Group) → is_held sessions actor db id slot group ≡ is_held sessions₂ actor db₂ id slot group
held-same db db₂ sessions sessions₂ locks are are₂ actor id slot group =
    same_test (is_held sessions actor db id slot group) (is_held sessions₂ actor db₂ id slot group)
    (λ e. held-from db₂ sessions₂ locks are₂ actor id slot group (held-got db sessions locks are actor id slot group e))
    (λ e. held-from db sessions locks are actor id slot group (held-got db₂ sessions₂ locks are₂ actor id slot group e))

-- ---- the plainest sessions

got_own : (locks : List SessionMarks) (i : ℕ) (s : Session) → slice_get (sessions_of locks) i ≡ Some s → s.marks ≡ marks_of locks i
got_own [] i s e = cc
got_own (x ∷ xs) zero s e = cc
got_own (x ∷ xs) (suc i) s e = got_own xs i s e

got_only : (locks : List SessionMarks) (i : ℕ) → (marks_of locks i ≡ []) ⊎ ((s : Session) × (slice_get (sessions_of locks) i ≡ Some s) × (s.at ≡ Home))
got_only [] i = inl refl
got_only (x ∷ xs) zero = inr (session_of x.marks, refl, refl)
got_only (x ∷ xs) (suc i) = got_only xs i

-- the locks keep their marks
pub are_plain : (locks : List SessionMarks) → AreMarks Home (sessions_of locks) locks
are_plain locks = record { own = λ i s there at. got_own locks i s there; only = got_only locks }

-- ---- by the holder that the locks tell

abbrev pub held_plainly : List SessionMarks → ℕ → ℕ → ℕ → Option Group → Bool
held_plainly locks actor id slot group = is_held (sessions_of locks) actor Home id slot group

pub held_by_none : (locks : List SessionMarks) (actor id slot : ℕ) (group : Option Group) → IsFreeSlot locks id slot → IsFreeGroup locks group → held_plainly locks actor id slot group ≡ false
held_by_none locks actor id slot group slot_free group_free =
    false_from_ne_true (held_plainly locks actor id slot group) (λ e.
    let r = held-got Home (sessions_of locks) locks (are_plain locks) actor id slot group e in
    elim (or_cases (has_slot id slot (marks_of locks r.number)) (has_any_group group (marks_of locks r.number)) r.has) [
      | inl has ↦ both_ways (has_slot id slot (marks_of locks r.number)) (slot_free r.number) has
      | inr has ↦ both_ways (has_any_group group (marks_of locks r.number)) (group_free r.number) has
    ])

has_of : (locks : List SessionMarks) (id slot : ℕ) (group : Option Group) (holder : ℕ) → IsHolder locks id slot group holder → has_either id slot group (marks_of locks holder) ≡ true
has_of locks id slot group holder (inl has) = or_left (has_slot id slot (marks_of locks holder)) (has_any_group group (marks_of locks holder)) has
has_of locks id slot group holder (inr (free, has)) = or_right (has_slot id slot (marks_of locks holder)) (has_any_group group (marks_of locks holder)) has

-- where the session has the slot, it has the group too
abbrev pub OwnsGroup : List Mark → ℕ → ℕ → Option Group → Type 0
OwnsGroup marks id slot group = has_slot id slot marks ≡ true → IfSome group (λ g. has_group g marks ≡ true)

pub no_other : (locks : List SessionMarks) (actor id slot : ℕ) (group : Option Group) → AreHeldOnce locks → OwnsGroup (marks_of locks actor) id slot group → IsHolder locks id slot group actor
    → OtherHolder locks actor id slot group → ⊥
no_other locks actor id slot group once owns holder r =
    elim (or_cases (has_slot id slot (marks_of locks r.number)) (has_any_group group (marks_of locks r.number)) r.has) [
      | inl has ↦ by_slot has holder
      | inr has ↦ r.other (once.groups r.number actor group has (own_group group owns holder has))
    ]
  where
    by_slot : HasSlot locks id slot r.number → IsHolder locks id slot group actor → ⊥
    by_slot has (inl own) = r.other (once.slots r.number actor id slot has own)
    by_slot has (inr (free, own)) = both_ways (has_slot id slot (marks_of locks r.number)) (free r.number) has

    own_group : (g : Option Group) → OwnsGroup (marks_of locks actor) id slot g → IsHolder locks id slot g actor → HasGroup locks g r.number → HasGroup locks g actor
    own_group None owns h has = absurd (false≢true has)
    own_group (Some g) owns (inl own) has = owns own
    own_group (Some g) owns (inr (free, own)) has = own

-- the slot is held where its holder is another session
pub held_by : (locks : List SessionMarks) (actor id slot : ℕ) (group : Option Group) (holder : ℕ) → AreHeldOnce locks → OwnsGroup (marks_of locks actor) id slot group → IsHolder locks id slot group holder
    → not (holder == actor) ≡ held_plainly locks actor id slot group
held_by locks actor id slot group holder once owns holds =
    elim (cases_eq holder actor) [
      | inl same ↦
          rw (eq-eqb holder actor same)
          (sym (false_from_ne_true (held_plainly locks actor id slot group) (λ e.
          no_other locks actor id slot group once owns (subst (λ (h : ℕ). IsHolder locks id slot group h) same holds)
          (held-got Home (sessions_of locks) locks (are_plain locks) actor id slot group e))))
      | inr other ↦
          not_equal holder actor other
          ∙ sym (held-from Home (sessions_of locks) locks (are_plain locks) actor id slot group (record { number = holder; other = other; has = has_of locks id slot group holder holds }))
    ]
