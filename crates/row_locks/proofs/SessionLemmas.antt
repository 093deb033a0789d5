-- What changes where one session's marks change, and who holds what then.
use Rattle.std.proofs.Common.{◌≡◌, ◌≢◌, ℕ, ◌<◌, ◌≤◌, List, [], ◌∷◌, ◌++◌, length, length-set, ◌-◌, IfSome, IfNone, map, Bool, true, false, not, IsTrue, ◌&&◌, ◌||◌, ◌==◌, ◌⊎◌, inl, inr, Option, Some, None, slice_set, refl, sym, ◌∙◌, ap, subst, arith}
use Rattle.std.specs.List.{list_any, filter}
use Rattle.std.specs.Option.{option_eq, option_map_or}
use Rattle.std.specs.Str.{bytes_eq}
use Rattle.std.proofs.lemmas.Bool.{cases_eq, cases_lt, cases_Bool, or_cases, and_parts, eqb-true, both_ways}
use Rattle.std.proofs.lemmas.List.{get_or-set_same, get_or-set_other, get_or_past}
use Rattle.std.proofs.lemmas.List.Folds.{list_any-append}
use Rattle.std.proofs.lemmas.Slice.Eq.{bytes_eq-Decides}
use Rattle.slot_marks.specs.Marks.{SessionMarks, no_marks, marks_of, spare_of, is_on, is_same_group, is_in_group, has_slot, has_group, has_any_group, HasSlot, HasGroup, kept_beside, released, SameMarks, ChangesOnly, AreHeldOnce, IsFreeFor, NoOtherHasSlot, NoOtherHasGroup, IsFreeSlot, IsFreeGroup}
use Rattle.slot_marks.specs.declared.mark.Group.{Group}
use Rattle.slot_marks.specs.declared.mark.Mark.{Mark}

pub one_changed : (locks : List SessionMarks) (s : ℕ) (m : SessionMarks) → ChangesOnly locks (slice_set locks s m) s
one_changed locks s m = record {
  marks = λ other ne. ap (λ x. x.marks) (get_or-set_other locks s other m no_marks ne);
  spare = λ other ne. ap (λ x. x.spare) (get_or-set_other locks s other m no_marks ne);
}

pub marks_set : (locks : List SessionMarks) (s : ℕ) (m : SessionMarks) → s < length locks → marks_of (slice_set locks s m) s ≡ m.marks
marks_set locks s m below = ap (λ x. x.marks) (get_or-set_same locks s m no_marks below)

pub spare_set : (locks : List SessionMarks) (s : ℕ) (m : SessionMarks) → s < length locks → spare_of (slice_set locks s m) s ≡ m.spare
spare_set locks s m below = ap (λ x. x.spare) (get_or-set_same locks s m no_marks below)

-- where there is room, the session is there
pub there_with_room : (locks : List SessionMarks) (s : ℕ) → 0 < spare_of locks s → s < length locks
there_with_room locks s room = elim (cases_lt s (length locks)) [
  | inl below ↦ below
  | inr past ↦
      let none : spare_of locks s ≡ 0 = ap (λ x. x.spare) (get_or_past locks s no_marks past) in
      absurd (omega arith)
]

-- a test that one session at most passes stays so where only one session's marks change, and pass it only
-- if they did before, or if no other session's do
one_holder : (has : List Mark → Bool) (old new : List SessionMarks) (s₀ : ℕ) → ChangesOnly old new s₀
    → ((s t : ℕ) → IsTrue (has (marks_of old s)) → IsTrue (has (marks_of old t)) → s ≡ t)
    → (IsTrue (has (marks_of new s₀)) → IsTrue (has (marks_of old s₀)) ⊎ ((t : ℕ) → t ≢ s₀ → has (marks_of old t) ≡ false))
    → (s t : ℕ) → IsTrue (has (marks_of new s)) → IsTrue (has (marks_of new t)) → s ≡ t
one_holder has old new s₀ changed once at s t a b =
    let P : List Mark → Type 0 = λ marks. IsTrue (has marks) in
    elim (cases_eq s s₀) [
      | inl es ↦ elim (cases_eq t s₀) [
        | inl et ↦ es ∙ sym et
        | inr nt ↦
            let own : IsTrue (has (marks_of new s₀)) = rw es at a in
            let other : IsTrue (has (marks_of old t)) = subst P (changed.marks t nt) b in
            elim (at own) [
              | inl before ↦ es ∙ once s₀ t before other
              | inr free ↦ absurd (both_ways (has (marks_of old t)) (free t nt) other)
            ]
      ]
      | inr ns ↦
          let other : IsTrue (has (marks_of old s)) = subst P (changed.marks s ns) a in
          elim (cases_eq t s₀) [
            | inl et ↦
                let own : IsTrue (has (marks_of new s₀)) = rw et at b in
                elim (at own) [
                  | inl before ↦ once s s₀ other before ∙ sym et
                  | inr free ↦ absurd (both_ways (has (marks_of old s)) (free s ns) other)
                ]
            | inr nt ↦ once s t other (subst P (changed.marks t nt) b)
          ]
    ]

-- the session's new marks are on slots and in groups only that it had before
pub once_with_fewer : (old new : List SessionMarks) (s₀ : ℕ) → ChangesOnly old new s₀
    → ((id slot : ℕ) → HasSlot new id slot s₀ → HasSlot old id slot s₀)
    → ((group : Option Group) → HasGroup new group s₀ → HasGroup old group s₀)
    → AreHeldOnce old → AreHeldOnce new
once_with_fewer old new s₀ changed slots groups once = record {
  slots = λ s t id slot a b. one_holder (has_slot id slot) old new s₀ changed (λ s t. once.slots s t id slot) (λ h. inl (slots id slot h)) s t a b;
  groups = λ s t group a b. one_holder (has_any_group group) old new s₀ changed (λ s t. once.groups s t group) (λ h. inl (groups group h)) s t a b;
}

-- all sessions have the same marks
pub once_with_same : (old new : List SessionMarks) → SameMarks old new → AreHeldOnce old → AreHeldOnce new
once_with_same old new same once =
    let slot_back : (s id slot : ℕ) → HasSlot new id slot s → HasSlot old id slot s =
    λ s id slot h. let P : List Mark → Type 0 = λ marks. IsTrue (has_slot id slot marks) in subst P (same s) h in
    let group_back : (s : ℕ) (group : Option Group) → HasGroup new group s → HasGroup old group s =
    λ s group h. let P : List Mark → Type 0 = λ marks. IsTrue (has_any_group group marks) in subst P (same s) h in
    record {
      slots = λ s t id slot a b. once.slots s t id slot (slot_back s id slot a) (slot_back t id slot b);
      groups = λ s t group a b. once.groups s t group (group_back s group a) (group_back t group b);
    }

-- fewer marks pass no test that none passed
pub any-filter : {X : Type 0} (test left : X → Bool) (xs : List X) → IsTrue (list_any test (filter left xs)) → IsTrue (list_any test xs)
any-filter test left [] h = h
any-filter test left (x ∷ xs) h = elim (cases_Bool (left x)) [
  | inl stays ↦
      let h' : IsTrue (test x || list_any test (filter left xs)) = rw stays at h in
      elim (or_cases (test x) (list_any test (filter left xs)) h') [
        | inl here ↦ rw here refl
        | inr later ↦ let e : list_any test xs ≡ true = any-filter test left xs later in elim (cases_Bool (test x)) [ inl t ↦ rw t refl | inr f ↦ rw f e ]
      ]
  | inr goes ↦
      let h' : IsTrue (list_any test (filter left xs)) = rw goes at h in
      let e : list_any test xs ≡ true = any-filter test left xs h' in
      elim (cases_Bool (test x)) [ inl t ↦ rw t refl | inr f ↦ rw f e ]
]

pub any-map : {X : Type 0} (test : X → Bool) (f : X → X) → ((x : X) → test (f x) ≡ test x) → (xs : List X) → list_any test (map f xs) ≡ list_any test xs
any-map test f same [] = refl
any-map test f same (x ∷ xs) = λ i. same x i || any-map test f same xs i

pub any-push : {X : Type 0} (test : X → Bool) (xs : List X) (x : X) → IsTrue (list_any test (xs ++ x ∷ [])) → IsTrue (list_any test xs) ⊎ IsTrue (test x)
any-push test xs x h =
    let h' : IsTrue (list_any test xs || list_any test (x ∷ [])) = sym (list_any-append test xs (x ∷ [])) ∙ h in
    elim (or_cases (list_any test xs) (list_any test (x ∷ [])) h') [
      | inl before ↦ inl before
      | inr last ↦ elim (or_cases (test x) false last) [ inl passed ↦ inr passed | inr never ↦ absurd (both_ways false refl never) ]
    ]

is_on-kept : (mark own : Mark) (id slot : ℕ) → is_on id slot (kept_beside mark own) ≡ is_on id slot own
is_on-kept mark own id slot = elim (cases_Bool (is_on mark.id mark.slot own)) [ inl e ↦ rw e refl | inr e ↦ rw e refl ]

is_in_group-kept : (mark own : Mark) (group : Group) → is_in_group group (kept_beside mark own) ≡ is_in_group group own
is_in_group-kept mark own group = elim (cases_Bool (is_on mark.id mark.slot own)) [ inl e ↦ rw e refl | inr e ↦ rw e refl ]

pub slots_kept : (mark : Mark) (marks : List Mark) (id slot : ℕ) → has_slot id slot (map (kept_beside mark) marks) ≡ has_slot id slot marks
slots_kept mark marks id slot = any-map (is_on id slot) (kept_beside mark) (λ own. is_on-kept mark own id slot) marks

pub groups_kept : (mark : Mark) (marks : List Mark) (group : Option Group) → has_any_group group (map (kept_beside mark) marks) ≡ has_any_group group marks
groups_kept mark marks None = refl
groups_kept mark marks (Some group) = any-map (is_in_group group) (kept_beside mark) (λ own. is_in_group-kept mark own group) marks

pub slots_released : (marks : List Mark) (id slot k n : ℕ) → IsTrue (has_slot k n (released marks id slot)) → IsTrue (has_slot k n marks)
slots_released marks id slot k n h = any-filter (is_on k n) (λ mark. not (is_on id slot mark)) marks h

pub groups_released : (marks : List Mark) (id slot : ℕ) (group : Option Group) → IsTrue (has_any_group group (released marks id slot)) → IsTrue (has_any_group group marks)
groups_released marks id slot None h = h
groups_released marks id slot (Some group) h = any-filter (is_in_group group) (λ mark. not (is_on id slot mark)) marks h

pub same_consumer : (a b : Option (List ℕ)) → option_eq bytes_eq a b ≡ true → a ≡ b
same_consumer None None e = refl
same_consumer None (Some y) e = cc e
same_consumer (Some x) None e = cc e
same_consumer (Some x) (Some y) e = ap Some ((bytes_eq-Decides x y).0 e)

same_group : (a b : Group) → is_same_group a b ≡ true → a ≡ b
same_group a b e =
    let outer = and_parts ((a.number == b.number) && bytes_eq a.queue b.queue) (option_eq bytes_eq a.consumer b.consumer) e in
    let inner = and_parts (a.number == b.number) (bytes_eq a.queue b.queue) outer.0 in
    let number = eqb-true a.number b.number inner.0 in
    let queue = (bytes_eq-Decides a.queue b.queue).0 inner.1 in
    let consumer = same_consumer a.consumer b.consumer outer.1 in
    λ i. record { queue = queue i; number = number i; consumer = consumer i }

pub in_its_group : (mark : Mark) (group : Group) → IsTrue (is_in_group group mark) → mark.group ≡ Some group
in_its_group mark group h = by mark.group h
  where
    by : (own : Option Group) → option_map_or (λ g. is_same_group g group) own false ≡ true → own ≡ Some group
    by None e = cc e
    by (Some own) e = ap Some (same_group own group e)

-- a mark goes last where no other session has its slot or its group
pub once_with_more : (old new : List SessionMarks) (s₀ : ℕ) (mark : Mark) → ChangesOnly old new s₀ → marks_of new s₀ ≡ marks_of old s₀ ++ mark ∷ []
    → IsFreeFor old s₀ mark → AreHeldOnce old → AreHeldOnce new
once_with_more old new s₀ mark changed pushed free once =
    record {
      slots = λ s t id slot a b. one_holder (has_slot id slot) old new s₀ changed (λ s t. once.slots s t id slot) (slot_at id slot) s t a b;
      groups = λ s t group a b. one_holder (has_any_group group) old new s₀ changed (λ s t. once.groups s t group) (group_at group) s t a b;
    }
  where
    slot_at : (id slot : ℕ) → HasSlot new id slot s₀ → HasSlot old id slot s₀ ⊎ ((t : ℕ) → t ≢ s₀ → has_slot id slot (marks_of old t) ≡ false)
    slot_at id slot h =
        let P : List Mark → Type 0 = λ marks. IsTrue (has_slot id slot marks) in
        elim (any-push (is_on id slot) (marks_of old s₀) mark (subst P pushed h)) [
          | inl before ↦ inl before
          | inr last ↦
              let same = and_parts (mark.id == id) (mark.slot == slot) last in
              let same_id = eqb-true mark.id id same.0 in
              let same_slot = eqb-true mark.slot slot same.1 in
              inr (λ t ne. ap (λ k. has_slot k slot (marks_of old t)) (sym same_id) ∙ ap (λ n. has_slot mark.id n (marks_of old t)) (sym same_slot) ∙ free.slot t ne)
        ]

    group_at : (group : Option Group) → HasGroup new group s₀ → HasGroup old group s₀ ⊎ ((t : ℕ) → t ≢ s₀ → has_any_group group (marks_of old t) ≡ false)
    group_at None h = inl h
    group_at (Some group) h =
        let P : List Mark → Type 0 = λ marks. IsTrue (has_group group marks) in
        elim (any-push (is_in_group group) (marks_of old s₀) mark (subst P pushed h)) [
          | inl before ↦ inl before
          | inr last ↦
              let same = in_its_group mark group last in
              inr (λ t ne. ap (λ g. has_any_group g (marks_of old t)) (sym same) ∙ free.group t ne)
        ]

no_other : (has : List Mark → Bool) (locks : List SessionMarks) (s : ℕ) → ((s t : ℕ) → IsTrue (has (marks_of locks s)) → IsTrue (has (marks_of locks t)) → s ≡ t)
    → IsTrue (has (marks_of locks s)) → (other : ℕ) → other ≢ s → has (marks_of locks other) ≡ false
no_other has locks s once own other ne = elim (cases_Bool (has (marks_of locks other))) [
  | inl has_it ↦ absurd (ne (once other s has_it own))
  | inr free ↦ free
]

-- where nobody holds it, or this session does, no other does
pub no_other_slot : (locks : List SessionMarks) (s : ℕ) (mark : Mark) (holder : Option ℕ) → AreHeldOnce locks → IfSome holder (HasSlot locks mark.id mark.slot)
    → IfNone holder (IsFreeSlot locks mark.id mark.slot) → (holder ≡ None) ⊎ (holder ≡ Some s) → NoOtherHasSlot locks s mark
no_other_slot locks s mark holder once some none (inl free) =
    let P : Option ℕ → Type 0 = λ h. IfNone h (IsFreeSlot locks mark.id mark.slot) in
    let all = subst P free none in λ other ne. all other
no_other_slot locks s mark holder once some none (inr own) =
    let P : Option ℕ → Type 0 = λ h. IfSome h (HasSlot locks mark.id mark.slot) in
    no_other (has_slot mark.id mark.slot) locks s (λ a b. once.slots a b mark.id mark.slot) (subst P own some)

pub no_other_group : (locks : List SessionMarks) (s : ℕ) (mark : Mark) (holder : Option ℕ) → AreHeldOnce locks → IfSome holder (HasGroup locks mark.group)
    → IfNone holder (IsFreeGroup locks mark.group) → (holder ≡ None) ⊎ (holder ≡ Some s) → NoOtherHasGroup locks s mark
no_other_group locks s mark holder once some none (inl free) =
    let P : Option ℕ → Type 0 = λ h. IfNone h (IsFreeGroup locks mark.group) in
    let all = subst P free none in λ other ne. all other
no_other_group locks s mark holder once some none (inr own) =
    let P : Option ℕ → Type 0 = λ h. IfSome h (HasGroup locks mark.group) in
    no_other (has_any_group mark.group) locks s (λ a b. once.groups a b mark.group) (subst P own some)

-- what is kept of the invariant where one session changes
pub held_after_put : (most : ℕ) (locks new : List SessionMarks) (s : ℕ) (mark : Mark)
    → new ≡ slice_set locks s (record { marks = marks_of locks s ++ mark ∷ []; spare = spare_of locks s - 1 }) → 0 < spare_of locks s → IsFreeFor locks s mark
    → (length locks ≤ most) × AreHeldOnce locks → (length new ≤ most) × AreHeldOnce new
held_after_put most locks new s mark is room free held =
    let put : SessionMarks = record { marks = marks_of locks s ++ mark ∷ []; spare = spare_of locks s - 1 } in
    rw is (
      rw length-set held.0,
      once_with_more locks (slice_set locks s put) s mark (one_changed locks s put) (marks_set locks s put (there_with_room locks s room)) free held.1,
    )

pub held_after_keep : (most : ℕ) (locks new : List SessionMarks) (s : ℕ) (mark : Mark)
    → new ≡ slice_set locks s (record { marks = map (kept_beside mark) (marks_of locks s); spare = spare_of locks s }) → s < length locks
    → (length locks ≤ most) × AreHeldOnce locks → (length new ≤ most) × AreHeldOnce new
held_after_keep most locks new s mark is there held =
    let kept : SessionMarks = record { marks = map (kept_beside mark) (marks_of locks s); spare = spare_of locks s } in
    let marks = marks_set locks s kept there in
    rw is (
      rw length-set held.0,
      once_with_fewer locks (slice_set locks s kept) s (one_changed locks s kept)
          (λ id slot h. sym (slots_kept mark (marks_of locks s) id slot) ∙ ap (has_slot id slot) (sym marks) ∙ h)
          (λ group h. sym (groups_kept mark (marks_of locks s) group) ∙ ap (has_any_group group) (sym marks) ∙ h)
          held.1,
    )

pub held_after_release : (most : ℕ) (locks new : List SessionMarks) (s id slot : ℕ)
    → new ≡ slice_set locks s (record { marks = released (marks_of locks s) id slot; spare = spare_of locks s }) → s < length locks
    → (length locks ≤ most) × AreHeldOnce locks → (length new ≤ most) × AreHeldOnce new
held_after_release most locks new s id slot is there held =
    let left : SessionMarks = record { marks = released (marks_of locks s) id slot; spare = spare_of locks s } in
    let marks = marks_set locks s left there in
    rw is (
      rw length-set held.0,
      once_with_fewer locks (slice_set locks s left) s (one_changed locks s left)
          (λ k n h. slots_released (marks_of locks s) id slot k n (ap (has_slot k n) (sym marks) ∙ h))
          (λ group h. groups_released (marks_of locks s) id slot group (ap (has_any_group group) (sym marks) ∙ h))
          held.1,
    )

pub if_none_map : {X : Type 0} (o : Option X) {P Q : Type 0} → (P → Q) → IfNone o P → IfNone o Q
if_none_map None f p = f p
if_none_map (Some x) f p = p
