-- Who holds a group, as the index of groups tells it.
use Rattle.std.proofs.Common.{◌≡◌, ℕ, ◌<◌, ◌&&◌, ◌==◌, List, map, true, false, inl, inr, Option, Some, None, IfSome, IfNone, IsSome, is_some, IsTrue, refl, sym, ◌∙◌, ap, subst, arith}
use Rattle.std.specs.Option.{option_eq, option_map, option_map_or}
use Rattle.std.specs.Str.{bytes_eq}
use Rattle.std.proofs.lemmas.Bool.{cases_eq, cases_lt, and_parts, and_from, eqb-true, eq-eqb, both_ways, false_from_ne_true}
use Rattle.std.proofs.lemmas.Slice.Eq.{bytes_eq-Decides}
use Rattle.slot_marks.specs.Marks.{is_in_group, is_same_group, has_any_group, marks_of, NoOtherHasGroup}
use Rattle.row_locks.specs.Entries.{SessionEntries, mark_at, shown}
use Rattle.row_locks.specs.Groups.{class_of, group_in, group_at, rank_at, is_in_group_at, has_names, has_names_at, place_of, count_of, mixed_of, hold_in, held_count, number_in, is_number, HasAlone, AreRanked, IsGroupIndexOf}
use Rattle.row_locks.specs.declared.classes.Place.{Place}
use Rattle.row_locks.specs.declared.groups.GroupIndex.{GroupIndex}
use Rattle.row_locks.specs.declared.holds.GroupHold.{GroupHold}
use Rattle.slot_marks.specs.declared.mark.Group.{Group}
use Rattle.slot_marks.specs.declared.mark.Mark.{Mark}
use Rattle.row_locks.proofs.GroupLemmas.{not_none, same_some}
use Rattle.row_locks.proofs.GroupedLemmas.{somewhere}
use Rattle.row_locks.proofs.SessionLemmas.{in_its_group, same_consumer}
use Rattle.row_locks.proofs.NumberCountLemmas.{number_count_some}

-- a mark is in its own group
consumer_self : (c : Option (List ℕ)) → option_eq bytes_eq c c ≡ true
consumer_self None = refl
consumer_self (Some name) = (bytes_eq-Decides name name).1 refl

in_own_group : (group : Group) (e : Option Mark) → group_in e ≡ Some group → option_map_or (is_in_group group) e false ≡ true
in_own_group group None is = absurd (not_none group refl is)
in_own_group group (Some mark) is = ap (λ o. option_map_or (λ own. is_same_group own group) o false) is ∙ self
  where
    self : is_same_group group group ≡ true
    self = and_from ((group.number == group.number) && bytes_eq group.queue group.queue) (option_eq bytes_eq group.consumer group.consumer)
        (and_from (group.number == group.number) (bytes_eq group.queue group.queue) (eq-eqb group.number group.number refl) ((bytes_eq-Decides group.queue group.queue).1 refl)) (consumer_self group.consumer)

pub grouped_there : (tables : List SessionEntries) (group : Group) (p : Place) → group_at tables p ≡ Some group → IsTrue (is_in_group_at tables group p)
grouped_there tables group p is = in_own_group group (mark_at tables p.session p.at) is

-- and the other way round
pub group_there : (tables : List SessionEntries) (group : Group) (p : Place) → is_in_group_at tables group p ≡ true → group_at tables p ≡ Some group
group_there tables group p h = by (mark_at tables p.session p.at) h
  where
    by : (e : Option Mark) → option_map_or (is_in_group group) e false ≡ true → group_in e ≡ Some group
    by None h = absurd (both_ways false refl h)
    by (Some mark) h = in_its_group mark group h

-- what equal names say, and the other way round
pub names_are : (queue : List ℕ) (consumer : Option (List ℕ)) (o : Option Group) → option_map_or (has_names queue consumer) o false ≡ true → (g : Group) → o ≡ Some g → (g.queue ≡ queue) × (g.consumer ≡ consumer)
names_are queue consumer None h g is = absurd (not_none g refl is)
names_are queue consumer (Some own) h g is =
    let both = and_parts (bytes_eq own.queue queue) (option_eq bytes_eq own.consumer consumer) h in
    let e = same_some own g is in
    (ap (λ x. x.queue) (sym e) ∙ (bytes_eq-Decides own.queue queue).0 both.0, ap (λ x. x.consumer) (sym e) ∙ same_consumer own.consumer consumer both.1)

names_from : (queue : List ℕ) (consumer : Option (List ℕ)) (g : Group) → g.queue ≡ queue → g.consumer ≡ consumer → has_names queue consumer g ≡ true
names_from queue consumer g e f =
    and_from (bytes_eq g.queue queue) (option_eq bytes_eq g.consumer consumer) ((bytes_eq-Decides g.queue queue).1 e) (let F : Option (List ℕ) → Type 0 = λ c. option_eq bytes_eq g.consumer c ≡ true in subst F f (consumer_self g.consumer))

module _ (tables : List SessionEntries) (I : GroupIndex) (group : Group) (index : IsGroupIndexOf tables I) (ranked : AreRanked tables) where
  -- each mark of the group has a rank in its class
  pub its_rank : (p : Place) → group_at tables p ≡ Some group → (r : ℕ) × (place_of I.classes (class_of group) r ≡ Some p)
  its_rank p is = by (rank_at tables p) refl (ranked p (class_of group) (ap (option_map class_of) is))
    where
      by : (o : Option ℕ) → rank_at tables p ≡ o → IsSome (rank_at tables p) → (r : ℕ) × (place_of I.classes (class_of group) r ≡ Some p)
      by None none some = absurd (both_ways false refl (sym (ap is_some none) ∙ some))
      by (Some r) at some = (r, index.index.found p (class_of group) r (ap (option_map class_of) is) at)

  below : (r : ℕ) (p : Place) → place_of I.classes (class_of group) r ≡ Some p → r < count_of I.classes (class_of group)
  below r p at = elim (cases_lt r (count_of I.classes (class_of group))) [ inl less ↦ less | inr past ↦ absurd (not_none p (index.index.dense.past (class_of group) r past) at) ]

  -- where no mark of the class is in the group, none is
  pub none_grouped : ((r : ℕ) (p : Place) → r < count_of I.classes (class_of group) → place_of I.classes (class_of group) r ≡ Some p → is_in_group_at tables group p ≡ false) → (p : Place) → is_in_group_at tables group p ≡ false
  none_grouped none p = false_from_ne_true (is_in_group_at tables group p) (λ it.
      let at = its_rank p (group_there tables group p it) in
      both_ways (is_in_group_at tables group p) (none at.0 p (below at.0 p at.1) at.1) it)

  -- where the class has no marks, none is in the group
  pub none_in_class : place_of I.classes (class_of group) 0 ≡ None → (p : Place) → is_in_group_at tables group p ≡ false
  none_in_class none = none_grouped (λ r p less at. absurd (both_ways (is_some (place_of I.classes (class_of group) 0)) (ap is_some none) (index.index.dense.below (class_of group) 0 (omega (arith, less)))))

  module _ (first : Place) (at : place_of I.classes (class_of group) 0 ≡ Some first) (pure : mixed_of I.classes (class_of group) ≡ false) where
    first_group : (g : Group) × (group_at tables first ≡ Some g)
    first_group = by (group_at tables first) refl
      where
        by : (o : Option Group) → group_at tables first ≡ o → (g : Group) × (group_at tables first ≡ Some g)
        by None none = absurd (not_none (class_of group) (ap (option_map class_of) none) (index.index.real (class_of group) 0 first at).0)
        by (Some g) is = (g, is)

    -- where the first mark of the class has other names, no mark is in the group
    pub none_by_names : has_names_at tables group.queue group.consumer first ≡ false → (p : Place) → is_in_group_at tables group p ≡ false
    none_by_names differs p = false_from_ne_true (is_in_group_at tables group p) (λ it.
        let its = group_there tables group p it in
        let there = its_rank p its in
        let other = first_group in
        let same = index.counts.alike (class_of group) 0 there.0 first p other.0 group pure at there.1 other.1 its in
        let named = names_from group.queue group.consumer other.0 same.0 same.1 in
        both_ways (has_names_at tables group.queue group.consumer first) differs (ap (λ o. option_map_or (has_names group.queue group.consumer) o false) other.1 ∙ named))

    numbers : ℕ → Option ℕ
    numbers r = number_in (group_at tables) (place_of I.classes (class_of group) r)

    -- where no mark has the number and the class, none is in the group
    pub none_by_number : option_map (λ it. it.session) (hold_in I.holds group.number (class_of group)) ≡ None → (p : Place) → is_in_group_at tables group p ≡ false
    none_by_number none p = false_from_ne_true (is_in_group_at tables group p) (λ it.
        let its = group_there tables group p it in
        let there = its_rank p its in
        let held = index.counts.held (class_of group) there.0 p group pure there.1 its in
        not_none p.session none held)

    -- where the first mark has the names, the session that the key tells has a mark of the group
    module _ (named : has_names_at tables group.queue group.consumer first ≡ true) (session : ℕ) (told : option_map (λ it. it.session) (hold_in I.holds group.number (class_of group)) ≡ Some session) where
      some_count : 0 < held_count (hold_in I.holds group.number (class_of group))
      some_count = by (hold_in I.holds group.number (class_of group)) refl
        where
          by : (o : Option GroupHold) → hold_in I.holds group.number (class_of group) ≡ o → 0 < held_count (hold_in I.holds group.number (class_of group))
          by None none = absurd (not_none session (ap (option_map (λ it. it.session)) none) told)
          by (Some it) is = rw is (index.counts.some group.number (class_of group) it is)

      pub some_by_number : (at : ℕ) × IsTrue (is_in_group_at tables group (record { session = session; at = at }))
      some_by_number =
          let counted = index.counts.counted group.number (class_of group) in
          let one = number_count_some (λ r. number_in (group_at tables) (place_of I.classes (class_of group) r)) group.number (count_of I.classes (class_of group)) (omega (arith, some_count, counted)) in
          by one.0 (place_of I.classes (class_of group) one.0) refl one.2
        where
          group_by : (r : ℕ) (p : Place) → place_of I.classes (class_of group) r ≡ Some p → (o : Option Group) → group_at tables p ≡ o → is_number group.number (option_map (λ it. it.number) (group_at tables p)) ≡ true → group_at tables p ≡ Some group
          group_by r p is None none number = absurd (both_ways false refl (sym (ap (λ o. is_number group.number (option_map (λ it. it.number) o)) none) ∙ number))
          group_by r p is (Some g) some number =
              let other = first_group in
              let same = index.counts.alike (class_of group) r 0 p first g other.0 pure is at some other.1 in
              let names = names_are group.queue group.consumer (group_at tables first) named other.0 other.1 in
              let its_number : group.number ≡ g.number = eqb-true group.number g.number (sym (ap (λ o. is_number group.number (option_map (λ it. it.number) o)) some) ∙ number) in
              some ∙ (λ i. Some (record { queue = (same.0 ∙ names.0) i; number = sym its_number i; consumer = (same.1 ∙ names.1) i }))

          by : (r : ℕ) (o : Option Place) → place_of I.classes (class_of group) r ≡ o → is_number group.number (number_in (group_at tables) (place_of I.classes (class_of group) r)) ≡ true → (k : ℕ) × IsTrue (is_in_group_at tables group (record { session = session; at = k }))
          by r None none number = absurd (both_ways false refl (sym (ap (λ o. is_number group.number (number_in (group_at tables) o)) none) ∙ number))
          by r (Some p) is number =
              let its = group_by r p is (group_at tables p) refl (sym (ap (λ o. is_number group.number (number_in (group_at tables) o)) is) ∙ number) in
              let held = index.counts.held (class_of group) r p group pure is its in
              let who : session ≡ p.session = same_some session p.session (sym told ∙ held) in
              let F : ℕ → Type 0 = λ s. (k : ℕ) × IsTrue (is_in_group_at tables group (record { session = s; at = k })) in
              subst F (sym who) (p.at, grouped_there tables group p its)

-- where no other session has marks in the group of a mark, only this one has any
pub alone_for : (tables : List SessionEntries) (session : ℕ) (mark : Mark) → NoOtherHasGroup (map shown tables) session mark → HasAlone tables session mark.group
alone_for tables session mark free p g its there = elim (cases_eq p.session session) [
  | inl own ↦ own
  | inr other ↦
      let marks = marks_of (map shown tables) p.session in
      absurd (both_ways (has_any_group mark.group marks) (free p.session other) (ap (λ o. has_any_group o marks) its ∙ somewhere tables g p (grouped_there tables g p there)))
]

pub if_some_map : (o : Option ℕ) {P Q : ℕ → Type 0} → ((s : ℕ) → P s → Q s) → IfSome o P → IfSome o Q
if_some_map None f p = tt
if_some_map (Some s) f p = f s p

-- what holds of the value, where there is one, and what holds where there is none
pub if_some_told : (o : Option ℕ) (P : ℕ → Type 0) → ((s : ℕ) → o ≡ Some s → P s) → IfSome o P
if_some_told None P told = tt
if_some_told (Some s) P told = told s refl

pub if_none_told : (o : Option ℕ) (P : Type 0) → (o ≡ None → P) → IfNone o P
if_none_told None P told = told refl
if_none_told (Some s) P told = tt
