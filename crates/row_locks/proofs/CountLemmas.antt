-- How the counts of groups follow the marks that come and go.
use Rattle.std.proofs.Common.{◌≡◌, ℕ, suc, ◌<◌, ◌+◌, ◌-◌, ◌==◌, Bool, true, false, cond, ◌||◌, ◌⊎◌, inl, inr, Option, Some, None, is_some, nat_eq, refl, sym, ◌∙◌, ap, subst, arith}
use Rattle.std.specs.Option.{option_map}
use Rattle.std.proofs.lemmas.Bool.{cases_eq, cases_lt, cases_Bool, eqb-true, eq-eqb, both_ways, false_from_ne_true}
use Rattle.row_locks.specs.Entries.{is_same_slot}
use Rattle.row_locks.specs.Groups.{class_of, is_same_rank, is_same_class, held_count, counted_in, counted_out, number_in, is_number, number_count, SameNames, DiffersAt, IsDense, IsClassIndex, AreCounted}
use Rattle.row_locks.specs.declared.classes.Place.{Place}
use Rattle.row_locks.specs.declared.holds.GroupHold.{GroupHold}
use Rattle.slot_marks.specs.declared.mark.Group.{Group}
use Rattle.row_locks.proofs.CellLemmas.{same_rank, rank_is, key_is}
use Rattle.row_locks.proofs.GroupLemmas.{not_none, same_some, chosen, passed, apart, other_key, cases_key}
use Rattle.row_locks.proofs.SlotLemmas.{same_key, key_is as pair_is}
use Rattle.row_locks.proofs.NumberCountLemmas.{one, number_count_same, number_count_changed, number_count_one}

-- each mark in the index is of the group that it was
pub counted_same : (G G' : Place → Option Group) (P : ℕ → ℕ → Option Place) (C : ℕ → ℕ) (M : ℕ → Bool) (H : ℕ → ℕ → Option GroupHold) → AreCounted G P C M H
    → ((k r : ℕ) (p : Place) → P k r ≡ Some p → G' p ≡ G p) → AreCounted G' P C M H
counted_same G G' P C M H counts same = record {
  counted = λ n k. counts.counted n k ∙ sym (number_count_same (λ r. number_in G (P k r)) (λ r. number_in G' (P k r)) n (C k) (λ r below. number k r (P k r) refl));
  some = counts.some;
  alike = λ k r s p q g h pure at_r at_s its other. counts.alike k r s p q g h pure at_r at_s (sym (same k r p at_r) ∙ its) (sym (same k s q at_s) ∙ other);
  held = λ k r p g pure at its. counts.held k r p g pure at (sym (same k r p at) ∙ its);
}
  where
    number : (k r : ℕ) (o : Option Place) → P k r ≡ o → number_in G' o ≡ number_in G o
    number k r None is = refl
    number k r (Some p) is = ap (option_map (λ it. it.number)) (same k r p is)

-- the same index, told in another way
pub counted_told : (G : Place → Option Group) (P P' : ℕ → ℕ → Option Place) (C C' : ℕ → ℕ) (M M' : ℕ → Bool) (H H' : ℕ → ℕ → Option GroupHold) → AreCounted G P C M H
    → ((k r : ℕ) → P' k r ≡ P k r) → ((k : ℕ) → C' k ≡ C k) → ((k : ℕ) → M' k ≡ M k) → ((n k : ℕ) → H' n k ≡ H n k) → AreCounted G P' C' M' H'
counted_told G P P' C C' M M' H H' counts places totals mixed holds =
    subst (λ (w : (ℕ → ℕ → Option Place) × (ℕ → ℕ) × (ℕ → Bool) × (ℕ → ℕ → Option GroupHold)). AreCounted G w.0 w.1 w.2 w.3)
    (λ i. (λ k r. sym (places k r) i, λ k. sym (totals k) i, λ k. sym (mixed k) i, λ n k. sym (holds n k) i)) counts

-- one mark less is counted
out_count : (o : Option GroupHold) → held_count (counted_out o) ≡ held_count o - 1
out_count None = refl
out_count (Some it) = elim (cases_Bool (it.count - 1 == 0)) [ inl none ↦ rw none (sym (eqb-true (it.count - 1) 0 none)) | inr some ↦ rw some refl ]

out_some : (o : Option GroupHold) (it : GroupHold) → counted_out o ≡ Some it → 0 < it.count
out_some None it is = cc is
out_some (Some had) it is = elim (cases_Bool (had.count - 1 == 0)) [
  | inl none ↦ absurd (let e : None ≡ Some it = rw none at is in cc e)
  | inr some ↦
      let left : Some (record { session = had.session; count = had.count - 1 }) ≡ Some it = rw some at is in
      let count : had.count - 1 ≡ it.count = ap (λ x. held_count x) left in
      elim (cases_eq (had.count - 1) 0) [ inl e ↦ absurd (both_ways (had.count - 1 == 0) some (eq-eqb (had.count - 1) 0 e)) | inr ne ↦ omega (arith, count) ]
]

out_session : (o : Option GroupHold) → 0 < held_count (counted_out o) → option_map (λ it. it.session) (counted_out o) ≡ option_map (λ it. it.session) o
out_session None some = absurd (omega (arith, some))
out_session (Some had) some = elim (cases_Bool (had.count - 1 == 0)) [
  | inl none ↦ absurd (let left : 0 < 0 = rw none at some in omega (arith, left))
  | inr left ↦ rw left refl
]

module _ (G : Place → Option Group) (R : Place → Option ℕ) (P P' : ℕ → ℕ → Option Place) (C C' : ℕ → ℕ) (M M' : ℕ → Bool) (H H' : ℕ → ℕ → Option GroupHold) (g : Group)
    (counts : AreCounted G P C M H) (index : IsClassIndex (λ p. option_map class_of (G p)) R P C) where
  module _ (G' : Place → Option Group) (place : Place) (differs : Bool) (vacant : G place ≡ None) (groups : DiffersAt G G' place (Some g))
      (places : (k r : ℕ) → P' k r ≡ cond (is_same_rank (class_of g) (C (class_of g)) k r) (Some place) (P k r))
      (totals : (k : ℕ) → C' k ≡ cond (is_same_class (class_of g) k) (C (class_of g) + 1) (C k))
      (mixed : (k : ℕ) → M' k ≡ cond (is_same_class (class_of g) k) (M (class_of g) || differs) (M k))
      (holds : (n k : ℕ) → H' n k ≡ cond (is_same_slot (g.number, class_of g) (n, k)) (Some (counted_in place.session (H g.number (class_of g)))) (H n k))
      (alone : (p : Place) → G p ≡ Some g → p.session ≡ place.session)
      (first : differs ≡ false → (p : Place) (h : Group) → P (class_of g) 0 ≡ Some p → G p ≡ Some h → SameNames h g) where
    abbrev key : ℕ
    key = class_of g

    -- a mark that was there is another one, and is of the group that it was
    stays : (k r : ℕ) (p : Place) → P k r ≡ Some p → G' p ≡ G p
    stays k r p is = groups.elsewhere p (λ e. not_none k (ap (λ x. option_map class_of (G x)) e ∙ ap (option_map class_of) vacant) (index.real k r p is).0)

    number : (k r : ℕ) (o : Option Place) → P k r ≡ o → number_in G' o ≡ number_in G o
    number k r None is = refl
    number k r (Some p) is = ap (option_map (λ it. it.number)) (stays k r p is)

    -- the numbers at ranks that had marks are the same
    numbers : (k r : ℕ) → is_same_rank key (C key) k r ≡ false → number_in G' (P' k r) ≡ number_in G (P k r)
    numbers k r off = ap (number_in G') (passed _ _ _ (places k r) off) ∙ number k r (P k r) refl

    last : number_in G' (P' key (C key)) ≡ Some g.number
    last = ap (number_in G') (chosen _ _ _ (places key (C key)) (rank_is key key (C key) (C key) refl refl)) ∙ ap (option_map (λ it. it.number)) groups.here

    below : (r : ℕ) → r < C key → is_same_rank key (C key) key r ≡ false
    below r less = apart key key (C key) r (λ e. absurd (let at = e.1 in omega arith))

    put_own : (n : ℕ) → held_count (H' n key) ≡ number_count (λ r. number_in G' (P' key r)) n (C' key)
    put_own n =
        let N : ℕ → Option ℕ = λ r. number_in G' (P' key r) in
        let total : C' key ≡ suc (C key) = let t = chosen _ _ _ (totals key) (key_is key key refl) in omega (arith, t) in
        let before : number_count N n (C key) ≡ number_count (λ r. number_in G (P key r)) n (C key) = number_count_same (λ r. number_in G (P key r)) N n (C key) (λ r less. numbers key r (below r less)) in
        let was = counts.counted n key in
        let added : number_count N n (C' key) ≡ number_count N n (C key) + one n (Some g.number) = ap (number_count N n) total ∙ ap (λ o. number_count N n (C key) + one n o) last in
        elim (cases_eq n g.number) [
          | inl here ↦
              let now : H' n key ≡ Some (counted_in place.session (H g.number key)) = chosen _ _ _ (holds n key) (pair_is (g.number, key) (n, key) (λ i. (sym here i, key))) in
              let more : held_count (H' n key) ≡ held_count (H g.number key) + 1 = ap held_count now in
              let its : held_count (H g.number key) ≡ held_count (H n key) = ap (λ m. held_count (H m key)) (sym here) in
              let it : one n (Some g.number) ≡ 1 = ap {B = ℕ} (λ b. cond b 1 0) (eq-eqb n g.number here) in
              omega (arith, more, its, it, added, before, was)
          | inr elsewhere ↦
              let now : H' n key ≡ H n key = passed _ _ _ (holds n key) (false_from_ne_true (is_same_slot (g.number, key) (n, key)) (λ e. elsewhere (sym (ap (λ x. x.0) (same_key (g.number, key) (n, key) e))))) in
              let same : held_count (H' n key) ≡ held_count (H n key) = ap held_count now in
              let it : one n (Some g.number) ≡ 0 = ap {B = ℕ} (λ b. cond b 1 0) (false_from_ne_true (nat_eq n g.number) (λ e. elsewhere (eqb-true n g.number e))) in
              omega (arith, same, it, added, before, was)
        ]

    put_other : (n k : ℕ) → (key ≡ k → ⊥) → held_count (H' n k) ≡ number_count (λ r. number_in G' (P' k r)) n (C' k)
    put_other n k off =
        let total : C' k ≡ C k = passed _ _ _ (totals k) (other_key key k off) in
        let now : H' n k ≡ H n k = passed _ _ _ (holds n k) (false_from_ne_true (is_same_slot (g.number, key) (n, k)) (λ e. off (ap (λ x. x.1) (same_key (g.number, key) (n, k) e)))) in
        ap held_count now ∙ counts.counted n k ∙ sym (ap (number_count (λ r. number_in G' (P' k r)) n) total ∙ number_count_same (λ r. number_in G (P k r)) (λ r. number_in G' (P' k r)) n (C k) (λ r less. numbers k r (apart key k (C key) r (λ e. off e.0))))

    pure_before : (k : ℕ) → M' k ≡ false → M k ≡ false
    pure_before k pure = elim (cases_key key k) [
      | inl same ↦
          let both : M key || differs ≡ false = sym (chosen _ _ _ (mixed k) (key_is key k same)) ∙ pure in
          ap M (sym same) ∙ neither (M key) differs both
      | inr off ↦ sym (passed _ _ _ (mixed k) (other_key key k off)) ∙ pure
    ]
      where
        neither : (a b : Bool) → a || b ≡ false → a ≡ false
        neither true b e = absurd (both_ways true e refl)
        neither false b e = refl

    same_names : M' key ≡ false → differs ≡ false
    same_names pure = second (M key) differs (sym (chosen _ _ _ (mixed key) (key_is key key refl)) ∙ pure)
      where
        second : (a b : Bool) → a || b ≡ false → b ≡ false
        second true b e = absurd (both_ways true e refl)
        second false b e = e

    -- the new mark, or one that was there
    where_put : (k r : ℕ) (p : Place) → P' k r ≡ Some p → ((key ≡ k) × (p ≡ place)) ⊎ (P k r ≡ Some p)
    where_put k r p is = elim (cases_Bool (is_same_rank key (C key) k r)) [
      | inl here ↦ inl ((same_rank key k (C key) r here).0, sym (same_some place p (sym (chosen _ _ _ (places k r) here) ∙ is)))
      | inr off ↦ inr (sym (passed _ _ _ (places k r) off) ∙ is)
    ]

    own_group : (p : Place) (h : Group) → p ≡ place → G' p ≡ Some h → h ≡ g
    own_group p h e its = sym (same_some g h (sym groups.here ∙ ap G' (sym e) ∙ its))

    -- a mark of the class that was there has the names of the new one
    old_names : M' key ≡ false → (r : ℕ) (p : Place) (h : Group) → P key r ≡ Some p → G p ≡ Some h → SameNames h g
    old_names pure r p h is its = by (P key 0) refl
      where
        with_first : (q : Place) → P key 0 ≡ Some q → (o : Option Group) → G q ≡ o → SameNames h g
        with_first q at None none = absurd (not_none key (ap (option_map class_of) none) (index.real key 0 q at).0)
        with_first q at (Some f) some =
            let alike = counts.alike key r 0 p q h f (pure_before key pure) is at its some in
            let new = first (same_names pure) q f at some in
            (alike.0 ∙ new.0, alike.1 ∙ new.1)

        by : (o : Option Place) → P key 0 ≡ o → SameNames h g
        by None none =
            let some : 0 < C key = elim (cases_lt r (C key)) [ inl less ↦ omega arith | inr past ↦ absurd (not_none p (index.dense.past key r past) is) ] in
            absurd (both_ways (is_some (P key 0)) (ap is_some none) (index.dense.below key 0 some))
        by (Some q) at = with_first q at (G q) refl

    pub put_counted : AreCounted G' P' C' M' H'
    put_counted = record {
      counted = λ n k. elim (cases_key key k) [
        | inl same ↦ let F : ℕ → Type 0 = λ x. held_count (H' n x) ≡ number_count (λ r. number_in G' (P' x r)) n (C' x) in subst F same (put_own n)
        | inr off ↦ put_other n k off
      ];
      some = λ n k it is. elim (cases_Bool (is_same_slot (g.number, key) (n, k))) [
        | inl here ↦
            let e = same_some (counted_in place.session (H g.number key)) it (sym (chosen _ _ _ (holds n k) here) ∙ is) in
            let count = ap (λ x. x.count) e in
            omega (arith, count)
        | inr off ↦ counts.some n k it (sym (passed _ _ _ (holds n k) off) ∙ is)
      ];
      alike = λ k r s p q h f pure at_r at_s its other. elim (where_put k r p at_r) [
        | inl new_p ↦
            let own = own_group p h new_p.1 its in
            elim (where_put k s q at_s) [
              | inl new_q ↦ let also = own_group q f new_q.1 other in (ap (λ x. x.queue) (own ∙ sym also), ap (λ x. x.consumer) (own ∙ sym also))
              | inr was ↦
                  let F : ℕ → Type 0 = λ x. (M' x ≡ false) × (P x s ≡ Some q) in
                  let at = subst F (sym new_p.0) (pure, was) in
                  let names = old_names at.0 s q f at.1 (sym (stays k s q was) ∙ other) in
                  (ap (λ x. x.queue) own ∙ sym names.0, ap (λ x. x.consumer) own ∙ sym names.1)
            ]
        | inr was_p ↦ elim (where_put k s q at_s) [
          | inl new_q ↦
              let also = own_group q f new_q.1 other in
              let F : ℕ → Type 0 = λ x. (M' x ≡ false) × (P x r ≡ Some p) in
              let at = subst F (sym new_q.0) (pure, was_p) in
              let names = old_names at.0 r p h at.1 (sym (stays k r p was_p) ∙ its) in
              (names.0 ∙ ap (λ x. x.queue) (sym also), names.1 ∙ ap (λ x. x.consumer) (sym also))
          | inr was_q ↦ counts.alike k r s p q h f (pure_before k pure) was_p was_q (sym (stays k r p was_p) ∙ its) (sym (stays k s q was_q) ∙ other)
        ]
      ];
      held = λ k r p h pure at its. elim (where_put k r p at) [
        | inl new ↦
            let own = own_group p h new.1 its in
            let here : H' h.number k ≡ Some (counted_in place.session (H g.number key)) = chosen _ _ _ (holds h.number k) (pair_is (g.number, key) (h.number, k) (λ i. (sym (ap (λ x. x.number) own) i, new.0 i))) in
            ap (option_map (λ it. it.session)) here ∙ ap (λ x. Some x.session) (sym new.1)
        | inr was ↦
            let its_was : G p ≡ Some h = sym (stays k r p was) ∙ its in
            elim (cases_Bool (is_same_slot (g.number, key) (h.number, k))) [
              | inl here ↦
                  let e = same_key (g.number, key) (h.number, k) here in
                  let F : ℕ → Type 0 = λ x. (M' x ≡ false) × (P x r ≡ Some p) in
                  let old = subst F (sym (ap (λ x. x.1) e)) (pure, was) in
                  let names = old_names old.0 r p h old.1 its_was in
                  let it : h ≡ g = λ i. record { queue = names.0 i; number = sym (ap (λ x. x.0) e) i; consumer = names.1 i } in
                  ap (option_map (λ it. it.session)) (chosen _ _ _ (holds h.number k) here) ∙ ap Some (sym (alone p (its_was ∙ ap Some it)))
              | inr off ↦ ap (option_map (λ it. it.session)) (passed _ _ _ (holds h.number k) off) ∙ counts.held k r p h (pure_before k pure) was its_was
            ]
      ];
    }

  module _ (rank : ℕ) (p : Place) (its : G p ≡ Some g) (at : P (class_of g) rank ≡ Some p) (dense : IsDense P' C')
      (places : (k r : ℕ) → P' k r ≡ cond (is_same_rank (class_of g) (C (class_of g) - 1) k r) None (cond (is_same_rank (class_of g) rank k r) (P (class_of g) (C (class_of g) - 1)) (P k r)))
      (totals : (k : ℕ) → C' k ≡ cond (is_same_class (class_of g) k) (C (class_of g) - 1) (C k))
      (mixed : (k : ℕ) → 0 < C' k → M' k ≡ M k)
      (holds : (n k : ℕ) → H' n k ≡ cond (is_same_slot (g.number, class_of g) (n, k)) (counted_out (H g.number (class_of g))) (H n k)) where
    abbrev names : ℕ
    names = class_of g

    inside : rank < C names
    inside = elim (cases_lt rank (C names)) [ inl less ↦ less | inr past ↦ absurd (not_none p (index.dense.past names rank past) at) ]

    -- the places at ranks below the last one
    rest : (k r : ℕ) → ((names ≡ k) × (C names - 1 ≡ r) → ⊥) → ((names ≡ k) × (rank ≡ r) → ⊥) → P' k r ≡ P k r
    rest k r off_last off = passed _ _ _ (passed _ _ _ (places k r) (apart names k (C names - 1) r off_last)) (apart names k rank r off)

    fewer : (n : ℕ) → number_count (λ r. number_in G (P' names r)) n (C' names) + one n (Some g.number) ≡ number_count (λ r. number_in G (P names r)) n (C names)
    fewer n =
        let f : ℕ → Option ℕ = λ r. number_in G (P names r) in
        let f' : ℕ → Option ℕ = λ r. number_in G (P' names r) in
        let last : ℕ = C names - 1 in
        let total : C' names ≡ last = chosen _ _ _ (totals names) (key_is names names refl) in
        let all : number_count f n (C names) ≡ number_count f n last + one n (f last) = ap (number_count f n) (let e : C names ≡ suc last = omega (arith, inside) in e) in
        let own : f rank ≡ Some g.number = ap (number_in G) at ∙ ap (option_map (λ it. it.number)) its in
        let now : number_count f' n (C' names) ≡ number_count f' n last = ap (number_count f' n) total in
        let gone : one n (f rank) ≡ one n (Some g.number) = ap (one n) own in
        elim (cases_eq rank last) [
          | inl is_last ↦
              let same : number_count f' n last ≡ number_count f n last = number_count_same f f' n last (λ r less. ap (number_in G) (rest names r (λ e. absurd (let x = e.1 in omega arith)) (λ e. absurd (let x = e.1 in omega arith)))) in
              let here : one n (f last) ≡ one n (f rank) = ap (λ r. one n (f r)) (sym is_last) in
              omega (arith, all, now, gone, same, here)
          | inr not_last ↦
              let inner = passed _ _ _ (places names rank) (apart names names last rank (λ e. not_last (sym e.1))) in
              let over : f' rank ≡ f last = ap (number_in G) (chosen _ _ _ inner (rank_is names names rank rank refl refl)) in
              let changed = number_count_changed f f' n last rank (omega (arith, inside)) (λ r less ne. ap (number_in G) (rest names r (λ e. absurd (let x = e.1 in omega arith)) (λ e. ne (sym e.1)))) in
              let moved : one n (f' rank) ≡ one n (f last) = ap (one n) over in
              omega (arith, all, now, gone, changed, moved)
        ]

    take_own : (n : ℕ) → held_count (H' n names) ≡ number_count (λ r. number_in G (P' names r)) n (C' names)
    take_own n =
        let was = counts.counted n names in
        let less = fewer n in
        elim (cases_eq n g.number) [
          | inl here ↦
              let now : H' n names ≡ counted_out (H g.number names) = chosen _ _ _ (holds n names) (pair_is (g.number, names) (n, names) (λ i. (sym here i, names))) in
              let left : held_count (H' n names) ≡ held_count (H g.number names) - 1 = ap held_count now ∙ out_count (H g.number names) in
              let own : held_count (H g.number names) ≡ held_count (H n names) = ap (λ m. held_count (H m names)) (sym here) in
              let it : one n (Some g.number) ≡ 1 = ap {B = ℕ} (λ b. cond b 1 0) (eq-eqb n g.number here) in
              omega (arith, was, less, left, own, it)
          | inr elsewhere ↦
              let now : H' n names ≡ H n names = passed _ _ _ (holds n names) (false_from_ne_true (is_same_slot (g.number, names) (n, names)) (λ e. elsewhere (sym (ap (λ x. x.0) (same_key (g.number, names) (n, names) e))))) in
              let same : held_count (H' n names) ≡ held_count (H n names) = ap held_count now in
              let it : one n (Some g.number) ≡ 0 = ap {B = ℕ} (λ b. cond b 1 0) (false_from_ne_true (nat_eq n g.number) (λ e. elsewhere (eqb-true n g.number e))) in
              omega (arith, was, less, same, it)
        ]

    take_other : (n k : ℕ) → (names ≡ k → ⊥) → held_count (H' n k) ≡ number_count (λ r. number_in G (P' k r)) n (C' k)
    take_other n k off =
        let total : C' k ≡ C k = passed _ _ _ (totals k) (other_key names k off) in
        let now : H' n k ≡ H n k = passed _ _ _ (holds n k) (false_from_ne_true (is_same_slot (g.number, names) (n, k)) (λ e. off (ap (λ x. x.1) (same_key (g.number, names) (n, k) e)))) in
        ap held_count now ∙ counts.counted n k ∙ sym (ap (number_count (λ r. number_in G (P' k r)) n) total ∙ number_count_same (λ r. number_in G (P k r)) (λ r. number_in G (P' k r)) n (C k) (λ r less. ap (number_in G) (rest k r (λ e. off e.0) (λ e. off e.0))))

    -- a mark that is left was there, at some rank
    where_left : (k r : ℕ) (q : Place) → P' k r ≡ Some q → (s : ℕ) × (P k s ≡ Some q)
    where_left k r q is = elim (cases_Bool (is_same_rank names (C names - 1) k r)) [
      | inl gone ↦ absurd (not_none q (chosen _ _ _ (places k r) gone) is)
      | inr left ↦
          let inner = passed _ _ _ (places k r) left in
          elim (cases_Bool (is_same_rank names rank k r)) [
            | inl here ↦ (C names - 1, ap (λ x. P x (C names - 1)) (sym (same_rank names k rank r here).0) ∙ sym (chosen _ _ _ inner here) ∙ is)
            | inr elsewhere ↦ (r, sym (passed _ _ _ inner elsewhere) ∙ is)
          ]
    ]

    ranked : (k r : ℕ) (q : Place) → P' k r ≡ Some q → r < C' k
    ranked k r q is = elim (cases_lt r (C' k)) [ inl less ↦ less | inr past ↦ absurd (not_none q (dense.past k r past) is) ]

    pure_then : (k r : ℕ) (q : Place) → P' k r ≡ Some q → M' k ≡ false → M k ≡ false
    pure_then k r q is pure = sym (mixed k (let below = ranked k r q is in omega arith)) ∙ pure

    pub take_counted : AreCounted G P' C' M' H'
    take_counted = record {
      counted = all_counted;
      some = λ n k it is. elim (cases_Bool (is_same_slot (g.number, names) (n, k))) [
        | inl here ↦ out_some (H g.number names) it (sym (chosen _ _ _ (holds n k) here) ∙ is)
        | inr off ↦ counts.some n k it (sym (passed _ _ _ (holds n k) off) ∙ is)
      ];
      alike = λ k r s q x h f pure at_r at_s its other.
          let one_was = where_left k r q at_r in
          let two_was = where_left k s x at_s in
          counts.alike k one_was.0 two_was.0 q x h f (pure_then k r q at_r pure) one_was.1 two_was.1 its other;
      held = λ k r q h pure at its.
          let was = where_left k r q at in
          let held = counts.held k was.0 q h (pure_then k r q at pure) was.1 its in
          elim (cases_Bool (is_same_slot (g.number, names) (h.number, k))) [
            | inl here ↦
                let e = same_key (g.number, names) (h.number, k) here in
                let now : H' h.number k ≡ counted_out (H g.number names) = chosen _ _ _ (holds h.number k) here in
                let number : is_number h.number (number_in G (P' k r)) ≡ true = ap (λ o. is_number h.number (number_in G o)) at ∙ ap (λ o. is_number h.number (option_map (λ it. it.number) o)) its ∙ eq-eqb h.number h.number refl in
                let positive = number_count_one (λ x. number_in G (P' k x)) h.number (C' k) r (ranked k r q at) number in
                let count = all_counted h.number k in
                let left = ap held_count now in
                let some : 0 < held_count (counted_out (H g.number names)) = omega (arith, positive, count, left) in
                ap (option_map (λ it. it.session)) now ∙ out_session (H g.number names) some ∙ (λ i. option_map (λ it. it.session) (H (e i).0 (e i).1)) ∙ held
            | inr off ↦ ap (option_map (λ it. it.session)) (passed _ _ _ (holds h.number k) off) ∙ held
          ];
    }
      where
        all_counted : (n k : ℕ) → held_count (H' n k) ≡ number_count (λ r. number_in G (P' k r)) n (C' k)
        all_counted n k = elim (cases_key names k) [
          | inl same ↦ let F : ℕ → Type 0 = λ x. held_count (H' n x) ≡ number_count (λ r. number_in G (P' x r)) n (C' x) in subst F same (take_own n)
          | inr off ↦ take_other n k off
        ]
