-- Rows of which none is the same as another, met one by one.
use Rattle.std.proofs.Common.{◌≡◌, List, [], ◌∷◌, ◌++◌, Bool, true, false, not, ◌&&◌, ◌||◌, inl, inr, refl, sym, ◌∙◌, ap, append_assoc, append-nil}
use Rattle.std.specs.List.{list_any}
use Rattle.std.proofs.lemmas.Bool.{and_parts, cases_Bool, or_parts}
use Rattle.std.proofs.lemmas.List.Folds.{list_any-append}
use Rattle.queue_rows.specs.Distinct.{are_distinct}

module _ {X : Type 0} (same : X → X → Bool) where
  -- an item of the list is the same as this one
  abbrev pub has_same : List X → X → Bool
  has_same done x = list_any (λ d. same d x) done

  false_right : (a b : Bool) → b ≡ false → (a && b) ≡ false
  false_right true b h = h
  false_right false b h = refl

  none_but_one : (d x : X) (rest : List X) (b : Bool) → same d x ≡ true → (b || list_any (same d) (x ∷ rest)) ≡ true
  none_but_one d x rest true h = refl
  none_but_one d x rest false h = ap (λ s. s || list_any (same d) rest) h

  -- where an item is the same as one before it
  pub repeated : (done : List X) (x : X) (rest : List X) → has_same done x ≡ true → are_distinct same (done ++ x ∷ rest) ≡ false
  repeated [] x rest h = cc
  repeated (d ∷ done) x rest h = elim (cases_Bool (same d x)) [
    | inl here ↦
        let again : list_any (same d) (done ++ x ∷ rest) ≡ true = list_any-append (same d) done (x ∷ rest) ∙ none_but_one d x rest (list_any (same d) done) here in
        ap (λ b. not b && are_distinct same (done ++ x ∷ rest)) again
    | inr elsewhere ↦
        let later : has_same done x ≡ true = sym (ap (λ b. b || has_same done x) elsewhere) ∙ h in
        false_right (not (list_any (same d) (done ++ x ∷ rest))) (are_distinct same (done ++ x ∷ rest)) (repeated done x rest later)
  ]

  not_true : (b : Bool) → not b ≡ true → b ≡ false
  not_true true h = sym h
  not_true false h = refl

  still_distinct : (a b c : Bool) → a ≡ false → b ≡ false → c ≡ true → (not (a || (b || false)) && c) ≡ true
  still_distinct true b c p q r = cc
  still_distinct false true c p q r = cc
  still_distinct false false c p q r = r

  -- where an item is the same as none before it
  pub fresh : (done : List X) (x : X) → are_distinct same done ≡ true → has_same done x ≡ false → are_distinct same (done ++ x ∷ []) ≡ true
  fresh [] x distinct h = refl
  fresh (d ∷ done) x distinct h =
      let each = or_parts (same d x) (has_same done x) h in
      let both = and_parts (not (list_any (same d) done)) (are_distinct same done) distinct in
      ap (λ b. not b && are_distinct same (done ++ x ∷ [])) (list_any-append (same d) done (x ∷ []))
      ∙ still_distinct (list_any (same d) done) (same d x) (are_distinct same (done ++ x ∷ [])) (not_true (list_any (same d) done) both.0) each.0 (fresh done x both.1 each.1)

  -- ---- met one by one

  -- none of the items so far is the same as another, and `has` tells which items were met
  pub record Met (done : List X) (has : X → Bool) : Type 0 where
    pub distinct : are_distinct same done ≡ true
    pub each : (x : X) → has x ≡ has_same done x

  -- what is left of the list, where the items in front of it were met
  abbrev pub Left : List X → List X → (X → Bool) → Type 0
  Left all rest has = (done : List X) × (done ++ rest ≡ all) × Met done has

  pub met_none : (all : List X) (has : X → Bool) → ((x : X) → has x ≡ false) → Left all all has
  met_none all has none = ([], refl, record { distinct = refl; each = none })

  or_either : (a b : Bool) → (a || b) ≡ (b || (a || false))
  or_either true true = refl
  or_either true false = refl
  or_either false true = refl
  or_either false false = refl

  pub met_more : (all rest more : List X) (x : X) (has after : X → Bool) → Left all rest has → rest ≡ x ∷ more → has x ≡ false → ((y : X) → after y ≡ (same x y || has y)) → Left all more after
  met_more all rest more x has after (done, whole, met) split new grown = (
    done ++ x ∷ [],
    append_assoc done (x ∷ []) more ∙ ap (λ r. done ++ r) (sym split) ∙ whole,
    record {
      distinct = fresh done x met.distinct (sym (met.each x) ∙ new);
      each = λ y. grown y ∙ ap (λ b. same x y || b) (met.each y) ∙ or_either (same x y) (has_same done y) ∙ sym (list_any-append (λ d. same d y) done (x ∷ []));
    },
  )

  pub met_again : (all rest more : List X) (x : X) (has : X → Bool) → Left all rest has → rest ≡ x ∷ more → has x ≡ true → are_distinct same all ≡ false
  met_again all rest more x has (done, whole, met) split old =
      ap (are_distinct same) (sym whole ∙ ap (λ r. done ++ r) split) ∙ repeated done x more (sym (met.each x) ∙ old)

  pub met_all : (all rest : List X) (has : X → Bool) → Left all rest has → rest ≡ [] → are_distinct same all ≡ true
  met_all all rest has (done, whole, met) none = ap (are_distinct same) (sym whole ∙ ap (λ r. done ++ r) none ∙ append-nil done) ∙ met.distinct
