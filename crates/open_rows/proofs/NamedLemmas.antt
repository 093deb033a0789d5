-- Rows that are found by their names, as they are changed and taken out.
use Rattle.std.proofs.Common.{◌≡◌, ℕ, zero, suc, ◌<◌, List, [], ◌∷◌, length, Bool, true, false, cond, not, filter, Option, Some, None, refl, sym, ap, ◌∙◌, subst, arith}
use Rattle.std.specs.Prelude.{find, position, remove, slice_get, slice_set, IfSome}
use Rattle.std.specs.Option.{option_map_or}
use Rattle.std.specs.Str.{bytes_eq}
use Rattle.std.proofs.lemmas.List.{length-set}
use Rattle.std.proofs.lemmas.Option.{slice_get-get_or}
use Rattle.std.proofs.lemmas.Map.Lookups.{exact_bytes}
use Rattle.std.specs.Cmp.Lexicographic.{slice_cmp, texts_ties}
use Rattle.std.specs.Ordering.{is_eq, nat_cmp}
use Rattle.std.specs.declared.cmp.Ordering.{Ordering}
use Rattle.std.specs.declared.cmp.Ordering.TheVariants.{Less, Equal, Greater}
use Rattle.row_tree.specs.Edits.{edit_at}
use Rattle.open_rows.proofs.FindLemmas.{find-at_position, find-no_position, find-passes}

module _ {X : Type 0} where
  pub edited_len : (rows : List X) (at : ℕ) (change : X → X) → length (edit_at rows at change) ≡ length rows
  edited_len rows at change =
      let Q : Option X → Type 0 = λ o. length (option_map_or (λ row. slice_set rows at (change row)) o rows) ≡ length rows in
      elim (slice_get rows at) as Q [ None ↦ refl | Some row ↦ length-set rows at (change row) ]

  -- the row at an index, replaced
  pub replaced_at : (rows : List X) (at : ℕ) (row : X) → at < length rows → edit_at rows at (λ _. row) ≡ slice_set rows at row
  replaced_at rows at row within =
      let there = slice_get-get_or rows at row within in
      ap (λ (o : Option X). option_map_or (λ _. slice_set rows at row) o rows) there

  -- a row that goes leaves those that stay
  pub stays_without : (goes : X → Bool) (rows : List X) (at : ℕ) (row : X) → slice_get rows at ≡ Some row → goes row ≡ true
      → filter (λ x. not (goes x)) (remove rows at) ≡ filter (λ x. not (goes x)) rows
  stays_without goes [] at row there is = cc there
  stays_without goes (x ∷ xs) zero row there is =
      let first : x ≡ row = cc there in
      sym (ap (λ b. cond (not b) (x ∷ filter (λ y. not (goes y)) xs) (filter (λ y. not (goes y)) xs)) (ap goes first ∙ is))
  stays_without goes (x ∷ xs) (suc at) row there is =
      ap (λ rest. cond (not (goes x)) (x ∷ rest) rest) (stays_without goes xs at row there is)

  none_within : (rows : List X) (at : ℕ) → slice_get rows at ≡ None → at < length rows → ⊥
  none_within [] at none within = omega (arith, within)
  none_within (x ∷ xs) zero none within = cc none
  none_within (x ∷ xs) (suc at) none within = none_within xs at none (omega (arith, within))

  -- the row at a position passes
  pub record Passes (test : X → Bool) (rows : List X) (at : ℕ) : Type 0 where
    pub row : X
    pub there : slice_get rows at ≡ Some row
    pub passes : test row ≡ true

  pub passes_at : (test : X → Bool) (rows : List X) (at : ℕ) → position test rows ≡ Some at → at < length rows → Passes test rows at
  passes_at test rows at found within = by (slice_get rows at) refl
    where
      by : (o : Option X) → slice_get rows at ≡ o → Passes test rows at
      by None is = absurd (none_within rows at is within)
      by (Some row) is = record { row = row; there = is; passes = find-passes test rows row (find-at_position test rows at found ∙ is) }

  -- what is at no position is left as it is
  pub all_stay : (goes : X → Bool) (rows : List X) → position goes rows ≡ None → filter (λ x. not (goes x)) rows ≡ rows
  all_stay goes rows none = by rows (find-no_position goes rows none)
    where
      by : (xs : List X) → find goes xs ≡ None → filter (λ x. not (goes x)) xs ≡ xs
      by [] e = refl
      by (x ∷ xs) e =
          let rest = filter (λ y. not (goes y)) xs in
          let Q : Bool → Type 0 = λ b. cond b (Some x) (find goes xs) ≡ None → cond (not b) (x ∷ rest) rest ≡ (x ∷ xs) in
          elim (goes x) as Q [ true ↦ λ f. cc f | false ↦ λ f. ap (λ ys. x ∷ ys) (by xs f) ] e

is_Equal : (o : Ordering) → is_eq o ≡ true → o ≡ Equal
is_Equal Less e = cc e
is_Equal Equal e = refl
is_Equal Greater e = cc e

same_bytes : (a b : List ℕ) → bytes_eq a b ≡ true → a ≡ b
same_bytes a b same = exact_bytes a b (is_Equal (slice_cmp nat_cmp a b) (sym (texts_ties a b) ∙ same))

-- a row that is the same has the same name
pub name_of_same : {X : Type 0} (name_of : X → List ℕ) (same : X → X → Bool) (row : X) (rows : List X) (at : ℕ)
    → ((other : X) → same other row ≡ true → bytes_eq (name_of other) (name_of row) ≡ true)
    → position (λ r. same r row) rows ≡ Some at → at < length rows → IfSome (slice_get rows at) (λ r. name_of row ≡ name_of r)
name_of_same {X} name_of same row rows at named found within =
    let h = passes_at (λ r. same r row) rows at found within in
    let alike : name_of row ≡ name_of h.row = sym (same_bytes (name_of h.row) (name_of row) (named h.row h.passes)) in
    subst (λ (o : Option X). IfSome o (λ r. name_of row ≡ name_of r)) (sym h.there) alike
