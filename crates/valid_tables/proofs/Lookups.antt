-- What a map from names tells of rows, as they are put into it one by one.
use Rattle.std.proofs.Common.{◌≡◌, ℕ, ◌+◌, List, ◌∷◌, length, Bool, true, false, cond, Option, Some, None, inl, inr, refl, sym, ◌∙◌, ap, arith, Bor}
use Rattle.std.specs.Prelude.{find, filter, is_some, option_copied}
use Rattle.std.specs.Map.{count_at}
use Rattle.std.specs.Option.{option_or, unwrap_or}
use Rattle.std.specs.Ordering.{is_eq, nat_cmp}
use Rattle.std.specs.Str.{bytes_eq}
use Rattle.std.specs.Cmp.Lexicographic.{bytes_decides, slice_cmp}
use Rattle.std.proofs.lemmas.Bool.{cases_Bool, cond-false}
use Rattle.valid_tables.proofs.Keys.{name_is}

module _ {R : Type 0} (name : R → List ℕ) where
  -- the row that is found, in what was told so far or else in the rest
  abbrev pub found : (List ℕ → Option R) → List R → List ℕ → Option R
  found told rest q = option_or (told q) (find (λ r. bytes_eq (name r) q) rest)

  kept_first : (a : Option R) (x : R) (b : Bool) (later : Option R) → a ≡ None → option_or (cond b (Some x) a) later ≡ option_or a (cond b (Some x) later)
  kept_first a x true later none = ap (λ o. option_or o (Some x)) (sym none)
  kept_first a x false later none = refl

  -- a row whose name was not told yet is told from now on
  told_more : (told after : List ℕ → Option R) (x : R) (more : List R) (q : List ℕ) → told (name x) ≡ None → after q ≡ cond (bytes_eq (name x) q) (Some x) (told q) → found after more q ≡ found told (x ∷ more) q
  told_more told after x more q none grown = elim (cases_Bool (bytes_eq (name x) q)) [
    | inl same ↦
        let here : told q ≡ None = ap told (sym ((bytes_decides (name x) q).0 same)) ∙ none in
        ap (λ o. option_or o (find (λ r. bytes_eq (name r) q) more)) grown ∙ kept_first (told q) x (bytes_eq (name x) q) (find (λ r. bytes_eq (name r) q) more) here
    | inr other ↦
        ap (λ o. option_or o (find (λ r. bytes_eq (name r) q) more)) (grown ∙ cond-false (bytes_eq (name x) q) (Some x) (told q) other)
        ∙ ap (option_or (told q)) (sym (cond-false (bytes_eq (name x) q) (Some x) (find (λ r. bytes_eq (name r) q) more) other))
  ]

  nothing_there : (o : Option (Bor R)) → is_some o ≡ false → option_copied o ≡ None
  nothing_there None h = refl
  nothing_there (Some v) h = cc

  copied_either : (b : Bool) (v : Bor R) (o : Option (Bor R)) → option_copied (cond b (Some v) o) ≡ cond b (Some v.now) (option_copied o)
  copied_either true v o = refl
  copied_either false v o = refl

  -- the same, of a map of references to which a reference was put
  pub told_by_reference : (old new : List ℕ → Option (Bor R)) (k : List ℕ) (v : Bor R) (rest more : List R) (q : List ℕ) → k ≡ name v.now → rest ≡ v.now ∷ more → is_some (old (name v.now)) ≡ false
      → new q ≡ cond (is_eq (slice_cmp nat_cmp k q)) (Some v) (old q) → found (λ n. option_copied (new n)) more q ≡ found (λ n. option_copied (old n)) rest q
  told_by_reference old new k v rest more q key split absent put =
      told_more (λ n. option_copied (old n)) (λ n. option_copied (new n)) v.now more q (nothing_there (old (name v.now)) absent)
      (ap option_copied put ∙ copied_either (is_eq (slice_cmp nat_cmp k q)) v (old q) ∙ ap (λ b. cond b (Some v.now) (option_copied (old q))) (name_is k q ∙ ap (λ n. bytes_eq n q) key))
      ∙ ap (λ rows. found (λ n. option_copied (old n)) rows q) (sym split)

-- ---- counts

-- the count of one name is one more, and all others are as before
pub counted : (old new : List ℕ → Option ℕ) (k name q : List ℕ) (count more : ℕ) → k ≡ name → count ≡ count_at old name → more ≡ count + 1 → new q ≡ cond (is_eq (slice_cmp nat_cmp k q)) (Some more) (old q)
    → count_at new q ≡ count_at old q + cond (bytes_eq name q) 1 0
counted old new k name q count more key is next put =
    let equal = name_is k q ∙ ap (λ n. bytes_eq n q) key in
    let told = ap (λ o. unwrap_or o 0) (put ∙ ap (λ b. cond b (Some more) (old q)) equal) in
    elim (cases_Bool (bytes_eq name q)) [
      | inl same ↦
          let here : count_at old name ≡ count_at old q = ap (count_at old) ((bytes_decides name q).0 same) in
          let there : count_at new q ≡ more = told ∙ ap (λ b. unwrap_or (cond b (Some more) (old q)) 0) same in
          rw same (there ∙ next ∙ ap (λ n. n + 1) (is ∙ here))
      | inr other ↦
          let there : count_at new q ≡ count_at old q = told ∙ ap (λ b. unwrap_or (cond b (Some more) (old q)) 0) other in
          rw other (there ∙ (omega arith))
    ]

counted_at : {R : Type 0} (b : Bool) (before after all : ℕ) (x : R) (passing : List R) → after ≡ before + cond b 1 0 → before + length (cond b (x ∷ passing) passing) ≡ all → after + length passing ≡ all
counted_at true before after all x passing grown counts = omega (arith, grown, counts)
counted_at false before after all x passing grown counts = omega (arith, grown, counts)

-- how many rows pass a test, where the first of the rest was counted
pub counted_more : {R : Type 0} (p : R → Bool) (before after all : ℕ) (x : R) (rest more : List R) → rest ≡ x ∷ more → after ≡ before + cond (p x) 1 0 → before + length (filter p rest) ≡ all → after + length (filter p more) ≡ all
counted_more p before after all x rest more split grown counts = counted_at (p x) before after all x (filter p more) grown (ap (λ rows. before + length (filter p rows)) (sym split) ∙ counts)
