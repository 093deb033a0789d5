-- How the cells of the index of classes follow what is written.
use Rattle.std.proofs.Common.{◌≡◌, ℕ, ◌≤◌, List, [], ◌∷◌, length, map, Bool, true, false, cond, inl, inr, Option, Some, None, IsSome, nat_eq, refl, sym, ◌∙◌, ap, arith}
use Rattle.std.specs.List.{list_any}
use Rattle.std.specs.Map.{lookup}
use Rattle.std.specs.Option.{option_map, option_map_or}
use Rattle.std.proofs.lemmas.Bool.{cases_Bool, and_parts, eqb-true, eq-eqb, both_ways}
use Rattle.std.proofs.lemmas.List.{length-map}
use Rattle.std.proofs.lemmas.Map.Steps.{le-length_from_below}
use Rattle.row_locks.specs.Entries.{is_same_slot}
use Rattle.row_locks.specs.Groups.{is_same_rank, is_same_class, cell_of, place_of, count_of, IsDense}
use Rattle.row_locks.specs.declared.classes.ClassCell.{ClassCell}
use Rattle.row_locks.specs.declared.classes.ClassIndex.{ClassIndex}
use Rattle.row_locks.proofs.SlotLemmas.{same_key, key_is as pair_is}

pub same_rank : (key k rank r : ℕ) → is_same_rank key rank k r ≡ true → (key ≡ k) × (rank ≡ r)
same_rank key k rank r h = let e = same_key (key, rank) (k, r) h in (ap (λ x. x.0) e, ap (λ x. x.1) e)

pub rank_is : (key k rank r : ℕ) → key ≡ k → rank ≡ r → is_same_rank key rank k r ≡ true
rank_is key k rank r e f = pair_is (key, rank) (k, r) (λ i. (e i, f i))

pub same_class : (key k : ℕ) → is_same_class key k ≡ true → key ≡ k
same_class key k h = eqb-true key k h

pub key_is : (key k : ℕ) → key ≡ k → is_same_class key k ≡ true
key_is key k e = eq-eqb key k e

-- a cell is written: what it has in one field
pub field_set : {X : Type 0} (f : ClassCell → X) (b : Bool) (w : ClassCell) (new old : Option ClassCell) → new ≡ cond b (Some w) old → option_map f new ≡ cond b (Some (f w)) (option_map f old)
field_set f true w new old told = ap (option_map f) told
field_set f false w new old told = ap (option_map f) told

-- a cell is taken out
pub field_gone : {X : Type 0} (f : ClassCell → X) (b : Bool) (new old : Option ClassCell) → new ≡ cond b None old → option_map f new ≡ cond b None (option_map f old)
field_gone f true new old told = ap (option_map f) told
field_gone f false new old told = ap (option_map f) told

-- a cell is written that keeps what it had in one field
pub field_kept : {X : Type 0} (f : ClassCell → X) (get new : ℕ × ℕ → Option ClassCell) (c q : ℕ × ℕ) (had w : ClassCell) → get c ≡ Some had → f w ≡ f had
    → new q ≡ cond (is_same_slot c q) (Some w) (get q) → option_map f (new q) ≡ option_map f (get q)
field_kept f get new c q had w is same told = elim (cases_Bool (is_same_slot c q)) [
  | inl here ↦
      let now : new q ≡ Some w = told ∙ rw here refl in
      let before : get q ≡ Some had = ap get (sym (same_key c q here)) ∙ is in
      ap (option_map f) now ∙ ap Some same ∙ sym (ap (option_map f) before)
  | inr other ↦ let now : new q ≡ get q = told ∙ rw other refl in ap (option_map f) now
]

-- what stands in a cell, where there is one
pub field_or_kept : {X : Type 0} (f : ClassCell → X) (none : X) (new old : Option ClassCell) → option_map f new ≡ option_map f old → option_map_or f new none ≡ option_map_or f old none
field_or_kept f none new old e = by new ∙ ap (λ o. option_map_or (λ x. x) o none) e ∙ sym (by old)
  where
    by : (o : Option ClassCell) → option_map_or f o none ≡ option_map_or (λ x. x) (option_map f o) none
    by None = refl
    by (Some cell) = refl

pub first_set : {X : Type 0} (f : ClassCell → X) (none : X) (key k : ℕ) (w : ClassCell) (new old : Option ClassCell) → new ≡ cond (is_same_rank key 0 k 0) (Some w) old
    → option_map_or f new none ≡ cond (is_same_class key k) (f w) (option_map_or f old none)
first_set f none key k w new old told = by (is_same_class key k) refl
  where
    by : (b : Bool) → is_same_class key k ≡ b → option_map_or f new none ≡ cond (is_same_class key k) (f w) (option_map_or f old none)
    by true e =
        let now : new ≡ Some w = told ∙ rw (rank_is key k 0 0 (same_class key k e) refl) refl in
        ap (λ o. option_map_or f o none) now ∙ rw e refl
    by false e =
        let apart : is_same_rank key 0 k 0 ≡ false = elim (cases_Bool (is_same_rank key 0 k 0)) [
          | inl same ↦ absurd (both_ways (is_same_class key k) e (key_is key k (same_rank key k 0 0 same).0))
          | inr other ↦ other
        ] in
        let now : new ≡ old = told ∙ rw apart refl in
        ap (λ o. option_map_or f o none) now ∙ rw e refl

-- a rank that has a cell is among those of all cells
found_rank : (cells : List ((ℕ × ℕ) × ClassCell)) (c : ℕ × ℕ) → IsSome (lookup (is_same_slot c) cells) → list_any (nat_eq c.1) (map (λ e. e.0.1) cells) ≡ true
found_rank [] c h = absurd (both_ways false refl h)
found_rank (e ∷ es) c h = elim (cases_Bool (is_same_slot c e.0)) [
  | inl here ↦ rw (and_parts (nat_eq c.0 e.0.0) (nat_eq c.1 e.0.1) here).1 refl
  | inr elsewhere ↦
      let later : list_any (nat_eq c.1) (map (λ e. e.0.1) es) ≡ true = found_rank es c (rw elsewhere at h) in
      elim (cases_Bool (nat_eq c.1 e.0.1)) [ inl same ↦ rw same refl | inr other ↦ rw (other, later) refl ]
]

some_cell : (o : Option ClassCell) → IsSome (option_map (λ cell. cell.place) o) → IsSome o
some_cell None h = h
some_cell (Some cell) h = refl

-- a class has no more ranks than there are cells
pub count_bound : (index : ClassIndex) → IsDense (place_of index) (count_of index) → (key : ℕ) → count_of index key ≤ length index.cells.entries
count_bound index dense key =
    let ranks : List ℕ = map (λ e. e.0.1) index.cells.entries in
    let most = le-length_from_below ranks (count_of index key)
    (λ q below. found_rank index.cells.entries (key, q) (some_cell (cell_of index key q) (dense.below key q below))) in
    omega (arith, most, length-map index.cells.entries (λ e. e.0.1))
