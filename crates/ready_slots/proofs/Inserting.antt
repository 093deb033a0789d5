-- What an entry that is put in among others makes of their rows.
use Rattle.std.proofs.Common.{◌≡◌, ◌≢◌, ℕ, ◌<◌, zero, suc, Bool, true, false, List, [], ◌∷◌, Option, Some, refl, ap, ◌∙◌, arith}
use Rattle.std.proofs.lemmas.Option.{none-some}
use Rattle.std.specs.Prelude.{insert, remove, slice_get, slice_set}
use Rattle.std.specs.List.{AllByRecursion}
use Rattle.choice_laws.specs.EditLaws.{IsFree}
use Rattle.choice_laws.specs.Entries.{Entry, Row, AreRising, row_of, rows_for, stands_for, with_row}
use Rattle.choice_laws.proofs.Orders.{row_cmp_total, untied}
use Rattle.choice_laws.proofs.Putting.{all_weaker, put_either}
use Rattle.choice_laws.proofs.Standing.{all_untied, rows_all}

-- ---- lists

all_inserted : {T : Type 0} (P : T → Type 0) (xs : List T) (i : ℕ) (x : T) → AllByRecursion P (insert xs i x) → P x
all_inserted P [] zero x h = h.0
all_inserted P [] (suc i) x h = h.0
all_inserted P (y ∷ ys) zero x h = h.0
all_inserted P (y ∷ ys) (suc i) x h = all_inserted P ys i x h.1

put_first : {T : Type 0} (xs : List T) (x : T) → insert xs 0 x ≡ x ∷ xs
put_first [] x = refl
put_first (y ∷ ys) x = refl

-- an item that is taken out, and another put in where it stood
pub replaced : {T : Type 0} (xs : List T) (i : ℕ) (x y : T) → slice_get xs i ≡ Some x → insert (remove xs i) i y ≡ slice_set xs i y
replaced [] i x y there = absurd (none-some x there)
replaced (z ∷ zs) zero x y there = put_first zs y
replaced (z ∷ zs) (suc i) x y there = ap (λ rest. z ∷ rest) (replaced zs i x y there)

-- ---- entries

-- no other entry has the stamp of the one that is put in
others_of : (entries : List Entry) (at : ℕ) (e : Entry) → AreRising (insert entries at e) → AllByRecursion (λ x. x.stamp ≢ e.stamp) entries
others_of [] at e rising = tt
others_of (x ∷ xs) zero e rising = all_weaker (λ y. e.stamp < y.stamp) (λ y. y.stamp ≢ e.stamp) (λ y above same. omega arith) (x ∷ xs) rising.0
others_of (x ∷ xs) (suc i) e rising =
    let h : x.stamp < e.stamp = all_inserted (λ y. x.stamp < y.stamp) xs i e rising.0 in
    (λ same. omega arith, others_of xs i e rising.1)

put_both : (a b : Bool) (x y : Row) (rows : List Row) → x.stamp ≢ y.stamp → with_row a x (with_row b y rows) ≡ with_row b y (with_row a x rows)
put_both true true x y rows differ = put_either row_cmp_total x y rows (untied x y differ)
put_both true false x y rows differ = refl
put_both false true x y rows differ = refl
put_both false false x y rows differ = refl

module _ (queue : List ℕ) (consumer : Option (List ℕ)) where
  abbrev rows : List Entry → List Row
  rows es = rows_for queue consumer es

  abbrev stands : Entry → Bool
  stands e = stands_for queue consumer e.message

  pub rows_after_insert : (entries : List Entry) (at : ℕ) (e : Entry) → AreRising (insert entries at e) → rows (insert entries at e) ≡ with_row (stands e) (row_of e) (rows entries)
  rows_after_insert [] zero e rising = refl
  rows_after_insert [] (suc i) e rising = refl
  rows_after_insert (x ∷ xs) zero e rising = refl
  rows_after_insert (x ∷ xs) (suc i) e rising =
      let h : x.stamp < e.stamp = all_inserted (λ y. x.stamp < y.stamp) xs i e rising.0 in
      ap (with_row (stands x) (row_of x)) (rows_after_insert xs i e rising.1) ∙ put_both (stands x) (stands e) (row_of x) (row_of e) (rows xs) (λ same. omega arith)

  -- the row of the one that is put in is not there yet
  pub inserted_is_free : (entries : List Entry) (at : ℕ) (e : Entry) → AreRising (insert entries at e) → IsFree (row_of e) (rows entries)
  inserted_is_free entries at e rising = all_untied (row_of e) (rows entries) (rows_all queue consumer (λ r. r.stamp ≢ e.stamp) entries (others_of entries at e rising))
