-- Reading and writing items one after the other, as a loop does.
use Rattle.std.proofs.Common.{◌≡◌, ℕ, suc, ◌-◌, ◌+◌, ◌≤◌, ◌<◌, List, [], ◌∷◌, ◌++◌, Option, Some, None, refl, sym, ap, ◌∙◌, append_assoc, arith}
use Rattle.std.specs.Prelude.{option_map, option_and_then}
use Rattle.std.specs.List.{flat_map}
use Rattle.std.proofs.lemmas.List.{append-nil}
use Rattle.std.proofs.lemmas.List.Concat.{flat_map-cons}
use Rattle.redo_records.specs.declared.fault.DecodeFault.{DecodeFault}
use Rattle.redo_records.specs.declared.fault.DecodeFault.TheVariants as faults
use Rattle.redo_journal.specs.Num.{items_at}
use Rattle.redo_records.specs.Gives.{Fails}

-- what was read before, and what is still read
abbrev pub with_front : {A : Type 0} → List A → Option (List A × List ℕ) → Option (List A × List ℕ)
with_front front read = option_map (λ x. (front ++ x.0, x.1)) read

regroup : {A : Type 0} (front : List A) (n : A) (read : Option (List A × List ℕ)) → with_front front (option_and_then (λ others. Some (n ∷ others.0, others.1)) read) ≡ with_front (front ++ n ∷ []) read
regroup front n (Some x) = ap (λ ns. Some (ns, x.1)) (simp append_assoc)
regroup front n None = refl

pub goes_on : {A : Type 0} (read : List ℕ → Option (A × List ℕ)) (front : List A) (count i : ℕ) (bytes : List ℕ) (n : A) (after : List ℕ) (total : Option (List A × List ℕ)) → i < count → read bytes ≡ Some (n, after)
    → with_front front (items_at read (count - i) bytes) ≡ total → with_front (front ++ n ∷ []) (items_at read (count - (i + 1)) after) ≡ total
goes_on read front count i bytes n after total lt h so_far =
    let k : count - i ≡ suc (count - (i + 1)) = omega arith in
    let one : with_front front (items_at read (count - i) bytes) ≡ with_front (front ++ n ∷ []) (items_at read (count - (i + 1)) after) = rw (k, h) (regroup front n (items_at read (count - (i + 1)) after)) in
    sym one ∙ so_far

pub ends : {A : Type 0} (e : DecodeFault) (read : List ℕ → Option (A × List ℕ)) (front : List A) (count i : ℕ) (bytes : List ℕ) (total : Option (List A × List ℕ)) → i < count → Fails e (read bytes)
    → with_front front (items_at read (count - i) bytes) ≡ total → Fails e total
ends faults.Memory read front count i bytes total lt h so_far = tt
ends faults.NoSpelling read front count i bytes total lt h so_far =
    let k : count - i ≡ suc (count - (i + 1)) = omega arith in
    let one : with_front front (items_at read (count - i) bytes) ≡ None = rw (k, h) refl in
    sym so_far ∙ one

pub is_done : {A : Type 0} (read : List ℕ → Option (A × List ℕ)) (front : List A) (count i : ℕ) (bytes : List ℕ) (total : Option (List A × List ℕ)) → count ≤ i → with_front front (items_at read (count - i) bytes) ≡ total → total ≡ Some (front, bytes)
is_done read front count i bytes total le so_far =
    let k : count - i ≡ 0 = omega arith in
    let one : with_front front (items_at read (count - i) bytes) ≡ Some (front, bytes) = rw k (ap (λ ns. Some (ns, bytes)) (append-nil front)) in
    sym so_far ∙ one

-- writing goes on by one item
pub put_goes_on : {A : Type 0} (spell : A → List ℕ) (out total : List ℕ) (x : A) (rest : List A) → out ++ flat_map spell (x ∷ rest) ≡ total → (out ++ spell x) ++ flat_map spell rest ≡ total
put_goes_on spell out total x rest so_far = append_assoc out (spell x) (flat_map spell rest) ∙ ap (λ (t : List ℕ). out ++ t) (sym (flat_map-cons spell x rest)) ∙ so_far
