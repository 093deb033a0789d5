-- What the types say of items, one after another, and of what may be there.
use Rattle.std.proofs.Common.{◌≡◌, ◌<◌, ◌+◌, ℕ, ℤ, pos, List, [], ◌∷◌, length, drop, get_or, Option, Some, None, sym, subst, add-one, drop-cons}
use Rattle.std.specs.Prelude.{Result, Ok, Err, OnOk}
use Rattle.std.specs.List.{AllByRecursion}
use Rattle.std.specs.Option.{IfSome}
use Rattle.redo_records.specs.Spelled.{IsNumber}
use Rattle.redo_records.specs.Spelling.{zigzag}

-- what holds of an item more
pub typed_goes_on : {A : Type 0} (P : A → Type 0) (T : Type 0) (x : A) (rest : List A) → P x → (AllByRecursion P (x ∷ rest) → T) → AllByRecursion P rest → T
typed_goes_on P T x rest here so_far h = so_far (here, h)

-- what leads from P to Q at an item more
pub leads_on : {A : Type 0} (P Q : A → Type 0) (T : Type 0) (x : A) (rest : List A) → (P x → Q x)
    → ((AllByRecursion P (x ∷ rest) → AllByRecursion Q (x ∷ rest)) → T) → (AllByRecursion P rest → AllByRecursion Q rest) → T
leads_on P Q T x rest here so_far more = so_far (λ h. (here h.0, more h.1))

pub all_apply : {A : Type 0} (P Q : A → Type 0) (xs : List A) → AllByRecursion (λ x. P x → Q x) xs → AllByRecursion P xs → AllByRecursion Q xs
all_apply P Q [] f h = tt
all_apply P Q (x ∷ xs) f h = (f.0 h.0, all_apply P Q xs f.1 h.1)

pub if_some_apply : {A : Type 0} (P Q : A → Type 0) (o : Option A) → IfSome o (λ x. P x → Q x) → IfSome o P → IfSome o Q
if_some_apply P Q None f h = tt
if_some_apply P Q (Some x) f h = f h

pub on_ok_more : {T E : Type 0} (r : Result T E) (P Q : Type 0) → (P → Q) → OnOk r P → OnOk r Q
on_ok_more (Ok x) P Q f p = f p
on_ok_more (Err e) P Q f p = tt

-- numbers from an index on, and those from the next one on
pub ints_go_on : (numbers : List ℤ) (i : ℕ) → i < length numbers → IsNumber (zigzag (get_or numbers i (pos 0)))
    → (AllByRecursion (λ z. IsNumber (zigzag z)) (drop i numbers) → AllByRecursion (λ z. IsNumber (zigzag z)) numbers)
    → AllByRecursion (λ z. IsNumber (zigzag z)) (drop (i + 1) numbers) → AllByRecursion (λ z. IsNumber (zigzag z)) numbers
ints_go_on numbers i lt here so_far rest =
    let apart : drop i numbers ≡ get_or numbers i (pos 0) ∷ drop (i + 1) numbers = rw add-one (drop-cons numbers i (pos 0) lt) in
    so_far (subst (AllByRecursion (λ z. IsNumber (zigzag z))) (sym apart) (here, rest))
