-- Lists whose last item is taken back, choices, and results.
use Rattle.std.proofs.Common.{◌≡◌, ◌≤◌, ◌-◌, ◌++◌, ℕ, suc, Bool, true, false, if◌then◌else◌, List, [], ◌∷◌, length, take, refl, ap, ◌∙◌, subst, arith}
use Rattle.std.specs.Prelude.{◌==◌, ◌↔◌, IsTrue, Result, Ok, Err, OnOk, OnErr}
use Rattle.std.proofs.lemmas.Bool.{ne_eqb}
use Rattle.std.proofs.lemmas.List.{take_all, take-append-le, length_push}

pub if_true : {A : Type 0} (b : Bool) (x y : A) → b ≡ true → (if b then x else y) ≡ x
if_true true x y h = refl
if_true false x y h = absurd (cc)

pub if_false : {A : Type 0} (b : Bool) (x y : A) → b ≡ false → (if b then x else y) ≡ y
if_false true x y h = absurd (cc)
if_false false x y h = refl

last_place : {A : Type 0} (xs : List A) (x : A) → length (xs ++ x ∷ []) - 1 ≡ length xs
last_place xs x = let e = length_push xs x in omega (arith, e)

-- without its last item a list is what it was before that was put in
pub take_pushed : {A : Type 0} (xs : List A) (x : A) → take (length (xs ++ x ∷ []) - 1) (xs ++ x ∷ []) ≡ xs
take_pushed xs x =
    ap (λ n. take n (xs ++ x ∷ [])) (last_place xs x)
    ∙ take-append-le (length xs) xs (x ∷ []) (omega arith)
    ∙ take_all (length xs) xs (omega arith)

pub some_pushed : {A : Type 0} (xs : List A) (x : A) → 1 ≤ length (xs ++ x ∷ [])
some_pushed xs x = let e = length_push xs x in omega (arith, e)

-- ---- empty lists

pub no_items : {A : Type 0} (b : Bool) (xs : List A) → (IsTrue b ↔ (xs ≡ [])) → b ≡ true → (length xs == 0) ≡ true
no_items b xs h is = ap (λ (l : List _). length l == 0) (h.0 is)

not_none : (n : ℕ) → (suc n == 0) ≡ false
not_none n = ne_eqb (suc n) 0 (λ e. absurd (omega (arith, e)))

pub some_items : {A : Type 0} (b : Bool) (xs : List A) → (IsTrue b ↔ (xs ≡ [])) → b ≡ false → (length xs == 0) ≡ false
some_items b [] h is = absurd (let yes : b ≡ true = h.1 refl in cc)
some_items b (x ∷ xs) h is = not_none (length xs)

-- ---- results

pub when_ok : {T E P : Type 0} (r : Result T E) (x : T) → r ≡ Ok x → OnOk r P → P
when_ok {T} {E} {P} r x is h = let p : OnOk {T = T} {E = E} (Ok x) P = subst (λ (q : Result T E). OnOk q P) is h in p

pub when_err : {T E P : Type 0} (r : Result T E) (e : E) → r ≡ Err e → OnErr r P → P
when_err {T} {E} {P} r e is h = let p : OnErr {T = T} {E = E} (Err e) P = subst (λ (q : Result T E). OnErr q P) is h in p
