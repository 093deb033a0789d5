-- Runs of bytes, what passes a test, flags, choices, lists and pairs, each read exactly as it is spelled.
use Rattle.std.proofs.Common.{◌≡◌, ℕ, zero, suc, ◌+◌, ◌*◌, ◌/◌, ◌%◌, ◌<◌, ◌≤◌, Bool, true, false, cond, eqb, leb, List, [], ◌∷◌, ◌++◌, length, take, drop, Option, Some, None, refl, sym, ap, subst, ◌∙◌, append_assoc, arith}
use Rattle.std.specs.Prelude.{ℤ, pos, negsuc, option_map, option_and_then, IfSome}
use Rattle.std.specs.List.{flat_map, AllByRecursion}
use Rattle.std.specs.Str.{is_utf8}
use Rattle.std.proofs.lemmas.Bool.{le-leb, eq-eqb, ne_eqb, eqb-true}
use Rattle.std.proofs.lemmas.List.{take_at, drop_at, take-append-drop, length-append, length-take, get_or-drop}
use Rattle.std.proofs.lemmas.List.Concat.{flat_map-cons}
use Rattle.std.proofs.lemmas.Option.{cond_some, option_and_then_some, same_Some}
use Rattle.redo_journal.specs.Num.{num, run, run_at, split_at, listed, listed_at, items_at}
use Rattle.payload_records.specs.Name.{is_name}
use Rattle.redo_records.specs.Laws.{IsBytes}
use Rattle.redo_records.specs.Reading.{only_if, choice_at, flag_of, flag_at, behind_flag, optional_at, text_at, name_at, is_not_empty, full_text_at, unzigzag, int_at}
use Rattle.redo_records.specs.Spelling.{flag, optional, zigzag, int}
use Rattle.redo_records.proofs.Exact.{Takes, join, Exact, then, IsNumber, num_exact, not_zero, IsBytes-rest}

-- ---- tools

IsBytes-drop : (n : ℕ) (bytes : List ℕ) → IsBytes bytes → IsBytes (drop n bytes)
IsBytes-drop n bytes h i = rw get_or-drop (h (n + i))

-- an option that a map makes something of
pub map_some : {A B P : Type 0} (f : A → B) (o : Option A) (y : B) → option_map f o ≡ Some y → ((x : A) → o ≡ Some x → f x ≡ y → P) → P
map_some f (Some x) y e k = k x refl (same_Some (f x) y e)
map_some f None y e k = absurd cc

branch_by : {A P : Type 0} (t : Bool) (b n : ℕ) (x y : Option A) (a : A) → eqb b n ≡ t → cond t x y ≡ Some a → (b ≡ n → x ≡ Some a → P) → (y ≡ Some a → P) → P
branch_by true b n x y a h e on off = on (eqb-true b n h) e
branch_by false b n x y a h e on off = off e

-- a number that is tested
pub branch : {A P : Type 0} (b n : ℕ) (x y : Option A) (a : A) → cond (eqb b n) x y ≡ Some a → (b ≡ n → x ≡ Some a → P) → (y ≡ Some a → P) → P
branch b n x y a e on off = branch_by (eqb b n) b n x y a refl e on off

-- ---- what passes a test

pub only : {A : Type 0} {read : List ℕ → Option (A × List ℕ)} {spell : A → List ℕ} {Is : A → Type 0} → Exact A read spell Is → (test : A → Bool) → Exact A (λ bytes. option_and_then (only_if test) (read bytes)) spell (λ a. Is a × (test a ≡ true))
only {A = A} {read = read} {spell = spell} {Is = Is} exact test = record {
  takes = λ bytes x fits e. then exact bytes fits (only_if test) x e (λ y t is g.
      let h = cond_some (test y.0) y x g in
      subst (λ (z : A × List ℕ). Takes bytes (spell z.0) z.1 × (Is z.0 × (test z.0 ≡ true))) h.1 (t, (is, h.0)));
  again = λ a rest is. ap (option_and_then (only_if test)) (exact.again a rest is.0) ∙ ap (λ (b : Bool). cond b (Some (a, rest)) None) is.1;
}

-- ---- values that stand for others

pub mapped : {A B : Type 0} {read : List ℕ → Option (A × List ℕ)} {spell : A → List ℕ} {Is : A → Type 0} → Exact A read spell Is → (to : A → B) (from : B → A) → ((a : A) → from (to a) ≡ a) → ((b : B) → to (from b) ≡ b)
    → Exact B (λ bytes. option_map (λ x. (to x.0, x.1)) (read bytes)) (λ b. spell (from b)) (λ b. Is (from b))
mapped {A = A} {B = B} {read = read} {spell = spell} {Is = Is} exact to from back forth = record {
  takes = λ bytes x fits e. map_some (λ (y : A × List ℕ). (to y.0, y.1)) (read bytes) x e (λ y h g.
      let t = exact.takes bytes y fits h in
      let at_made : Takes bytes (spell (from (to y.0))) y.1 × Is (from (to y.0)) = subst (λ (a : A). Takes bytes (spell a) y.1 × Is a) (sym (back y.0)) t in
      subst (λ (z : B × List ℕ). Takes bytes (spell (from z.0)) z.1 × Is (from z.0)) g at_made);
  again = λ b rest is. ap (option_map (λ (y : A × List ℕ). (to y.0, y.1))) (exact.again (from b) rest is) ∙ ap (λ (z : B). Some (z, rest)) (forth b);
}

-- the same under another name of what is meant
pub as_is : {A : Type 0} {read : List ℕ → Option (A × List ℕ)} {spell : A → List ℕ} {Is : A → Type 0} → Exact A read spell Is → (Means : A → Type 0) → ((a : A) → Is a → Means a) → ((a : A) → Means a → Is a) → Exact A read spell Means
as_is exact Means there back = record {
  takes = λ bytes x fits e. let t = exact.takes bytes x fits e in (t.0, there x.0 t.1);
  again = λ a rest is. exact.again a rest (back a is);
}

-- ---- runs of bytes

abbrev pub IsShort : List ℕ → Type 0
IsShort bytes = IsNumber (length bytes)

split_takes : (n : ℕ) (bytes : List ℕ) (x : List ℕ × List ℕ) → IsBytes bytes → split_at n bytes ≡ Some x → Takes bytes x.0 x.1 × (length x.0 ≡ n)
split_takes n bytes x fits e =
    let g = cond_some (leb n (length bytes)) (take n bytes, drop n bytes) x e in
    let long : n ≤ length bytes = grind (arith, g.0) in
    subst (λ (y : List ℕ × List ℕ). Takes bytes y.0 y.1 × (length y.0 ≡ n)) g.1
    (record { parts = sym (take-append-drop n bytes); rest_fits = IsBytes-drop n bytes fits }, omega (arith, length-take n bytes))

split_again : (bytes rest : List ℕ) → split_at (length bytes) (bytes ++ rest) ≡ Some (bytes, rest)
split_again bytes rest =
    let long : leb (length bytes) (length (bytes ++ rest)) ≡ true = le-leb _ _ (omega (arith, length-append bytes rest)) in
    rw (long, take_at bytes rest (length bytes) refl, drop_at bytes rest (length bytes) refl) refl

pub run_exact : Exact (List ℕ) run_at run IsShort
run_exact = record {
  takes = λ bytes x fits e. then num_exact bytes fits (λ (n : ℕ × List ℕ). split_at n.0 n.1) x e (λ n t is g.
      let s = split_takes n.0 n.1 x t.rest_fits g in
      let both = join t s.0 in
      (subst (λ (k : ℕ). Takes bytes (num k ++ x.0) x.1) (sym s.1) both, subst (λ (k : ℕ). IsNumber k) (sym s.1) is));
  again = λ a rest is.
      ap run_at (append_assoc (num (length a)) a rest) ∙ ap (option_and_then (λ (n : ℕ × List ℕ). split_at n.0 n.1)) (num_exact.again (length a) (a ++ rest) is) ∙ split_again a rest;
}

pub name_exact : Exact (List ℕ) name_at run (λ n. IsShort n × (is_name n ≡ true))
name_exact = only run_exact is_name

pub text_exact : Exact (List ℕ) text_at run (λ t. IsShort t × (is_utf8 t ≡ true))
text_exact = only run_exact is_utf8

pub full_text_exact : Exact (List ℕ) full_text_at run (λ t. (IsShort t × (is_utf8 t ≡ true)) × (is_not_empty t ≡ true))
full_text_exact = only text_exact is_not_empty

-- ---- numbers with a sign

by_rest : (n : ℕ) (t : Bool) → eqb (n % 2) 0 ≡ t → zigzag (cond t (pos (n / 2)) (negsuc (n / 2))) ≡ n
by_rest n true h = let none : n % 2 ≡ 0 = eqb-true _ _ h in omega arith
by_rest n false h =
    let some : 0 < n % 2 = not_zero (n % 2) h in
    omega arith

is_even : (n : ℕ) → eqb (2 * n % 2) 0 ≡ true
is_even n = eq-eqb (2 * n % 2) 0 (omega arith)

is_odd : (n : ℕ) → eqb ((2 * n + 1) % 2) 0 ≡ false
is_odd n = ne_eqb ((2 * n + 1) % 2) 0 (λ e. omega arith)

even_half : (n : ℕ) → zigzag (unzigzag n) ≡ n
even_half n = by_rest n (eqb (n % 2) 0) refl

unzigzag-zigzag : (z : ℤ) → unzigzag (zigzag z) ≡ z
unzigzag-zigzag (pos n) = rw (is_even n) (ap (λ (k : ℕ). pos k) (omega arith))
unzigzag-zigzag (negsuc n) = rw (is_odd n) (ap (λ (k : ℕ). negsuc k) (omega arith))

pub int_exact : Exact ℤ int_at int (λ z. IsNumber (zigzag z))
int_exact = mapped num_exact unzigzag zigzag even_half unzigzag-zigzag

-- ---- choices

choice_takes : {A : Type 0} (meant : ℕ → Option A) (spell : A → List ℕ) → ((b : ℕ) (a : A) → meant b ≡ Some a → spell a ≡ b ∷ []) → (bytes : List ℕ) (x : A × List ℕ) → IsBytes bytes → choice_at meant bytes ≡ Some x → Takes bytes (spell x.0) x.1 × Unit {0}
choice_takes meant spell spelled [] x fits e = absurd cc
choice_takes {A = A} meant spell spelled (b ∷ rest) x fits e =
    map_some (λ (a : A). (a, rest)) (meant b) x e (λ a h g.
    subst (λ (y : A × List ℕ). Takes (b ∷ rest) (spell y.0) y.1 × Unit {0}) g (record { parts = ap (λ (t : List ℕ). t ++ rest) (sym (spelled b a h)); rest_fits = IsBytes-rest b rest fits }, tt))

-- whatever a byte means is spelled by that byte
pub choice_exact : {A : Type 0} (meant : ℕ → Option A) (spell : A → List ℕ) → ((b : ℕ) (a : A) → meant b ≡ Some a → spell a ≡ b ∷ []) → ((a : A) (rest : List ℕ) → choice_at meant (spell a ++ rest) ≡ Some (a, rest))
    → Exact A (choice_at meant) spell (λ _. Unit {0})
choice_exact meant spell spelled read_again = record {
  takes = choice_takes meant spell spelled;
  again = λ a rest is. read_again a rest;
}

flag_byte : (b : ℕ) (a : Bool) → flag_of b ≡ Some a → flag a ≡ b ∷ []
flag_byte b a e =
    branch b 0 (Some false) (cond (eqb b 1) (Some true) None) a e (λ is at. rw (is, ← same_Some false a at) refl) (λ rest.
    branch b 1 (Some true) None a rest (λ is at. rw (is, ← same_Some true a at) refl) (λ none. absurd cc))

flag_again : (a : Bool) (rest : List ℕ) → choice_at flag_of (flag a ++ rest) ≡ Some (a, rest)
flag_again true rest = refl
flag_again false rest = refl

pub flag_exact : Exact Bool flag_at flag (λ _. Unit {0})
flag_exact = choice_exact flag_of flag flag_byte flag_again

-- ---- what may be there

optional_behind : {A : Type 0} {read : List ℕ → Option (A × List ℕ)} {spell : A → List ℕ} {Is : A → Type 0} → Exact A read spell Is → (there : Bool) (bytes rest : List ℕ) (x : Option A × List ℕ) → Takes bytes (flag there) rest
    → behind_flag read there rest ≡ Some x → Takes bytes (optional spell x.0) x.1 × IfSome x.0 Is
optional_behind {A = A} {read = read} {spell = spell} {Is = Is} exact false bytes rest x t e =
    subst (λ (y : Option A × List ℕ). Takes bytes (optional spell y.0) y.1 × IfSome y.0 Is) (same_Some (None, rest) x e) (t, tt)
optional_behind {A = A} {read = read} {spell = spell} {Is = Is} exact true bytes rest x t e =
    map_some (λ (y : A × List ℕ). (Some y.0, y.1)) (read rest) x e (λ y h g.
    let u = exact.takes rest y t.rest_fits h in
    subst (λ (z : Option A × List ℕ). Takes bytes (optional spell z.0) z.1 × IfSome z.0 Is) g (join t u.0, u.1))

optional_again : {A : Type 0} {read : List ℕ → Option (A × List ℕ)} {spell : A → List ℕ} {Is : A → Type 0} → Exact A read spell Is → (o : Option A) (rest : List ℕ) → IfSome o Is → optional_at read (optional spell o ++ rest) ≡ Some (o, rest)
optional_again exact None rest is = refl
optional_again {A = A} exact (Some a) rest is = ap (option_map (λ (y : A × List ℕ). (Some y.0, y.1))) (exact.again a rest is)

pub optional_exact : {A : Type 0} {read : List ℕ → Option (A × List ℕ)} {spell : A → List ℕ} {Is : A → Type 0} → Exact A read spell Is → Exact (Option A) (optional_at read) (optional spell) (λ o. IfSome o Is)
optional_exact {A = A} {read = read} exact = record {
  takes = λ bytes x fits e. then flag_exact bytes fits (λ (there : Bool × List ℕ). behind_flag read there.0 there.1) x e (λ there t is g. optional_behind exact there.0 bytes there.1 x t g);
  again = optional_again exact;
}

-- ---- lists

abbrev pub AreListed : {A : Type 0} → (A → Type 0) → List A → Type 0
AreListed Is xs = IsNumber (length xs) × AllByRecursion Is xs

items_take : {A : Type 0} {read : List ℕ → Option (A × List ℕ)} {spell : A → List ℕ} {Is : A → Type 0} → Exact A read spell Is → (n : ℕ) (bytes : List ℕ) (x : List A × List ℕ) → IsBytes bytes → items_at read n bytes ≡ Some x
    → Takes bytes (flat_map spell x.0) x.1 × (length x.0 ≡ n) × AllByRecursion Is x.0
items_take {A = A} {read = read} {spell = spell} {Is = Is} exact zero bytes x fits e =
    subst (λ (y : List A × List ℕ). Takes bytes (flat_map spell y.0) y.1 × (length y.0 ≡ 0) × AllByRecursion Is y.0) (same_Some ([], bytes) x e) (record { parts = refl; rest_fits = fits }, refl, tt)
items_take {A = A} {read = read} {spell = spell} {Is = Is} exact (suc n) bytes x fits e =
    then exact bytes fits (λ (first : A × List ℕ). option_and_then (λ (others : List A × List ℕ). Some (first.0 ∷ others.0, others.1)) (items_at read n first.1)) x e (λ first t is g.
    option_and_then_some (λ (others : List A × List ℕ). Some (first.0 ∷ others.0, others.1)) (items_at read n first.1) x g (λ others h made.
    let u = items_take exact n first.1 others t.rest_fits h in
    let both = join t u.0 in
    subst (λ (y : List A × List ℕ). Takes bytes (flat_map spell y.0) y.1 × (length y.0 ≡ suc n) × AllByRecursion Is y.0) (same_Some (first.0 ∷ others.0, others.1) x made) (rw flat_map-cons both, ap suc u.1, (is, u.2))))

items_again : {A : Type 0} {read : List ℕ → Option (A × List ℕ)} {spell : A → List ℕ} {Is : A → Type 0} → Exact A read spell Is → (xs : List A) (rest : List ℕ) → AllByRecursion Is xs → items_at read (length xs) (flat_map spell xs ++ rest) ≡ Some (xs, rest)
items_again exact [] rest is = refl
items_again {A = A} {read = read} {spell = spell} exact (x ∷ xs) rest is =
    let regrouped : flat_map spell (x ∷ xs) ++ rest ≡ spell x ++ (flat_map spell xs ++ rest) = ap (λ (t : List ℕ). t ++ rest) (flat_map-cons spell x xs) ∙ append_assoc (spell x) (flat_map spell xs) rest in
    ap (items_at read (suc (length xs))) regrouped
    ∙ ap (option_and_then (λ (first : A × List ℕ). option_and_then (λ (others : List A × List ℕ). Some (first.0 ∷ others.0, others.1)) (items_at read (length xs) first.1))) (exact.again x (flat_map spell xs ++ rest) is.0)
    ∙ ap (option_and_then (λ (others : List A × List ℕ). Some (x ∷ others.0, others.1))) (items_again exact xs rest is.1)

pub listed_exact : {A : Type 0} {read : List ℕ → Option (A × List ℕ)} {spell : A → List ℕ} {Is : A → Type 0} → Exact A read spell Is → Exact (List A) (listed_at read) (listed spell) (AreListed Is)
listed_exact {A = A} {read = read} {spell = spell} {Is = Is} exact = record {
  takes = λ bytes x fits e. then num_exact bytes fits (λ (n : ℕ × List ℕ). items_at read n.0 n.1) x e (λ n t is g.
      let u = items_take exact n.0 n.1 x t.rest_fits g in
      let both = join t u.0 in
      (subst (λ (k : ℕ). Takes bytes (num k ++ flat_map spell x.0) x.1) (sym u.1) both, (subst (λ (k : ℕ). IsNumber k) (sym u.1) is, u.2)));
  again = λ xs rest is.
      ap (listed_at read) (append_assoc (num (length xs)) (flat_map spell xs) rest) ∙ ap (option_and_then (λ (n : ℕ × List ℕ). items_at read n.0 n.1)) (num_exact.again (length xs) (flat_map spell xs ++ rest) is.0) ∙ items_again exact xs rest is.1;
}
