-- A number that is read is spelled so.
use Rattle.std.proofs.Common.{◌≡◌, ◌==◌, inl, inr, ℕ, ◌+◌, ◌-◌, ◌*◌, ◌^◌, ◌<◌, ◌≤◌, ℤ, pos, neg_ℤ, List, [], ◌∷◌, ◌++◌, Bool, true, false, Ok, Err, length, refl, arith, sym, ◌∙◌, ap, subst, nat_le, not, suc, zero}
use Rattle.std.specs.List.{fold, list_all, AllByRecursion}
use Rattle.std.proofs.lemmas.Bool.{eqb-true, leb-true, lt-ltb, and_from, and_parts}
use Rattle.rule_conditions.specs.Tokens.{is_digit, is_word_byte, is_end_of_word, digits_value, SpellsNumber}
use Rattle.rule_conditions.specs.Values.{fits}
use Rattle.rule_text.proofs.Choice.{chosen}
use Rattle.rule_conditions.specs.Lexing.{limit, signed, digits_at, signed_at, unsigned_at, number_at}

-- the number that more digits make
abbrev pub more_digits : ℕ → List ℕ → ℕ
more_digits n digits = fold (λ value digit. value * 10 + (digit - 48)) n digits

pub record TakesDigits (negative : Bool) (n : ℕ) (text : List ℕ) (out : ℕ × List ℕ) : Type 0 where
  pub digits : List ℕ
  pub split : text ≡ digits ++ out.1
  pub are_digits : list_all is_digit digits ≡ true
  pub value : out.0 ≡ more_digits n digits
  pub ends : is_end_of_word out.1 ≡ true
  pub within : n ≤ limit negative → out.0 ≤ limit negative

pub digits_taken : (negative : Bool) (n : ℕ) (text : List ℕ) (out : ℕ × List ℕ) → digits_at negative n text ≡ Ok out → TakesDigits negative n text out
digits_taken negative n [] out e =
    let P : ℕ × List ℕ → Type 0 = λ o. TakesDigits negative n [] o in
    let same : (n, []) ≡ out = cc in
    subst P same record { digits = []; split = refl; are_digits = refl; value = refl; ends = refl; within = λ h. h }
digits_taken negative n (b ∷ rest) out e =
    elim (chosen (is_digit b) _ _ _ e) [
      | inl p ↦ elim (chosen (nat_le (n * 10 + (b - 48)) (limit negative)) _ _ _ p.1) [
        | inl q ↦
            let more = digits_taken negative (n * 10 + (b - 48)) rest out q.1 in
            let fits_so : n * 10 + (b - 48) ≤ limit negative = leb-true _ _ q.0 in
            record {
              digits = b ∷ more.digits;
              split = ap (λ (x : List ℕ). b ∷ x) more.split;
              are_digits = and_from _ _ p.0 more.are_digits;
              value = more.value;
              ends = more.ends;
              within = λ h. more.within fits_so;
            }
        | inr q ↦ cc
      ]
      | inr p ↦ elim (chosen (is_word_byte b) _ _ _ p.1) [
        | inl q ↦ cc
        | inr q ↦
            let P : ℕ × List ℕ → Type 0 = λ o. TakesDigits negative n (b ∷ rest) o in
            let same : (n, b ∷ rest) ≡ out = cc in
            subst P same record { digits = []; split = refl; are_digits = refl; value = refl; ends = ap not q.0; within = λ h. h }
      ]
    ]

pub digit_at_most : (b : ℕ) → is_digit b ≡ true → b ≤ 57
digit_at_most b h = let both = and_parts _ _ h in leb-true b 57 both.1

pub digit_within : (negative : Bool) (b : ℕ) → is_digit b ≡ true → b - 48 ≤ limit negative
digit_within true b h = let most = digit_at_most b h in omega arith
digit_within false b h = let most = digit_at_most b h in omega arith

pub fits_signed : (negative : Bool) (n : ℕ) → n ≤ limit negative → fits (signed negative n) ≡ true
fits_signed true zero h = refl
fits_signed true (suc n) h = lt-ltb n (2 ^ 63) (omega arith)
fits_signed false n h = lt-ltb n (2 ^ 63) (omega arith)

pub record TakesNumber (text : List ℕ) (out : ℤ × List ℕ) : Type 0 where
  pub word : List ℕ
  pub split : text ≡ word ++ out.1
  pub some : 0 < length word
  pub ascii : AllByRecursion (λ b. b < 128) word
  pub spells : SpellsNumber out.0 word
  pub ends : is_end_of_word out.1 ≡ true

digits_are_ascii : (digits : List ℕ) → list_all is_digit digits ≡ true → AllByRecursion (λ b. b < 128) digits
digits_are_ascii [] h = tt
digits_are_ascii (b ∷ digits) h =
    let both = and_parts _ _ h in
    let most = digit_at_most b both.0 in
    (omega arith, digits_are_ascii digits both.1)

-- the digits behind the sign, with the first of them
first_digits : (negative : Bool) (b : ℕ) (rest : List ℕ) (out : ℤ × List ℕ) → is_digit b ≡ true → signed_at negative (digits_at negative (b - 48) rest) ≡ Ok out →
    (found : ℕ × List ℕ) × (digits_at negative (b - 48) rest ≡ Ok found) × (out ≡ (signed negative found.0, found.1))
first_digits negative b rest out d e =
    elim (digits_at negative (b - 48) rest) as (λ r. signed_at negative r ≡ Ok out → (found : ℕ × List ℕ) × (r ≡ Ok found) × (out ≡ (signed negative found.0, found.1))) [
      | Ok x ↦ λ h. (x, refl, cc)
      | Err r ↦ λ h. cc
    ] e

pub value_of : (b : ℕ) (digits : List ℕ) → more_digits (b - 48) digits ≡ digits_value (b ∷ digits)
value_of b digits = ap (λ (n : ℕ). more_digits n digits) (omega arith)

unsigned_taken : (b : ℕ) (rest : List ℕ) (out : ℤ × List ℕ) → unsigned_at false (b ∷ rest) ≡ Ok out → TakesNumber (b ∷ rest) out
unsigned_taken b rest out e =
    elim (chosen (is_digit b) _ _ _ e) [
      | inl p ↦
          let found = first_digits false b rest out p.0 p.1 in
          let took = digits_taken false (b - 48) rest found.0 found.1 in
          let last : out.1 ≡ found.0.1 = ap (λ (o : ℤ × List ℕ). o.1) found.2 in
          let value : found.0.0 ≡ digits_value (b ∷ took.digits) = took.value ∙ value_of b took.digits in
          let number : out.0 ≡ pos found.0.0 = ap (λ (o : ℤ × List ℕ). o.0) found.2 in
          record {
            word = b ∷ took.digits;
            split = ap (λ (x : List ℕ). b ∷ x) took.split ∙ ap (λ (x : List ℕ). b ∷ (took.digits ++ x)) (sym last);
            some = omega arith;
            ascii = digits_are_ascii (b ∷ took.digits) (and_from _ _ p.0 took.are_digits);
            spells = record {
              digits = b ∷ took.digits;
              are_digits = and_from _ _ p.0 took.are_digits;
              at_least_one = omega arith;
              spelled = inl (refl, number ∙ ap (λ (n : ℕ). pos n) value);
              within = ap fits number ∙ fits_signed false found.0.0 (took.within (digit_within false b p.0));
            };
            ends = ap is_end_of_word last ∙ took.ends;
          }
      | inr p ↦ cc
    ]

negative_taken : (b : ℕ) (rest : List ℕ) (out : ℤ × List ℕ) → unsigned_at true (b ∷ rest) ≡ Ok out → TakesNumber (45 ∷ b ∷ rest) out
negative_taken b rest out e =
    elim (chosen (is_digit b) _ _ _ e) [
      | inl p ↦
          let found = first_digits true b rest out p.0 p.1 in
          let took = digits_taken true (b - 48) rest found.0 found.1 in
          let last : out.1 ≡ found.0.1 = ap (λ (o : ℤ × List ℕ). o.1) found.2 in
          let value : found.0.0 ≡ digits_value (b ∷ took.digits) = took.value ∙ value_of b took.digits in
          let number : out.0 ≡ neg_ℤ (pos found.0.0) = ap (λ (o : ℤ × List ℕ). o.0) found.2 in
          record {
            word = 45 ∷ b ∷ took.digits;
            split = ap (λ (x : List ℕ). 45 ∷ b ∷ x) took.split ∙ ap (λ (x : List ℕ). 45 ∷ b ∷ (took.digits ++ x)) (sym last);
            some = omega arith;
            ascii = (omega arith, digits_are_ascii (b ∷ took.digits) (and_from _ _ p.0 took.are_digits));
            spells = record {
              digits = b ∷ took.digits;
              are_digits = and_from _ _ p.0 took.are_digits;
              at_least_one = omega arith;
              spelled = inr (refl, number ∙ ap (λ (n : ℕ). neg_ℤ (pos n)) value);
              within = ap fits number ∙ fits_signed true found.0.0 (took.within (digit_within true b p.0));
            };
            ends = ap is_end_of_word last ∙ took.ends;
          }
      | inr p ↦ cc
    ]

pub number_taken : (text : List ℕ) (out : ℤ × List ℕ) → number_at text ≡ Ok out → TakesNumber text out
number_taken [] out e = cc
number_taken (b ∷ []) out e =
    elim (chosen (b == 45) _ _ _ e) [
      | inl p ↦ cc
      | inr p ↦ unsigned_taken b [] out p.1
    ]
number_taken (b ∷ next ∷ rest) out e =
    elim (chosen (b == 45) _ _ _ e) [
      | inl p ↦ subst (λ (x : ℕ). TakesNumber (x ∷ next ∷ rest) out) (sym (eqb-true b 45 p.0)) (negative_taken next rest out p.1)
      | inr p ↦ unsigned_taken b (next ∷ rest) out p.1
    ]
