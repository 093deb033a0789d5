-- A number is read where it is spelled.
use Rattle.std.proofs.Common.{◌≡◌, ◌==◌, inl, inr, ℕ, ◌+◌, ◌-◌, ◌*◌, ◌^◌, ◌≤◌, ℤ, pos, neg_ℤ, List, [], ◌∷◌, ◌++◌, Bool, true, false, Result, Ok, Err, length, refl, arith, sym, ◌∙◌, ap, subst, cond, nat_le, not, suc, zero, ◌||◌}
use Rattle.std.specs.List.{list_all}
use Rattle.std.proofs.lemmas.Bool.{ltb-true, le-leb, and_parts}
use Rattle.std.proofs.lemmas.Bool.Decides.{nat_tests}
use Rattle.rule_conditions.specs.Tokens.{is_digit, is_word_byte, is_end_of_word, digits_value, SpellsNumber}
use Rattle.rule_conditions.specs.Values.{fits}
use Rattle.rule_text.proofs.Choosing.{yes_cond, no_cond}
use Rattle.rule_text.proofs.Digits.{more_digits, value_of}
use Rattle.rule_conditions.specs.Lexing.{limit, signed, digits_at, signed_at, unsigned_at, number_at}

more_is_more : (n : ℕ) (digits : List ℕ) → n ≤ more_digits n digits
more_is_more n [] = omega arith
more_is_more n (d ∷ digits) = let more = more_is_more (n * 10 + (d - 48)) digits in omega arith

no_digit : (b : ℕ) → is_word_byte b ≡ false → is_digit b ≡ false
no_digit b h = grind (arith, nat_tests)

ended_byte : (b : ℕ) → not (is_word_byte b) ≡ true → is_word_byte b ≡ false
ended_byte b h = elim (is_word_byte b) as (λ x. not x ≡ true → x ≡ false) [ true ↦ λ e. sym e | false ↦ λ e. refl ] h

digits_read : (negative : Bool) (n : ℕ) (digits rest : List ℕ) → list_all is_digit digits ≡ true → more_digits n digits ≤ limit negative → is_end_of_word rest ≡ true → digits_at negative n (digits ++ rest) ≡ Ok (more_digits n digits, rest)
digits_read negative n [] [] d m e = refl
digits_read negative n [] (b ∷ rest) d m e =
    let no_word = ended_byte b e in
    no_cond (is_digit b) (cond (nat_le (n * 10 + (b - 48)) (limit negative)) (digits_at negative (n * 10 + (b - 48)) rest) (Err (b ∷ rest))) (cond (is_word_byte b) (Err (b ∷ rest)) (Ok (n, b ∷ rest))) (no_digit b no_word)
    ∙ no_cond (is_word_byte b) (Err (b ∷ rest)) (Ok (n, b ∷ rest)) no_word
digits_read negative n (b ∷ digits) rest d m e =
    let both = and_parts _ _ d in
    let next = n * 10 + (b - 48) in
    let more = more_is_more next digits in
    let within : next ≤ limit negative = omega arith in
    yes_cond (is_digit b) (cond (nat_le next (limit negative)) (digits_at negative next (digits ++ rest)) (Err (b ∷ (digits ++ rest)))) (cond (is_word_byte b) (Err (b ∷ (digits ++ rest))) (Ok (n, b ∷ (digits ++ rest)))) both.0
    ∙ yes_cond (nat_le next (limit negative)) (digits_at negative next (digits ++ rest)) (Err (b ∷ (digits ++ rest))) (le-leb next (limit negative) within)
    ∙ digits_read negative next digits rest both.1 m e

within_limit : (negative : Bool) (n : ℕ) → fits (signed negative n) ≡ true → n ≤ limit negative
within_limit true zero h = omega arith
within_limit true (suc n) h = let less = ltb-true n (2 ^ 63) h in omega arith
within_limit false n h = let less = ltb-true n (2 ^ 63) h in omega arith

unsigned_read : (negative : Bool) (b : ℕ) (digits rest : List ℕ) → list_all is_digit (b ∷ digits) ≡ true → fits (signed negative (digits_value (b ∷ digits))) ≡ true → is_end_of_word rest ≡ true →
    unsigned_at negative (b ∷ (digits ++ rest)) ≡ Ok (signed negative (digits_value (b ∷ digits)), rest)
unsigned_read negative b digits rest d f e =
    let both = and_parts _ _ d in
    let value = value_of b digits in
    let most = within_limit negative (digits_value (b ∷ digits)) f in
    let within : more_digits (b - 48) digits ≤ limit negative = subst (λ (n : ℕ). n ≤ limit negative) (sym value) most in
    yes_cond (is_digit b) (signed_at negative (digits_at negative (b - 48) (digits ++ rest))) (Err (b ∷ (digits ++ rest))) both.0
    ∙ ap (signed_at negative) (digits_read negative (b - 48) digits rest both.1 within e)
    ∙ ap (λ (n : ℕ). let r : Result (ℤ × List ℕ) (List ℕ) = Ok (signed negative n, rest) in r) value

no_sign : (b : ℕ) → is_digit b ≡ true → (b == 45) ≡ false
no_sign b h = grind (arith, nat_tests)

plain_read : (z : ℤ) (digits rest : List ℕ) → list_all is_digit digits ≡ true → 1 ≤ length digits → z ≡ pos (digits_value digits) → fits z ≡ true → is_end_of_word rest ≡ true → number_at (digits ++ rest) ≡ Ok (z, rest)
plain_read z [] rest d l v f e = absurd (omega arith)
plain_read z (b ∷ digits) rest d l v f e =
    let both = and_parts _ _ d in
    no_cond (b == 45) (unsigned_at true (digits ++ rest)) (unsigned_at false (b ∷ (digits ++ rest))) (no_sign b both.0)
    ∙ unsigned_read false b digits rest d (ap fits (sym v) ∙ f) e
    ∙ ap (λ (x : ℤ). let r : Result (ℤ × List ℕ) (List ℕ) = Ok (x, rest) in r) (sym v)

signed_read : (z : ℤ) (digits rest : List ℕ) → list_all is_digit digits ≡ true → 1 ≤ length digits → z ≡ neg_ℤ (pos (digits_value digits)) → fits z ≡ true → is_end_of_word rest ≡ true → number_at (45 ∷ (digits ++ rest)) ≡ Ok (z, rest)
signed_read z [] rest d l v f e = absurd (omega arith)
signed_read z (b ∷ digits) rest d l v f e =
    unsigned_read true b digits rest d (ap fits (sym v) ∙ f) e
    ∙ ap (λ (x : ℤ). let r : Result (ℤ × List ℕ) (List ℕ) = Ok (x, rest) in r) (sym v)

pub number_read : (z : ℤ) (word rest : List ℕ) → SpellsNumber z word → is_end_of_word rest ≡ true → number_at (word ++ rest) ≡ Ok (z, rest)
number_read z word rest s e =
    elim s.spelled [
      | inl p ↦ ap (λ (x : List ℕ). number_at (x ++ rest)) p.0 ∙ plain_read z s.digits rest s.are_digits s.at_least_one p.1 s.within e
      | inr p ↦ ap (λ (x : List ℕ). number_at (x ++ rest)) p.0 ∙ signed_read z s.digits rest s.are_digits s.at_least_one p.1 s.within e
    ]

-- a digit, or the sign
abbrev pub begins_number : ℕ → Bool
begins_number b = is_digit b || b == 45

digits_first : (digits : List ℕ) → list_all is_digit digits ≡ true → 1 ≤ length digits → (b : ℕ) × (others : List ℕ) × (digits ≡ b ∷ others) × (begins_number b ≡ true)
digits_first [] d l = absurd (omega arith)
digits_first (b ∷ digits) d l = let digit : is_digit b ≡ true = (and_parts _ _ d).0 in (b, digits, refl, grind (arith, nat_tests))

pub number_first : (z : ℤ) (word : List ℕ) → SpellsNumber z word → (b : ℕ) × (others : List ℕ) × (word ≡ b ∷ others) × (begins_number b ≡ true)
number_first z word s =
    elim s.spelled [
      | inl p ↦ let f = digits_first s.digits s.are_digits s.at_least_one in (f.0, f.1, p.0 ∙ f.2, f.3)
      | inr p ↦ (45, s.digits, p.0, refl)
    ]
