-- The numbers that digits write.
use Rattle.std.proofs.Common.{◌≡◌, ℕ, ◌<◌, ◌≤◌, ◌^◌, ◌≢◌, List, [], ◌∷◌, length, true, false, not, None, Some, refl, ap, arith, rules}
use Rattle.std.specs.Prelude.{Result, Ok, Err, nat_le, ◌==◌}
use Rattle.std.specs.Char.{digit_value, is_ascii_digit}
use Rattle.std.specs.List.{list_all}
use Rattle.std.specs.Result.{OkIff, result_ok}
use Rattle.aq_base.specs.declared.limits.TheConstants.{ID_LIMIT}
use Rattle.std.specs.Str.Parse.{digits_value, ParsesUnsigned}
use Rattle.std.proofs.lemmas.Bool.{lt-leb, ne_eqb}
use Rattle.std.proofs.lemmas.Bool.Decides.{nat_tests}
use Rattle.std.proofs.lemmas.Str.Parse.{IsDigitsTest, IsNumeralModel, numerals_by_value, parse_digits, digits_value-take-le}
use Rattle.script_text.specs.Parts.{is_counting, id_number, id_of_text}
use Rattle.script_text.proofs.Tests.{both}

test : IsDigitsTest (λ ds. list_all is_ascii_digit ds ≡ true)
test = search rules

own : IsNumeralModel (λ ds. list_all is_ascii_digit ds ≡ true) (digits_value 10)
own = numerals_by_value (λ ds. list_all is_ascii_digit ds ≡ true) test

digits : (text : List ℕ) → is_counting text ≡ true → list_all is_ascii_digit text ≡ true
digits [] e = absurd cc
digits (first ∷ rest) e = (both (not (first == 48)) (list_all is_ascii_digit (first ∷ rest)) e).1

some : (text : List ℕ) → is_counting text ≡ true → 0 < length text
some [] e = absurd cc
some (first ∷ rest) e = omega arith

-- what is read of them
read : {E : Type 0} (text : List ℕ) (r : Result ℕ E) → is_counting text ≡ true → ParsesUnsigned 64 10 text r → OkIff r ((0 < length text) × (digits_value 10 text < 2 ^ 64)) (digits_value 10 text)
read text r e h = parse_digits own 64 text r h (digits text e)

pub number_is : {E : Type 0} (text : List ℕ) (r : Result ℕ E) (n : ℕ) → is_counting text ≡ true → ParsesUnsigned 64 10 text r → result_ok r ≡ Some n → n ≡ digits_value 10 text
number_is {E} text (Ok m) n e h is = let same : m ≡ digits_value 10 text = (read {E = E} text (Ok m) e h).1 in cc
number_is {E} text (Err fault) n e h is = absurd cc

great : (number : ℕ) → (number < 2 ^ 64 → ⊥) → nat_le number ID_LIMIT ≡ false
great number h = lt-leb number 4611686018427387903 (omega arith)

-- and where they write too great a number
pub no_number : {E : Type 0} (text : List ℕ) (r : Result ℕ E) → is_counting text ≡ true → ParsesUnsigned 64 10 text r → result_ok r ≡ None → id_number text ≡ None
no_number text (Ok m) e h is = absurd cc
no_number text (Err fault) e h is =
    let past : nat_le (digits_value 10 text) ID_LIMIT ≡ false = great (digits_value 10 text) (λ few. (read text (Err fault) e h) (some text e, few)) in
    rw (e, past) refl

first_is : (first : ℕ) → not (first == 48) ≡ true → is_ascii_digit first ≡ true → 1 ≤ digit_value first
first_is first e h = grind (arith, nat_tests)

-- they write no 0
pub counts : (text : List ℕ) → is_counting text ≡ true → 1 ≤ digits_value 10 text
counts [] e = absurd cc
counts (first ∷ rest) e =
    let parts = both (not (first == 48)) (list_all is_ascii_digit (first ∷ rest)) e in
    let one : 1 ≤ digit_value first = first_is first parts.0 (both (is_ascii_digit first) (list_all is_ascii_digit rest) parts.1).0 in
    omega (arith, digits_value-take-le 10 (first ∷ rest) 1 (omega arith), one)

-- a text with neither of the letters in front names no message
pub no_letter : (text : List ℕ) → ((rest : List ℕ) → text ≢ 104 ∷ rest) → ((rest : List ℕ) → text ≢ 97 ∷ rest) → id_of_text text ≡ None
no_letter [] h a = refl
no_letter (letter ∷ rest) h a =
    let no_h : (letter == 104) ≡ false = ne_eqb letter 104 (λ e. h rest (ap (λ l. l ∷ rest) e)) in
    let no_a : (letter == 97) ≡ false = ne_eqb letter 97 (λ e. a rest (ap (λ l. l ∷ rest) e)) in
    rw (no_h, no_a) refl
