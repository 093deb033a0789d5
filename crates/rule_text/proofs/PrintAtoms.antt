-- An atom that some word spells is spelled by its print.
use Rattle.std.proofs.Common.{◌≡◌, ◌<◌, ◌^◌, ◌+◌, ◌*◌, ◌-◌, ◌==◌, ◌&&◌, ℕ, ℤ, pos, negsuc, neg_ℤ, suc, List, [], ◌∷◌, ◌++◌, Bool, true, false, length, refl, ap, sym, inl, inr, arith, rules, ltb-true, codes, cond, nat_lt, nat_le, le-leb, leb-true}
use Rattle.std.specs.Bool.{IsTrue}
use Rattle.std.specs.Fmt.{decimal, signed_decimal}
use Rattle.std.specs.List.{fold, list_all}
use Rattle.std.specs.Str.{IsUtf8, is_utf8, chars, encode_utf8_all, str_to_ascii_lowercase}
use Rattle.std.specs.Char.{to_ascii_lowercase}
use Rattle.std.proofs.lemmas.Bool.{and_parts, and_from}
use Rattle.std.proofs.lemmas.Bool.Decides.{nat_tests}
use Rattle.std.proofs.lemmas.Fmt.{digits_decimal, digits_value-decimal, decimal_nonempty, IsAscii-signed}
use Rattle.std.proofs.lemmas.Str.{IsUtf8-append, IsUtf8-from_ascii, IsUtf8-from_is_utf8, is_utf8-from_IsUtf8, scalars-chars}
use Rattle.std.proofs.lemmas.Str.Parse.{IsNumeralModel, numerals_by_fold}
use lib.Utf8.{scalars, scalar}
use Rattle.payload_records.specs.Name.{is_name, is_name_byte, is_small_letter}
use Rattle.payload_records.specs.declared.TheConstants.{NAME_LIMIT}
use Rattle.rule_conditions.specs.Print.{doubled, quoted, atom_text}
use Rattle.rule_conditions.specs.Tokens.{SpellsNumber, SpellsAtom, is_digit, digits_value}
use Rattle.rule_conditions.specs.Values.{fits}
use Rattle.rule_conditions.specs.declared.TheConstants.{TEXT_LIMIT}
use Rattle.rule_conditions.specs.declared.condition.Atom.{Atom}
use Rattle.rule_conditions.specs.declared.condition.Atom.TheVariants as atoms
use Rattle.rule_text.specs.PrintReadable.{is_spelled}
use Rattle.rule_text.proofs.PrintSpelling.{ascii}

own : IsNumeralModel (λ ds. IsTrue (list_all is_digit ds)) (λ ds. digits_value ds)
own = numerals_by_fold _ (search rules) (λ n ds. fold (λ value digit. value * 10 + (digit - 48)) n ds) (search rules)

number : (z : ℤ) → IsTrue (fits z) → SpellsNumber z (signed_decimal z)
number (pos n) h =
    let small : n < 2 ^ 63 = ltb-true n (2 ^ 63) h in record {
      digits = decimal n;
      are_digits = digits_decimal own n (omega arith);
      at_least_one = omega (arith, decimal_nonempty n (omega arith));
      spelled = inl (refl, ap pos (sym (digits_value-decimal own n (omega arith))));
      within = h;
    }
number (negsuc n) h =
    let small : n < 2 ^ 63 = ltb-true n (2 ^ 63) h in record {
      digits = decimal (suc n);
      are_digits = digits_decimal own (suc n) (omega arith);
      at_least_one = omega (arith, decimal_nonempty (suc n) (omega arith));
      spelled = inr (refl, ap (λ (x : ℕ). neg_ℤ (pos x)) (sym (digits_value-decimal own (suc n) (omega arith))));
      within = h;
    }

number_utf8 : (z : ℤ) → IsTrue (fits z) → IsUtf8 (signed_decimal z)
number_utf8 (pos n) h = IsUtf8-from_ascii _ (IsAscii-signed (pos n) (ltb-true n (2 ^ 63) h))
number_utf8 (negsuc n) h = IsUtf8-from_ascii _ (IsAscii-signed (negsuc n) (ltb-true n (2 ^ 63) h))

scalars-twice : (b : Bool) (c : ℕ) (cs : List ℕ) → scalar c ≡ true → scalars cs ≡ true → scalars (cond b (c ∷ c ∷ cs) (c ∷ cs)) ≡ true
scalars-twice true c cs one others = and_from (scalar c) (scalars (c ∷ cs)) one (and_from (scalar c) (scalars cs) one others)
scalars-twice false c cs one others = and_from (scalar c) (scalars cs) one others

scalars-doubled : (cs : List ℕ) → scalars cs ≡ true → scalars (doubled cs) ≡ true
scalars-doubled [] h = refl
scalars-doubled (c ∷ cs) h =
    let both = and_parts (scalar c) (scalars cs) h in
    scalars-twice (c == 39) c (doubled cs) both.0 (scalars-doubled cs both.1)

pub quoted_utf8 : (text : List ℕ) → IsUtf8 text → IsUtf8 (quoted text)
quoted_utf8 text h =
    IsUtf8-append (39 ∷ []) (encode_utf8_all (doubled (chars text)) ++ 39 ∷ []) (ascii (39 ∷ []) refl)
    (IsUtf8-append (encode_utf8_all (doubled (chars text))) (39 ∷ []) (doubled (chars text), (scalars-doubled (chars text) (scalars-chars text h), refl)) (ascii (39 ∷ []) refl))

lower : (b : ℕ) → IsTrue (is_name_byte b) → to_ascii_lowercase b ≡ b
lower b h = grind (arith, nat_tests)

lower_all : (name : List ℕ) → IsTrue (list_all is_name_byte name) → str_to_ascii_lowercase name ≡ name
lower_all [] h = refl
lower_all (b ∷ name) h =
    let both = and_parts (is_name_byte b) (list_all is_name_byte name) h in
    rw (lower b both.0, lower_all name both.1) refl

name_bytes : (name : List ℕ) → IsTrue (is_name name) → IsTrue (list_all is_name_byte name)
name_bytes [] h = refl
name_bytes (b ∷ name) h =
    let tests = and_parts (is_small_letter b && list_all is_name_byte (b ∷ name)) (nat_le (length (b ∷ name)) NAME_LIMIT) h in
    (and_parts (is_small_letter b) (list_all is_name_byte (b ∷ name)) tests.0).1

low : (b : ℕ) → IsTrue (is_name_byte b) → IsTrue (nat_lt b 128)
low b h = grind (arith, nat_tests)

low_all : (name : List ℕ) → IsTrue (list_all is_name_byte name) → IsTrue (list_all (λ b. nat_lt b 128) name)
low_all [] h = refl
low_all (b ∷ name) h =
    let both = and_parts (is_name_byte b) (list_all is_name_byte name) h in
    and_from (nat_lt b 128) (list_all (λ c. nat_lt c 128) name) (low b both.0) (low_all name both.1)

field : (name : List ℕ) → IsTrue (is_name name) → str_to_ascii_lowercase (codes "tab.user_data." ++ name) ≡ codes "tab.user_data." ++ name
field name h = rw (lower_all name (name_bytes name h)) refl

property : (name : List ℕ) → IsTrue (is_name name) → str_to_ascii_lowercase (codes "tab.user_prop." ++ name) ≡ codes "tab.user_prop." ++ name
property name h = rw (lower_all name (name_bytes name h)) refl

pub is_spelled-from : (atom : Atom) (word : List ℕ) → SpellsAtom atom word → IsTrue (is_spelled atom)
is_spelled-from (atoms.Number z) word s = s.within
is_spelled-from (atoms.Text content) word s =
    and_from (is_utf8 content) (nat_le (length content) TEXT_LIMIT) (is_utf8-from_IsUtf8 content s.utf8) (le-leb (length content) TEXT_LIMIT s.within)
is_spelled-from atoms.Null word s = refl
is_spelled-from atoms.Priority word s = refl
is_spelled-from atoms.Corr word s = refl
is_spelled-from (atoms.Cell name) word s = s.is_name
is_spelled-from (atoms.Prop name) word s = s.is_name

-- its print does
pub spells_atom : (atom : Atom) → IsTrue (is_spelled atom) → SpellsAtom atom (atom_text atom)
spells_atom (atoms.Number z) h = number z h
spells_atom (atoms.Text content) h =
    let both = and_parts (is_utf8 content) (nat_le (length content) TEXT_LIMIT) h in
    record { utf8 = IsUtf8-from_is_utf8 content both.0; within = leb-true (length content) TEXT_LIMIT both.1; spelled = refl }
spells_atom atoms.Null h = refl
spells_atom atoms.Priority h = refl
spells_atom atoms.Corr h = refl
spells_atom (atoms.Cell name) h = record { is_name = h; spelled = field name h }
spells_atom (atoms.Prop name) h = record { is_name = h; spelled = property name h }

pub atom_utf8 : (atom : Atom) → IsTrue (is_spelled atom) → IsUtf8 (atom_text atom)
atom_utf8 (atoms.Number z) h = number_utf8 z h
atom_utf8 (atoms.Text content) h = quoted_utf8 content (IsUtf8-from_is_utf8 content (and_parts (is_utf8 content) (nat_le (length content) TEXT_LIMIT) h).0)
atom_utf8 atoms.Null h = ascii _ refl
atom_utf8 atoms.Priority h = ascii _ refl
atom_utf8 atoms.Corr h = ascii _ refl
atom_utf8 (atoms.Cell name) h = IsUtf8-append (codes "tab.user_data.") name (ascii _ refl) (ascii name (low_all name (name_bytes name h)))
atom_utf8 (atoms.Prop name) h = IsUtf8-append (codes "tab.user_prop.") name (ascii _ refl) (ascii name (low_all name (name_bytes name h)))
