-- Letters of either case.
use Rattle.std.proofs.Common.{◌≡◌, ℕ, List, [], ◌∷◌, Bool, map, IsTrue, ◌<◌, arith, refl, true, sym, ◌∙◌, ap, ◌&&◌, nat_le, length}
use Rattle.std.specs.List.{list_all}
use Rattle.std.specs.Char.{to_ascii_lowercase}
use Rattle.std.specs.List.{AllByRecursion}
use Rattle.std.specs.Str.{IsUtf8, str_to_ascii_lowercase}
use Rattle.std.proofs.lemmas.List.Folds.{list_all-map}
use Rattle.std.proofs.lemmas.List.Elements.{All-from_recursion}
use Rattle.std.proofs.lemmas.Bool.{and_parts}
use Rattle.std.proofs.lemmas.List.{length-map}
use Rattle.std.proofs.lemmas.Bool.Decides.{nat_tests}
use Rattle.rule_conditions.specs.Lexing.{is_field_name}
use Rattle.std.proofs.lemmas.Str.{IsUtf8-nil, IsUtf8-from_ascii}
use Rattle.std.proofs.lemmas.Str.Ascii.{IsAscii-from_all}
use Rattle.payload_records.specs.Name.{is_name, is_name_byte, is_small_letter}
use Rattle.payload_records.specs.declared.TheConstants.{NAME_LIMIT}

-- each byte, read as a small letter, passes
pub all_lowered : (p : ℕ → Bool) (text : List ℕ) → list_all p (map to_ascii_lowercase text) ≡ list_all (λ b. p (to_ascii_lowercase b)) text
all_lowered p text = list_all-map p to_ascii_lowercase text

-- a small letter of a name is ASCII, and so is what it is the small letter of
name_byte_is_ascii : (b : ℕ) → IsTrue (is_name_byte (to_ascii_lowercase b)) → b < 128
name_byte_is_ascii b h = grind (arith, nat_tests)

-- a field's name is a name in small letters
pub field_name_is_name : (text : List ℕ) → is_field_name text ≡ is_name (str_to_ascii_lowercase text)
field_name_is_name [] = refl
field_name_is_name (first ∷ rest) =
    ap (λ (x : Bool). is_small_letter (to_ascii_lowercase first) && x && nat_le (length (first ∷ rest)) NAME_LIMIT) (sym (all_lowered is_name_byte (first ∷ rest)))
    ∙ ap (λ (n : ℕ). is_small_letter (to_ascii_lowercase first) && list_all is_name_byte (map to_ascii_lowercase (first ∷ rest)) && nat_le n NAME_LIMIT) (sym (length-map (first ∷ rest) to_ascii_lowercase))

pub field_bytes_are_ascii : (text : List ℕ) → IsTrue (list_all (λ b. is_name_byte (to_ascii_lowercase b)) text) → AllByRecursion (λ b. b < 128) text
field_bytes_are_ascii [] h = tt
field_bytes_are_ascii (b ∷ text) h = let both = and_parts _ _ h in (name_byte_is_ascii b both.0, field_bytes_are_ascii text both.1)

-- what is a field's name is a text
pub name_is_utf8 : (text : List ℕ) → IsTrue (is_field_name text) → IsUtf8 text
name_is_utf8 [] h = IsUtf8-nil
name_is_utf8 (b ∷ text) h =
    let name = and_parts _ _ h in
    let bytes = and_parts _ _ name.0 in
    IsUtf8-from_ascii (b ∷ text) (IsAscii-from_all (b ∷ text) (All-from_recursion (λ b2. b2 < 128) (b ∷ text) (field_bytes_are_ascii (b ∷ text) bytes.1)))

pub lowered_is_name : (text : List ℕ) → IsTrue (is_field_name text) → is_name (str_to_ascii_lowercase text) ≡ true
lowered_is_name text h = sym (field_name_is_name text) ∙ h

pub field_name_ascii : (text : List ℕ) → is_field_name text ≡ true → AllByRecursion (λ b. b < 128) text
field_name_ascii [] h = tt
field_name_ascii (b ∷ text) h =
    let name = and_parts _ _ h in
    let bytes = and_parts _ _ name.0 in
    field_bytes_are_ascii (b ∷ text) bytes.1
