-- A text between apostrophes is read where it is spelled.
use Rattle.std.proofs.Common.{◌≡◌, ◌==◌, inl, inr, ℕ, ◌+◌, ◌<◌, ◌≤◌, ◌%◌, ◌/◌, List, [], ◌∷◌, ◌++◌, Bool, true, false, Result, Ok, Err, length, refl, arith, sym, ◌∙◌, ap, subst, cond, nat_le, nat_lt, length-append, append_assoc, append-nil}
use Rattle.std.specs.List.{list_all}
use Rattle.std.specs.Str.{IsUtf8}
use lib.Utf8.{encode, encodes, scalars, next}
use Rattle.std.proofs.lemmas.Bool.{le-leb, and_parts, and_from, or_left, or_right, cases_Bool}
use Rattle.std.proofs.lemmas.Bool.Decides.{nat_tests}
use Rattle.rule_conditions.specs.Print.{doubled}
use Rattle.rule_conditions.specs.Tokens.{SpellsText}
use Rattle.rule_conditions.specs.declared.TheConstants.{TEXT_LIMIT}
use Rattle.rule_text.proofs.Choice.{chosen}
use Rattle.rule_text.proofs.Choosing.{yes_cond, no_cond}
use Rattle.rule_text.proofs.Doubling.{quoted_bytes}
use Rattle.rule_text.proofs.Room.{goes_on, FitsFrom, Leads, leads}
use Rattle.rule_conditions.specs.Lexing.{content_at, has_room, char_len}

fits_joined : (n : ℕ) (xs ys : List ℕ) → FitsFrom n xs → FitsFrom (n + length xs) ys → FitsFrom n (xs ++ ys)
fits_joined n [] ys f g = subst (λ (m : ℕ). FitsFrom m ys) (omega arith) g
fits_joined n (x ∷ xs) ys f g = (f.0, fits_joined (n + 1) xs ys f.1 (subst (λ (m : ℕ). FitsFrom m ys) (omega arith) g))

on_fits : (n : ℕ) (xs : List ℕ) → list_all goes_on xs ≡ true → FitsFrom n xs
on_fits n [] h = tt
on_fits n (x ∷ xs) h = let both = and_parts _ _ h in (λ e. cc, on_fits (n + 1) xs both.1)

abbrev behind_first : List ℕ → List ℕ
behind_first [] = []
behind_first (x ∷ xs) = xs

next_goes_on : (n : ℕ) → goes_on (next n) ≡ true
next_goes_on n =
    let from : 128 ≤ 128 + n % 64 = omega arith in
    let to : 128 + n % 64 < 192 = omega arith in
    grind (arith, nat_tests)

others_go_on : (c : ℕ) → list_all goes_on (behind_first (encode c)) ≡ true
unfolding encode
others_go_on c =
    let P : List ℕ → Type 0 = λ x. list_all goes_on (behind_first x) ≡ true in
    elim (chosen (nat_lt c 128) _ _ (encode c) refl) [
      | inl p ↦ subst P p.1 refl
      | inr p ↦ elim (chosen (nat_lt c 2048) _ _ _ p.1) [
        | inl q ↦ subst P q.1 (and_from _ _ (next_goes_on c) refl)
        | inr q ↦ elim (chosen (nat_lt c 65536) _ _ _ q.1) [
          | inl r ↦ subst P r.1 (and_from _ _ (next_goes_on (c / 64)) (and_from _ _ (next_goes_on c) refl))
          | inr r ↦ subst P r.1 (and_from _ _ (next_goes_on (c / 4096)) (and_from _ _ (next_goes_on (c / 64)) (and_from _ _ (next_goes_on c) refl)))
        ]
      ]
    ]

char_fits : (n : ℕ) (bytes : List ℕ) → Leads bytes → list_all goes_on (behind_first bytes) ≡ true → n + length bytes ≤ TEXT_LIMIT → FitsFrom n bytes
char_fits n [] l h w = tt
char_fits n (b ∷ others) l h w =
    let first : l.first ≡ b = cc in
    let len : char_len b ≡ length (b ∷ others) = ap char_len (sym first) ∙ l.len in
    (λ e. omega arith, on_fits (n + 1) others h)

chars_within : (n : ℕ) (cs : List ℕ) → scalars cs ≡ true → n + length (encodes cs) ≤ TEXT_LIMIT → FitsFrom n (encodes cs)
chars_within n [] s w = tt
chars_within n (c ∷ cs) s w =
    let both = and_parts _ _ s in
    let total = length-append (encode c) (encodes cs) in
    let first : n + length (encode c) ≤ TEXT_LIMIT = omega arith in
    let rest : (n + length (encode c)) + length (encodes cs) ≤ TEXT_LIMIT = omega arith in
    fits_joined n (encode c) (encodes cs) (char_fits n (encode c) (leads c both.0) (others_go_on c) first) (chars_within (n + length (encode c)) cs both.1 rest)

content_within_fits : (content : List ℕ) → IsUtf8 content → length content ≤ TEXT_LIMIT → FitsFrom 0 content
content_within_fits content u w =
    let same = ap length u.1.1 in
    subst (λ (x : List ℕ). FitsFrom 0 x) u.1.1 (chars_within 0 u.0 u.1.0 (omega arith))

has_room_for : (front : List ℕ) (b : ℕ) → (goes_on b ≡ false → length front + char_len b ≤ TEXT_LIMIT) → has_room front b ≡ true
has_room_for front b h =
    elim (cases_Bool (goes_on b)) [
      | inl a ↦ or_left (goes_on b) (nat_le (length front + char_len b) TEXT_LIMIT) a
      | inr a ↦ or_right (goes_on b) (nat_le (length front + char_len b) TEXT_LIMIT) (le-leb (length front + char_len b) TEXT_LIMIT (h a))
    ]

-- an apostrophe stands first
abbrev pub begins_quote : List ℕ → Bool
begins_quote [] = false
begins_quote (b ∷ rest) = b == 39

content_ends : (front rest : List ℕ) → begins_quote rest ≡ false → content_at front true rest ≡ Ok (front ++ [], rest)
content_ends front [] e = ap (λ (x : List ℕ). let r : Result (List ℕ × List ℕ) (List ℕ) = Ok (x, []) in r) (sym (append-nil front))
content_ends front (b ∷ rest) e =
    no_cond (b == 39) (cond (has_room front b) (content_at (front ++ b ∷ []) false rest) (Err (b ∷ rest))) (Ok (front, b ∷ rest)) e
    ∙ ap (λ (x : List ℕ). let r : Result (List ℕ × List ℕ) (List ℕ) = Ok (x, b ∷ rest) in r) (sym (append-nil front))

content_read : (content front rest : List ℕ) → FitsFrom (length front) content → begins_quote rest ≡ false → content_at front false (doubled content ++ 39 ∷ rest) ≡ Ok (front ++ content, rest)
content_read [] front rest f e = content_ends front rest e
content_read (b ∷ content) front rest f e =
    let room = has_room_for front b f.0 in
    let len : length front + 1 ≡ length (front ++ b ∷ []) = omega (arith, length-append front (b ∷ [])) in
    let more = content_read content (front ++ b ∷ []) rest (subst (λ (m : ℕ). FitsFrom m content) len f.1) e in
    let whole : content_at (front ++ b ∷ []) false (doubled content ++ 39 ∷ rest) ≡ Ok (front ++ b ∷ content, rest) =
    more ∙ ap (λ (x : List ℕ). let r : Result (List ℕ × List ℕ) (List ℕ) = Ok (x, rest) in r) (append_assoc front (b ∷ []) content) in
    let after = doubled content ++ 39 ∷ rest in
    let stay : Result (List ℕ × List ℕ) (List ℕ) = content_at (front ++ b ∷ []) false after in
    elim (cases_Bool (b == 39)) [
      | inl q ↦
          ap (λ (x : List ℕ). content_at front false (x ++ 39 ∷ rest)) (yes_cond (b == 39) (b ∷ b ∷ doubled content) (b ∷ doubled content) q)
          ∙ yes_cond (b == 39) (content_at front true (b ∷ after)) (cond (has_room front b) (content_at (front ++ b ∷ []) false (b ∷ after)) (Err (b ∷ b ∷ after))) q
          ∙ yes_cond (b == 39) (cond (has_room front b) stay (Err (b ∷ after))) (Ok (front, b ∷ after)) q
          ∙ yes_cond (has_room front b) stay (Err (b ∷ after)) room ∙ whole
      | inr q ↦
          ap (λ (x : List ℕ). content_at front false (x ++ 39 ∷ rest)) (no_cond (b == 39) (b ∷ b ∷ doubled content) (b ∷ doubled content) q)
          ∙ no_cond (b == 39) (content_at front true after) (cond (has_room front b) stay (Err (b ∷ after))) q
          ∙ yes_cond (has_room front b) stay (Err (b ∷ after)) room ∙ whole
    ]

pub text_split : (content word rest : List ℕ) → SpellsText content word → word ++ rest ≡ 39 ∷ (doubled content ++ 39 ∷ rest)
text_split content word rest s =
    ap (λ (x : List ℕ). x ++ rest) (s.spelled ∙ sym (quoted_bytes content s.utf8)) ∙ ap (λ (x : List ℕ). 39 ∷ x) (append_assoc (doubled content) (39 ∷ []) rest)

pub text_read : (content word rest : List ℕ) → SpellsText content word → begins_quote rest ≡ false → content_at [] false (doubled content ++ 39 ∷ rest) ≡ Ok (content, rest)
text_read content word rest s e = content_read content [] rest (content_within_fits content s.utf8 s.within) e

pub text_first : (content word : List ℕ) → SpellsText content word → (others : List ℕ) × (word ≡ 39 ∷ others)
text_first content word s = (doubled content ++ 39 ∷ [], s.spelled ∙ sym (quoted_bytes content s.utf8))
