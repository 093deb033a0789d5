-- The content of a text that is read is within the limit.
use Rattle.std.proofs.Common.{◌≡◌, ◌==◌, inl, inr, ℕ, ◌+◌, ◌<◌, ◌≤◌, ◌/◌, List, [], ◌∷◌, ◌++◌, Bool, true, false, Ok, length, refl, arith, sym, ap, subst, nat_le, nat_lt, length-append, ◌&&◌}
use Rattle.std.specs.Str.{IsUtf8}
use lib.Utf8.{encode, encodes, scalar, scalars, scalar_cases}
use Rattle.std.proofs.lemmas.Bool.{leb-true, ltb-true, ltb-false, and_parts}
use Rattle.std.proofs.lemmas.Bool.Decides.{nat_tests}
use Rattle.rule_conditions.specs.declared.TheConstants.{TEXT_LIMIT}
use Rattle.rule_text.proofs.Choice.{chosen}
use Rattle.rule_conditions.specs.Lexing.{content_at, has_room, char_len}

abbrev pub goes_on : ℕ → Bool
goes_on b = nat_le 0x80 b && nat_lt b 0xc0

-- each byte that begins a character leaves room for all of it, so many bytes in
abbrev pub FitsFrom : ℕ → List ℕ → Type 0
FitsFrom n [] = Unit {0}
FitsFrom n (b ∷ rest) = (goes_on b ≡ false → n + char_len b ≤ TEXT_LIMIT) × FitsFrom (n + 1) rest

pub fits_more : (n : ℕ) (xs : List ℕ) (b : ℕ) → FitsFrom n xs → (goes_on b ≡ false → n + length xs + char_len b ≤ TEXT_LIMIT) → FitsFrom n (xs ++ b ∷ [])
fits_more n [] b f h = (λ e. let r = h e in omega arith, tt)
fits_more n (x ∷ xs) b f h = (f.0, fits_more (n + 1) xs b f.1 (λ e. let r = h e in omega arith))

pub room_fits : (content : List ℕ) (b : ℕ) → has_room content b ≡ true → goes_on b ≡ false → 0 + length content + char_len b ≤ TEXT_LIMIT
room_fits content b h e =
    let fits : nat_le (length content + char_len b) TEXT_LIMIT ≡ true = rw e at h in
    let le = leb-true _ _ fits in omega arith

pub content_fits : (text content : List ℕ) (closed : Bool) (out : List ℕ × List ℕ) → FitsFrom 0 content → content_at content closed text ≡ Ok out → FitsFrom 0 out.0
content_fits [] content false out f e = cc
content_fits [] content true out f e =
    let same : (content, []) ≡ out = cc in
    subst (λ (o : List ℕ × List ℕ). FitsFrom 0 o.0) same f
content_fits (b ∷ text) content false out f e =
    elim (chosen (b == 39) _ _ _ e) [
      | inl p ↦ content_fits text content true out f p.1
      | inr p ↦ elim (chosen (has_room content b) _ _ _ p.1) [
        | inl q ↦ content_fits text (content ++ b ∷ []) false out (fits_more 0 content b f (room_fits content b q.0)) q.1
        | inr q ↦ cc
      ]
    ]
content_fits (b ∷ text) content true out f e =
    elim (chosen (b == 39) _ _ _ e) [
      | inl p ↦ elim (chosen (has_room content b) _ _ _ p.1) [
        | inl q ↦ content_fits text (content ++ b ∷ []) false out (fits_more 0 content b f (room_fits content b q.0)) q.1
        | inr q ↦ cc
      ]
      | inr p ↦
          let same : (content, b ∷ text) ≡ out = cc in
          subst (λ (o : List ℕ × List ℕ). FitsFrom 0 o.0) same f
    ]

-- the first byte of a character goes on with none, and tells how many bytes it has
pub record Leads (bytes : List ℕ) : Type 0 where
  pub first : ℕ
  pub others : List ℕ
  pub is : bytes ≡ first ∷ others
  pub begins : goes_on first ≡ false
  pub len : char_len first ≡ length bytes

pub leads : (c : ℕ) → scalar c ≡ true → Leads (encode c)
unfolding encode
leads c s =
    let cases = scalar_cases c s in
    let most : c < 1114112 = elim cases [ inl h ↦ omega arith | inr h ↦ h.1 ] in
    let P : List ℕ → Type 0 = λ x. Leads x in
    elim (chosen (nat_lt c 128) _ _ (encode c) refl) [
      | inl p ↦
          let low = ltb-true c 128 p.0 in
          subst P p.1 record { first = c; others = []; is = refl; begins = grind (arith, nat_tests); len = grind (arith, nat_tests) }
      | inr p ↦ elim (chosen (nat_lt c 2048) _ _ _ p.1) [
        | inl q ↦
            let low = ltb-true c 2048 q.0 in
            let high = ltb-false c 128 p.0 in
            let from : 192 ≤ 192 + c / 64 = omega arith in
            let to : 192 + c / 64 < 224 = omega arith in
            subst P q.1 record { first = 192 + c / 64; others = _; is = refl; begins = grind (arith, nat_tests); len = grind (arith, nat_tests) }
        | inr q ↦ elim (chosen (nat_lt c 65536) _ _ _ q.1) [
          | inl r ↦
              let low = ltb-true c 65536 r.0 in
              let from : 224 ≤ 224 + c / 4096 = omega arith in
              let to : 224 + c / 4096 < 240 = omega arith in
              subst P r.1 record { first = 224 + c / 4096; others = _; is = refl; begins = grind (arith, nat_tests); len = grind (arith, nat_tests) }
          | inr r ↦
              let from : 240 ≤ 240 + c / 262144 = omega arith in
              subst P r.1 record { first = 240 + c / 262144; others = _; is = refl; begins = grind (arith, nat_tests); len = grind (arith, nat_tests) }
        ]
      ]
    ]

fits_behind : (n : ℕ) (xs ys : List ℕ) → FitsFrom n (xs ++ ys) → FitsFrom (n + length xs) ys
fits_behind n [] ys f = subst (λ (m : ℕ). FitsFrom m ys) (omega arith) f
fits_behind n (x ∷ xs) ys f = subst (λ (m : ℕ). FitsFrom m ys) (omega arith) (fits_behind (n + 1) xs ys f.1)

first_fits : (n : ℕ) (bytes ys : List ℕ) → Leads bytes → FitsFrom n (bytes ++ ys) → n + length bytes ≤ TEXT_LIMIT
first_fits n bytes ys l f =
    let g : FitsFrom n (l.first ∷ l.others ++ ys) = subst (λ (x : List ℕ). FitsFrom n (x ++ ys)) l.is f in
    let h = g.0 l.begins in
    let len = l.len in
    omega arith

chars_fit : (n : ℕ) (cs : List ℕ) → n ≤ TEXT_LIMIT → scalars cs ≡ true → FitsFrom n (encodes cs) → n + length (encodes cs) ≤ TEXT_LIMIT
chars_fit n [] h s f = omega arith
chars_fit n (c ∷ cs) h s f =
    let both = and_parts _ _ s in
    let fits = first_fits n (encode c) (encodes cs) (leads c both.0) f in
    let more = chars_fit (n + length (encode c)) cs fits both.1 (fits_behind n (encode c) (encodes cs) f) in
    omega (arith, length-append (encode c) (encodes cs))

pub content_within : (content : List ℕ) → IsUtf8 content → FitsFrom 0 content → length content ≤ TEXT_LIMIT
content_within content u f =
    let h = chars_fit 0 u.0 (omega arith) u.1.0 (subst (λ (x : List ℕ). FitsFrom 0 x) (sym u.1.1) f) in
    omega (arith, ap length u.1.1)
