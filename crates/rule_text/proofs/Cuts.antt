-- What is left behind a token is less, and a text.
use Rattle.std.proofs.Common.{◌≡◌, inl, inr, ℕ, ◌<◌, ◌≤◌, List, [], ◌∷◌, ◌++◌, true, length, refl, arith, subst}
use Rattle.std.specs.List.{AllByRecursion}
use Rattle.std.specs.Str.{IsUtf8}
use Rattle.std.proofs.lemmas.Bool.Decides.{nat_tests}
use Rattle.rule_conditions.specs.Tokens.{is_space}
use Rattle.rule_text.proofs.Choice.{chosen}
use Rattle.rule_text.proofs.Content.{cut_behind}
use Rattle.rule_conditions.specs.Lexing.{behind_space}

pub cut_first : (b : ℕ) (rest : List ℕ) → b < 128 → IsUtf8 (b ∷ rest) → IsUtf8 rest
cut_first b rest small u = (cut_behind [] b rest small u).1

pub cut_ascii : (word rest : List ℕ) → AllByRecursion (λ b. b < 128) word → IsUtf8 (word ++ rest) → IsUtf8 rest
cut_ascii [] rest small u = u
cut_ascii (b ∷ word) rest small u = cut_ascii word rest small.1 (cut_first b (word ++ rest) small.0 u)

space_is_ascii : (b : ℕ) → is_space b ≡ true → b < 128
space_is_ascii b h = grind (arith, nat_tests)

pub space_utf8 : (text : List ℕ) → IsUtf8 text → IsUtf8 (behind_space text)
space_utf8 [] u = u
space_utf8 (b ∷ text) u =
    let P : List ℕ → Type 0 = λ x. IsUtf8 x in
    elim (chosen (is_space b) (behind_space text) (b ∷ text) _ refl) [
      | inl p ↦ subst P p.1 (space_utf8 text (cut_first b text (space_is_ascii b p.0) u))
      | inr p ↦ subst P p.1 u
    ]

pub space_shorter : (text : List ℕ) → length (behind_space text) ≤ length text
space_shorter [] = omega arith
space_shorter (b ∷ text) =
    let P : List ℕ → Type 0 = λ x. length x ≤ length (b ∷ text) in
    let below : length (behind_space text) ≤ length text = space_shorter text in
    elim (chosen (is_space b) (behind_space text) (b ∷ text) _ refl) [
      | inl p ↦ let h : length (behind_space text) ≤ length (b ∷ text) = omega arith in subst P p.1 h
      | inr p ↦ let h : length (b ∷ text) ≤ length (b ∷ text) = omega arith in subst P p.1 h
    ]
