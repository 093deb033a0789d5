-- Texts in place, with zeros behind them.
use Rattle.std.proofs.Common.{◌≡◌, ℕ, ◌+◌, ◌-◌, ◌≤◌, ◌<◌, List, ◌++◌, length, get_or, take, drop, replicate, slice_range, eqb, ltb, Bool, true, false, refl, sym, ap, ◌∙◌, arith}
use Rattle.std.specs.Bool.{Decides}
use Rattle.std.specs.Int.{w64, from_le_bytes, to_le_bytes}
use Rattle.std.proofs.lemmas.Bool.Decides.{Decides-eqb, nat_tests}
use Rattle.std.proofs.lemmas.List.{take-append-drop, drop-drop, take_all, take_at, length-drop, length-take, drop-replicate, get_or_past}
use Rattle.std.proofs.lemmas.List.Edits.{length-between, get_or-between}
use Rattle.std.proofs.lemmas.Nat.{le_bytes_8}

-- zeros, written over from the front by a text
pub zeros_behind : (text placed : List ℕ) → placed ≡ text → placed ++ drop (length text) (replicate 22 0)
    ≡ take (length text) (placed ++ drop (length text) (replicate 22 0)) ++ replicate (22 - length text) 0
zeros_behind text placed is =
    let front : take (length text) (placed ++ drop (length text) (replicate 22 0)) ≡ placed = take_at placed (drop (length text) (replicate 22 0)) (length text) (ap length is) in
    ap (λ (l : List ℕ). placed ++ l) (drop-replicate (length text) 22 0) ∙ sym (ap (λ (l : List ℕ). l ++ replicate (22 - length text) 0) front)

-- a list from its front and the rest
same_from : (n : ℕ) (a b : List ℕ) → take n a ≡ take n b → drop n a ≡ drop n b → a ≡ b
same_from n a b front rest =
    sym (take-append-drop n a) ∙ ap (λ (l : List ℕ). l ++ drop n a) front ∙ ap (λ (l : List ℕ). take n b ++ l) rest ∙ take-append-drop n b

-- three parts that cover 22 bytes
pub same_by_parts : (a b : List ℕ) → length a ≡ 22 → length b ≡ 22 → slice_range a 0 8 ≡ slice_range b 0 8
    → slice_range a 8 16 ≡ slice_range b 8 16 → slice_range a 14 22 ≡ slice_range b 14 22 → a ≡ b
same_by_parts a b a-whole b-whole first second last =
    let end : drop 14 a ≡ drop 14 b = sym (take_all 8 (drop 14 a) (omega (arith, length-drop 14 a, a-whole))) ∙ last ∙ take_all 8 (drop 14 b) (omega (arith, length-drop 14 b, b-whole)) in
    let rest : drop 16 a ≡ drop 16 b = sym (drop-drop 2 14 a) ∙ ap (drop 2) end ∙ drop-drop 2 14 b in
    let behind : drop 8 (drop 8 a) ≡ drop 8 (drop 8 b) = drop-drop 8 8 a ∙ rest ∙ sym (drop-drop 8 8 b) in
    same_from 8 a b first (same_from 8 (drop 8 a) (drop 8 b) second behind)

-- eight bytes out of their number
pub same_bytes : (a b : List ℕ) → length a ≡ 8 → length b ≡ 8 → ((i : ℕ) → get_or a i 0 < 256) → ((i : ℕ) → get_or b i 0 < 256)
    → from_le_bytes w64 a ≡ from_le_bytes w64 b → a ≡ b
same_bytes a b a-long b-long a-bytes b-bytes same =
    sym (le_bytes_8 a (from_le_bytes w64 a) a-long a-bytes refl) ∙ ap (to_le_bytes w64) same ∙ le_bytes_8 b (from_le_bytes w64 b) b-long b-bytes refl

word_long : (a : List ℕ) (at : ℕ) → at + 8 ≤ length a → length (slice_range a at (at + 8)) ≡ 8
word_long a at fits = length-between a at (at + 8) fits ∙ omega arith

word_bytes : (a : List ℕ) (at : ℕ) → ((i : ℕ) → get_or a i 0 < 256) → (i : ℕ) → get_or (slice_range a at (at + 8)) i 0 < 256
word_bytes a at bytes i = by_place (ltb i 8) refl
  where
    by_place : (b : Bool) → ltb i 8 ≡ b → get_or (slice_range a at (at + 8)) i 0 < 256
    by_place true within = rw (get_or-between a at (at + 8) i 0 (grind (arith, nat_tests))) (bytes (at + i))
    by_place false past = rw (get_or_past (slice_range a at (at + 8)) i 0 (grind (arith, nat_tests, length-take, length-drop))) (omega arith)

-- a word of each, by its number
pub same_word : (a b : List ℕ) (at : ℕ) → at + 8 ≤ length a → at + 8 ≤ length b → ((i : ℕ) → get_or a i 0 < 256) → ((i : ℕ) → get_or b i 0 < 256)
    → (x y : ℕ) → x ≡ from_le_bytes w64 (slice_range a at (at + 8)) → y ≡ from_le_bytes w64 (slice_range b at (at + 8))
    → Decides (eqb x y) (slice_range a at (at + 8) ≡ slice_range b at (at + 8))
same_word a b at a-fits b-fits a-bytes b-bytes x y x-is y-is =
    let decides = Decides-eqb x y in (
      λ e. same_bytes (slice_range a at (at + 8)) (slice_range b at (at + 8)) (word_long a at a-fits) (word_long b at b-fits) (word_bytes a at a-bytes) (word_bytes b at b-bytes)
          (sym x-is ∙ decides.0 e ∙ y-is),
      λ e. decides.1 (x-is ∙ ap (from_le_bytes w64) e ∙ sym y-is),
    )
