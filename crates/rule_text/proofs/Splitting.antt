-- Where a word is split from what follows.
use Rattle.std.proofs.Common.{◌≡◌, ℕ, ◌+◌, ◌<◌, List, [], ◌∷◌, ◌++◌, true, false, take, drop, length, refl, add-one, get_or, suc, arith}
use Rattle.std.proofs.Math.Seq.{take-suc, drop-cons}
use Rattle.rule_conditions.specs.Lexing.{is_begun}
use Rattle.rule_text.specs.Lexing.{begins_any, word_split}
use Rattle.rule_text.specs.declared.outline.Outline.{Outline}

one_more : (s : Outline) (head : List ℕ) (b : ℕ) (rest : List ℕ) → begins_any s (head ++ b ∷ []) ≡ true → word_split s (head ++ b ∷ []) rest ≡ word_split s head (b ∷ rest)
one_more s head b rest e = rw e refl

no_more : (s : Outline) (head : List ℕ) (b : ℕ) (rest : List ℕ) → begins_any s (head ++ b ∷ []) ≡ false → word_split s head (b ∷ rest) ≡ (head, b ∷ rest)
no_more s head b rest e = rw e refl

-- one byte more, where a word goes on with it
pub split_on : (s : Outline) (text : List ℕ) (len : ℕ) → len < length text → begins_any s (take (len + 1) text) ≡ true → word_split s (take (len + 1) text) (drop (len + 1) text) ≡ word_split s (take len text) (drop len text)
split_on s text len h e =
    let e2 = rw (add-one, take-suc text len 0 h) at e in
    rw (add-one, take-suc text len 0 h, drop-cons text len 0 h) (one_more s (take len text) (get_or text len 0) (drop (suc len) text) e2)

-- no more, where none does
pub split_off : (s : Outline) (text : List ℕ) (len : ℕ) → len < length text → begins_any s (take (len + 1) text) ≡ false → word_split s (take len text) (drop len text) ≡ (take len text, drop len text)
split_off s text len h e =
    let e2 = rw (add-one, take-suc text len 0 h) at e in
    rw (drop-cons text len 0 h) (no_more s (take len text) (get_or text len 0) (drop (suc len) text) e2)

-- no letters begin with what has a byte
pub none_begun : (letters head : List ℕ) (i : ℕ) → i < length head → length letters ≡ 0 → is_begun letters (drop i head) ≡ false
none_begun [] head i h e = rw (drop-cons head i 0 h) refl
none_begun (letter ∷ letters) head i h e = absurd (omega arith)
