-- The first line of a text.
use Rattle.std.proofs.Common.{◌≡◌, ℕ, ◌+◌, ◌-◌, ◌<◌, ◌≤◌, inl, inr, List, [], ◌∷◌, Some, None, false, length, take, drop, ap, ◌∙◌, arith, refl, length-drop}
use Rattle.std.specs.Prelude.{position}
use Rattle.std.specs.List.{All, position_or_len, count_by}
use Rattle.std.proofs.lemmas.List.{take_all}
use Rattle.std.proofs.lemmas.List.Splits.{slice_split_first, slice_split_none, length-slice_split}
use Rattle.std.proofs.lemmas.List.Sums.{fails_before_first}
use Rattle.std.proofs.lemmas.Bool.{cases_lt}
use Rattle.std.proofs.lemmas.Grind.{common_steps}
use Rattle.script_text.specs.Script.{is_line_feed, lines_of, lines_before_last}

take_rest : (at : ℕ) (text : List ℕ) → take (length text - at) (drop at text) ≡ drop at text
take_rest at text = take_all (length text - at) (drop at text) (omega (arith, length-drop at text))

-- no line feed stands in a text whose first one is past its end
no_feed : (text : List ℕ) → length text ≤ position_or_len is_line_feed text → All (λ byte. is_line_feed byte ≡ false) text
no_feed text h = λ k d within. let before : k < position_or_len is_line_feed text = omega arith in fails_before_first is_line_feed text k d before

pub cut_at : (text : List ℕ) (at : ℕ) → position is_line_feed text ≡ Some at → at < length text → lines_of text ≡ take at text ∷ lines_of (take (length text - (at + 1)) (drop (at + 1) text))
cut_at text at e h = elim (cases_lt (position_or_len is_line_feed text) (length text)) as (λ _. lines_of text ≡ take at text ∷ lines_of (take (length text - (at + 1)) (drop (at + 1) text))) [
  | inl within ↦ let here : position_or_len is_line_feed text ≡ at = grind (arith, common_steps) in
      rw (take_rest (at + 1) text) (slice_split_first is_line_feed text 0 within ∙ ap (λ i. take i text ∷ lines_of (drop (i + 1) text)) here)
  | inr past ↦ absurd (grind (arith, common_steps))
]

pub uncut : (text : List ℕ) → position is_line_feed text ≡ None → lines_of text ≡ text ∷ []
uncut text e = elim (cases_lt (position_or_len is_line_feed text) (length text)) as (λ _. lines_of text ≡ text ∷ []) [
  | inl within ↦ absurd (grind (arith, common_steps))
  | inr past ↦ slice_split_none is_line_feed text (no_feed text past)
]

-- the lines but the last, where a line feed stands behind the first
pub before_last_on : (text line rest : List ℕ) → lines_of text ≡ line ∷ lines_of rest → lines_before_last text ≡ line ∷ lines_before_last rest
before_last_on text line rest e =
    let len : length (lines_of rest) ≡ count_by is_line_feed rest + 1 = length-slice_split is_line_feed rest in
    rw (e, len) (grind (arith, common_steps))

-- and where none does
pub before_last_end : (text line : List ℕ) → lines_of text ≡ line ∷ [] → lines_before_last text ≡ []
before_last_end text line e = rw e refl
