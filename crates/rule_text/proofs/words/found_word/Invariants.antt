-- What is left has the word that all have.
use Rattle.std.proofs.Common.{◌≡◌, ◌&&◌, drop}
use Rattle.std.specs.List.{find}
use Rattle.rule_text.specs.Lexing.{is_whole}
use Rattle.rule_text.specs.Outline.{takes_word}
use Rattle.rule_text.proofs.words.found_word.Given as goal

abbrev pub invariant-loop-word : goal.invariant-loop-word
invariant-loop-word l = find (λ word. takes_word l.outline word && is_whole word l.head) (drop l.word-index l.words) ≡ find (λ word. takes_word l.outline word && is_whole word l.head) l.words
