-- What was gone over begins a word, and what is left is split as the whole is.
use Rattle.std.proofs.Common.{◌≡◌, ◌≤◌, ◌-◌, [], take, drop, length}
use Rattle.rule_text.specs.Lexing.{word_split}
use Rattle.rule_text.proofs.words.word_len.Given as goal

abbrev pub invariant-loop-len : goal.invariant-loop-len
invariant-loop-len l = record {
  within : l.len ≤ length l.rest;
  same : word_split l.outline (take l.len l.rest) (drop l.len l.rest) ≡ word_split l.outline [] l.rest;
}

abbrev pub decreases-loop-len : goal.decreases-loop-len
decreases-loop-len l = length l.rest - l.len
