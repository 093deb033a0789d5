-- What is left is begun where the whole is.
use Rattle.std.proofs.Common.{◌≡◌, drop}
use Rattle.rule_conditions.specs.Lexing.{is_begun}
use Rattle.rule_text.proofs.words.is_begun.Given as goal

abbrev pub invariant-loop-byte : goal.invariant-loop-byte
invariant-loop-byte l = is_begun l.letters (drop l.byte-index l.head) ≡ is_begun l.fn.letters l.fn.head
