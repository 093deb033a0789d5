-- Behind the space of what is left stands what stands behind that of the whole.
use Rattle.std.proofs.Common.{◌≡◌, length}
use Rattle.rule_conditions.specs.Lexing.{behind_space}
use Rattle.rule_text.proofs.lexer.behind_space.Given as goal

abbrev pub invariant-loop-byte : goal.invariant-loop-byte
invariant-loop-byte l = behind_space l.rest ≡ behind_space l.fn.rest

abbrev pub decreases-loop-byte : goal.decreases-loop-byte
decreases-loop-byte l = length l.rest
