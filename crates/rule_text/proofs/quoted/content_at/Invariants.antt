-- What is left reads as the whole does.
use Rattle.std.proofs.Common.{◌≡◌, [], false, length}
use Rattle.rule_conditions.specs.Lexing.{content_at}
use Rattle.rule_text.proofs.quoted.content_at.Given as goal

abbrev pub invariant-loop-byte : goal.invariant-loop-byte
invariant-loop-byte l = content_at l.content.items l.closed l.rest ≡ content_at [] false l.fn.rest

abbrev pub decreases-loop-byte : goal.decreases-loop-byte
decreases-loop-byte l = length l.rest
