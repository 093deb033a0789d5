use Rattle.std.proofs.Common.{length}
use denote.Text.{Utf8}
use denote.Shadow.{shadow}
use Rattle.std.specs.Str.{chars}
use Rattle.rule_conditions.proofs.Matching.{Keeps}
use Rattle.rule_conditions.proofs.pattern.attempt.Given as goal

abbrev pub invariant-loop-wanted : goal.invariant-loop-wanted
invariant-loop-wanted l = shadow (Utf8 l.wanted_rest) × shadow (Utf8 l.rest) × Keeps (chars l.fn.pattern) (chars l.fn.text) (chars l.wanted_rest) (chars l.rest)

abbrev pub decreases-loop-wanted : goal.decreases-loop-wanted
decreases-loop-wanted l = length (chars l.wanted_rest)
