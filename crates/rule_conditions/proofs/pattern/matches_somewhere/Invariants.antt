use Rattle.std.proofs.Common.{length, ◌≡◌, ◌+◌}
use denote.Text.{Utf8}
use denote.Shadow.{shadow}
use Rattle.std.specs.Str.{chars}
use Rattle.rule_conditions.specs.Like.{is_like, some_suffix}
use Rattle.rule_conditions.proofs.pattern.matches_somewhere.Given as goal

abbrev pub invariant-loop-after : goal.invariant-loop-after
invariant-loop-after l = shadow (Utf8 l.wanted_rest) × shadow (Utf8 l.rest)
    × (some_suffix (is_like (chars l.fn.pattern)) (chars l.fn.text) ≡ some_suffix (is_like (chars l.wanted_rest)) (chars l.rest))

abbrev pub decreases-loop-after : goal.decreases-loop-after
decreases-loop-after l = length (chars l.wanted_rest) + length (chars l.rest)
