use Rattle.std.proofs.Common.{sym, ◌∙◌}
use Rattle.std.specs.Str.{chars}
use Rattle.rule_conditions.specs.Like.{is_like}
use Rattle.rule_conditions.proofs.Matching.{some_here}
use Rattle.rule_conditions.proofs.pattern.matches_somewhere.Goals as goal

pub returns-in-Ended-true : goal.returns-in-Ended-true
returns-in-Ended-true c =
    sym (c.loop-after.invariant.2 ∙ some_here (is_like (chars c.loop-after.wanted_rest.now)) (chars c.loop-after.rest.now) (c.in-Ended-true.ensures ∙ c.in-Ended-true.field-0-test))
