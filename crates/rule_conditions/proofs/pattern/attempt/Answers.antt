use Rattle.std.proofs.Common.{rules, ◌≡◌, ◌==◌, ◌||◌, true, false, arith, sym, ◌∙◌}
use Rattle.rule_conditions.proofs.Matching.{goes_on_at_star, fails_without_text, fails_at_another, keeps_behind}
use Rattle.rule_conditions.proofs.pattern.attempt.Goals as goal

pub returns-then-wanted-eq37 : goal.returns-then-wanted-eq37
returns-then-wanted-eq37 c = goes_on_at_star _ _ _ _ c.in-Some.wanted _ c.loop-wanted.invariant.2 c.in-Some.ensures.some c.if-wanted-eq37.true

pub returns-in_default-first_of : goal.returns-in_default-first_of
returns-in_default-first_of c =
    let plain : (c.in-Some.wanted == 37) ≡ false = grind (arith, c.if-wanted-eq37.false) in
    fails_without_text _ _ _ _ c.in-Some.wanted _ c.loop-wanted.invariant.2 c.in-Some.ensures.some plain c.in_default-first_of.ensures.none

pub returns-then-not-takes : goal.returns-then-not-takes
returns-then-not-takes c =
    let plain : (c.in-Some.wanted == 37) ≡ false = grind (arith, c.if-wanted-eq37.false) in
    let other : (c.in-Some.wanted == 95 || c.in-Some.wanted == c.in-Some-first_of.found) ≡ false = sym c.takes.ensures ∙ c.if-not-takes.true in
    fails_at_another _ _ _ _ c.in-Some.wanted _ c.loop-wanted.invariant.2 c.in-Some.ensures.some plain
    c.in-Some-first_of.found _ c.in-Some-first_of.ensures.some other

pub loop-wanted-preserved : goal.loop-wanted-preserved
loop-wanted-preserved c =
    let plain : (c.in-Some.wanted == 37) ≡ false = grind (arith, c.if-wanted-eq37.false) in
    let same : (c.in-Some.wanted == 95 || c.in-Some.wanted == c.in-Some-first_of.found) ≡ true = sym c.takes.ensures ∙ c.if-not-takes.false in (
      search rules,
      search rules,
      keeps_behind _ _ _ _ c.in-Some.wanted _ c.loop-wanted.invariant.2 c.in-Some.ensures.some plain
          c.in-Some-first_of.found _ c.in-Some-first_of.ensures.some same,
    )
