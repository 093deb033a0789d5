use Rattle.std.proofs.Common.{[], ◌∷◌, ◌++◌, append_assoc}
use Rattle.rule_conditions.proofs.Together.{either_assoc, both_assoc}
use Rattle.rule_conditions.proofs.judge.+judged.Goals as goal

pub loop-part-preserved : goal.loop-part-preserved
loop-part-preserved t c =
    let kept = c.loop-part.invariant in
    let first = c.in-Some.ensures.steps in (
      (kept.0.0 ++ c.in-Some.part.now ∷ [], rw append_assoc (rw first at kept.0.1)),
      rw (c.either-met.ensures, c.judged.ensures, either_assoc) (rw first at kept.1),
    )

pub loop-part-2-preserved : goal.loop-part-2-preserved
loop-part-2-preserved t c =
    let kept = c.loop-part-2.invariant in
    let first = c.in-Some-part.ensures.steps in (
      (kept.0.0 ++ c.in-Some-part.part.now ∷ [], rw append_assoc (rw first at kept.0.1)),
      rw (c.both-met.ensures, c.judged-in-loop-part-2.ensures, both_assoc) (rw first at kept.1),
    )
