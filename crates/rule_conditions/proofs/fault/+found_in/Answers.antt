use Rattle.std.proofs.Common.{◌≡◌, sym, ◌∙◌, None, [], ◌∷◌, ◌++◌, append_assoc}
use Rattle.rule_conditions.specs.Check.{cond_fault}
use Rattle.rule_conditions.proofs.NoFault.{none_told}
use Rattle.rule_conditions.proofs.fault.+found_in.Goals as goal

pub loop-part-preserved : goal.loop-part-preserved
loop-part-preserved t c =
    let kept = c.loop-part.invariant in
    let first = c.in-Some.ensures.steps in
    let none : cond_fault c.args.fields.now c.in-Some.part.now ≡ None =
    sym c.found_in-found.ensures ∙ none_told c.found_in-found.result (sym c.is_some.ensures ∙ c.if-is_some.false) in (
      (kept.0.0 ++ c.in-Some.part.now ∷ [], rw append_assoc (rw first at kept.0.1)),
      sym (rw (first, none) at (sym kept.1)),
    )
