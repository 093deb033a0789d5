-- The statements that were drawn so far stand at the end.
use Rattle.std.proofs.Common.{◌≡◌, ◌++◌}
use Rattle.work_gen.specs.Script.{drawn_statements, number_after}
use Rattle.work_gen.proofs.script.draw_statements.Given as goal

abbrev pub invariant-loop-drawn : goal.invariant-loop-drawn
invariant-loop-drawn l = (l.statements ≡ l.initial.statements ++ drawn_statements l._drawn l.initial.draws.number)
    × (l.draws.number ≡ number_after l._drawn l.initial.draws.number)
