-- The sessions so far are the first ones, and the number is the one after them.
use Rattle.std.proofs.Common.{◌≡◌}
use Rattle.work_gen.specs.Script.{generated, number_past}
use Rattle.work_gen.proofs.script.sessions.Given as goal

abbrev pub invariant-loop-at : goal.invariant-loop-at
invariant-loop-at l = (l.scripts ≡ generated l.fn.number l.at l.statements)
    × (l.draws.number ≡ number_past l.statements l.at l.fn.number)
