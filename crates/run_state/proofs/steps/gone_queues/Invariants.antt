use Rattle.std.proofs.Common.{◌≡◌, ◌++◌}
use Rattle.session_registry.specs.Sessions.{gone_in}
use Rattle.run_state.proofs.steps.gone_queues.Given as goal

abbrev pub invariant-loop-change : goal.invariant-loop-change
invariant-loop-change l = l.names ++ gone_in l.change-iterator ≡ gone_in l.changes
