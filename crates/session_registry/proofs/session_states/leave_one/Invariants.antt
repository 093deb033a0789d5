use Rattle.std.proofs.Common.{◌≡◌}
use Rattle.std.specs.Prelude.{map}
use Rattle.queue_rows.specs.Session.{not_standing_in}
use Rattle.session_registry.specs.Sessions.{session_of}
use Rattle.session_registry.proofs.Leaving.{first_mapped}
use Rattle.session_registry.proofs.session_states.leave_one.Given as goal

abbrev pub invariant-loop-at : goal.invariant-loop-at
invariant-loop-at l = map session_of l.states ≡ first_mapped l.at (not_standing_in l.db l.queue) (map session_of l.fn.states)
