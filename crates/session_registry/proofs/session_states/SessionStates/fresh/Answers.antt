use Rattle.std.proofs.Common.{ap, ◌∙◌}
use Rattle.std.specs.Prelude.{map}
use Rattle.session_registry.specs.Sessions.{session_of}
use Rattle.session_registry.proofs.States.{fresh_states}
use Rattle.session_registry.proofs.session_states.SessionStates.fresh.Goals as goal

pub returns : goal.returns
returns c = ap (map session_of) (c.from_vec.ensures ∙ c.in_ok-collect_states.ensures) ∙ fresh_states c.args.scripts.now
