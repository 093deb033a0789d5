use Rattle.std.proofs.Common.{◌≡◌, None, rules, ap}
use Rattle.sessions.specs.Effects.{pending_with}
use Rattle.session_registry.proofs.Results.{on_ok}
use Rattle.session_registry.proofs.Changing.{kept_at}
use Rattle.run_state.specs.CallEffects.{with_pended}
use Rattle.run_state.proofs.entering.keep.Goals as goal

pub returns-in-None-clause-sessions : goal.returns-in-None-clause-sessions
returns-in-None-clause-sessions c =
    let none : c.args.pending ≡ None = search (rules, c.in-None.is) in
    on_ok c.put.result (kept_at (with_pended c.args.pending) c.args.registry.now.sessions c.args.entry.actor (λ s. ap (λ o. record s { pending = pending_with o s.pending }) none))
