use Rattle.std.proofs.Common.{◌≡◌, None, rules, ap}
use Rattle.sessions.specs.Effects.{marks_without}
use Rattle.session_registry.proofs.Changing.{kept_at}
use Rattle.run_state.specs.CallEffects.{with_unmarked}
use Rattle.run_state.proofs.holdings.release.Goals as goal

pub returns-in_default : goal.returns-in_default
returns-in_default c =
    let none : c.args.unmark ≡ None = search (rules, c.in_default.is) in
    kept_at (with_unmarked c.args.unmark) c.args.registry.now.sessions c.args.at (λ s. ap (λ o. record s { marks = marks_without o s.marks }) none)
