use Rattle.std.proofs.Common.{◌≡◌, None, rules, ap}
use Rattle.sessions.specs.Effects.{marks_with}
use Rattle.session_registry.proofs.Changing.{kept_at}
use Rattle.run_state.specs.CallEffects.{with_marked}
use Rattle.run_state.proofs.holdings.take.Goals as goal

pub returns-in_default : goal.returns-in_default
returns-in_default c =
    let none : c.args.mark ≡ None = search (rules, c.in_default.is) in
    kept_at (with_marked c.args.mark) c.args.registry.now.sessions c.args.at (λ s. ap (λ o. record s { marks = marks_with o s.marks }) none)
