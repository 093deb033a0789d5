use Rattle.std.proofs.Common.{◌≡◌, ◌≤◌, ap, subst, ◌∙◌, arith, length}
use Rattle.queue_rows.specs.World.{World}
use Rattle.aq_world.proofs.Running.{running_few}
use Rattle.aq_world.proofs.world.World.session_count.Goals as goal

pub overflow_cast-result : goal.overflow_cast-result
overflow_cast-result g c =
    let w = c.self.inside.state.world in
    let few = running_few c.self.invariant.readings w c.self.invariant.running in
    let count : c.session_count.result ≡ length w.sessions = c.session_count.ensures ∙ ap (λ (v : World). length v.sessions) c.run.ensures in
    omega (arith, few, count)

pub returns-clause-most : goal.returns-clause-most
returns-clause-most g c =
    subst (λ v. length v.held.world.sessions ≤ 64) c.self.view_is (running_few c.self.invariant.readings c.self.inside.state.world c.self.invariant.running)
