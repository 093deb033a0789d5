use Rattle.std.proofs.Common.{arith, ◌≡◌}
use Rattle.aq_clock.specs.Clock.{step_reading}
use Rattle.aq_clock.proofs.Told.{told_reading, told_on}
use Rattle.aq_clock.proofs.step.StepClockClock.now.Goals as goal

pub returns-clause-reading : goal.returns-clause-reading
returns-clause-reading c =
    let clock = c.args.self.now in
    let is : c.min.result ≡ step_reading clock.start clock.taken = grind (arith) in
    told_reading (step_reading clock.start) clock.taken c.saturating_add-self.result (λ below. grind (arith)) (λ at. grind (arith)) c.min.result is

pub returns-clause-tells : goal.returns-clause-tells
returns-clause-tells c =
    let clock = c.args.self.now in
    told_on (step_reading clock.start) clock.taken c.saturating_add-self.result (λ below. grind (arith)) (λ at. grind (arith))
