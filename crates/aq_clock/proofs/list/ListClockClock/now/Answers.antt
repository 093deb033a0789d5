use Rattle.std.proofs.Common.{rules, arith, ◌≡◌}
use Rattle.aq_clock.specs.Clock.{list_reading}
use Rattle.aq_clock.proofs.Told.{told_reading, told_on}
use Rattle.aq_clock.proofs.list.ListClockClock.now.Goals as goal

pub returns-clause-reading : goal.returns-clause-reading
returns-clause-reading c =
    let clock = c.args.self.now in
    let is : c.reading_at-reading.result ≡ list_reading clock.list.items clock.taken = search rules in
    told_reading (list_reading clock.list.items) clock.taken c.saturating_add-self.result (λ below. grind (arith)) (λ at. grind (arith)) c.reading_at-reading.result is

pub returns-clause-tells : goal.returns-clause-tells
returns-clause-tells c =
    let clock = c.args.self.now in
    told_on (list_reading clock.list.items) clock.taken c.saturating_add-self.result (λ below. grind (arith)) (λ at. grind (arith))
