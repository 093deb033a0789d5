use Rattle.std.proofs.Common.{rules, ◌∙◌}
use Rattle.turnstile.proofs.Moves.{takes_as}
use Rattle.turnstile.proofs.lock.Turnstile.take.Goals as goal

pub compare_exchange-found-requires : goal.compare_exchange-found-requires
compare_exchange-found-requires g c =
    let same = c.loop.invariant.1 in
    let v = c.args.pass.now.seat.me.0 in
    (search rules, search rules, takes_as _ _ _ _ _ _ _ v c.args.self.now.counts.1 (same ∙ (λ i. (v, c.requires.idle i))) c.requires.live c.requires.waits)

pub loop-preserved : goal.loop-preserved
loop-preserved g c = (c.compare_exchange-found.ensures.0 ∙ c.loop.invariant.0, c.compare_exchange-found.ensures.2.1 c.if-found-eq0.false ∙ c.loop.invariant.1)
