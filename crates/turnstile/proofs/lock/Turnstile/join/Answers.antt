use Rattle.std.proofs.Common.{rules, ◌∙◌}
use Rattle.turnstile.specs.Views.{with_joined}
use Rattle.turnstile.proofs.Moves.{joins_pass, learns_as}
use Rattle.turnstile.proofs.lock.Turnstile.join.Goals as goal

pub join_seat-requires : goal.join_seat-requires
join_seat-requires g c =
    let p = c.requires.pass.0 in
    let o = c.requires.other.0 in
    (search rules, search rules, search rules, search rules, joins_pass _ _ _ _ _ _ _ _ p.live p.waits c.requires.pass.1 o.live o.waits)

pub load-requires : goal.load-requires
load-requires g c =
    let p = c.requires.pass.0 in
    let v = with_joined c.args.pass.now.seat.me.0 c.args.other.seat.me.0 in
    (search rules, search rules, learns_as _ _ _ _ _ _ _ v c.args.self.now.counts.1 (c.join_seat.ensures.2 ∙ (λ i. (v, p.idle i))) p.live p.waits)
