use Rattle.std.proofs.Common.{rules, sym, ◌∙◌, subst}
use Rattle.std.specs.Prelude.{Contains}
use Rattle.turnstile.proofs.Moves.{splits_pass}
use Rattle.turnstile.proofs.lock.Turnstile.split_as.Goals as goal

pub split_seat-seat-requires : goal.split_seat-seat-requires
split_seat-seat-requires g c =
    let p = c.requires.pass in
    let n = c.requires.number in
    let made = c.args.pass.now.seat.me.0.made in
    (search rules, search rules, splits_pass _ _ _ _ _ _ g.N.Number.number p.live p.waits c.requires.first (λ z. n.0 (sym z ∙ n.2)) (λ z. n.1 (subst (Contains made) n.2 z)))
