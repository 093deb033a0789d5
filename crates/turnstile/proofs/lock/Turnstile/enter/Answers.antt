use Rattle.std.proofs.Common.{rules, ◌≡◌, ℕ, List, [], ◌∷◌, Some, refl, sym, ap, ◌∙◌}
use Rattle.std.specs.Prelude.{Option}
use Rattle.atomic_table.specs.Table.{rest}
use Rattle.turnstile.specs.Views.{entered}
use Rattle.turnstile.proofs.Moves.{out_as}
use Rattle.turnstile.proofs.lock.Turnstile.enter.Goals as goal

pub load-requires : goal.load-requires
load-requires g c =
    let h = c.take.ensures.turn in
    let v = c.args.pass.now.seat.me.0 in
    (search rules, search rules, out_as _ _ _ _ _ _ _ (entered v h.log) c.args.self.now.counts.1 h.view c.requires.live refl refl)

pub exchange-taken-requires : goal.exchange-taken-requires
exchange-taken-requires g c =
    let o = c.load.ensures.2 in
    let out : c.load.new.seat.me.1 ≡ (0, Some o.value) ∷ [] = ap (λ z. z.1) o.out in
    (search rules, (Some o.value, out ∙ sym (ap (λ (z : List (ℕ × Option g.row.W.Denot)). (0, Some o.value) ∷ rest z) out)))
