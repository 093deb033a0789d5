use Rattle.std.proofs.Common.{◌≡◌, Some, sym, ◌∙◌, subst}
use mathlib.Core.Option.{some-injective}
use Rattle.turnstile.specs.Passes.{known_of, Closes}
use Rattle.turnstile.proofs.Moves.{closes_with}
use Rattle.turnstile.proofs.lock.Turnstile.close.Goals as goal

pub unreachable-requires : goal.unreachable-requires
unreachable-requires g c =
    let p = c.requires.pass in
    let f = c.close_with-closed.ensures.values.2 in
    let q = closes_with g.W.Grows.opening g.W.Grows.entries g.W.Grows.actor (g.W.Grows.opening c.args.self.table.shared.key.value.value) c.args.pass.seat.id c.args.pass.seat.me.0 p.0.live p.0.waits p.1 c.requires.joined f.0 f.1 in
    let home = f.4 0 (Some q.0) q.1 in
    let same = some-injective _ _ (sym home ∙ c.take-slot.ensures.value) in
    c.in_default.not-Some q.0 (sym same)

pub returns : goal.returns
returns g c =
    let p = c.requires.pass in
    let f = c.close_with-closed.ensures.values.2 in
    let q = closes_with g.W.Grows.opening g.W.Grows.entries g.W.Grows.actor (g.W.Grows.opening c.args.self.table.shared.key.value.value) c.args.pass.seat.id c.args.pass.seat.me.0 p.0.live p.0.waits p.1 c.requires.joined f.0 f.1 in
    let home = f.4 0 (Some q.0) q.1 in
    let held : Some q.0 ≡ Some c.in-Some.value = some-injective _ _ (sym home ∙ c.take-slot.ensures.value) ∙ c.in-Some.is in
    let same : q.0 ≡ c.in-Some.value = cc in
    subst (λ (x : g.row.W.Denot). Closes g.W.Grows.opening g.W.Grows.entries g.W.Grows.actor (known_of c.args.pass.seat.me.0) x) same q.2
