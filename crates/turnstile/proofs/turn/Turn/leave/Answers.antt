use Rattle.std.proofs.Common.{rules, ◌≡◌, ℕ, List, [], ◌∷◌, Some, refl, ap, ◌∙◌}
use Rattle.std.specs.Prelude.{Option}
use Rattle.atomic_table.specs.Table.{Me, rest}
use Rattle.turnstile.specs.declared.rule.View.{View}
use Rattle.turnstile.specs.Views.{announced, put_in}
use Rattle.turnstile.proofs.Moves.{announces_as, home_as, releases_as}
use Rattle.turnstile.proofs.turn.Turn.leave.Goals as goal

pub store-requires : goal.store-requires
store-requires g c =
    let r = c.requires.turn in
    let q = c.requires.grew in
    let me = c.args.self.pass.now.seat.me in
    let x = c.args.self.value in
    let held : c.exchange-none.new.seat.me ≡ (me.0, (0, Some x) ∷ []) = c.exchange-none.ensures.3 ∙ ap (λ (z : List (ℕ × Option g.row.W.Denot)). (me.0, (0, Some x) ∷ rest z)) r.out in
    (search rules, search rules, announces_as _ _ _ _ _ _ _ _ x q.new c.args.self.turnstile.now.counts.1 held r.live r.holds r.away q.grown q.made)

pub load-requires : goal.load-requires
load-requires g c =
    let r = c.requires.turn in
    let q = c.requires.grew in
    let me = c.args.self.pass.now.seat.me in
    let x = c.args.self.value in
    let held : c.exchange-none.new.seat.me ≡ (me.0, (0, Some x) ∷ []) = c.exchange-none.ensures.3 ∙ ap (λ (z : List (ℕ × Option g.row.W.Denot)). (me.0, (0, Some x) ∷ rest z)) r.out in
    let told : c.store.new.seat.me ≡ (announced me.0 (g.W.Grows.entries x), (0, Some x) ∷ []) =
    c.store.ensures.2 x (ap (λ z. z.1) held) ∙ ap (λ (z : Me (Option g.row.W.Denot) (View g.row.W-Opening.Denot g.row.W-Entry.Denot)). (announced z.0 (g.W.Grows.entries x), z.1)) held in
    (search rules, search rules, home_as _ _ _ _ _ _ _ _ x c.args.self.turnstile.now.counts.1 told r.live r.holds refl q.opening)

pub store-requires-2 : goal.store-requires-2
store-requires-2 g c =
    let r = c.requires.turn in
    let q = c.requires.grew in
    let me = c.args.self.pass.now.seat.me in
    let x = c.args.self.value in
    let held : c.exchange-none.new.seat.me ≡ (me.0, (0, Some x) ∷ []) = c.exchange-none.ensures.3 ∙ ap (λ (z : List (ℕ × Option g.row.W.Denot)). (me.0, (0, Some x) ∷ rest z)) r.out in
    let told : c.store.new.seat.me ≡ (announced me.0 (g.W.Grows.entries x), (0, Some x) ∷ []) =
    c.store.ensures.2 x (ap (λ z. z.1) held) ∙ ap (λ (z : Me (Option g.row.W.Denot) (View g.row.W-Opening.Denot g.row.W-Entry.Denot)). (announced z.0 (g.W.Grows.entries x), z.1)) held in
    let inside : c.load.new.seat.me ≡ (put_in (announced me.0 (g.W.Grows.entries x)), []) = c.load.ensures.2 x (ap (λ z. z.1) told) ∙ ap (λ (z : Me (Option g.row.W.Denot) (View g.row.W-Opening.Denot g.row.W-Entry.Denot)). (put_in z.0, [])) told in
    (search rules, search rules, releases_as _ _ _ _ _ _ _ (put_in (announced me.0 (g.W.Grows.entries x))) c.args.self.turnstile.now.counts.1 inside r.live r.holds refl)
