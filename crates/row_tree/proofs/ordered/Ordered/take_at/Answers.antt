use Rattle.std.proofs.Common.{◌<◌, List, length, arith, subst, sym, ◌∙◌, ap, not, Bool}
use Rattle.std.specs.Ordering.{is_eq}
use Rattle.std.proofs.lemmas.List.Edits.{length-remove}
use Rattle.row_tree.specs.Order.{IsRising}
use Rattle.row_tree.proofs.Rising.{split_from_rising, rising_kept}
use Rattle.row_tree.proofs.Taking.{takes, leaves}
use Rattle.row_tree.proofs.ordered.Ordered.take_at.Goals as goal

pub seat_from_first-at-requires : goal.seat_from_first-at-requires
seat_from_first-at-requires g c = split_from_rising (g.B.Bound.standing c.args.bound.now) (g.met.B.Bound.falls c.args.bound.now) c.self.inside.tree c.self.invariant

pub returns-then-not-is_there-clause-row : goal.returns-then-not-is_there-clause-row
returns-then-not-is_there-clause-row g c =
    let t = leaves (g.B.Bound.standing c.args.bound.now) (g.met.B.Bound.falls c.args.bound.now) c.self.inside.tree c.self.invariant c.seat_from_first-at.result.0 c.seat_from_first-at.ensures.rank (sym c.seat_from_first-at.ensures.at ∙ c.if-not-is_there.true) in
    cc (t.row, c.self.view_is)

pub returns-then-not-is_there-clause-rest : goal.returns-then-not-is_there-clause-rest
returns-then-not-is_there-clause-rest g c =
    let t = leaves (g.B.Bound.standing c.args.bound.now) (g.met.B.Bound.falls c.args.bound.now) c.self.inside.tree c.self.invariant c.seat_from_first-at.result.0 c.seat_from_first-at.ensures.rank (sym c.seat_from_first-at.ensures.at ∙ c.if-not-is_there.true) in
    cc (t.rest, c.self.view_is)

pub remove-requires : goal.remove-requires
remove-requires g c =
    let t = takes (g.B.Bound.standing c.args.bound.now) (g.met.B.Bound.falls c.args.bound.now) c.self.inside.tree c.self.invariant c.seat_from_first-at.result.0 c.seat_from_first-at.ensures.rank (sym c.seat_from_first-at.ensures.at ∙ c.if-not-is_there.false) in
    omega (arith, t.within)

pub returns-clause-row : goal.returns-clause-row
returns-clause-row g c =
    let t = takes (g.B.Bound.standing c.args.bound.now) (g.met.B.Bound.falls c.args.bound.now) c.self.inside.tree c.self.invariant c.seat_from_first-at.result.0 c.seat_from_first-at.ensures.rank (sym c.seat_from_first-at.ensures.at ∙ c.if-not-is_there.false) in
    cc (t.row, c.remove.ensures.row, c.self.view_is)

pub returns-clause-rest : goal.returns-clause-rest
returns-clause-rest g c =
    let t = takes (g.B.Bound.standing c.args.bound.now) (g.met.B.Bound.falls c.args.bound.now) c.self.inside.tree c.self.invariant c.seat_from_first-at.result.0 c.seat_from_first-at.ensures.rank (sym c.seat_from_first-at.ensures.at ∙ c.if-not-is_there.false) in
    cc (t.rest, c.remove.ensures.rest, c.self.view_is)

pub returns-clause-rising : goal.returns-clause-rising
returns-clause-rising g c =
    let p : g.row.T.Denot → Bool = λ row. not (is_eq (g.B.Bound.standing c.args.bound.now row)) in
    let P : List g.row.T.Denot → Type 0 = λ xs. IsRising g.T.InOrder.order xs in
    subst P (sym (returns-clause-rest g c)) (rising_kept g.T.InOrder.order p c.args.self.now (subst P c.self.view_is c.self.invariant))

pub invariant_of-self : goal.invariant_of-self
invariant_of-self g c = returns-clause-rising g c

pub returns-clause-len : goal.returns-clause-len
returns-clause-len g c =
    let t = takes (g.B.Bound.standing c.args.bound.now) (g.met.B.Bound.falls c.args.bound.now) c.self.inside.tree c.self.invariant c.seat_from_first-at.result.0 c.seat_from_first-at.ensures.rank (sym c.seat_from_first-at.ensures.at ∙ c.if-not-is_there.false) in
    let n : c.seat_from_first-at.result.0 < length c.self.inside.tree = omega (arith, t.within) in
    let long = length-remove c.self.inside.tree c.seat_from_first-at.result.0 n in
    omega (arith, ap length c.remove.ensures.rest, ap length c.self.view_is)
