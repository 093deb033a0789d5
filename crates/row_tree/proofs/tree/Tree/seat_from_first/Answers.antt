use Rattle.std.proofs.Common.{◌≡◌, true, option_copied, ap, sym, ◌∙◌}
use Rattle.std.specs.Ordering.{is_eq}
use Rattle.row_tree.proofs.Seats.{none_ahead}
use Rattle.row_tree.proofs.tree.Tree.seat_from_first.Goals as goal

pub returns-then-is_eq-clause-rank : goal.returns-then-is_eq-clause-rank
returns-then-is_eq-clause-rank g c =
    let standing = g.B.Bound.standing c.args.bound.now in
    let there = sym c.get.ensures ∙ ap option_copied c.in-Some.is in
    let at : is_eq (standing c.in-Some.first.now) ≡ true = cc in
    none_ahead standing c.args.self.now c.in-Some.first.now there at
