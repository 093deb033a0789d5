use Rattle.std.proofs.Common.{◌≡◌, List, filter, not, arith, subst, sym, ap, ◌∙◌}
use Rattle.std.specs.Ordering.{is_eq}
use Rattle.std.specs.declared.cmp.Ordering.{Ordering}
use Rattle.row_tree.specs.Changes.{set_in_order}
use Rattle.row_tree.specs.Order.{IsRising, less_by}
use Rattle.row_tree.specs.declared.ordered.Ordered.TheInside.{Inside}
use Rattle.row_tree.proofs.Rising.{split_from_rising}
use Rattle.row_tree.proofs.Seats.{rising_set, set_there, set_within}
use Rattle.row_tree.proofs.Taking.{takes, leaves}
use Rattle.row_tree.proofs.ordered.Ordered.set.Goals as goal
use Rattle.row_tree.proofs.ordered.Ordered.set.Goals.{then-is_there, else-is_there}

pub seat_from_last-at-requires : goal.seat_from_last-at-requires
seat_from_last-at-requires g c =
    split_from_rising (λ x. g.T.InOrder.order x c.args.row) (λ x y. less_by g.met.T.InOrder.total x y c.args.row) c.self.inside.tree c.self.invariant

pub remove-replaced-requires : goal.remove-replaced-requires
remove-replaced-requires g c =
    let t = takes (λ x. g.T.InOrder.order x c.args.row) (λ x y. less_by g.met.T.InOrder.total x y c.args.row) c.self.inside.tree c.self.invariant c.seat_from_last-at.result.0 c.seat_from_last-at.ensures.rank (sym c.seat_from_last-at.ensures.at ∙ c.if-is_there.true) in
    omega (arith, t.within)

pub insert-requires-clause-within : goal.insert-requires-clause-within
insert-requires-clause-within g c =
    let order = g.T.InOrder.order in
    let total = g.met.T.InOrder.total in
    let row = c.args.row in
    let tree = c.self.inside.tree in
    let standing : g.row.T.Denot → Ordering = λ x. order x row in
    let falls = λ (x y : g.row.T.Denot). less_by total x y row in
    let at = c.seat_from_last-at.result.0 in
    let kept : c.if-is_there.self-inside.tree ≡ filter (λ y. not (is_eq (order y row))) tree =
    elim c.if-is_there.branch [
      | then-is_there w ↦
          let t = takes standing falls tree c.self.invariant at c.seat_from_last-at.ensures.rank (sym c.seat_from_last-at.ensures.at ∙ w.if-is_there.true) in
          ap (λ (s : Inside g.row.T.Denot). s.tree) w.self-inside-is ∙ w.remove-replaced.ensures.rest ∙ t.rest
      | else-is_there w ↦
          let t = leaves standing falls tree c.self.invariant at c.seat_from_last-at.ensures.rank (sym c.seat_from_last-at.ensures.at ∙ w.if-is_there.false) in
          ap (λ (s : Inside g.row.T.Denot). s.tree) w.self-inside-is ∙ sym t.rest
    ] in
    set_within total row tree c.self.invariant at c.if-is_there.self-inside.tree c.seat_from_last-at.ensures.rank kept

pub returns-clause-rows : goal.returns-clause-rows
returns-clause-rows g c =
    let order = g.T.InOrder.order in
    let total = g.met.T.InOrder.total in
    let row = c.args.row in
    let tree = c.self.inside.tree in
    let standing : g.row.T.Denot → Ordering = λ x. order x row in
    let falls = λ (x y : g.row.T.Denot). less_by total x y row in
    let at = c.seat_from_last-at.result.0 in
    let kept : c.if-is_there.self-inside.tree ≡ filter (λ y. not (is_eq (order y row))) tree =
    elim c.if-is_there.branch [
      | then-is_there w ↦
          let t = takes standing falls tree c.self.invariant at c.seat_from_last-at.ensures.rank (sym c.seat_from_last-at.ensures.at ∙ w.if-is_there.true) in
          ap (λ (s : Inside g.row.T.Denot). s.tree) w.self-inside-is ∙ w.remove-replaced.ensures.rest ∙ t.rest
      | else-is_there w ↦
          let t = leaves standing falls tree c.self.invariant at c.seat_from_last-at.ensures.rank (sym c.seat_from_last-at.ensures.at ∙ w.if-is_there.false) in
          ap (λ (s : Inside g.row.T.Denot). s.tree) w.self-inside-is ∙ sym t.rest
    ] in
    c.insert.ensures ∙ set_there total row tree c.self.invariant at c.if-is_there.self-inside.tree c.seat_from_last-at.ensures.rank kept ∙ ap (set_in_order order row) c.self.view_is

pub returns-clause-rising : goal.returns-clause-rising
returns-clause-rising g c =
    let P : List g.row.T.Denot → Type 0 = λ xs. IsRising g.T.InOrder.order xs in
    subst P (sym (returns-clause-rows g c)) (rising_set g.met.T.InOrder.total c.args.row c.args.self.now (subst P c.self.view_is c.self.invariant))

pub invariant_of-self : goal.invariant_of-self
invariant_of-self g c = returns-clause-rising g c
