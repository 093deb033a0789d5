use Rattle.std.proofs.Common.{List, Option, IfSome, option_map, slice_get, arith, subst, sym, ap, ◌∙◌}
use Rattle.std.specs.List.{find}
use Rattle.std.specs.Ordering.{is_eq}
use Rattle.row_tree.specs.Changes.{change_where}
use Rattle.row_tree.specs.Order.{IsRising}
use Rattle.row_tree.proofs.Rising.{split_from_rising}
use Rattle.row_tree.proofs.Seats.{changed_there, rising_changed, told_there}
use Rattle.row_tree.proofs.Taking.{takes, leaves}
use Rattle.row_tree.proofs.ordered.Ordered.change_at.Goals as goal

pub seat-at-requires : goal.seat-at-requires
seat-at-requires g c = split_from_rising (g.B.Bound.standing c.args.bound.now) (g.met.B.Bound.falls c.args.bound.now) c.self.inside.tree c.self.invariant

pub change-requires-clause-within : goal.change-requires-clause-within
change-requires-clause-within g c =
    let t = takes (g.B.Bound.standing c.args.bound.now) (g.met.B.Bound.falls c.args.bound.now) c.self.inside.tree c.self.invariant c.seat-at.result.0 c.seat-at.ensures.rank (sym c.seat-at.ensures.at ∙ c.if-is_there.true) in
    omega (arith, t.within)

pub change-requires-clause-allowed : goal.change-requires-clause-allowed
change-requires-clause-allowed g c =
    let t = takes (g.B.Bound.standing c.args.bound.now) (g.met.B.Bound.falls c.args.bound.now) c.self.inside.tree c.self.invariant c.seat-at.result.0 c.seat-at.ensures.rank (sym c.seat-at.ensures.at ∙ c.if-is_there.true) in
    let found = t.row ∙ ap (λ (xs : List g.row.T.Denot). find (λ y. is_eq (g.B.Bound.standing c.args.bound.now y)) xs) c.self.view_is in
    subst (λ (o : Option g.row.T.Denot). IfSome o (g.C.Change.allowed c.args.change)) (sym found) c.requires

pub returns-then-is_there-clause-told : goal.returns-then-is_there-clause-told
returns-then-is_there-clause-told g c =
    let t = takes (g.B.Bound.standing c.args.bound.now) (g.met.B.Bound.falls c.args.bound.now) c.self.inside.tree c.self.invariant c.seat-at.result.0 c.seat-at.ensures.rank (sym c.seat-at.ensures.at ∙ c.if-is_there.true) in
    let found = t.row ∙ ap (λ (xs : List g.row.T.Denot). find (λ y. is_eq (g.B.Bound.standing c.args.bound.now y)) xs) c.self.view_is in
    let tells = g.C.Change.tells c.args.change in
    ap (option_map tells) (sym found)
    ∙ told_there (λ y. is_eq (g.B.Bound.standing c.args.bound.now y)) tells c.change.result (slice_get c.self.inside.tree c.seat-at.result.0) (sym c.seat-at.ensures.at ∙ c.if-is_there.true) c.change.ensures.told

pub returns-then-is_there-clause-rows : goal.returns-then-is_there-clause-rows
returns-then-is_there-clause-rows g c =
    let standing = g.B.Bound.standing c.args.bound.now in
    let f = g.C.Change.changed c.args.change in
    c.change.ensures.rows
    ∙ changed_there standing (g.met.B.Bound.falls c.args.bound.now) f c.self.inside.tree c.self.invariant c.seat-at.result.0 c.seat-at.ensures.rank (sym c.seat-at.ensures.at ∙ c.if-is_there.true)
    ∙ ap (change_where (λ y. is_eq (standing y)) f) c.self.view_is

pub returns-then-is_there-clause-rising : goal.returns-then-is_there-clause-rising
returns-then-is_there-clause-rising g c =
    let standing = g.B.Bound.standing c.args.bound.now in
    let P : List g.row.T.Denot → Type 0 = λ xs. IsRising g.T.InOrder.order xs in
    subst P (sym (returns-then-is_there-clause-rows g c))
    (rising_changed g.met.T.InOrder.total (g.C.Change.changed c.args.change) (g.met.C.Change.stays c.args.change) (λ y. is_eq (standing y)) c.args.self.now (subst P c.self.view_is c.self.invariant))

pub invariant_of-self : goal.invariant_of-self
invariant_of-self g c = returns-then-is_there-clause-rising g c

pub returns-else-is_there-clause-none : goal.returns-else-is_there-clause-none
returns-else-is_there-clause-none g c =
    let standing = g.B.Bound.standing c.args.bound.now in
    let t = leaves standing (g.met.B.Bound.falls c.args.bound.now) c.self.inside.tree c.self.invariant c.seat-at.result.0 c.seat-at.ensures.rank (sym c.seat-at.ensures.at ∙ c.if-is_there.false) in
    ap (λ (xs : List g.row.T.Denot). find (λ y. is_eq (standing y)) xs) (sym c.self.view_is) ∙ t.row
