use Rattle.std.proofs.Common.{◌≡◌, ◌∙◌, ap, drop, filter, not, subst}
use Rattle.std.specs.Ordering.{is_lt}
use Rattle.row_tree.proofs.Behind.{behind_split}
use Rattle.row_tree.proofs.Rising.{split_from_rising}
use Rattle.row_tree.proofs.ordered.Ordered.rank.Goals as goal

pub rank-requires : goal.rank-requires
rank-requires g c = split_from_rising (g.B.Bound.standing c.args.bound.now) (g.met.B.Bound.falls c.args.bound.now) c.self.inside.tree c.self.invariant

pub returns-clause-behind : goal.returns-clause-behind
returns-clause-behind g c =
    let standing = g.B.Bound.standing c.args.bound.now in
    let split = split_from_rising standing (g.met.B.Bound.falls c.args.bound.now) c.self.inside.tree c.self.invariant in
    subst (λ rows. drop c.rank.result rows ≡ filter (λ row. not (is_lt (standing row))) rows) c.self.view_is
    (ap (λ n. drop n c.self.inside.tree) c.rank.ensures ∙ behind_split (λ row. is_lt (standing row)) c.self.inside.tree split)
