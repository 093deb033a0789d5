use Rattle.std.proofs.Common.{◌≡◌, ◌+◌, ◌≤◌, length}
use Rattle.std.specs.List.{prefix_len}
use Rattle.row_tree.specs.Bounds.{is_before}
use Rattle.row_tree.specs.Split.{IsSplit}
use Rattle.row_tree.proofs.tree.Tree.rank.Given as goal

abbrev pub invariant-forks : goal.invariant-forks
invariant-forks g l =
    IsSplit (is_before (g.B.Bound.standing l.bound)) l.tree
    × (prefix_len (is_before (g.B.Bound.standing l.bound)) l.fn.self ≡ l.past + prefix_len (is_before (g.B.Bound.standing l.bound)) l.tree)
    × (l.past + length l.tree ≤ length l.fn.self)
