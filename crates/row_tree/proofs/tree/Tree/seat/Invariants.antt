use Rattle.std.proofs.Common.{◌≡◌, ◌+◌, ◌≤◌, length, false}
use Rattle.std.specs.List.{find, prefix_len}
use Rattle.std.specs.Option.{option_map_or}
use Rattle.row_tree.specs.Bounds.{is_at, is_before, is_not_before}
use Rattle.row_tree.specs.Split.{IsSplit}
use Rattle.row_tree.proofs.tree.Tree.seat.Given as goal

abbrev pub invariant-forks : goal.invariant-forks
invariant-forks g l =
    let standing = g.B.Bound.standing l.bound in
    IsSplit (is_before standing) l.tree
    × (prefix_len (is_before standing) l.fn.self ≡ l.past + prefix_len (is_before standing) l.tree)
    × (l.past + length l.tree ≤ length l.fn.self)
    × (option_map_or (is_at standing) (find (is_not_before standing) l.fn.self) false
    ≡ option_map_or (is_at standing) (find (is_not_before standing) l.tree) l.is_there)
