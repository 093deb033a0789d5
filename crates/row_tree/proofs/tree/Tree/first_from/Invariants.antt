use Rattle.std.proofs.Common.{◌≡◌, option_copied}
use Rattle.std.specs.List.{find}
use Rattle.std.specs.Option.{option_or}
use Rattle.row_tree.specs.Bounds.{is_before, is_not_before}
use Rattle.row_tree.specs.Split.{IsSplit}
use Rattle.row_tree.proofs.tree.Tree.first_from.Given as goal

abbrev pub invariant-forks : goal.invariant-forks
invariant-forks g l =
    let q = is_not_before (g.B.Bound.standing l.bound) in
    IsSplit (is_before (g.B.Bound.standing l.bound)) l.tree × (find q l.fn.self ≡ option_or (find q l.tree) (option_copied l.first))
