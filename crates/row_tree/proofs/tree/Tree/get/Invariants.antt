use Rattle.std.proofs.Common.{◌≡◌, slice_get}
use Rattle.row_tree.proofs.tree.Tree.get.Given as goal

abbrev pub invariant-forks : goal.invariant-forks
invariant-forks g l = slice_get l.tree l.at ≡ slice_get l.fn.self l.fn.at
