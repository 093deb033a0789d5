use Rattle.std.proofs.Common.{◌≤◌, ◌-◌, length}
use Rattle.std.specs.Fn.{CalledAt}
use Rattle.row_tree.proofs.Retained.{Retains}
use Rattle.row_tree.proofs.tree.Tree.retain.Given as goal

abbrev pub invariant-loop-at : goal.invariant-loop-at
invariant-loop-at g l = (l.at ≤ length l.self) × goal.F-IsAlwaysCallable g l.passes × (length l.self ≤ length l.fn.self) × Retains (CalledAt g.F.FnMut) l.fn.passes l.fn.self l.passes l.self l.at

abbrev pub decreases-loop-at : goal.decreases-loop-at
decreases-loop-at g l = length l.self - l.at
