use Rattle.std.proofs.Common.{◌≡◌, ◌++◌}
use Rattle.pair_list.proofs.list.PairList.copied.Given as goal

abbrev pub invariant-loop-item : goal.invariant-loop-item
invariant-loop-item g l = l.copy ++ l.item-iterator ≡ l.self
