use Rattle.std.proofs.Common.{◌≡◌, ◌++◌}
use Rattle.named_list.proofs.list.NamedList.copied.Given as goal

abbrev pub invariant-loop-item : goal.invariant-loop-item
invariant-loop-item g l = l.copy ++ l.item-iterator ≡ l.self
