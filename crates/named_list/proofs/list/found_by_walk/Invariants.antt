use Rattle.std.proofs.Common.{◌≡◌, drop, find}
use Rattle.named_list.proofs.list.found_by_walk.Given as goal

abbrev pub invariant-loop-at : goal.invariant-loop-at
invariant-loop-at g l = find (g.S.Sought.is l.sought) (drop l.at l.items) ≡ find (g.S.Sought.is l.sought) l.items
