use Rattle.std.proofs.Common.{◌≡◌, take}
use Rattle.durable_state.specs.Counted.{counted}
use Rattle.durable_state.proofs.counting.set_all_calls.Given as goal

abbrev pub invariant-loop-at : goal.invariant-loop-at
invariant-loop-at l = l.entries ≡ counted l.fn.entries (take l.at l.calls.items)
