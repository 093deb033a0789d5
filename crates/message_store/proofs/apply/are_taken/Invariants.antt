use Rattle.std.proofs.Common.{◌≡◌, true, drop}
use Rattle.message_store.specs.Taken.{are_taken}
use Rattle.message_store.proofs.apply.are_taken.Given as goal

abbrev pub invariant-loop-at : goal.invariant-loop-at
invariant-loop-at l = are_taken (drop l.at l.dones) (drop l.at l.gone) ≡ true → are_taken l.dones l.gone ≡ true
