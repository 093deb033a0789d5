use Rattle.std.proofs.Common.{All}
use Rattle.message_store.specs.Numbers.{HasNumbers}
use Rattle.message_store.proofs.numbers.check_numbers.Given as goal

abbrev pub invariant-loop-change : goal.invariant-loop-change
invariant-loop-change l = All HasNumbers l.change-iterator → All HasNumbers l.changes
