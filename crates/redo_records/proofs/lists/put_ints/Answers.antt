use Rattle.std.proofs.Common.{arith}
use Rattle.std.proofs.lemmas.Grind.{common_steps}
use Rattle.redo_records.proofs.Typed.{ints_go_on}
use Rattle.redo_records.proofs.lists.put_ints.Goals as goal

pub loop-number-preserved : goal.loop-number-preserved
loop-number-preserved c = record {
  bytes = grind (arith, common_steps);
  typed = ints_go_on c.args.numbers.now c.loop-number.number-index c.loop-number-test.true c.in_ok-put.ensures.typed c.loop-number.invariant.typed;
}
