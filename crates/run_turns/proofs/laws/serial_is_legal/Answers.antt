use Rattle.run_turns.proofs.Serially.{serial_is_legal}
use Rattle.run_turns.proofs.laws.serial_is_legal.Goals as goal

pub returns : goal.returns
returns c = serial_is_legal
