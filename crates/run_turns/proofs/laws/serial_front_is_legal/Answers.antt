use Rattle.run_turns.proofs.Serially.{serial_front_is_legal}
use Rattle.run_turns.proofs.laws.serial_front_is_legal.Goals as goal

pub returns : goal.returns
returns c = serial_front_is_legal
