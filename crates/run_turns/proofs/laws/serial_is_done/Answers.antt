use Rattle.run_turns.proofs.Done.{serial_is_done}
use Rattle.run_turns.proofs.laws.serial_is_done.Goals as goal

pub returns : goal.returns
returns c = serial_is_done
