use Rattle.run_turns.proofs.Oneness.{serial_is_one}
use Rattle.run_turns.proofs.laws.serial_is_one.Goals as goal

pub returns : goal.returns
returns c = serial_is_one
