use Rattle.run_turns.proofs.Turned.{serial_calls_all}
use Rattle.run_turns.proofs.laws.serial_calls_all.Goals as goal

pub returns : goal.returns
returns c = serial_calls_all
