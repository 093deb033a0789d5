use Rattle.run_fates.proofs.Ending.{serial_is_durable}
use Rattle.run_fates.proofs.laws.serial_is_durable.Goals as goal

pub returns : goal.returns
returns c = serial_is_durable
