use Rattle.database_recovery.proofs.Disks as disks
use Rattle.database_recovery.proofs.laws.mount_recovers.Goals as goal

pub returns : goal.returns
returns c = disks.mount_recovers
