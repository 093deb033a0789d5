use Rattle.crash_laws.proofs.Standing.{quiet_comes}
use Rattle.crash_laws.proofs.laws.entry_comes.Goals as goal

pub returns : goal.returns
returns g c = quiet_comes g.D.Disk.is_image g.D.Disk.calls
