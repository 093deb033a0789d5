use Rattle.crash_laws.proofs.Standing.{opening_stands}
use Rattle.crash_laws.proofs.laws.opening_survives.Goals as goal

pub returns : goal.returns
returns g c = opening_stands g.D.Disk.is_image g.D.Disk.calls
