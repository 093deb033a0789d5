use Rattle.crash_laws.proofs.Standing.{calls_pass}
use Rattle.crash_laws.proofs.laws.calls_pass.Goals as goal

pub returns : goal.returns
returns g c = calls_pass g.D.Disk.is_image g.D.Disk.calls
