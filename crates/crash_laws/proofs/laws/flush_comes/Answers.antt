use Rattle.crash_laws.proofs.Standing.{flush_comes}
use Rattle.crash_laws.proofs.laws.flush_comes.Goals as goal

pub returns : goal.returns
returns g c = flush_comes g.D.Disk.is_image g.D.Disk.calls
