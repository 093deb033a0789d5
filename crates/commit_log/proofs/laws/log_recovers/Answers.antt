use Rattle.commit_log.proofs.Logging.{log_recovers}
use Rattle.commit_log.proofs.laws.log_recovers.Goals as goal

pub returns : goal.returns
returns g c = log_recovers g.D.Disk.seen g.D.Disk.is_image g.D.Disk.calls c.contents_recover.ensures
