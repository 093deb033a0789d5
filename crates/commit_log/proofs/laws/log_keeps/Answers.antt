use Rattle.commit_log.proofs.Compaction.{keeps_self}
use Rattle.commit_log.proofs.laws.log_keeps.Goals as goal

pub returns : goal.returns
returns g c t j = keeps_self g.D.Disk t j c.log_recovers.ensures
