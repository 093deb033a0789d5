use Rattle.std.proofs.Common.{refl}
use Rattle.durable_state.proofs.Ordering.{home_stopped, home_written}
use Rattle.durable_state.proofs.run_logs.RunLogs.append.Goals as goal

pub returns-in_err-append-clause-order : goal.returns-in_err-append-clause-order
returns-in_err-append-clause-order g c = home_stopped _ _ _ refl c.requires.away

pub returns-clause-order : goal.returns-clause-order
returns-clause-order g c = home_written _ _ _ c.in_ok-append.ensures.flushes.unfailed c.in_ok-append.ensures.queued
