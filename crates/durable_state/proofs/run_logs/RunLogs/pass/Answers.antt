use Rattle.std.proofs.Common.{[], sym, subst}
use Rattle.redo_journal.specs.Journaled.{Journaled}
use Rattle.durable_state.specs.Queueing.{Queues}
use Rattle.durable_state.proofs.run_logs.RunLogs.pass.Goals as goal

pub returns-clause-enters : goal.returns-clause-enters
returns-clause-enters g c moment =
    let l = c.args.self.now in
    record {
      home_log = subst (λ (j : Journaled _). Queues g.D.Disk.seen g.D.Disk.is_image g.D.Disk.calls moment [] l.home j) (sym c.count.ensures.home) (c.queue_nothing.ensures moment);
      away_log = subst (λ (j : Journaled _). Queues g.D.Disk.seen g.D.Disk.is_image g.D.Disk.calls moment [] l.away j) (sym c.count.ensures.away) (c.queue_nothing-2.ensures moment);
      calls_are = c.count.ensures.calls;
    }
