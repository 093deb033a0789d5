use Rattle.std.proofs.Common.{[], refl}
use Rattle.durable_state.proofs.Logging.{queues_none}
use Rattle.durable_state.proofs.log_steps.queue_nothing.Goals as goal

pub returns : goal.returns
returns g c moment = queues_none g.D.Disk.seen g.D.Disk.is_image g.D.Disk.calls c.entry_comes.ensures c.loggable_so_far.ensures moment [] c.args.log.now c.args.log.now refl refl
