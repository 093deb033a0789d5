use Rattle.std.proofs.Common.{refl}
use Rattle.durable_state.proofs.Lists.{no_items, some_items}
use Rattle.durable_state.proofs.Logging.{queues_none, queues_if_ok}
use Rattle.durable_state.proofs.log_steps.queue.Goals as goal

pub returns-then-is_empty-clause-ok : goal.returns-then-is_empty-clause-ok
returns-then-is_empty-clause-ok g c =
    queues_none g.D.Disk.seen g.D.Disk.is_image g.D.Disk.calls c.entry_comes.ensures c.loggable_so_far.ensures c.args.moment c.args.changes.now c.args.log.now c.args.log.now
    (no_items c.is_empty.result c.args.changes.now c.is_empty.ensures c.if-is_empty.true) refl

pub returns-clause-ok : goal.returns-clause-ok
returns-clause-ok g c =
    queues_if_ok g.D.Disk.seen g.D.Disk.is_image g.D.Disk.calls c.entry_comes.ensures c.loggable_so_far.ensures c.args.moment c.args.changes.now c.args.log.now c.prepare.new.self
    c.prepare.result (some_items c.is_empty.result c.args.changes.now c.is_empty.ensures c.if-is_empty.false) c.prepare.ensures.ok c.prepare.ensures.logs
