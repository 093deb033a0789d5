use Rattle.durable_state.proofs.Writing.{failed_by, flushes_by, writes_by}
use Rattle.durable_state.proofs.log_steps.append.Goals as goal

pub returns-clause-writes : goal.returns-clause-writes
returns-clause-writes g c =
    let old = c.args.log.now in
    let new = c.append.new.self in
    let did = c.append.ensures in
    writes_by g.D.Disk.seen g.D.Disk.is_image g.D.Disk.calls g.D.Disk.faults c.calls_pass.ensures c.flush_leaves.ensures c.flush_comes.ensures old new c.requires did.later did.earlier did.crash
    c.append.result (did.cause c.requires) did.fine (failed_by c.append.result old new (g.D.Disk.calls new.disk) new.disk c.requires did.failed) did.logs

pub returns-clause-flushes : goal.returns-clause-flushes
returns-clause-flushes g c =
    let did = c.append.ensures in
    flushes_by g.D.Disk.seen g.D.Disk.is_image g.D.Disk.calls g.D.Disk.faults c.calls_pass.ensures c.flush_leaves.ensures c.flush_comes.ensures c.args.log.now c.append.new.self c.requires did.later did.earlier did.crash
    c.append.result did.fine did.logs did.behind
