use Rattle.std.proofs.Common.{[]}
use Rattle.exception_queues.proofs.Following.{goes_on, ends}
use Rattle.exception_queues.proofs.outcomes.outcomes_of.Goals as goal

pub loop-change-init : goal.loop-change-init
loop-change-init g c = ([], c.into_iter-change-iterator.ensures.into_iter_gives, record { names = c.new-outcomes.ensures.names; each = c.new-outcomes.ensures.outcomes })

pub loop-change-preserved : goal.loop-change-preserved
loop-change-preserved g c =
    let done = c.loop-change.invariant in
    goes_on (g.T.MessageTables.tables c.args.tables.now) done.0 c.loop-change.change-iterator c.next.new.self c.args.changes.now c.in-Some.change.now c.loop-change.outcomes c.follow.new.self
    c.in-Some.ensures.steps done.1 (c.in_ok-follow.ensures done.0 done.2)

pub returns : goal.returns
returns g c =
    let done = c.loop-change.invariant in
    ends (g.T.MessageTables.tables c.args.tables.now) done.0 c.loop-change.change-iterator c.args.changes.now c.loop-change.outcomes c.in-None.ensures.steps.0 done.1 done.2
