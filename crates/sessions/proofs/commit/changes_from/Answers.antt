use Rattle.std.proofs.Common.{refl}
use Rattle.std.proofs.lemmas.List.Elements.{All-rest}
use Rattle.sessions.specs.Numbers.{IsPendable}
use Rattle.sessions.proofs.CommitChanges.{step_changes, step_count, step_lowest}
use Rattle.sessions.proofs.commit.changes_from.Goals as goal

pub loop-pending-preserved : goal.loop-pending-preserved
loop-pending-preserved c = record {
  changes = step_changes c.args.tables.now c.loop-pending.queues c.lower_by.new.queues c.args.stamp.group c.args.stamp.moment c.loop-pending.changes c.push.new.self
      c.in-Some.pending.now c.next.new.self c.loop-pending.pending-iterator c.in_ok-change.change _ c.in-Some.ensures.steps c.in_ok-change.ensures c.lower_by.ensures c.in_ok-push.ensures.ok c.loop-pending.invariant.changes;
  count = step_count c.loop-pending.changes c.push.new.self c.in_ok-change.change c.in-Some.pending.now c.next.new.self c.loop-pending.pending-iterator _ c.in-Some.ensures.steps c.in_ok-push.ensures.ok c.loop-pending.invariant.count;
  lowest = step_lowest c.args.tables.now c.loop-pending.queues c.lower_by.new.queues c.args.stamp.group c.args.stamp.moment 4611686018427387904 c.loop-pending.changes c.push.new.self
      c.in-Some.pending.now c.next.new.self c.loop-pending.pending-iterator c.in_ok-change.change refl c.in-Some.ensures.steps c.in_ok-change.ensures c.lower_by.ensures c.in_ok-push.ensures.ok c.loop-pending.invariant.numbers c.loop-pending.invariant.lowest;
  numbers = All-rest IsPendable c.in-Some.pending.now c.next.new.self c.loop-pending.pending-iterator c.in-Some.ensures.steps c.loop-pending.invariant.numbers;
}
