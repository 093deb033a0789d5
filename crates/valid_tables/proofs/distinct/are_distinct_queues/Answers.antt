use Rattle.std.proofs.Common.{sym, ◌∙◌}
use Rattle.std.proofs.lemmas.Bool.{not-false, not-true}
use Rattle.queue_rows.specs.Rows.{is_same_queue}
use Rattle.valid_tables.specs.Met.{has_name}
use Rattle.valid_tables.proofs.Meeting.{met_again, met_more}
use Rattle.valid_tables.proofs.distinct.are_distinct_queues.Goals as goal

pub returns-then-not-branch : goal.returns-then-not-branch
returns-then-not-branch c =
    let x = c.in-Some.queue.now in
    let old = not-false (has_name c.loop-queue.met x.name) (sym c.in_ok-meet_name.ensures.new ∙ c.if-not-branch.true) in
    sym (met_again is_same_queue c.args.queues.now c.loop-queue.queue-iterator c.next.new.self x (λ r. has_name c.loop-queue.met r.name) c.loop-queue.invariant c.in-Some.ensures.steps old)

pub loop-queue-preserved : goal.loop-queue-preserved
loop-queue-preserved c =
    let x = c.in-Some.queue.now in
    let new = not-true (has_name c.loop-queue.met x.name) (sym c.in_ok-meet_name.ensures.new ∙ c.if-not-branch.false) in
    met_more is_same_queue c.args.queues.now c.loop-queue.queue-iterator c.next.new.self x (λ r. has_name c.loop-queue.met r.name) (λ r. has_name c.meet_name.new.met r.name) c.loop-queue.invariant c.in-Some.ensures.steps
    new (λ y. c.in_ok-meet_name.ensures.met y.name)
