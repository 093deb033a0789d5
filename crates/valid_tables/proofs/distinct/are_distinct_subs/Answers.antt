use Rattle.std.proofs.Common.{sym, ◌∙◌}
use Rattle.std.proofs.lemmas.Bool.{not-false, not-true}
use Rattle.queue_rows.specs.Rows.{is_same_sub}
use Rattle.valid_tables.specs.Met.{has_pair}
use Rattle.valid_tables.proofs.Meeting.{met_again, met_more}
use Rattle.valid_tables.proofs.distinct.are_distinct_subs.Goals as goal

pub returns-then-not-branch : goal.returns-then-not-branch
returns-then-not-branch c =
    let x = c.in-Some.sub.now in
    let old = not-false (has_pair c.loop-sub.met x.queue x.name) (sym c.in_ok-meet_pair.ensures.new ∙ c.if-not-branch.true) in
    sym (met_again is_same_sub c.args.subs.now c.loop-sub.sub-iterator c.next.new.self x (λ r. has_pair c.loop-sub.met r.queue r.name) c.loop-sub.invariant c.in-Some.ensures.steps old)

pub loop-sub-preserved : goal.loop-sub-preserved
loop-sub-preserved c =
    let x = c.in-Some.sub.now in
    let new = not-true (has_pair c.loop-sub.met x.queue x.name) (sym c.in_ok-meet_pair.ensures.new ∙ c.if-not-branch.false) in
    met_more is_same_sub c.args.subs.now c.loop-sub.sub-iterator c.next.new.self x (λ r. has_pair c.loop-sub.met r.queue r.name) (λ r. has_pair c.meet_pair.new.met r.queue r.name) c.loop-sub.invariant c.in-Some.ensures.steps
    new (λ y. c.in_ok-meet_pair.ensures.met y.queue y.name)
