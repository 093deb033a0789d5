use Rattle.std.proofs.Common.{true, cond, sym, ◌∙◌, ap}
use Rattle.std.specs.BTreeSet.{contains}
use Rattle.std.specs.Ordering.{nat_cmp}
use Rattle.std.proofs.lemmas.Bool.{not-false, not-true}
use Rattle.queue_rows.specs.Valid.{is_same_message}
use Rattle.valid_tables.proofs.Keys.{number_is, or_before}
use Rattle.valid_tables.proofs.Meeting.{met_again, met_more}
use Rattle.valid_tables.proofs.distinct.are_distinct_messages.Goals as goal

pub returns-then-not-branch : goal.returns-then-not-branch
returns-then-not-branch c =
    let x = c.in-Some.message.now in
    let old = not-false (contains nat_cmp c.loop-message.met x.id) (sym c.in_ok-insert.ensures.added ∙ c.if-not-branch.true) in
    sym (met_again is_same_message c.args.messages.now c.loop-message.message-iterator c.next.new.self x (λ r. contains nat_cmp c.loop-message.met r.id) c.loop-message.invariant c.in-Some.ensures.steps old)

pub loop-message-preserved : goal.loop-message-preserved
loop-message-preserved c =
    let x = c.in-Some.message.now in
    let new = not-true (contains nat_cmp c.loop-message.met x.id) (sym c.in_ok-insert.ensures.added ∙ c.if-not-branch.false) in
    met_more is_same_message c.args.messages.now c.loop-message.message-iterator c.next.new.self x (λ r. contains nat_cmp c.loop-message.met r.id) (λ r. contains nat_cmp c.insert.new.self r.id) c.loop-message.invariant c.in-Some.ensures.steps new
    (λ y. c.in_ok-insert.ensures.updates.0 y.id ∙ ap (λ b. cond b true (contains nat_cmp c.loop-message.met y.id)) (number_is x.id y.id) ∙ or_before (is_same_message x y) (contains nat_cmp c.loop-message.met y.id))
