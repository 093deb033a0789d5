use Rattle.std.proofs.Common.{true, cond, sym, ◌∙◌, ap}
use Rattle.std.specs.BTreeSet.{contains}
use Rattle.std.proofs.lemmas.Bool.{not-false, not-true}
use Rattle.queue_rows.specs.Valid.{is_same_seen}
use Rattle.valid_tables.proofs.Keys.{number_pair_cmp, numbers_are, or_before}
use Rattle.valid_tables.proofs.Meeting.{met_again, met_more}
use Rattle.valid_tables.proofs.distinct.are_distinct_seen.Goals as goal

pub returns-then-not-branch : goal.returns-then-not-branch
returns-then-not-branch c =
    let x = c.in-Some.row.now in
    let old = not-false (contains number_pair_cmp c.loop-row.met (x.id, x.slot)) (sym c.in_ok-insert.ensures.added ∙ c.if-not-branch.true) in
    sym (met_again is_same_seen c.args.seen.now c.loop-row.row-iterator c.next.new.self x (λ r. contains number_pair_cmp c.loop-row.met (r.id, r.slot)) c.loop-row.invariant c.in-Some.ensures.steps old)

pub loop-row-preserved : goal.loop-row-preserved
loop-row-preserved c =
    let x = c.in-Some.row.now in
    let new = not-true (contains number_pair_cmp c.loop-row.met (x.id, x.slot)) (sym c.in_ok-insert.ensures.added ∙ c.if-not-branch.false) in
    met_more is_same_seen c.args.seen.now c.loop-row.row-iterator c.next.new.self x (λ r. contains number_pair_cmp c.loop-row.met (r.id, r.slot)) (λ r. contains number_pair_cmp c.insert.new.self (r.id, r.slot)) c.loop-row.invariant c.in-Some.ensures.steps new
    (λ y. c.in_ok-insert.ensures.updates.0 (y.id, y.slot) ∙ ap (λ b. cond b true (contains number_pair_cmp c.loop-row.met (y.id, y.slot))) (numbers_are (x.id, x.slot) (y.id, y.slot)) ∙ or_before (is_same_seen x y) (contains number_pair_cmp c.loop-row.met (y.id, y.slot)))
