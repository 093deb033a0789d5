use Rattle.std.proofs.Common.{IfSome, arith, subst, sym}
use Rattle.queue_rows.specs.Enqueueing.{relative_of}
use Rattle.sessions.specs.Numbers.{IsAddable}
use Rattle.enqueue_ops.proofs.Numbers.{IsLaneAbove, addition_known, relative_known, times_known}
use Rattle.enqueue_ops.proofs.answer.enqueue_taken.Goals as goal

pub new_message-requires-clause-times : goal.new_message-requires-clause-times
new_message-requires-clause-times g c = times_known c.args.ask.now c.requires.may.within

pub add_message-requires-clause-addable : goal.add_message-requires-clause-addable
add_message-requires-clause-addable g c =
    let t = g.T.MessageTables.tables c.args.store.now in
    let may = c.requires.may in
    let above = relative_known t c.args.at c.args.ask.now c.args.table.now may.valid may.table_is c.requires.taken.ungrouped in
    let found = relative_of t c.args.at c.args.ask.now in
    let lane = subst (λ o. IfSome o IsLaneAbove) (sym {b = found} c.relative_of-relative.ensures) above in
    subst IsAddable (sym c.in_ok-message.ensures) (addition_known c.args.table.now c.args.ask.now c.args.cells.now _ _ c.args.stamp.id c.args.stamp.moment (omega arith) (omega arith) lane)
