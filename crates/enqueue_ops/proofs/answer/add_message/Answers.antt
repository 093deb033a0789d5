use Rattle.enqueue_ops.proofs.Numbers.{group_known, lowest_known}
use Rattle.enqueue_ops.proofs.answer.add_message.Goals as goal

pub addition_alone-requires-clause-group : goal.addition_alone-requires-clause-group
addition_alone-requires-clause-group g c = group_known (g.T.MessageTables.tables c.args.store.now) c.requires.valid

pub addition_alone-requires-clause-lowest : goal.addition_alone-requires-clause-lowest
addition_alone-requires-clause-lowest g c = lowest_known (g.T.MessageTables.tables c.args.store.now) c.requires.valid
