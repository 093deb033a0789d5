use Rattle.queue_catalog.proofs.judging.judge.Goals as goal

pub returns-in-CreateTable-clause-changes : goal.returns-in-CreateTable-clause-changes
returns-in-CreateTable-clause-changes c = rw c.in-CreateTable.is (c.create_table.ensures.changes c.args.moment)

pub returns-in-CreateTable-clause-refused : goal.returns-in-CreateTable-clause-refused
returns-in-CreateTable-clause-refused c = rw c.in-CreateTable.is (c.create_table.ensures.refused c.args.moment)

pub returns-in-DropTable-clause-changes : goal.returns-in-DropTable-clause-changes
returns-in-DropTable-clause-changes c = rw c.in-DropTable.is (c.drop_table.ensures.changes c.args.moment)

pub returns-in-DropTable-clause-refused : goal.returns-in-DropTable-clause-refused
returns-in-DropTable-clause-refused c = rw c.in-DropTable.is (c.drop_table.ensures.refused c.args.moment)

pub returns-in-CreateQueue-clause-changes : goal.returns-in-CreateQueue-clause-changes
returns-in-CreateQueue-clause-changes c = rw c.in-CreateQueue.is (c.create_queue.ensures.changes c.args.moment)

pub returns-in-CreateQueue-clause-refused : goal.returns-in-CreateQueue-clause-refused
returns-in-CreateQueue-clause-refused c = rw c.in-CreateQueue.is (c.create_queue.ensures.refused c.args.moment)
