use Rattle.benches.proofs.Numbered.{are_apart}
use Rattle.benches.proofs.indexes.store.Indexed.due_at.Goals as goal

pub due-requires-clause-distinct : goal.due-requires-clause-distinct
due-requires-clause-distinct c = are_apart c.args.self.now.tables.messages c.args.self.now.numbered
