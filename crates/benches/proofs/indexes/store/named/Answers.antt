use Rattle.benches.proofs.Keeping.{if_named}
use Rattle.benches.proofs.indexes.store.named.Goals as goal

pub returns : goal.returns
returns c = if_named (λ d. d.rows) c.joined_tells.ensures c.rows_name_due.ensures c.args.tables.now c.due_of.result c.due_of.ensures
