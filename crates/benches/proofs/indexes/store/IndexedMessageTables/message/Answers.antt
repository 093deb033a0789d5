use Rattle.std.proofs.Common.{sym, ◌∙◌}
use Rattle.benches.proofs.Numbered.{found}
use Rattle.benches.proofs.indexes.store.IndexedMessageTables.message.Goals as goal

pub returns : goal.returns
returns c = c.get.ensures ∙ sym (found c.args.self.now.tables.messages c.args.id c.args.self.now.numbered)
