use Rattle.std.proofs.Common.{length, arith}
use Rattle.benches.proofs.Numbered.{not_placed, placed}
use Rattle.benches.proofs.indexes.store.IndexedDueTables.rank_of.Goals as goal

pub returns-then-rank-len : goal.returns-then-rank-len
returns-then-rank-len c = placed c.args.self.now.tables.messages c.args.id c.args.self.now.numbered (omega arith)

pub returns-else-rank-len : goal.returns-else-rank-len
returns-else-rank-len c = not_placed c.args.self.now.tables.messages c.args.id c.args.self.now.numbered (omega arith)
