use Rattle.std.proofs.Common.{arith}
use Rattle.row_locks.proofs.CellLemmas.{count_bound}
use Rattle.row_locks.proofs.classes.ClassIndex.len.Goals as goal

pub returns-clause-counts : goal.returns-clause-counts
returns-clause-counts c = λ key. omega (arith, count_bound c.args.self.now c.requires key, c.len.ensures.len)
