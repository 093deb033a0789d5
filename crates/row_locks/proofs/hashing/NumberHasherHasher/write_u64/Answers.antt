use Rattle.std.proofs.Common.{arith}
use Rattle.row_locks.proofs.HashLemmas.{wrote_8}
use Rattle.row_locks.proofs.hashing.NumberHasherHasher.write_u64.Goals as goal

pub returns : goal.returns
returns c = wrote_8 c.args.self.now c.args.i c.mixed-self.result (omega arith) (c.mixed-self.ensures)
