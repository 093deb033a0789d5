use Rattle.std.proofs.Common.{◌∙◌, ap, arith}
use Rattle.row_locks.specs.Hashing.{mixed}
use Rattle.row_locks.proofs.HashLemmas.{wrote_4}
use Rattle.row_locks.proofs.hashing.NumberHasherHasher.write_u32.Goals as goal

pub returns : goal.returns
returns c = wrote_4 c.args.self.now c.args.i c.mixed-self.result (omega arith) (c.mixed-self.ensures ∙ ap (mixed c.args.self.now.state) c.from.ensures)
