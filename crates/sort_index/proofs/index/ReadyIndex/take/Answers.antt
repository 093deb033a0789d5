use Rattle.std.proofs.Common.{arith}
use Rattle.sort_index.proofs.index.ReadyIndex.take.Goals as goal

pub invariant_of-self : goal.invariant_of-self
invariant_of-self c =
    let inv = c.self.invariant in
    (inv.0, omega (arith, c.take_row.ensures.len, inv.1), inv.2, c.take_row.ensures.fit c.self.inside.puts inv.3)

pub returns-clause-rows : goal.returns-clause-rows
returns-clause-rows c = rw (← c.self.view_is) c.take_row.ensures.rows
