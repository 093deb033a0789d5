use Rattle.std.proofs.Common.{◌<◌, ◌+◌, ◌^◌, option_copied, arith}
use Rattle.sort_index.specs.Ready.{is_of}
use Rattle.sort_index.proofs.Changed.{fit_found}
use Rattle.sort_index.proofs.index.ReadyIndex.set.Goals as goal

pub set_there-requires : goal.set_there-requires
set_there-requires c =
    let inv = c.self.invariant in
    let below : c.self.inside.puts + 1 < 2 ^ 64 = omega (arith, c.take-spare.ensures, inv.2) in
    fit_found c.self.inside.puts (2 ^ 64) (is_of c.args.queue.now (option_copied c.args.consumer)) below c.self.inside.groups inv.3

pub invariant_of-self : goal.invariant_of-self
invariant_of-self c =
    let inv = c.self.invariant in
    (omega (arith, c.take-spare.ensures, inv.0), omega (arith, c.set_there.ensures.len, inv.1), omega (arith, c.take-spare.ensures, inv.2), c.set_there.ensures.fit c.self.inside.puts inv.3)

pub invariant_of-self-in_err-consumer : goal.invariant_of-self-in_err-consumer
invariant_of-self-in_err-consumer c =
    let inv = c.self.invariant in
    (omega (arith, c.take-spare.ensures, inv.0), omega (arith, c.set_there.ensures.len, inv.1), omega (arith, c.take-spare.ensures, inv.2), c.set_there.ensures.fit c.self.inside.puts inv.3)

pub invariant_of-self-in-Err : goal.invariant_of-self-in-Err
invariant_of-self-in-Err c =
    let inv = c.self.invariant in
    let n = c.self.inside.puts in
    let some : 0 < n + 1 = omega arith in (
      omega (arith, c.take-spare.ensures, c.take-spare-in-Err.ensures, inv.0),
      omega (arith, c.take-spare-in-Err.ensures, c.set_there.ensures.len, c.add_group.ensures.len, inv.1),
      omega (arith, c.take-spare.ensures, inv.2),
      c.add_group.ensures.fit (n + 1) (c.set_there.ensures.fit n inv.3) some,
    )

pub invariant_of-self-in_default : goal.invariant_of-self-in_default
invariant_of-self-in_default c =
    let inv = c.self.invariant in
    (omega (arith, c.take-spare.ensures, inv.0), omega (arith, c.set_there.ensures.len, inv.1), omega (arith, c.take-spare.ensures, inv.2), c.set_there.ensures.fit c.self.inside.puts inv.3)
