use Rattle.std.proofs.Common.{arith}
use Rattle.std.proofs.lemmas.Grind.{common_steps}
use Rattle.transcript.specs.declared.told.Call.{Call}
use Rattle.transcript.proofs.told.ToldCalls.keep.Goals as goal

pub returns : goal.returns
returns c = λ s n.
    let call : Call = record { session = s; number = n } in
    grind (arith, common_steps, c.in_ok-insert.ensures.updates.0 call)
