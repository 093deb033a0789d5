use Rattle.std.proofs.Common.{Err, ap, ◌∙◌}
use Rattle.session_registry.proofs.Marks.{no_fault}
use Rattle.session_registry.proofs.locks.take.Goals as goal

pub unreachable-requires : goal.unreachable-requires
unreachable-requires c =
    let e = c.in_default.is in
    no_fault c.args.locks.now c.args.session c.args.mark c.in_default.field-0 c.requires.free c.requires.room (λ other f. c.take.ensures.held other (e ∙ ap Err f)) (λ f. c.take.ensures.memory (e ∙ ap Err f))
