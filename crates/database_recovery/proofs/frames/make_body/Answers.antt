use Rattle.std.proofs.Common.{arith}
use Rattle.database_recovery.proofs.Judging.{judged_stays_sound}
use Rattle.database_recovery.proofs.frames.make_body.Goals as goal

pub returns-in-Ok-decode-clause-sound : goal.returns-in-Ok-decode-clause-sound
returns-in-Ok-decode-clause-sound c =
    let spelled =
    c.one_spelling.ensures c.args.version c.args.body.now c.in-Ok.commit c.requires.version (λ i. omega (arith, c.type_inv.body i)) c.in-Ok.ensures.ok in
    judged_stays_sound c.args.version c.args.store.now.tables c.make_fitting.new.store.tables c.in-Ok.commit c.make_fitting.result
    spelled.0 c.requires.sound c.make_fitting.ensures.judged c.make_fitting.ensures.made
