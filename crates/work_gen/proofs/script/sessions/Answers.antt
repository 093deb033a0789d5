-- One more session is the next one of the generated script, which could have been read.
use Rattle.std.proofs.Common.{add-one, arith, refl}
use Rattle.work_gen.specs.Script.{generated, number_past}
use Rattle.work_gen.proofs.Readable.{is_readable}
use Rattle.work_gen.proofs.script.sessions.Goals as goal

pub loop-at-preserved : goal.loop-at-preserved
unfolding generated number_past
loop-at-preserved c =
    let so_far = c.loop-at.invariant in
    let session = c.in_ok-session.ensures in
    let put = c.in_ok-push.ensures in
    rw add-one (rw (put.ok, so_far.0, session.script, so_far.1) refl, rw (session.after, so_far.1) refl)

pub returns-clause-readable : goal.returns-clause-readable
returns-clause-readable c = rw c.loop-at.invariant.0 (is_readable c.args.number c.loop-at.at c.args.statements (omega arith) c.requires.short)
