use Rattle.std.proofs.Common.{refl}
use Rattle.aq_run.proofs.Answering.{played_answers, played_leaves}
use Rattle.aq_run.proofs.serial_run.printed.Goals as goal

pub returns-clause-answers : goal.returns-clause-answers
returns-clause-answers g c = λ home away scripts plays.
    played_answers g.O.Sink g.D.Disk c.args.out.now c.show-written.new.out home away _ scripts c.args.played plays refl refl refl
    c.show-written.result c.status_of.ensures c.show-written.ensures.known c.show-written.ensures.writes

pub returns-clause-disks : goal.returns-clause-disks
returns-clause-disks g c = λ home away scripts plays.
    played_leaves g.O.Sink g.D.Disk c.args.out.now c.show-written.new.out home away _ scripts c.args.played plays refl refl refl
    c.show-written.result c.status_of.ensures c.show-written.ensures.known c.show-written.ensures.writes
