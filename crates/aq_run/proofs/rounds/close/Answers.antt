use Rattle.aq_run.proofs.Clocking.{closing_world, closing_front, closing_clock}
use Rattle.aq_run.proofs.Closing.{is_done, closing_of, turn_ends}
use Rattle.aq_run.proofs.Results.{ok_from, err_from}
use Rattle.aq_run.proofs.rounds.close.Goals as goal

pub returns-clause-world : goal.returns-clause-world
returns-clause-world g c =
    ok_from c.whole.result c.whole.ensures.whole (is_done c.closing.result c.closing.ensures.known (closing_world g.C.Clock.given g.C.Clock.plan c.args.world.now c.closing.new.self c.requires.clock c.closing.result c.closing.ensures.turn))

pub returns-clause-front : goal.returns-clause-front
returns-clause-front g c = err_from c.whole.result c.whole.ensures.broken (closing_front g.C.Clock.given g.C.Clock.plan c.args.world.now c.closing.new.self c.requires.clock c.closing.result c.closing.ensures.turn)

pub returns-clause-passes : goal.returns-clause-passes
returns-clause-passes g c =
    let run = closing_of g.C.Clock.given g.C.Clock.plan c.closing.result c.args.world.now c.closing.new.self c.closing.ensures.known c.closing.ensures.turn in
    record {
      run = run;
      disks = c.closing.ensures.disks;
      clock = λ on. closing_clock g.C.Clock.given g.C.Clock.plan c.args.world.now c.closing.new.self run on c.closing.result c.closing.ensures.turn;
    }

pub returns-clause-ends : goal.returns-clause-ends
returns-clause-ends g c = turn_ends c.closing.result c.whole.result c.args.world.now.held c.closing.new.self.held c.whole.ensures.whole c.whole.ensures.halted c.closing.ensures.halted c.closing.ensures.fine
