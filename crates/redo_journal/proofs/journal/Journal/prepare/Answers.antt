use Rattle.std.proofs.Common.{◌∙◌, ap, arith}
use Rattle.redo_journal.specs.Journaled.{room_for, bodies_as}
use Rattle.redo_journal.proofs.Room.{room_more}
use Rattle.redo_journal.proofs.journal.Journal.prepare.Goals as goal

pub invariant_of-self-2 : goal.invariant_of-self-2
invariant_of-self-2 g c =
    let needs = ap room_for c.in_ok-queue_body.ensures.ok ∙ room_more (bodies_as c.self.inside.queued.items) c.args.body.now in
    record {
      area = c.self.invariant.area;
      few = c.self.invariant.few;
      needs = omega (arith, needs, c.self.invariant.needs);
      room = c.in_ok-queue_body.ensures.room;
      place = c.self.invariant.place;
    }
