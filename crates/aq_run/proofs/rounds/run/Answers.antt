use Rattle.std.proofs.Common.{◌≡◌, true, false, sym, ◌∙◌}
use Rattle.queue_rows.specs.Turns.{any_live}
use Rattle.aq_run.proofs.Closing.{ends_on}
use Rattle.aq_run.proofs.Passing.{passes-refl, passes-trans}
use Rattle.aq_run.proofs.Results.{on_err, ok_from, err_from}
use Rattle.aq_run.proofs.Running.{after_none, after_next, way_in_round, way_in_closing, whole_way, on_time, on_time_next, few_so_far, few_in_all, left_less}
use Rattle.aq_run.proofs.rounds.run.Goals as goal

pub loop-world-init : goal.loop-world-init
loop-world-init g c = record {
  after = after_none c.args.world.now.held.world;
  time = on_time c.args.world.now.held.world c.requires.readings c.requires.at c.requires.told c.requires.scripts.within;
  passes = passes-refl g.D.Disk.seen g.D.Disk.is_image g.D.Disk.calls g.D.Disk.faults g.C.Clock.given g.C.Clock.plan c.args.world.now;
  fine = λ failed. failed;
}

pub round-requires : goal.round-requires
round-requires g c = record { readings = few_so_far c.loop-world.world.held.world c.loop-world.invariant.time (sym c.any_live.ensures ∙ c.loop-world-test.true); clock = c.loop-world.invariant.passes.clock c.requires.clock }

pub loop-world-preserved : goal.loop-world-preserved
loop-world-preserved g c =
    let live : any_live c.loop-world.world.held.world ≡ true = sym c.any_live.ensures ∙ c.loop-world-test.true in
    record {
      after = after_next c.args.world.now.held.world c.loop-world.world.held.world c.round.new.world.held.world c.loop-world.invariant.after c.in_ok-round.ensures.turn.world;
      time = on_time_next c.loop-world.world.held.world c.round.new.world.held.world c.loop-world.invariant.time live c.round.ensures.few c.in_ok-round.ensures.turn.world;
      passes = passes-trans g.D.Disk.seen g.D.Disk.is_image g.D.Disk.calls g.D.Disk.faults g.C.Clock.given g.C.Clock.plan c.args.world.now c.loop-world.world c.round.new.world c.loop-world.invariant.passes c.round.ensures.passes;
      fine = λ failed. c.loop-world.invariant.fine (c.in_ok-round.ensures.turn.ends failed);
    }

pub loop-world-smaller : goal.loop-world-smaller
loop-world-smaller g c = left_less c.loop-world.world.held.world c.round.new.world.held.world c.loop-world.invariant.time (sym c.any_live.ensures ∙ c.loop-world-test.true) c.in_ok-round.ensures.turn.world

pub returns-in_err-round-clause-front : goal.returns-in_err-round-clause-front
returns-in_err-round-clause-front g c =
    on_err c.from_residual.result (way_in_round c.args.world.now.held.world c.loop-world.world.held.world c.round.new.world.held.world.entries c.loop-world.invariant.after c.in_err-round.ensures.turn.front)

pub returns-in_err-round-clause-passes : goal.returns-in_err-round-clause-passes
returns-in_err-round-clause-passes g c = passes-trans g.D.Disk.seen g.D.Disk.is_image g.D.Disk.calls g.D.Disk.faults g.C.Clock.given g.C.Clock.plan c.args.world.now c.loop-world.world c.round.new.world c.loop-world.invariant.passes c.round.ensures.passes

pub close-requires : goal.close-requires
close-requires g c = record { readings = few_in_all c.loop-world.world.held.world c.loop-world.invariant.time; clock = c.loop-world.invariant.passes.clock c.requires.clock }

pub returns-clause-whole : goal.returns-clause-whole
returns-clause-whole g c =
    let over : any_live c.loop-world.world.held.world ≡ false = sym c.any_live.ensures ∙ c.loop-world-test.false in
    ok_from c.close.result c.close.ensures.world (whole_way c.args.world.now.held.world c.loop-world.world.held.world c.close.new.world.held.world c.loop-world.invariant.after over)

pub returns-clause-front : goal.returns-clause-front
returns-clause-front g c =
    let over : any_live c.loop-world.world.held.world ≡ false = sym c.any_live.ensures ∙ c.loop-world-test.false in
    err_from c.close.result c.close.ensures.front (way_in_closing c.args.world.now.held.world c.loop-world.world.held.world c.close.new.world.held.world c.loop-world.invariant.after over)

pub returns-clause-passes : goal.returns-clause-passes
returns-clause-passes g c = passes-trans g.D.Disk.seen g.D.Disk.is_image g.D.Disk.calls g.D.Disk.faults g.C.Clock.given g.C.Clock.plan c.args.world.now c.loop-world.world c.close.new.world c.loop-world.invariant.passes c.close.ensures.passes

pub returns-clause-ends : goal.returns-clause-ends
returns-clause-ends g c = ends_on c.close.result c.args.world.now.held c.loop-world.world.held c.close.new.world.held c.loop-world.invariant.fine c.close.ensures.ends
