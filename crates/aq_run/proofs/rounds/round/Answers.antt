use Rattle.std.proofs.Common.{arith, ap}
use Rattle.queue_rows.specs.Serial.{round}
use Rattle.queue_rows.specs.Turns.{next_reading}
use Rattle.aq_run.proofs.Closing.{ends_on}
use Rattle.aq_run.proofs.Fronts.{front_sessions, front_timer, front_propagator, front_telling, round_is}
use Rattle.aq_run.proofs.Passing.{passes-trans}
use Rattle.aq_run.proofs.Progress.{few_turned}
use Rattle.aq_run.proofs.Results.{ok_from, err_from}
use Rattle.aq_run.proofs.Taking.{broken_in}
use Rattle.aq_run.proofs.Turning.{rests_timer, rests_propagator}
use Rattle.aq_run.proofs.rounds.round.Goals as goal

-- ---- readings

pub timer_turn-requires : goal.timer_turn-requires
timer_turn-requires g c =
    let most = few_turned c.args.world.now.held.world c.session_turns.new.world.held.world c.in_ok-session_turns.ensures.turn.world in
    let few = c.session_turns.ensures.few in
    let before = c.requires.readings in
    record { readings = omega (arith, most, few, before); clock = c.session_turns.ensures.passes.clock c.requires.clock }

pub propagator_turn-requires : goal.propagator_turn-requires
propagator_turn-requires g c =
    let most = few_turned c.args.world.now.held.world c.session_turns.new.world.held.world c.in_ok-session_turns.ensures.turn.world in
    let few = c.session_turns.ensures.few in
    let timer = (rests_timer (next_reading c.session_turns.new.world.held.world) c.session_turns.new.world.held.world).read.most in
    let is = ap (λ w. w.readings) c.in_ok-timer_turn.ensures.turn.world in
    let before = c.requires.readings in
    record { readings = omega (arith, most, few, timer, is, before); clock = c.timer_turn.ensures.passes.clock (c.session_turns.ensures.passes.clock c.requires.clock) }

pub telling_turns-requires : goal.telling_turns-requires
telling_turns-requires g c =
    let most = few_turned c.args.world.now.held.world c.session_turns.new.world.held.world c.in_ok-session_turns.ensures.turn.world in
    let few = c.session_turns.ensures.few in
    let timer = (rests_timer (next_reading c.session_turns.new.world.held.world) c.session_turns.new.world.held.world).read.most in
    let is = ap (λ w. w.readings) c.in_ok-timer_turn.ensures.turn.world in
    let propagator = (rests_propagator (next_reading c.timer_turn.new.world.held.world) c.timer_turn.new.world.held.world).read.most in
    let then = ap (λ w. w.readings) c.in_ok-propagator_turn.ensures.turn.world in
    let before = c.requires.readings in
    record { readings = omega (arith, most, few, timer, is, propagator, then, before); clock = c.propagator_turn.ensures.passes.clock (c.timer_turn.ensures.passes.clock (c.session_turns.ensures.passes.clock c.requires.clock)) }

-- ---- the turns of the round

pub returns-in_err-session_turns-clause-turn : goal.returns-in_err-session_turns-clause-turn
returns-in_err-session_turns-clause-turn g c =
    let broken = c.in_err-session_turns.ensures.turn in
    broken_in round c.from_residual.result _ c.args.world.now c.session_turns.new.world c.from_residual.ensures.1
    (front_sessions c.args.world.now.held.world c.session_turns.new.world.held.world.entries broken.front) broken.ends

pub returns-in_err-timer_turn-clause-turn : goal.returns-in_err-timer_turn-clause-turn
returns-in_err-timer_turn-clause-turn g c =
    let broken = c.in_err-timer_turn.ensures.turn in
    broken_in round c.from_residual-in_err-timer_turn.result _ c.args.world.now c.timer_turn.new.world c.from_residual-in_err-timer_turn.ensures.1
    (front_timer c.args.world.now.held.world c.session_turns.new.world.held.world c.timer_turn.new.world.held.world.entries c.in_ok-session_turns.ensures.turn.world broken.front)
    broken.ends

pub returns-in_err-propagator_turn-clause-turn : goal.returns-in_err-propagator_turn-clause-turn
returns-in_err-propagator_turn-clause-turn g c =
    let broken = c.in_err-propagator_turn.ensures.turn in
    broken_in round c.from_residual-in_err-propagator_turn.result _ c.args.world.now c.propagator_turn.new.world c.from_residual-in_err-propagator_turn.ensures.1
    (front_propagator c.args.world.now.held.world c.session_turns.new.world.held.world c.timer_turn.new.world.held.world c.propagator_turn.new.world.held.world.entries c.in_ok-session_turns.ensures.turn.world c.in_ok-timer_turn.ensures.turn.world broken.front)
    broken.ends

pub returns-clause-turn : goal.returns-clause-turn
returns-clause-turn g c =
    let last = c.telling_turns.ensures.turn in
    record {
      world = ok_from c.telling_turns.result last.world
          (round_is c.args.world.now.held.world c.session_turns.new.world.held.world c.timer_turn.new.world.held.world c.propagator_turn.new.world.held.world c.telling_turns.new.world.held.world c.in_ok-session_turns.ensures.turn.world c.in_ok-timer_turn.ensures.turn.world c.in_ok-propagator_turn.ensures.turn.world);
      front = err_from c.telling_turns.result last.front
          (front_telling c.args.world.now.held.world c.session_turns.new.world.held.world c.timer_turn.new.world.held.world c.propagator_turn.new.world.held.world c.telling_turns.new.world.held.world.entries c.in_ok-session_turns.ensures.turn.world c.in_ok-timer_turn.ensures.turn.world c.in_ok-propagator_turn.ensures.turn.world);
      ends = ends_on c.telling_turns.result c.args.world.now.held c.propagator_turn.new.world.held c.telling_turns.new.world.held
          (λ failed. c.in_ok-session_turns.ensures.turn.ends (c.in_ok-timer_turn.ensures.turn.ends (c.in_ok-propagator_turn.ensures.turn.ends failed)))
          last.ends;
    }

-- ---- what is passed on

pub returns-in_err-timer_turn-clause-passes : goal.returns-in_err-timer_turn-clause-passes
returns-in_err-timer_turn-clause-passes g c = passes-trans g.D.Disk.seen g.D.Disk.is_image g.D.Disk.calls g.D.Disk.faults g.C.Clock.given g.C.Clock.plan c.args.world.now c.session_turns.new.world c.timer_turn.new.world c.session_turns.ensures.passes c.timer_turn.ensures.passes

pub returns-in_err-propagator_turn-clause-passes : goal.returns-in_err-propagator_turn-clause-passes
returns-in_err-propagator_turn-clause-passes g c =
    passes-trans g.D.Disk.seen g.D.Disk.is_image g.D.Disk.calls g.D.Disk.faults g.C.Clock.given g.C.Clock.plan c.args.world.now c.session_turns.new.world c.propagator_turn.new.world c.session_turns.ensures.passes
    (passes-trans g.D.Disk.seen g.D.Disk.is_image g.D.Disk.calls g.D.Disk.faults g.C.Clock.given g.C.Clock.plan c.session_turns.new.world c.timer_turn.new.world c.propagator_turn.new.world c.timer_turn.ensures.passes c.propagator_turn.ensures.passes)

pub returns-clause-passes : goal.returns-clause-passes
returns-clause-passes g c =
    passes-trans g.D.Disk.seen g.D.Disk.is_image g.D.Disk.calls g.D.Disk.faults g.C.Clock.given g.C.Clock.plan c.args.world.now c.session_turns.new.world c.telling_turns.new.world c.session_turns.ensures.passes
    (passes-trans g.D.Disk.seen g.D.Disk.is_image g.D.Disk.calls g.D.Disk.faults g.C.Clock.given g.C.Clock.plan c.session_turns.new.world c.timer_turn.new.world c.telling_turns.new.world c.timer_turn.ensures.passes
    (passes-trans g.D.Disk.seen g.D.Disk.is_image g.D.Disk.calls g.D.Disk.faults g.C.Clock.given g.C.Clock.plan c.timer_turn.new.world c.propagator_turn.new.world c.telling_turns.new.world c.propagator_turn.ensures.passes c.telling_turns.ensures.passes))
