use Rattle.std.proofs.Common.{◌≡◌, ◌<◌, length, rules, arith, ap}
use Rattle.queue_rows.specs.Turns.{telling_turn}
use Rattle.aq_run.proofs.Fronts.{grows-telling_turn}
use Rattle.aq_run.proofs.Passing.{passes-trans}
use Rattle.aq_run.proofs.Progress.{same_sessions, same_readings}
use Rattle.aq_run.proofs.Taking.{taken_none, taken_next, taken_all, taken_broken}
use Rattle.aq_run.proofs.rounds.telling_turns.Goals as goal

pub loop-session-init : goal.loop-session-init
loop-session-init g c = taken_none g.D.Disk.seen g.D.Disk.is_image g.D.Disk.calls g.D.Disk.faults g.C.Clock.given g.C.Clock.plan telling_turn c.args.world.now

pub telling_turn-requires : goal.telling_turn-requires
telling_turn-requires g c =
    let within : c.loop-session.session < length c.args.world.now.held.world.sessions = search (rules, c.loop-session-test.true, c.session_count-session-end.ensures.count) in
    let most = c.session_count-session-end.ensures.most in
    let sessions = ap (λ w. length w.sessions) c.loop-session.invariant.world in
    let count = same_sessions c.loop-session.session c.args.world.now.held.world in
    let readings = ap (λ w. w.readings) c.loop-session.invariant.world in
    let few = same_readings c.loop-session.session c.args.world.now.held.world in
    let before = c.requires.readings in
    record {
      session = omega (arith, within, sessions, count);
      few = omega (arith, most, sessions, count);
      readings = omega (arith, within, most, readings, few, before);
      clock = c.loop-session.invariant.passes.clock c.requires.clock;
    }

pub returns-in_err-telling_turn-clause-turn : goal.returns-in_err-telling_turn-clause-turn
returns-in_err-telling_turn-clause-turn g c =
    let within : c.loop-session.session < length c.args.world.now.held.world.sessions = search (rules, c.loop-session-test.true, c.session_count-session-end.ensures.count) in
    taken_broken g.D.Disk.seen g.D.Disk.is_image g.D.Disk.calls g.D.Disk.faults g.C.Clock.given g.C.Clock.plan telling_turn grows-telling_turn c.loop-session.session c.from_residual.result _
    c.args.world.now c.loop-session.world c.telling_turn.new.world c.from_residual.ensures.1 within c.loop-session.invariant c.in_err-telling_turn.ensures.turn

pub returns-in_err-telling_turn-clause-passes : goal.returns-in_err-telling_turn-clause-passes
returns-in_err-telling_turn-clause-passes g c =
    passes-trans g.D.Disk.seen g.D.Disk.is_image g.D.Disk.calls g.D.Disk.faults g.C.Clock.given g.C.Clock.plan c.args.world.now c.loop-session.world c.telling_turn.new.world c.loop-session.invariant.passes c.telling_turn.ensures.passes

pub loop-session-preserved : goal.loop-session-preserved
loop-session-preserved g c =
    taken_next g.D.Disk.seen g.D.Disk.is_image g.D.Disk.calls g.D.Disk.faults g.C.Clock.given g.C.Clock.plan telling_turn c.loop-session.session _
    c.args.world.now c.loop-session.world c.telling_turn.new.world c.loop-session.invariant c.in_ok-telling_turn.ensures.turn c.telling_turn.ensures.passes

pub returns-clause-turn : goal.returns-clause-turn
returns-clause-turn g c =
    let all : c.loop-session.session ≡ length c.args.world.now.held.world.sessions = omega (arith, c.loop-session-test.false, c.loop-session.auto.session-end, c.session_count-session-end.ensures.count) in
    taken_all g.D.Disk.seen g.D.Disk.is_image g.D.Disk.calls g.D.Disk.faults g.C.Clock.given g.C.Clock.plan telling_turn c.loop-session.session _
    c.args.world.now c.loop-session.world all c.loop-session.invariant
