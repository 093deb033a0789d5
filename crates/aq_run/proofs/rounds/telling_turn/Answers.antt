use Rattle.std.proofs.Common.{◌≡◌, true, sym, ◌∙◌}
use Rattle.std.specs.Prelude.{slice_get}
use Rattle.queue_rows.specs.Serial.{next_session_turn}
use Rattle.queue_rows.specs.Turns.{telling_turn}
use Rattle.aq_world.specs.Turning.{is_owed}
use Rattle.aq_run.proofs.Closing.{telling_owed, telling_rests}
use Rattle.aq_run.proofs.Passing.{passes-refl}
use Rattle.aq_run.proofs.Taking.{takes_as, takes_none}
use Rattle.aq_run.proofs.rounds.telling_turn.Goals as goal

pub returns-then-is_owed-clause-turn : goal.returns-then-is_owed-clause-turn
returns-then-is_owed-clause-turn g c =
    let w = c.args.world.now.held.world in
    let owed : is_owed (slice_get w.sessions c.args.session) ≡ true = sym c.is_owed.ensures ∙ c.if-is_owed.true in
    takes_as (next_session_turn c.args.session) (telling_turn c.args.session) c.session_turn.result c.args.world.now c.session_turn.new.world (sym (telling_owed c.args.session w owed)) c.session_turn.ensures.turn

pub returns-else-is_owed-clause-turn : goal.returns-else-is_owed-clause-turn
returns-else-is_owed-clause-turn g c =
    takes_none (telling_turn c.args.session) _ c.args.world.now (sym (telling_rests c.args.session c.args.world.now.held.world (sym c.is_owed.ensures ∙ c.if-is_owed.false)))

pub returns-else-is_owed-clause-passes : goal.returns-else-is_owed-clause-passes
returns-else-is_owed-clause-passes g c = passes-refl g.D.Disk.seen g.D.Disk.is_image g.D.Disk.calls g.D.Disk.faults g.C.Clock.given g.C.Clock.plan c.args.world.now
