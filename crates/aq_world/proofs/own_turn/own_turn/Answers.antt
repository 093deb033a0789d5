use Rattle.std.proofs.Common.{Some, ap, subst, ◌∙◌}
use Rattle.std.specs.Prelude.{slice_get}
use Rattle.session_registry.specs.Sessions.{OfSession}
use Rattle.next_steps.specs.Stepping.{IsNext}
use Rattle.aq_world.proofs.OwnTurns.{of_each, of_both, call_turn, call_end, park_turn, park_end, end_turn, end_end}
use Rattle.aq_world.proofs.Goings.{quiet_by, quiet_same}
use Rattle.aq_world.proofs.own_turn.own_turn.Goals as goal

pub call-requires : goal.call-requires
call-requires g c =
    let w = c.args.state.now.world in
    let i = c.args.at in
    of_each (slice_get w.sessions i) (subst (λ n. OfSession i w (λ s. IsNext w i s n)) (c.in-Some-Call.is ∙ ap Some c.in-Some-Call.field-0-is) (rw c.run.ensures at c.in_ok-effect.ensures)) (λ s m. m.can)

pub returns-in_ok-call-in-Some-Call-clause-ok : goal.returns-in_ok-call-in-Some-Call-clause-ok
returns-in_ok-call-in-Some-Call-clause-ok g c =
    let w = c.args.state.now.world in
    let i = c.args.at in
    of_both (slice_get w.sessions i) (subst (λ n. OfSession i w (λ s. IsNext w i s n)) (c.in-Some-Call.is ∙ ap Some c.in-Some-Call.field-0-is) (rw c.run.ensures at c.in_ok-effect.ensures)) c.in_ok-call-in-Some-Call.ensures.ok (λ s m e. call_turn w i s c.call.new.self.world c.in-Some-Call.effect m e)

pub returns-in_ok-call-in-Some-Call-clause-end : goal.returns-in_ok-call-in-Some-Call-clause-end
returns-in_ok-call-in-Some-Call-clause-end g c =
    let w = c.args.state.now.world in
    let i = c.args.at in
    of_each (slice_get w.sessions i) (subst (λ n. OfSession i w (λ s. IsNext w i s n)) (c.in-Some-Call.is ∙ ap Some c.in-Some-Call.field-0-is) (rw c.run.ensures at c.in_ok-effect.ensures)) (λ s m. call_end w i s c.in-Some-Call.effect m)

pub park-requires : goal.park-requires
park-requires g c =
    let w = c.args.state.now.world in
    let i = c.args.at in
    of_each (slice_get w.sessions i) (subst (λ n. OfSession i w (λ s. IsNext w i s n)) (c.in-Some-Wait.is ∙ ap Some c.in-Some-Wait.field-0-is) (rw c.run.ensures at c.in_ok-effect.ensures)) (λ s m. m.can)

pub returns-in_ok-park-in-Some-Wait-clause-ok : goal.returns-in_ok-park-in-Some-Wait-clause-ok
returns-in_ok-park-in-Some-Wait-clause-ok g c =
    let w = c.args.state.now.world in
    let i = c.args.at in
    of_both (slice_get w.sessions i) (subst (λ n. OfSession i w (λ s. IsNext w i s n)) (c.in-Some-Wait.is ∙ ap Some c.in-Some-Wait.field-0-is) (rw c.run.ensures at c.in_ok-effect.ensures)) c.in_ok-park-in-Some-Wait.ensures.ok (λ s m e. park_turn w i s c.park.new.self.world c.in-Some-Wait.since m e)

pub returns-in_ok-park-in-Some-Wait-clause-end : goal.returns-in_ok-park-in-Some-Wait-clause-end
returns-in_ok-park-in-Some-Wait-clause-end g c =
    let w = c.args.state.now.world in
    let i = c.args.at in
    of_each (slice_get w.sessions i) (subst (λ n. OfSession i w (λ s. IsNext w i s n)) (c.in-Some-Wait.is ∙ ap Some c.in-Some-Wait.field-0-is) (rw c.run.ensures at c.in_ok-effect.ensures)) (λ s m. park_end w i s c.in-Some-Wait.since m)

pub returns-in_ok-end-in-None-clause-ok : goal.returns-in_ok-end-in-None-clause-ok
returns-in_ok-end-in-None-clause-ok g c =
    let w = c.args.state.now.world in
    let i = c.args.at in
    of_both (slice_get w.sessions i) (subst (λ n. OfSession i w (λ s. IsNext w i s n)) c.in-None.is (rw c.run.ensures at c.in_ok-effect.ensures)) c.in_ok-end-in-None.ensures.ok (λ s none e. end_turn w i s c.end.new.self.world none e)

pub returns-in_ok-end-in-None-clause-end : goal.returns-in_ok-end-in-None-clause-end
returns-in_ok-end-in-None-clause-end g c =
    let w = c.args.state.now.world in
    let i = c.args.at in
    of_each (slice_get w.sessions i) (subst (λ n. OfSession i w (λ s. IsNext w i s n)) c.in-None.is (rw c.run.ensures at c.in_ok-effect.ensures)) (λ s none. end_end w i s none)

pub returns-in_err-effect-clause-disks : goal.returns-in_err-effect-clause-disks
returns-in_err-effect-clause-disks g c = quiet_same _

pub returns-in_err-call-in-Some-Call-clause-disks : goal.returns-in_err-call-in-Some-Call-clause-disks
returns-in_err-call-in-Some-Call-clause-disks g c = quiet_by _ _ c.call.ensures.disks c.call.ensures.adds c.call.ensures.fine

pub returns-in_ok-call-in-Some-Call-clause-disks : goal.returns-in_ok-call-in-Some-Call-clause-disks
returns-in_ok-call-in-Some-Call-clause-disks g c = quiet_by _ _ c.call.ensures.disks c.call.ensures.adds c.call.ensures.fine

pub returns-in_err-park-in-Some-Wait-clause-disks : goal.returns-in_err-park-in-Some-Wait-clause-disks
returns-in_err-park-in-Some-Wait-clause-disks g c = quiet_by _ _ c.park.ensures.disks c.park.ensures.adds c.park.ensures.fine

pub returns-in_ok-park-in-Some-Wait-clause-disks : goal.returns-in_ok-park-in-Some-Wait-clause-disks
returns-in_ok-park-in-Some-Wait-clause-disks g c = quiet_by _ _ c.park.ensures.disks c.park.ensures.adds c.park.ensures.fine

pub returns-in_err-end-in-None-clause-disks : goal.returns-in_err-end-in-None-clause-disks
returns-in_err-end-in-None-clause-disks g c = quiet_by _ _ c.end.ensures.disks c.end.ensures.adds c.end.ensures.fine

pub returns-in_ok-end-in-None-clause-disks : goal.returns-in_ok-end-in-None-clause-disks
returns-in_ok-end-in-None-clause-disks g c = quiet_by _ _ c.end.ensures.disks c.end.ensures.adds c.end.ensures.fine
