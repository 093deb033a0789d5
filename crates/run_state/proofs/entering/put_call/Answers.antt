use Rattle.std.proofs.Common.{◌≡◌, refl, ap, sym, subst, ◌∙◌}
use Rattle.std.specs.Prelude.{IfSome}
use Rattle.run_state.specs.CallEffects.{mark_of, holding, with_pended, with_marked, with_unmarked}
use Rattle.session_registry.specs.Sessions.{changed_at, IsFreeIn}
use Rattle.session_registry.proofs.ShownSessions.{changed_twice}
use Rattle.session_registry.proofs.Changing.{free_kept, room_then}
use Rattle.run_state.proofs.entering.put_call.Goals as goal

pub take-requires-clause-free : goal.take-requires-clause-free
take-requires-clause-free c =
    let i = c.args.entry.actor in
    let f = with_pended c.in-Kept.pend in
    let sessions : c.keep.new.registry.sessions ≡ changed_at i f c.make_room.new.registry.sessions = c.in_ok-keep-in-Kept.ensures.sessions in
    let free : IfSome c.in-Kept.mark (λ m. IsFreeIn i m c.args.registry.now.sessions) = subst (λ h. IfSome (mark_of h) (λ m. IsFreeIn i m c.args.registry.now.sessions)) c.in-Kept.is c.requires.free in
    let moved : IfSome c.in-Kept.mark (λ m. IsFreeIn i m c.make_room.new.registry.sessions) = subst (λ ss. IfSome c.in-Kept.mark (λ m. IsFreeIn i m ss)) (sym c.in_ok-make_room.ensures.sessions) free in
    room_then c.in-Kept.mark (λ m h. subst (IsFreeIn i m) (sym sessions) (free_kept f c.make_room.new.registry.sessions i m (λ s. refl) (λ s. refl) h)) moved

pub returns-in_ok-keep-in-Kept-clause-sessions : goal.returns-in_ok-keep-in-Kept-clause-sessions
returns-in_ok-keep-in-Kept-clause-sessions c =
    let i = c.args.entry.actor in
    let f = with_pended c.in-Kept.pend in
    let g = with_marked c.in-Kept.mark in
    let h = with_unmarked c.in-Kept.unmark in
    let before = c.args.registry.now.sessions in
    c.release.ensures
    ∙ ap (changed_at i h) (c.take.ensures ∙ ap (changed_at i g) (c.in_ok-keep-in-Kept.ensures.sessions ∙ ap (changed_at i f) c.in_ok-make_room.ensures.sessions) ∙ changed_twice f g before i)
    ∙ changed_twice (λ s. g (f s)) h before i
    ∙ ap (λ held. changed_at i (holding held) before) (sym c.in-Kept.is)
