-- What each turn is, by what its session is like and whether one goes on.
use Rattle.std.proofs.Common.{◌≡◌, ℕ, Bool, true, false, Some, None, refl, sym, ap, ◌∙◌}
use Rattle.std.specs.Prelude.{slice_get, if◌then◌else◌}
use Rattle.queue_rows.specs.Session.{Session, Untold}
use Rattle.queue_rows.specs.Statements.{statement_of, next_statement}
use Rattle.queue_rows.specs.World.{World, read_clock, stepped}
use Rattle.queue_rows.specs.Turns.{is_due, timed, caught_up, begun, own_turn, told, turn_of, turn_of_some, session_turn, any_live, propagated, timer_turn, propagator_turn}
use Rattle.run_turns.proofs.Growing.{Grows, grows_trans, grows_caught, grows_own, grows_propagated}

pub session_none : (reading i : ℕ) (w : World) → slice_get w.sessions i ≡ None → session_turn reading i w ≡ w
unfolding session_turn
session_none reading i w e = ap (λ o. turn_of_some reading i o w) e

by_session : (reading i : ℕ) (s : Session) (w : World) → slice_get w.sessions i ≡ Some s → session_turn reading i w ≡ turn_of reading i s s.untold w
unfolding session_turn
by_session reading i s w e = ap (λ o. turn_of_some reading i o w) e

pub session_tells : (reading i : ℕ) (s : Session) (u : Untold) (w : World) → slice_get w.sessions i ≡ Some s → s.untold ≡ Some u → session_turn reading i w ≡ told i s u.number w
session_tells reading i s u w there e = by_session reading i s w there ∙ ap (λ o. turn_of reading i s o w) e

live_or : (b : Bool) (v w : World) → b ≡ true → (if b then v else w) ≡ v
live_or b v w e = rw e refl

live_not : (b : Bool) (v w : World) → b ≡ false → (if b then v else w) ≡ w
live_not b v w e = rw e refl

pub session_over : (reading i : ℕ) (s : Session) (w : World) → slice_get w.sessions i ≡ Some s → s.untold ≡ None → s.live ≡ false → session_turn reading i w ≡ w
session_over reading i s w there told dead =
    by_session reading i s w there ∙ ap (λ o. turn_of reading i s o w) told ∙ live_not s.live (own_turn i s (next_statement w i s) (begun i reading w)) w dead

scripts_if : (b : Bool) (actor : ℕ) (w : World) → (if b then timed actor w else w).scripts ≡ w.scripts
unfolding stepped
scripts_if true actor w = refl
scripts_if false actor w = refl

scripts-begun : (actor reading : ℕ) (w : World) → (begun actor reading w).scripts ≡ w.scripts
unfolding caught_up read_clock
scripts-begun actor reading w = scripts_if (is_due (read_clock reading w)) actor (read_clock reading w)

pub next-begun : (actor reading i : ℕ) (s : Session) (w : World) → next_statement (begun actor reading w) i s ≡ next_statement w i s
next-begun actor reading i s w = ap (λ xs. statement_of (slice_get xs i) s.next) (scripts-begun actor reading w)

pub session_calls : (reading i : ℕ) (s : Session) (w : World) → slice_get w.sessions i ≡ Some s → s.untold ≡ None → s.live ≡ true
    → session_turn reading i w ≡ own_turn i s (next_statement (begun i reading w) i s) (begun i reading w)
session_calls reading i s w there told live =
    by_session reading i s w there ∙ ap (λ o. turn_of reading i s o w) told ∙ live_or s.live (own_turn i s (next_statement w i s) (begun i reading w)) w live
    ∙ ap (λ o. own_turn i s o (begun i reading w)) (sym (next-begun i reading i s w))

-- a turn that is broken off has made the first entries of the whole one
pub session_grows_begun : (reading i : ℕ) (s : Session) (w : World) → slice_get w.sessions i ≡ Some s → s.untold ≡ None → s.live ≡ true → Grows (begun i reading w) (session_turn reading i w)
session_grows_begun reading i s w there told live =
    rw (session_calls reading i s w there told live) (grows_own i s (next_statement (begun i reading w) i s) (begun i reading w))

pub session_grows_read : (reading i : ℕ) (s : Session) (w : World) → slice_get w.sessions i ≡ Some s → s.untold ≡ None → s.live ≡ true → Grows (read_clock reading w) (session_turn reading i w)
session_grows_read reading i s w there told live =
    grows_trans (read_clock reading w) (begun i reading w) (session_turn reading i w) (grows_caught i (read_clock reading w)) (session_grows_begun reading i s w there told live)

-- ---- the timer and the propagator

pub timer_goes : (reading : ℕ) (w : World) → any_live w ≡ true → timer_turn reading w ≡ begun 64 reading w
unfolding timer_turn
timer_goes reading w e = live_or (any_live w) (begun 64 reading w) w e

pub timer_rests : (reading : ℕ) (w : World) → any_live w ≡ false → timer_turn reading w ≡ w
unfolding timer_turn
timer_rests reading w e = live_not (any_live w) (begun 64 reading w) w e

pub propagator_goes : (reading : ℕ) (w : World) → any_live w ≡ true → propagator_turn reading w ≡ propagated 65 (begun 65 reading w)
unfolding propagator_turn
propagator_goes reading w e = live_or (any_live w) (propagated 65 (begun 65 reading w)) w e

pub propagator_rests : (reading : ℕ) (w : World) → any_live w ≡ false → propagator_turn reading w ≡ w
unfolding propagator_turn
propagator_rests reading w e = live_not (any_live w) (propagated 65 (begun 65 reading w)) w e

pub timer_grows_read : (reading : ℕ) (w : World) → any_live w ≡ true → Grows (read_clock reading w) (timer_turn reading w)
timer_grows_read reading w e = rw (timer_goes reading w e) (grows_caught 64 (read_clock reading w))

pub propagator_grows_read : (reading : ℕ) (w : World) → any_live w ≡ true → Grows (read_clock reading w) (propagator_turn reading w)
propagator_grows_read reading w e =
    rw (propagator_goes reading w e) (grows_trans (read_clock reading w) (begun 65 reading w) (propagated 65 (begun 65 reading w)) (grows_caught 65 (read_clock reading w)) (grows_propagated 65 (begun 65 reading w)))
