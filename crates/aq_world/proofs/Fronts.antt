-- What is there before a turn begins what is there behind it.
use Rattle.std.proofs.Common.{ℕ, Bool, true, false, Option, Some, None}
use Rattle.std.specs.Prelude.{◌==◌, slice_get, if◌then◌else◌}
use Rattle.queue_rows.specs.Session.{Session, Untold}
use Rattle.queue_rows.specs.Statements.{next_statement}
use Rattle.queue_rows.specs.Turns.{any_live, begun, flushed, own_turn, propagated, propagator_turn, session_turn, timer_turn, told, turn_of, turn_of_some}
use Rattle.queue_rows.specs.World.{World}
use Rattle.run_turns.proofs.Growing.{Grows, grows_begun, grows_flushed, grows_own, grows_propagated, grows_self, grows_told, grows_trans}
use Rattle.aq_world.specs.Turning.{is_session, turned}

grows_if : (b : Bool) (w new : World) → Grows w new → Grows w (if b then new else w)
grows_if true w new g = g
grows_if false w new g = grows_self w

pub told_grows : (i : ℕ) (s : Session) (number : ℕ) (w : World) → Grows w (told i s number w)
told_grows i s number w = grows_trans w (flushed i w) (told i s number w) (grows_flushed i w) (grows_told i s number w)

grows_turn : (reading i : ℕ) (s : Session) (o : Option Untold) (w : World) → Grows w (turn_of reading i s o w)
grows_turn reading i s (Some u) w = told_grows i s u.number w
grows_turn reading i s None w =
    let v = begun i reading w in
    let new = own_turn i s (next_statement w i s) v in
    grows_if s.live w new (grows_trans w v new (grows_begun i reading w) (grows_own i s (next_statement w i s) v))

grows_some : (reading i : ℕ) (o : Option Session) (w : World) → Grows w (turn_of_some reading i o w)
grows_some reading i None w = grows_self w
grows_some reading i (Some s) w = grows_turn reading i s s.untold w

pub session_grows : (reading i : ℕ) (w : World) → Grows w (session_turn reading i w)
unfolding session_turn
session_grows reading i w = grows_some reading i (slice_get w.sessions i) w

pub timer_grows : (reading : ℕ) (w : World) → Grows w (timer_turn reading w)
unfolding timer_turn
timer_grows reading w = grows_if (any_live w) w (begun 64 reading w) (grows_begun 64 reading w)

pub propagator_grows : (reading : ℕ) (w : World) → Grows w (propagator_turn reading w)
unfolding propagator_turn
propagator_grows reading w =
    let v = begun 65 reading w in
    grows_if (any_live w) w (propagated 65 v) (grows_trans w v (propagated 65 v) (grows_begun 65 reading w) (grows_propagated 65 v))

turned_if : (b c : Bool) (reading actor : ℕ) (w : World) → Grows w (if b then session_turn reading actor w else (if c then timer_turn reading w else propagator_turn reading w))
turned_if true c reading actor w = session_grows reading actor w
turned_if false true reading actor w = timer_grows reading w
turned_if false false reading actor w = propagator_grows reading w

pub turned_grows : (reading actor : ℕ) (w : World) → Grows w (turned reading actor w)
turned_grows reading actor w = turned_if (is_session actor) (actor == 64) reading actor w
