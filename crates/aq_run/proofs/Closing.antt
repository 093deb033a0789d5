-- Turns of the world, whole and broken off.
use Rattle.std.proofs.Common.{◌≡◌, ◌<◌, ◌⊎◌, inl, inr, ℕ, List, Bool, true, false, Option, Some, None, Result, Ok, Err, refl, subst}
use Rattle.std.specs.Prelude.{slice_get, is_some, OnOk, IfErr}
use Rattle.std.proofs.lemmas.Bool.{lt-ltb}
use Rattle.queue_rows.specs.Session.{Session, Untold}
use Rattle.queue_rows.specs.World.{World, read_clock}
use Rattle.queue_rows.specs.Turns.{next_reading, begun, flushed, session_turn, telling_turn, telling_of, telling_of_some, turn_of, turn_of_some, drained, closing_turn}
use Rattle.queue_rows.specs.Serial.{next_session_turn}
use Rattle.aq_world.specs.Clocked.{Clocked, IsClosing, IsTurn}
use Rattle.aq_world.specs.Turning.{turned, reads_clock, is_owed, IsBrokenOff, IsUndone, broken_if, IsOfRun, IsWhole}
use Rattle.aq_world.specs.declared.turn_end.TurnEnd.{TurnEnd}
use Rattle.aq_world.specs.declared.turn_end.TurnEnd.TheVariants as ends
use Rattle.aq_world.specs.Held.{Held, HasFailed}
use Rattle.aq_world.specs.Broken.{Broken}
use Rattle.aq_world.specs.Broken.TheVariants as breaks
use Rattle.aq_run.specs.Passing.{EndsBy}
use Rattle.aq_world.proofs.OfRun.{of_run-refl, of_run-trans, of_run-along, of_run-read, of_run-begun, of_run-flushed, of_run-drained, of_run-session_turn, of_run-timer_turn, of_run-propagator_turn}

-- ---- whose turn it is

-- the actor's turn with the next reading of the serial schedule
abbrev pub next_turned : ℕ → World → World
next_turned actor w = turned (next_reading w) actor w

pub turned_session : (i : ℕ) (w : World) → i < 64 → next_turned i w ≡ next_session_turn i w
turned_session i w lt = rw (lt-ltb i 64 lt) refl

-- ---- how it ended

-- a turn came to its end, or was broken off
pub by_end : {P : Type 0} (end : TurnEnd) → (IsWhole end → P) → ((IsWhole end → ⊥) → P) → P
by_end ends.Done whole broken = whole _
by_end ends.Parked whole broken = whole _
by_end ends.Idle whole broken = whole _
by_end ends.Ended whole broken = whole _
by_end ends.Halted whole broken = broken (λ never. never)
by_end ends.Memory whole broken = broken (λ never. never)

-- ---- how the run began

undone_run : (actor reading : ℕ) (old new : World) → IsUndone actor reading old new → IsOfRun old new
undone_run actor reading old new (inl read) = of_run-along old (read_clock reading old) new read (of_run-read reading old)
undone_run actor reading old new (inr (inl began)) = of_run-along old (begun actor reading old) new began (of_run-begun actor reading old)
undone_run actor reading old new (inr (inr flush)) =
    let v = begun actor reading old in
    of_run-along old (flushed actor v) new flush (of_run-trans old v (flushed actor v) (of_run-begun actor reading old) (of_run-flushed actor v))

untold_run : (actor : ℕ) (old new : World) → (new ≡ old) ⊎ (new ≡ flushed actor old) → IsOfRun old new
untold_run actor old new (inl same) = of_run-along old old new same (of_run-refl old)
untold_run actor old new (inr flush) = of_run-along old (flushed actor old) new flush (of_run-flushed actor old)

broken_by : (actor reading : ℕ) (old new : World) (b : Bool) → broken_if b actor reading old new → IsOfRun old new
broken_by actor reading old new true broken = undone_run actor reading old new broken
broken_by actor reading old new false broken = untold_run actor old new broken

broken_run : (actor reading : ℕ) (old new : World) → IsBrokenOff actor reading old new → IsOfRun old new
broken_run actor reading old new broken = broken_by actor reading old new (reads_clock actor old) broken

pub turn_run : {D C : Type 0} (given : C → Option (List ℕ)) (plan : C → Option (ℕ → ℕ)) (actor : ℕ) (old new : Clocked D C) (end : TurnEnd) → ((reading : ℕ) → IsOfRun old.held.world (turned reading actor old.held.world))
    → IsTurn given plan actor end old new → IsOfRun old.held.world new.held.world
turn_run given plan actor old new end turns t =
    by_end end (λ is. of_run-along old.held.world (turned t.reading actor old.held.world) new.held.world (t.world is) (turns t.reading)) (λ no. broken_run actor t.reading old.held.world new.held.world (t.broken no))

pub session_run : (i : ℕ) (old : World) → i < 64 → (reading : ℕ) → IsOfRun old (turned reading i old)
session_run i old lt reading = of_run-along old (session_turn reading i old) (turned reading i old) (rw (lt-ltb i 64 lt) refl) (of_run-session_turn reading i old)

pub timer_run : (old : World) (reading : ℕ) → IsOfRun old (turned reading 64 old)
timer_run old reading = of_run-timer_turn reading old

pub propagator_run : (old : World) (reading : ℕ) → IsOfRun old (turned reading 65 old)
propagator_run old reading = of_run-propagator_turn reading old

-- ---- the closing turn

pub is_done : {P : Type 0} (end : TurnEnd) → (end ≡ ends.Done) ⊎ ((end ≡ ends.Memory) ⊎ (end ≡ ends.Halted)) → (end ≡ ends.Done → P) → IsWhole end → P
is_done end (inl done) whole is = whole done
is_done end (inr (inl broken)) whole is = absurd (subst IsWhole broken is)
is_done end (inr (inr broken)) whole is = absurd (subst IsWhole broken is)

closing_run : (reading steps : ℕ) (w : World) → IsOfRun w (closing_turn reading steps w)
unfolding closing_turn
closing_run reading steps w =
    let v = read_clock reading w in
    let d = drained steps v in
    of_run-trans w v (flushed 66 d) (of_run-read reading w) (of_run-trans v d (flushed 66 d) (of_run-drained steps v) (of_run-flushed 66 d))

pub closing_of : {D C : Type 0} (given : C → Option (List ℕ)) (plan : C → Option (ℕ → ℕ)) (end : TurnEnd) (old new : Clocked D C) → (end ≡ ends.Done) ⊎ ((end ≡ ends.Memory) ⊎ (end ≡ ends.Halted))
    → IsClosing given plan end old new → IsOfRun old.held.world new.held.world
closing_of given plan end old new known t =
    by_end end (λ is. is_done end known (λ done. let w = t.world done in of_run-along old.held.world (closing_turn t.reading w.0 old.held.world) new.held.world w.2 (closing_run t.reading w.0 old.held.world)) is) t.run

-- ---- a telling turn is the turn of a session that is owed a reply

telling_as : (i : ℕ) (s : Session) (o : Option Untold) (w : World) → is_some o ≡ true → telling_of i s o w ≡ turn_of (next_reading w) i s o w
telling_as i s None w e = absurd (let no : false ≡ true = e in cc)
telling_as i s (Some u) w e = refl

telling_as_some : (i : ℕ) (o : Option Session) (w : World) → is_owed o ≡ true → telling_of_some i o w ≡ turn_of_some (next_reading w) i o w
telling_as_some i None w e = absurd (let no : false ≡ true = e in cc)
telling_as_some i (Some s) w e = telling_as i s s.untold w e

pub telling_owed : (i : ℕ) (w : World) → is_owed (slice_get w.sessions i) ≡ true → telling_turn i w ≡ next_session_turn i w
unfolding telling_turn session_turn
telling_owed i w e = telling_as_some i (slice_get w.sessions i) w e

telling_none : (i : ℕ) (s : Session) (o : Option Untold) (w : World) → is_some o ≡ false → telling_of i s o w ≡ w
telling_none i s None w e = refl
telling_none i s (Some u) w e = absurd (let no : true ≡ false = e in cc)

telling_none_some : (i : ℕ) (o : Option Session) (w : World) → is_owed o ≡ false → telling_of_some i o w ≡ w
telling_none_some i None w e = refl
telling_none_some i (Some s) w e = telling_none i s s.untold w e

pub telling_rests : (i : ℕ) (w : World) → is_owed (slice_get w.sessions i) ≡ false → telling_turn i w ≡ w
unfolding telling_turn
telling_rests i w e = telling_none_some i (slice_get w.sessions i) w e

-- ---- failures

-- a turn that came to its end saw none, and one that was halted did
pub turn_ends : {T D : Type 0} (end : TurnEnd) (r : Result T Broken) (old new : Held D) → OnOk r (IsWhole end) → IfErr r (λ e. e ≡ breaks.Halted → end ≡ ends.Halted)
    → (end ≡ ends.Halted → HasFailed new) → ((end ≡ ends.Halted → ⊥) → HasFailed new → ⊥) → EndsBy r old new
turn_ends end (Ok x) old new whole halted failed fine = λ is. absurd (fine (λ e. subst IsWhole e whole) is)
turn_ends end (Err e) old new whole halted failed fine = λ is. failed (halted is)

-- and so do turns one after another
pub ends_on : {T D : Type 0} (r : Result T Broken) (old mid new : Held D) → (HasFailed mid → HasFailed old) → EndsBy r mid new → EndsBy r old new
ends_on (Ok x) old mid new before ends = λ failed. before (ends failed)
ends_on (Err e) old mid new before ends = ends
