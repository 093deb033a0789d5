-- No turn changes how the run began.
use Rattle.std.proofs.Common.{◌≡◌, inl, inr, ℕ, zero, suc, ◌+◌, Bool, true, false, List, [], Option, Some, None, Result, refl, sym, subst, ◌∙◌}
use Rattle.std.specs.Prelude.{◌==◌, Ok, Err, OnOk, OnErr, slice_get, is_some, if◌then◌else◌}
use Rattle.aq_base.specs.declared.DbId.{DbId}
use Rattle.aq_base.specs.declared.DbId.TheVariants.{Home, Away}
use Rattle.queue_rows.specs.Session.{Session, Untold}
use Rattle.queue_rows.specs.Meaning.{Meaning, answers, parks}
use Rattle.queue_rows.specs.Turns.{ids_taken, due_at, begun, caught_up, timed, is_due, called, turned_by, own_turn, is_durable, flushed, all_durable, told, propagated, propagated_by, turn_of, turn_of_some, session_turn, telling_of, telling_of_some, telling_turn, timer_turn, propagator_turn, any_live, drained, closing_turn}
use Rattle.queue_rows.specs.World.{at_home, at_away, other_db, World, read_clock, stepped, with_session}
use Rattle.queue_rows.specs.declared.change.Change.{Change}
use Rattle.queue_rows.specs.declared.history.Step.{Step}
use Rattle.queue_rows.specs.declared.history.Step.TheVariants.{Call, Park, Timer, Offer, Arrive, Confirm, Told, Flush, End}
use Rattle.queue_rows.specs.declared.reply.Reply.{Reply}
use Rattle.queue_rows.specs.declared.statement.Statement.{Statement}
use Rattle.queue_rows.specs.Statements.{meaning, next_statement}
use Rattle.queue_rows.specs.Sending.{Sending, offers, arrives, confirms, next_sending, may_follow, sent, taking_ids, ids_copied, home_of, away_of}
use Rattle.run_state.specs.Entries.{IsUntold}
use Rattle.aq_world.specs.Turning.{IsBrokenOff, IsOfRun, IsUndone, broken_if, is_session, reads_clock, turned}

pub of_run-refl : (w : World) → IsOfRun w w
of_run-refl w = record { home = refl; away = refl; opening = refl; scripts = refl }

pub of_run-trans : (u v w : World) → IsOfRun u v → IsOfRun v w → IsOfRun u w
of_run-trans u v w a b = record { home = b.home ∙ a.home; away = b.away ∙ a.away; opening = b.opening ∙ a.opening; scripts = b.scripts ∙ a.scripts }

pub of_run-same : (w new : World) → new ≡ w → IsOfRun w new
of_run-same w new e = subst (IsOfRun w) (sym e) (of_run-refl w)

pub of_run-along : (w v new : World) → new ≡ v → IsOfRun w v → IsOfRun w new
of_run-along w v new e a = subst (IsOfRun w) (sym e) a

of_run_if : (b : Bool) (u v w : World) → IsOfRun w u → IsOfRun w v → IsOfRun w (if b then u else v)
of_run_if true u v w a c = a
of_run_if false u v w a c = c

pub of_run-read : (reading : ℕ) (w : World) → IsOfRun w (read_clock reading w)
unfolding read_clock
of_run-read reading w = record { home = refl; away = refl; opening = refl; scripts = refl }

pub of_run-stepped : (actor : ℕ) (w : World) (home away : List Change) (step : Step) → IsOfRun w (stepped actor w home away step)
unfolding stepped
of_run-stepped actor w home away step = record { home = refl; away = refl; opening = refl; scripts = refl }

of_run-durable : (w : World) → IsOfRun w (all_durable w)
of_run-durable w = record { home = refl; away = refl; opening = refl; scripts = refl }

of_run-session : (i : ℕ) (s : Session) (w : World) → IsOfRun w (with_session i s w)
of_run-session i s w = record { home = refl; away = refl; opening = refl; scripts = refl }

of_run-ids : (db : DbId) (n : ℕ) (w : World) → IsOfRun w (taking_ids db n w)
of_run-ids Home n w = record { home = refl; away = refl; opening = refl; scripts = refl }
of_run-ids Away n w = record { home = refl; away = refl; opening = refl; scripts = refl }

-- a step, and then a session that is changed
of_run_set : (actor i : ℕ) (s : Session) (w : World) (step : Step) → IsOfRun w (with_session i s (stepped actor w [] [] step))
of_run_set actor i s w step = of_run-trans w (stepped actor w [] [] step) (with_session i s (stepped actor w [] [] step)) (of_run-stepped actor w [] [] step) (of_run-session i s (stepped actor w [] [] step))

-- ---- due work, flushes and propagation

pub of_run-caught_up : (actor : ℕ) (w : World) → IsOfRun w (caught_up actor w)
unfolding caught_up
of_run-caught_up actor w = of_run_if (is_due w) (timed actor w) w w (of_run-stepped actor w (due_at Home w) (due_at Away w) Timer) (of_run-refl w)

pub of_run-begun : (actor reading : ℕ) (w : World) → IsOfRun w (begun actor reading w)
of_run-begun actor reading w = of_run-trans w (read_clock reading w) (begun actor reading w) (of_run-read reading w) (of_run-caught_up actor (read_clock reading w))

pub of_run-flushed : (actor : ℕ) (w : World) → IsOfRun w (flushed actor w)
unfolding flushed
of_run-flushed actor w =
    let v = stepped actor w [] [] Flush in
    of_run_if (is_durable w) w (all_durable v) w (of_run-refl w) (of_run-trans w v (all_durable v) (of_run-stepped actor w [] [] Flush) (of_run-durable v))

of_run-sent : (actor : ℕ) (sending : Sending) (w : World) → IsOfRun w (sent actor sending w)
unfolding sent
of_run-sent actor (offers at to) w =
    let a = of_run-stepped actor w [] [] (Offer at to) in
    record { home = a.home; away = a.away; opening = a.opening; scripts = a.scripts }
of_run-sent actor (arrives at a) w =
    let v = stepped actor w (home_of at.db a.origin a.there) (away_of at.db a.origin a.there) (Arrive at a.outcome) in
    let u = taking_ids (other_db at.db) (ids_copied a.outcome) v in
    let r = of_run-trans w v u (of_run-stepped actor w (home_of at.db a.origin a.there) (away_of at.db a.origin a.there) (Arrive at a.outcome)) (of_run-ids (other_db at.db) (ids_copied a.outcome) v) in
    record { home = r.home; away = r.away; opening = r.opening; scripts = r.scripts }
of_run-sent actor (confirms at number cs) w =
    let a = of_run-stepped actor w (at_home at.db cs) (at_away at.db cs) (Confirm at) in
    record { home = a.home; away = a.away; opening = a.opening; scripts = a.scripts }

of_run_by : (actor : ℕ) (o : Option Sending) (w : World) → IsOfRun w (propagated_by actor o w)
of_run_by actor None w = of_run-refl w
of_run_by actor (Some sending) w =
    let v = if may_follow w sending then w else flushed actor w in
    of_run-trans w v (sent actor sending v) (of_run_if (may_follow w sending) w (flushed actor w) w (of_run-refl w) (of_run-flushed actor w)) (of_run-sent actor sending v)

pub of_run-propagated : (actor : ℕ) (w : World) → IsOfRun w (propagated actor w)
unfolding propagated
of_run-propagated actor w = of_run_by actor (next_sending w) w

pub of_run-drained : (n : ℕ) (w : World) → IsOfRun w (drained n w)
unfolding drained
of_run-drained zero w = of_run-refl w
of_run-drained (suc n) w =
    let v = drained n w in
    let u = caught_up 66 v in
    of_run-trans w v (propagated 66 u) (of_run-drained n w) (of_run-trans v u (propagated 66 u) (of_run-caught_up 66 v) (of_run-propagated 66 u))

-- ---- the turns of sessions, the timer and the propagator

of_run-called : (i : ℕ) (s after : Session) (reply : Reply) (cs : List Change) (w : World) → IsOfRun w (called i s reply cs after w)
of_run-called i s after reply cs w =
    let v = stepped i w (at_home s.at cs) (at_away s.at cs) (Call (s.next + 1) reply) in
    let u = taking_ids s.at (ids_taken reply) v in
    let r = of_run-trans w v u (of_run-stepped i w (at_home s.at cs) (at_away s.at cs) (Call (s.next + 1) reply)) (of_run-ids s.at (ids_taken reply) v) in
    record { home = r.home; away = r.away; opening = r.opening; scripts = r.scripts }

of_run-turned : (i : ℕ) (s : Session) (m : Meaning) (w : World) → IsOfRun w (turned_by i s m w)
of_run-turned i s (answers reply cs after) w = of_run-called i s after reply cs w
of_run-turned i s (parks since) w =
    let x = record s { parked = Some since } in
    of_run_if (is_some s.parked) w (with_session i x (stepped i w [] [] (Park (s.next + 1)))) w (of_run-refl w) (of_run_set i i x w (Park (s.next + 1)))

of_run-own : (i : ℕ) (s : Session) (o : Option Statement) (w : World) → IsOfRun w (own_turn i s o w)
of_run-own i s None w = of_run_set i i (record s { pending = []; marks = []; live = false }) w End
of_run-own i s (Some statement) w = of_run-turned i s (meaning w i s statement) w

of_run-told : (i : ℕ) (s : Session) (number : ℕ) (w : World) → IsOfRun w (told i s number w)
of_run-told i s number w =
    let v = flushed i w in
    let x = record s { untold = None } in
    of_run-trans w v (with_session i x (stepped i v [] [] (Told number))) (of_run-flushed i w) (of_run_set i i x v (Told number))

of_run-turn : (reading i : ℕ) (s : Session) (o : Option Untold) (w : World) → IsOfRun w (turn_of reading i s o w)
of_run-turn reading i s (Some u) w = of_run-told i s u.number w
of_run-turn reading i s None w =
    let v = begun i reading w in
    let o = next_statement w i s in
    of_run_if s.live (own_turn i s o v) w w (of_run-trans w v (own_turn i s o v) (of_run-begun i reading w) (of_run-own i s o v)) (of_run-refl w)

of_run_some : (reading i : ℕ) (o : Option Session) (w : World) → IsOfRun w (turn_of_some reading i o w)
of_run_some reading i None w = of_run-refl w
of_run_some reading i (Some s) w = of_run-turn reading i s s.untold w

pub of_run-session_turn : (reading i : ℕ) (w : World) → IsOfRun w (session_turn reading i w)
unfolding session_turn
of_run-session_turn reading i w = of_run_some reading i (slice_get w.sessions i) w

telling_by : (i : ℕ) (s : Session) (o : Option Untold) (w : World) → IsOfRun w (telling_of i s o w)
telling_by i s None w = of_run-refl w
telling_by i s (Some u) w = of_run-told i s u.number w

telling_some : (i : ℕ) (o : Option Session) (w : World) → IsOfRun w (telling_of_some i o w)
telling_some i None w = of_run-refl w
telling_some i (Some s) w = telling_by i s s.untold w

pub of_run-telling_turn : (i : ℕ) (w : World) → IsOfRun w (telling_turn i w)
unfolding telling_turn
of_run-telling_turn i w = telling_some i (slice_get w.sessions i) w

pub of_run-timer_turn : (reading : ℕ) (w : World) → IsOfRun w (timer_turn reading w)
unfolding timer_turn
of_run-timer_turn reading w = of_run_if (any_live w) (begun 64 reading w) w w (of_run-begun 64 reading w) (of_run-refl w)

pub of_run-propagator_turn : (reading : ℕ) (w : World) → IsOfRun w (propagator_turn reading w)
unfolding propagator_turn
of_run-propagator_turn reading w =
    let v = begun 65 reading w in
    of_run_if (any_live w) (propagated 65 v) w w (of_run-trans w v (propagated 65 v) (of_run-begun 65 reading w) (of_run-propagated 65 v)) (of_run-refl w)

of_run_whole : (b c : Bool) (reading actor : ℕ) (w : World) → IsOfRun w (if b then session_turn reading actor w else (if c then timer_turn reading w else propagator_turn reading w))
of_run_whole true c reading actor w = of_run-session_turn reading actor w
of_run_whole false true reading actor w = of_run-timer_turn reading w
of_run_whole false false reading actor w = of_run-propagator_turn reading w

of_run-whole : (reading actor : ℕ) (w : World) → IsOfRun w (turned reading actor w)
of_run-whole reading actor w = of_run_whole (is_session actor) (actor == 64) reading actor w

-- ---- turns that are broken off

of_run-undone : (actor reading : ℕ) (w new : World) → IsUndone actor reading w new → IsOfRun w new
of_run-undone actor reading w new (inl e) = of_run-along w (read_clock reading w) new e (of_run-read reading w)
of_run-undone actor reading w new (inr (inl e)) = of_run-along w (begun actor reading w) new e (of_run-begun actor reading w)
of_run-undone actor reading w new (inr (inr e)) =
    let v = begun actor reading w in
    of_run-along w (flushed actor v) new e (of_run-trans w v (flushed actor v) (of_run-begun actor reading w) (of_run-flushed actor v))

of_run-untold : (actor : ℕ) (w new : World) → IsUntold actor w new → IsOfRun w new
of_run-untold actor w new (inl e) = of_run-same w new e
of_run-untold actor w new (inr e) = of_run-along w (flushed actor w) new e (of_run-flushed actor w)

of_run_broken : (b : Bool) (actor reading : ℕ) (w new : World) → broken_if b actor reading w new → IsOfRun w new
of_run_broken true actor reading w new u = of_run-undone actor reading w new u
of_run_broken false actor reading w new u = of_run-untold actor w new u

-- a turn, whole or broken off
pub turn_of_run : {T E : Type 0} (turn : Result T E) (reading actor : ℕ) (w new : World) → OnOk turn (new ≡ turned reading actor w) → OnErr turn (IsBrokenOff actor reading w new) → IsOfRun w new
turn_of_run (Ok x) reading actor w new ok err = of_run-along w (turned reading actor w) new ok (of_run-whole reading actor w)
turn_of_run (Err x) reading actor w new ok err = of_run_broken (reads_clock actor w) actor reading w new err

-- ---- the closing turn

of_run-closing : (reading steps : ℕ) (w : World) → IsOfRun w (closing_turn reading steps w)
unfolding closing_turn
of_run-closing reading steps w =
    let v = read_clock reading w in
    let d = drained steps v in
    of_run-trans w v (flushed 66 d) (of_run-read reading w) (of_run-trans v d (flushed 66 d) (of_run-drained steps v) (of_run-flushed 66 d))

pub closed_of_run : (reading steps : ℕ) (w new : World) → new ≡ closing_turn reading steps w → IsOfRun w new
closed_of_run reading steps w new e = of_run-along w (closing_turn reading steps w) new e (of_run-closing reading steps w)
