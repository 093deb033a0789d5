-- How many readings a turn takes.
use Rattle.std.proofs.Common.{◌≡◌, inl, inr, ℕ, zero, suc, ◌+◌, Bool, true, false, not, List, [], Option, Some, None, Result, refl, sym, ap, ◌∙◌}
use Rattle.std.specs.Prelude.{Ok, Err, OnOk, OnErr, ◌&&◌, ◌==◌, slice_get, is_some, is_none, if◌then◌else◌}
use Rattle.aq_base.specs.declared.DbId.TheVariants.{Home, Away}
use Rattle.queue_rows.specs.Meaning.{Meaning, answers, parks}
use Rattle.queue_rows.specs.Session.{Session, Untold}
use Rattle.queue_rows.specs.declared.change.Change.{Change}
use Rattle.queue_rows.specs.declared.history.Step.{Step}
use Rattle.queue_rows.specs.declared.history.Step.TheVariants.{Park, Told, Flush, Timer, End}
use Rattle.queue_rows.specs.declared.statement.Statement.{Statement}
use Rattle.queue_rows.specs.Sending.{Sending, offers, arrives, confirms, next_sending, may_follow, sent}
use Rattle.queue_rows.specs.Statements.{meaning, next_statement}
use Rattle.queue_rows.specs.Turns.{due_at, is_due, timed, caught_up, begun, turned_by, own_turn, is_durable, all_durable, flushed, told, propagated_by, propagated, turn_of, turn_of_some, session_turn, any_live, timer_turn, propagator_turn, drained, closing_turn, DrainsIn}
use Rattle.queue_rows.specs.World.{World, read_clock, stepped}
use Rattle.run_turns.proofs.Adding.{adds-called, offer_adds, arrive_adds, confirm_adds}
use Rattle.run_state.specs.Entries.{IsUntold}
use Rattle.aq_world.specs.Turning.{IsBrokenOff, IsPartDrained, IsUndone, broken_if, is_over, is_owed, is_session, reads_clock, turned}

-- one more, or as many
abbrev pub plus : Bool → ℕ → ℕ
plus true n = n + 1
plus false n = n

read : (reading : ℕ) (w : World) → (read_clock reading w).readings ≡ w.readings + 1
unfolding read_clock
read reading w = refl

one_step : (actor : ℕ) (w : World) (home away : List Change) (step : Step) → (stepped actor w home away step).readings ≡ w.readings
unfolding stepped
one_step actor w home away step = refl

same_if : (b : Bool) (v w : World) → v.readings ≡ w.readings → (if b then v else w).readings ≡ w.readings
same_if true v w e = e
same_if false v w e = refl

caught : (actor : ℕ) (w : World) → (caught_up actor w).readings ≡ w.readings
unfolding caught_up
caught actor w = same_if (is_due w) (timed actor w) w (one_step actor w (due_at Home w) (due_at Away w) Timer)

begins : (actor reading : ℕ) (w : World) → (begun actor reading w).readings ≡ w.readings + 1
begins actor reading w = caught actor (read_clock reading w) ∙ read reading w

flush_if : (b : Bool) (v w : World) → v.readings ≡ w.readings → (if b then w else all_durable v).readings ≡ w.readings
flush_if true v w e = refl
flush_if false v w e = e

flush : (actor : ℕ) (w : World) → (flushed actor w).readings ≡ w.readings
unfolding flushed
flush actor w = flush_if (is_durable w) (stepped actor w [] [] Flush) w (one_step actor w [] [] Flush)

sends : (actor : ℕ) (s : Sending) (w : World) → (sent actor s w).readings ≡ w.readings
sends actor (offers at to) w = (offer_adds actor at to w).readings
sends actor (arrives at a) w = (arrive_adds actor at a w).readings
sends actor (confirms at number cs) w = (confirm_adds actor at number cs w).readings

ready : (b : Bool) (actor : ℕ) (w : World) → (if b then w else flushed actor w).readings ≡ w.readings
ready true actor w = refl
ready false actor w = flush actor w

propagates_by : (actor : ℕ) (o : Option Sending) (w : World) → (propagated_by actor o w).readings ≡ w.readings
propagates_by actor None w = refl
propagates_by actor (Some s) w = sends actor s (if may_follow w s then w else flushed actor w) ∙ ready (may_follow w s) actor w

propagates : (actor : ℕ) (w : World) → (propagated actor w).readings ≡ w.readings
unfolding propagated
propagates actor w = propagates_by actor (next_sending w) w

-- ---- a session's turn

parks_if : (b : Bool) (v w : World) → v.readings ≡ w.readings → (if b then w else v).readings ≡ w.readings
parks_if true v w e = refl
parks_if false v w e = e

means : (i : ℕ) (s : Session) (m : Meaning) (w : World) → (turned_by i s m w).readings ≡ w.readings
means i s (answers reply cs after) w = (adds-called i s after reply cs w).readings
means i s (parks since) w = parks_if (is_some s.parked) _ w (one_step i w [] [] (Park (s.next + 1)))

own : (i : ℕ) (s : Session) (o : Option Statement) (w : World) → (own_turn i s o w).readings ≡ w.readings
own i s None w = one_step i w [] [] End
own i s (Some statement) w = means i s (meaning w i s statement) w

tells : (i : ℕ) (s : Session) (number : ℕ) (w : World) → (told i s number w).readings ≡ w.readings
tells i s number w = one_step i (flushed i w) [] [] (Told number) ∙ flush i w

called : (reading i : ℕ) (s : Session) (o : Option Untold) (w : World) (live : Bool) → s.live ≡ live
    → (turn_of reading i s o w).readings ≡ plus (not (not live && is_none o) && not (true && is_some o)) w.readings
called reading i s (Some u) w true e = tells i s u.number w
called reading i s (Some u) w false e = tells i s u.number w
called reading i s None w true e =
    let v = begun i reading w in
    ap (λ b. (if b then own_turn i s (next_statement w i s) v else w).readings) e ∙ own i s (next_statement w i s) v ∙ begins i reading w
called reading i s None w false e = ap (λ b. (if b then own_turn i s (next_statement w i s) (begun i reading w) else w).readings) e

session : (reading i : ℕ) (o : Option Session) (w : World) → (turn_of_some reading i o w).readings ≡ plus (not (is_over o) && not (true && is_owed o)) w.readings
session reading i None w = refl
session reading i (Some s) w = called reading i s s.untold w s.live refl

-- ---- turns

more_if : (b : Bool) (v w : World) → v.readings ≡ w.readings + 1 → (if b then v else w).readings ≡ plus (not (not b) && true) w.readings
more_if true v w e = e
more_if false v w e = refl

turn_if : (b c owed : Bool) (reading actor : ℕ) (w : World) → owed ≡ is_owed (slice_get w.sessions actor)
    → (if b then session_turn reading actor w else (if c then timer_turn reading w else propagator_turn reading w)).readings
    ≡ plus (not (if b then is_over (slice_get w.sessions actor) else not (any_live w)) && not (b && owed)) w.readings
unfolding session_turn timer_turn propagator_turn
turn_if true c owed reading actor w e = session reading actor (slice_get w.sessions actor) w ∙ ap (λ x. plus (not (is_over (slice_get w.sessions actor)) && not (true && x)) w.readings) (sym e)
turn_if false true owed reading actor w e = more_if (any_live w) (begun 64 reading w) w (begins 64 reading w)
turn_if false false owed reading actor w e = more_if (any_live w) (propagated 65 (begun 65 reading w)) w (propagates 65 (begun 65 reading w) ∙ begins 65 reading w)

turn_readings : (reading actor : ℕ) (w : World) → (turned reading actor w).readings ≡ plus (reads_clock actor w) w.readings
turn_readings reading actor w = turn_if (is_session actor) (actor == 64) (is_owed (slice_get w.sessions actor)) reading actor w refl

undone : (actor reading : ℕ) (w new : World) → IsUndone actor reading w new → new.readings ≡ w.readings + 1
undone actor reading w new (inl e) = ap (λ v. v.readings) e ∙ read reading w
undone actor reading w new (inr (inl e)) = ap (λ v. v.readings) e ∙ begins actor reading w
undone actor reading w new (inr (inr e)) = ap (λ v. v.readings) e ∙ flush actor (begun actor reading w) ∙ begins actor reading w

untold : (actor : ℕ) (w new : World) → IsUntold actor w new → new.readings ≡ w.readings
untold actor w new (inl e) = ap (λ v. v.readings) e
untold actor w new (inr e) = ap (λ v. v.readings) e ∙ flush actor w

broken_readings : (b : Bool) (actor reading : ℕ) (w new : World) → broken_if b actor reading w new → new.readings ≡ plus b w.readings
broken_readings true actor reading w new u = undone actor reading w new u
broken_readings false actor reading w new u = untold actor w new u

-- whether it was broken off or not, a turn takes a reading just where it is to
pub readings_taken : {T E : Type 0} (turn : Result T E) (reading actor : ℕ) (w new : World) → OnOk turn (new ≡ turned reading actor w) → OnErr turn (IsBrokenOff actor reading w new)
    → new.readings ≡ plus (reads_clock actor w) w.readings
readings_taken (Ok x) reading actor w new ok err = ap (λ v. v.readings) ok ∙ turn_readings reading actor w
readings_taken (Err e) reading actor w new ok err = broken_readings (reads_clock actor w) actor reading w new err

-- ---- the closing turn

drains : (n reading : ℕ) (w : World) → (drained n (read_clock reading w)).readings ≡ w.readings + 1
unfolding drained
drains zero reading w = read reading w
drains (suc n) reading w =
    let v = drained n (read_clock reading w) in
    propagates 66 (caught_up 66 v) ∙ caught 66 v ∙ drains n reading w

drains_part : (reading : ℕ) (w new : World) (p : IsPartDrained (read_clock reading w) new) → new.readings ≡ w.readings + 1
drains_part reading w new (n, inl e) = ap (λ v. v.readings) e ∙ drains n reading w
drains_part reading w new (n, inr u) = let v = drained n (read_clock reading w) in untold 66 (caught_up 66 v) new u ∙ caught 66 v ∙ drains n reading w

closes : (steps reading : ℕ) (w : World) → (closing_turn reading steps w).readings ≡ w.readings + 1
unfolding closing_turn
closes steps reading w = flush 66 (drained steps (read_clock reading w)) ∙ drains steps reading w

-- whether it was broken off or not, it takes one
pub closing_readings : {T E : Type 0} (turn : Result T E) (reading : ℕ) (w new : World) → OnOk turn ((steps : ℕ) × DrainsIn (read_clock reading w) steps × (new ≡ closing_turn reading steps w))
    → OnErr turn (IsPartDrained (read_clock reading w) new) → new.readings ≡ w.readings + 1
closing_readings (Ok x) reading w new ok err = ap (λ v. v.readings) ok.2 ∙ closes ok.0 reading w
closing_readings (Err e) reading w new ok err = drains_part reading w new err
