-- Legal steps lead to the world behind each turn, also behind one that is broken off.
use Rattle.std.proofs.Common.{◌≡◌, ◌<◌, ◌≤◌, ◌+◌, ◌++◌, ◌∷◌, inl, inr, ℕ, List, [], Bool, true, false, Option, Some, None, Result, refl, sym, ap, subst, ◌∙◌, arith, length, length-append, get_or}
use Rattle.std.specs.Prelude.{◌^◌, ◌⊎◌, IsSome, Ok, Err, OnOk, OnErr, IfOk, IfErr, MatchResult, ◌==◌, ◌||◌, nat_lt, slice_get, is_some, not, if◌then◌else◌}
use Rattle.std.proofs.lemmas.Bool.{lt-ltb, or_left, false≢true}
use Rattle.std.proofs.Math.Seq.{get_or-append_seam}
use Rattle.std.proofs.lemmas.List.FromFn.{get_or-map-range_with_len}
use Rattle.std.specs.Option.{ForSome}
use Rattle.aq_clock.specs.Clock.{HasReading, TellsOn, first_readings}
use Rattle.queue_rows.specs.Meaning.{Meaning, answers, parks}
use Rattle.queue_rows.specs.Session.{Session}
use Rattle.queue_rows.specs.declared.history.SessionScript.{SessionScript}
use Rattle.queue_rows.specs.declared.tables.Tables.{Tables}
use Rattle.history_laws.specs.WorldLaws.{MayBegin}
use Rattle.queue_rows.specs.World.{World, opened, read_clock}
use Rattle.queue_rows.specs.Sending.{next_sending}
use Rattle.queue_rows.specs.Legal.{IsLegal, opens, reads, steps, is_actor, is_sender}
use Rattle.queue_rows.specs.Turns.{begun, caught_up, flushed, drained, session_turn, timer_turn, propagator_turn, any_live, is_due, closing_turn, DrainsIn}
use Rattle.run_laws.specs.ValidRun.{IsValidWorld}
use Rattle.run_laws.proofs.Worlds.{opens_valid}
use Rattle.run_turns.proofs.Began.{legal_began, began_so, opened_again}
use Rattle.run_turns.proofs.Calling.{entries-opened}
use Rattle.run_turns.proofs.Legally.{GoesOn, valid_now, session_turn_on, timer_on, propagator_on, closing_on, read_on, begun_on, flushed_on, begun_flushed_on, drains_on, drains_caught_on, drains_flushed_on}
use Rattle.run_turns.proofs.OnReadings.{IsOnReadings, on_readings, on_readings_so}
use Rattle.run_turns.proofs.Sounding.{opened_sound}
use Rattle.run_state.specs.Entries.{IsUntold}
use Rattle.durable_state.specs.Held.{Held, HasFailed}
use Rattle.durable_state.specs.declared.broken.Broken.{Broken}
use Rattle.durable_state.specs.declared.broken.Broken.TheVariants as reasons
use Rattle.aq_world.specs.Clocked.{IsClocked, Reads, TakesReading}
use Rattle.aq_world.specs.Going.{GoesAs, Stops}
use Rattle.next_steps.specs.Sound.{IsSound, IsRunning, start_of}
use Rattle.aq_world.specs.Turning.{IsActor, IsUndone, IsBrokenOff, IsPartOfStep, IsPartDrained, IsDrainable, IsOfRun, IsWhole, broken_end, broken_if, reads_clock, is_owed, is_session, turned, next_meaning, end_by, session_end, background_end, timer_end, propagator_end, turn_end}
use Rattle.aq_world.specs.declared.turn_end.TurnEnd.{TurnEnd}
use Rattle.aq_world.specs.declared.turn_end.TurnEnd.TheVariants as ends
use Rattle.aq_world.proofs.OfRun.{closed_of_run, of_run-along, of_run-caught_up, of_run-drained, of_run-flushed, of_run-read, of_run-same, of_run-trans}
use Rattle.aq_world.proofs.Readings.{closing_readings, plus, readings_taken}
use Rattle.aq_world.proofs.Soundness.{sound_opened, sound_read, step_sound}
use Rattle.aq_world.proofs.Turning.{owed_there, owed_end, timer_actor, sender_actor}

-- each legal world is sound
sound_from : (start : World) → IsSound start → (readings : List ℕ) (w : World) → IsLegal start readings w → IsSound w
sound_from start k rs w opens = k
sound_from start k rs w (reads before v reading l) = sound_read v reading (sound_from start k before v l)
sound_from start k rs w (steps before v new actor step l timely m) = step_sound v new actor step (sound_from start k before v l) m

-- a running world is
pub running_sound : (readings : List ℕ) (w : World) → IsRunning readings w → IsSound w
running_sound readings w r = sound_from (start_of w) (sound_opened w.home.opening w.away.opening w.scripts r.begins) readings w r.legal

-- in it there are few sessions
pub running_few : (readings : List ℕ) (w : World) → IsRunning readings w → length w.sessions ≤ 64
running_few readings w r = (running_sound readings w r).few

same_begins : (a b c d : Tables) (xs ys : List SessionScript) → a ≡ c → b ≡ d → xs ≡ ys → MayBegin c d ys → MayBegin a b xs
same_begins a b c d xs ys p q r m = subst (λ t. MayBegin t b xs) (sym p) (subst (λ t. MayBegin c t xs) (sym q) (subst (MayBegin c d) (sym r) m))

actor_is : (w : World) (actor : ℕ) → IsActor w actor → is_actor w actor ≡ true
actor_is w actor (inl lt) =
    or_left (nat_lt actor (length w.sessions) || (actor == 64)) (is_sender actor) (or_left (nat_lt actor (length w.sessions)) (actor == 64) (lt-ltb actor (length w.sessions) lt))
actor_is w actor (inr (inl e)) = subst (λ a. is_actor w a ≡ true) (sym e) (timer_actor w)
actor_is w actor (inr (inr e)) = subst (λ a. is_actor w a ≡ true) (sym e) (sender_actor w 65 refl)

module _ (before : List ℕ) (w : World) (r : IsRunning before w) where
  start_valid : IsValidWorld (start_of w)
  start_valid = opens_valid w.home.opening w.away.opening w.scripts r.begins

  start_kept : Rattle.run_turns.proofs.Sounding.IsSound (start_of w)
  start_kept = opened_sound w.home.opening w.away.opening w.scripts

  start_empty : (start_of w).entries ≡ []
  start_empty = entries-opened w.home.opening w.away.opening w.scripts

  -- a world to which legal steps lead is running
  running_by : (readings : List ℕ) (new : World) → IsLegal (start_of w) readings new → length readings ≡ new.readings → IsRunning readings new
  running_by readings new legal count =
      let b = began_so w.home.opening w.away.opening w.scripts readings new legal in
      let e : start_of new ≡ start_of w = opened_again w.home.opening w.away.opening w.scripts readings new legal in
      record {
        begins = same_begins new.home.opening new.away.opening w.home.opening w.away.opening new.scripts w.scripts b.0 b.1 b.2 r.begins;
        opening = (legal_began (start_of w) readings new legal).opening ∙ ap (λ v. v.opening) (sym e);
        legal = subst (λ v. IsLegal v readings new) (sym e) legal;
        count = count;
      }

  module _ (reading : ℕ) where
    -- legal by the readings before the turn, and the one that it may take
    abbrev On : World → Type 0
    On v = IsOnReadings (start_of w) before reading v

    goes : GoesOn (start_of w) On (λ _. reading)
    goes = on_readings (start_of w) before reading

    here : On w
    here = on_readings_so (start_of w) before reading w r.legal r.count

    on_as : (new v : World) → new ≡ v → On v → On new
    on_as new v e c = subst On (sym e) c

    -- ---- turns

    turned_if : (b c : Bool) (actor : ℕ) → On (if b then session_turn reading actor w else (if c then timer_turn reading w else propagator_turn reading w))
    turned_if true c actor = session_turn_on (start_of w) start_valid start_kept start_empty On (λ _. reading) goes w actor here
    turned_if false true actor = timer_on (start_of w) start_valid start_kept start_empty On (λ _. reading) goes w here
    turned_if false false actor = propagator_on (start_of w) start_valid start_kept start_empty On (λ _. reading) goes w here

    undone_on : (new : World) (actor : ℕ) → is_actor w actor ≡ true → IsUndone actor reading w new → On new
    undone_on new actor by (inl e) = on_as new (read_clock reading w) e (read_on (start_of w) start_valid start_kept start_empty On (λ _. reading) goes w here)
    undone_on new actor by (inr (inl e)) = on_as new (begun actor reading w) e (begun_on (start_of w) start_valid start_kept start_empty On (λ _. reading) goes w actor by here)
    undone_on new actor by (inr (inr e)) =
        on_as new (flushed actor (begun actor reading w)) e (begun_flushed_on (start_of w) start_valid start_kept start_empty On (λ _. reading) goes w actor by here)

    untold_on : (new : World) (actor : ℕ) → is_actor w actor ≡ true → IsUntold actor w new → On new
    untold_on new actor by (inl e) = on_as new w e here
    untold_on new actor by (inr e) = on_as new (flushed actor w) e (flushed_on (start_of w) start_valid start_kept start_empty On (λ _. reading) goes w actor by here)

    broken_on : (b : Bool) (new : World) (actor : ℕ) → is_actor w actor ≡ true → broken_if b actor reading w new → On new
    broken_on true new actor by u = undone_on new actor by u
    broken_on false new actor by u = untold_on new actor by u

    turn_on : {T E : Type 0} (new : World) (actor : ℕ) (turn : Result T E) → IsActor w actor → OnOk turn (new ≡ turned reading actor w) → OnErr turn (IsBrokenOff actor reading w new) → On new
    turn_on new actor (Ok x) by ok err = on_as new (turned reading actor w) ok (turned_if (is_session actor) (actor == 64) actor)
    turn_on new actor (Err e) by ok err = broken_on (reads_clock actor w) new actor (actor_is w actor by) err

    -- ---- the closing turn

    pub drainable : IsDrainable (read_clock reading w)
    drainable n = valid_now (start_of w) start_valid start_kept start_empty On (λ _. reading) goes (drained n (read_clock reading w)) (drains_on (start_of w) start_valid start_kept start_empty On (λ _. reading) goes n w here)

    part_on : (new : World) (n : ℕ) → IsPartOfStep (drained n (read_clock reading w)) new → On new
    part_on new n (inl e) = on_as new (drained n (read_clock reading w)) e (drains_on (start_of w) start_valid start_kept start_empty On (λ _. reading) goes n w here)
    part_on new n (inr (inl e)) =
        on_as new (caught_up 66 (drained n (read_clock reading w))) e (drains_caught_on (start_of w) start_valid start_kept start_empty On (λ _. reading) goes n w here)
    part_on new n (inr (inr e)) =
        on_as new (flushed 66 (caught_up 66 (drained n (read_clock reading w)))) e (drains_flushed_on (start_of w) start_valid start_kept start_empty On (λ _. reading) goes n w here)

    close_on : {T E : Type 0} (new : World) (turn : Result T E) → OnOk turn ((steps : ℕ) × DrainsIn (read_clock reading w) steps × (new ≡ closing_turn reading steps w))
        → OnErr turn (IsPartDrained (read_clock reading w) new) → On new
    close_on new (Ok x) ok err = on_as new (closing_turn reading ok.0 w) ok.2 (closing_on (start_of w) start_valid start_kept start_empty On (λ _. reading) goes ok.0 w here)
    close_on new (Err e) ok err = part_on new err.0 err.1

    -- ---- what the clock gave

    module _ {C : Type 0} (given : C → Option (List ℕ)) (old clock : C) (told : ForSome (given old) (λ rs. rs ≡ before)) (new : World) (on : On new) where
      running_so : IsRunning on.readings new
      running_so = running_by on.readings new on.legal on.count

      read_so : new.readings ≡ w.readings + 1 → ForSome (given clock) (HasReading (given old) reading) → IsClocked given clock new
      read_so more taken = record {
        readings = on.readings;
        told = λ rs e.
            let t = taken rs e in
            let next = on.next (let c = r.count in omega (arith, more, c)) in
            t.2 ∙ ap (λ xs. xs ++ reading ∷ []) (told t.0 t.1) ∙ sym next;
        running = running_so;
      }

      unread_so : new.readings ≡ w.readings → clock ≡ old → IsClocked given clock new
      unread_so same e = record {
        readings = on.readings;
        told = λ rs f. told rs (sym (ap given e) ∙ f) ∙ sym (on.same (let c = r.count in omega (arith, same, c)));
        running = running_so;
      }

      clocked_if : (b : Bool) → new.readings ≡ plus b w.readings → (b ≡ true → ForSome (given clock) (HasReading (given old) reading)) → (b ≡ false → clock ≡ old) → IsClocked given clock new
      clocked_if true more taken same = read_so more (taken refl)
      clocked_if false more taken same = unread_so more (same refl)

    pub turn_leaves : {T E C : Type 0} (given : C → Option (List ℕ)) (old clock : C) (told : ForSome (given old) (λ rs. rs ≡ before)) (new : World) (actor : ℕ) (is_read : Bool) (turn : Result T E) → is_read ≡ reads_clock actor w
        → (is_read ≡ true → ForSome (given clock) (HasReading (given old) reading)) → (is_read ≡ false → clock ≡ old)
        → IsActor w actor → OnOk turn (new ≡ turned reading actor w) → OnErr turn (IsBrokenOff actor reading w new) → IsClocked given clock new
    turn_leaves given old clock told new actor is_read turn is taken same by ok err =
        clocked_if given old clock told new (turn_on new actor turn by ok err) is_read (readings_taken turn reading actor w new ok err ∙ ap (λ b. plus b w.readings) (sym is)) taken same

    pub closing_leaves : {T E C : Type 0} (given : C → Option (List ℕ)) (old clock : C) (told : ForSome (given old) (λ rs. rs ≡ before)) (new : World) (turn : Result T E) → ForSome (given clock) (HasReading (given old) reading)
        → OnOk turn ((steps : ℕ) × DrainsIn (read_clock reading w) steps × (new ≡ closing_turn reading steps w)) → OnErr turn (IsPartDrained (read_clock reading w) new) → IsClocked given clock new
    closing_leaves given old clock told new turn taken ok err = read_so given old clock told new (close_on new turn ok err) (closing_readings turn reading w new ok err) taken

-- ---- readings as planned

some_of : {T : Type 0} (o : Option T) → IsSome o → (x : T) × (o ≡ Some x)
some_of None some = absurd (false≢true some)
some_of (Some x) some = (x, refl)

-- the last of the readings that a rule gives
last_planned : (rule : ℕ → ℕ) (before : List ℕ) (reading : ℕ) → before ++ reading ∷ [] ≡ first_readings rule (length (before ++ reading ∷ [])) → reading ≡ rule (length before)
last_planned rule before reading e =
    let n : length (before ++ reading ∷ []) ≡ length before + 1 = length-append before (reading ∷ []) in
    sym (get_or-append_seam before reading [] 0) ∙ ap (λ xs. get_or xs (length before) 0) e
    ∙ get_or-map-range_with_len rule 0 (length (before ++ reading ∷ [])) (length before) (length before) 0 (omega (arith, n)) (omega arith)

module _ {C : Type 0} (given : C → Option (List ℕ)) (plan : C → Option (ℕ → ℕ))
    (law : (clock : C) (readings : List ℕ) (rule : ℕ → ℕ) → given clock ≡ Some readings → plan clock ≡ Some rule → readings ≡ first_readings rule (length readings))
    (number reading : ℕ) (old clock : C) (few : number ≤ 2 ^ 63) (count : ForSome (given old) (λ rs. length rs ≡ number))
    (taken : ForSome (given clock) (HasReading (given old) reading)) (on : ForSome (given old) (TellsOn (given clock))) (planned : plan clock ≡ plan old) where
  tells_more : IsSome (given old) → IsSome (given clock)
  tells_more some = let b = some_of (given old) some in on b.0 b.1 (let n = count b.0 b.1 in omega (arith, few, n))

  planned_so : IsSome (given old) → ForSome (plan old) (λ rule. reading ≡ rule number)
  planned_so some rule e =
      let a = some_of (given clock) (tells_more some) in
      let t = taken a.0 a.1 in
      let all : t.0 ++ reading ∷ [] ≡ first_readings rule (length (t.0 ++ reading ∷ [])) = subst (λ rs. rs ≡ first_readings rule (length rs)) t.2 (law clock a.0 rule a.1 (planned ∙ e)) in
      last_planned rule t.0 reading all ∙ ap rule (count t.0 t.1)

  pub takes_reading : TakesReading given plan number reading old clock
  takes_reading = record { taken = taken; tells = tells_more; planned = planned; as_planned = planned_so }

-- a clock that has given none
pub told_first : (o : Option (List ℕ)) → o ≡ Some [] → ForSome o (λ rs. rs ≡ [])
told_first o e rs f = let same : Some rs ≡ Some [] = sym f ∙ e in cc

-- how many readings a clock has given that tells them
pub told_count : (before : List ℕ) (w : World) (o : Option (List ℕ)) → IsRunning before w → ForSome o (λ rs. rs ≡ before) → ForSome o (λ rs. length rs ≡ w.readings)
told_count before w o r told rs e = ap length (told rs e) ∙ r.count

pub reads_if : {C : Type 0} (given : C → Option (List ℕ)) (plan : C → Option (ℕ → ℕ)) (b is_read : Bool) (number reading : ℕ) (old clock : C) → is_read ≡ b → (is_read ≡ true → TakesReading given plan number reading old clock) → (is_read ≡ false → clock ≡ old)
    → Reads given plan b number reading old clock
reads_if given plan true is_read number reading old clock e takes same = takes e
reads_if given plan false is_read number reading old clock e takes same = same e

-- how the run began stays where the closing turn is broken off
part_by : (w new : World) → IsPartOfStep w new → IsOfRun w new
part_by w new (inl e) = of_run-same w new e
part_by w new (inr (inl e)) = of_run-along w (caught_up 66 w) new e (of_run-caught_up 66 w)
part_by w new (inr (inr e)) =
    of_run-along w (flushed 66 (caught_up 66 w)) new e (of_run-trans w (caught_up 66 w) (flushed 66 (caught_up 66 w)) (of_run-caught_up 66 w) (of_run-flushed 66 (caught_up 66 w)))

pub part_of_run : (reading : ℕ) (w new : World) → IsPartDrained (read_clock reading w) new → IsOfRun w new
part_of_run reading w new p =
    let u = read_clock reading w in
    let v = drained p.0 u in
    of_run-trans w v new (of_run-trans w u v (of_run-read reading w) (of_run-drained p.0 u)) (part_by v new p.1)

pub closing_of_run : {T E : Type 0} (turn : Result T E) (reading : ℕ) (w new : World) → OnOk turn ((steps : ℕ) × DrainsIn (read_clock reading w) steps × (new ≡ closing_turn reading steps w))
    → OnErr turn (IsPartDrained (read_clock reading w) new) → IsOfRun w new
closing_of_run (Ok x) reading w new ok err = closed_of_run reading ok.0 w new ok.2
closing_of_run (Err e) reading w new ok err = part_of_run reading w new err

-- ---- whole turns

whole_by : (m : Option Meaning) → IsWhole (end_by m)
whole_by None = _
whole_by (Some (answers reply cs after)) = _
whole_by (Some (parks since)) = _

whole_called : (live told : Bool) (m : Option Meaning) → IsWhole (if told then ends.Done else (if live then end_by m else ends.Ended))
whole_called live true m = _
whole_called true false m = whole_by m
whole_called false false m = _

whole_session : (reading i : ℕ) (o : Option Session) (w : World) → IsWhole (session_end reading i o w)
whole_session reading i None w = _
whole_session reading i (Some s) w = whole_called s.live (is_some s.untold) (next_meaning (begun i reading w) i s)

whole_idle : (b : Bool) → IsWhole (if b then ends.Done else ends.Idle)
whole_idle true = _
whole_idle false = _

whole_background : (reading actor : ℕ) (w : World) → IsWhole (background_end reading actor w)
whole_background reading actor w = by (not (any_live w)) (actor == 64)
  where
    by : (a b : Bool) → IsWhole (if a then ends.Ended else (if b then timer_end reading w else propagator_end reading w))
    by true b = _
    by false true = whole_idle (is_due (read_clock reading w))
    by false false = whole_idle (is_due (read_clock reading w) || is_some (next_sending (begun 65 reading w)))

whole_if : (b : Bool) (reading actor : ℕ) (w : World) → IsWhole (if b then session_end reading actor (slice_get w.sessions actor) w else background_end reading actor w)
whole_if true reading actor w = whole_session reading actor (slice_get w.sessions actor) w
whole_if false reading actor w = whole_background reading actor w

-- a turn that is not broken off ends in one of the ways of whole turns
pub turn_whole : (reading actor : ℕ) (w : World) (end : TurnEnd) → end ≡ turn_end reading actor w → IsWhole end
unfolding turn_end
turn_whole reading actor w end e = subst IsWhole (sym e) (whole_if (is_session actor) reading actor w)

-- ---- how a turn ends that may be broken off

-- the turn ended as it was, or was broken off so
abbrev EndsAs : Result TurnEnd Broken → TurnEnd → Type 0
EndsAs turn t = MatchResult turn (λ end. t ≡ end) (λ why. t ≡ broken_end why)

-- a turn that is broken off is not whole
not_whole : (why : Broken) → IsWhole (broken_end why) → ⊥
not_whole reasons.Memory whole = whole
not_whole reasons.Halted whole = whole

broken_known : (why : Broken) (t : TurnEnd) → t ≡ broken_end why → (t ≡ ends.Memory) ⊎ (t ≡ ends.Halted)
broken_known reasons.Memory t m = inl m
broken_known reasons.Halted t m = inr m

pub turned_world : {P : Type 0} (turn : Result TurnEnd Broken) (t : TurnEnd) → EndsAs turn t → OnOk turn P → IsWhole t → P
turned_world (Ok end) t m ok whole = ok
turned_world (Err e) t m ok whole = absurd (not_whole e (subst IsWhole m whole))

pub turned_end : (turn : Result TurnEnd Broken) (t end : TurnEnd) → EndsAs turn t → IfOk turn (λ x. x ≡ end) → IsWhole t → t ≡ end
turned_end (Ok x) t end m e whole = m ∙ e
turned_end (Err x) t end m e whole = absurd (not_whole x (subst IsWhole m whole))

pub turned_broken : {P : Type 0} (turn : Result TurnEnd Broken) (t : TurnEnd) (reading actor : ℕ) (w : World) → EndsAs turn t → IfOk turn (λ x. x ≡ turn_end reading actor w) → OnErr turn P → (IsWhole t → ⊥)
    → ((t ≡ ends.Memory) ⊎ (t ≡ ends.Halted)) × P
turned_broken (Ok x) t reading actor w m e p broken = absurd (broken (subst IsWhole (sym m) (turn_whole reading actor w x e)))
turned_broken (Err x) t reading actor w m e p broken = (broken_known x t m, p)

pub closed_known : (turn : Result TurnEnd Broken) (t : TurnEnd) → EndsAs turn t → IfOk turn (λ x. x ≡ ends.Done) → (t ≡ ends.Done) ⊎ ((t ≡ ends.Memory) ⊎ (t ≡ ends.Halted))
closed_known (Ok x) t m e = inl (m ∙ e)
closed_known (Err x) t m e = inr (broken_known x t m)

pub closed_world : {P : Type 0} (turn : Result TurnEnd Broken) (t : TurnEnd) → EndsAs turn t → OnOk turn P → t ≡ ends.Done → P
closed_world turn t m ok done = turned_world turn t m ok (subst IsWhole (sym done) tt)

pub closed_broken : {P : Type 0} (turn : Result TurnEnd Broken) (t : TurnEnd) → EndsAs turn t → IfOk turn (λ x. x ≡ ends.Done) → OnErr turn P → (IsWhole t → ⊥) → P
closed_broken (Ok x) t m e p broken = absurd (broken (subst IsWhole (sym (m ∙ e)) tt))
closed_broken (Err x) t m e p broken = p

-- ---- what a turn leaves of the disks

-- a turn tells that it was halted just where it was
pub halted_so : (turn : Result TurnEnd Broken) (t : TurnEnd) → EndsAs turn t → t ≡ ends.Halted → IfOk turn IsWhole → turn ≡ Err reasons.Halted
halted_so (Ok x) t m e whole = absurd (subst IsWhole (sym m ∙ e) whole)
halted_so (Err reasons.Halted) t m e whole = refl
halted_so (Err reasons.Memory) t m e whole = absurd (let other : ends.Memory ≡ ends.Halted = sym m ∙ e in cc)

halted_back : (turn : Result TurnEnd Broken) (t : TurnEnd) → EndsAs turn t → turn ≡ Err reasons.Halted → t ≡ ends.Halted
halted_back (Ok x) t m e = absurd (cc)
halted_back (Err reasons.Halted) t m e = m
halted_back (Err reasons.Memory) t m e = absurd (cc)

-- behind a failure it was
pub turn_stops : {D : Type 0} (turn : Result TurnEnd Broken) (t : TurnEnd) (old new : Held D) → EndsAs turn t → Stops (turn ≡ Err reasons.Halted) old new → Stops (t ≡ ends.Halted) old new
turn_stops turn t old new m stops failed = let s = stops failed in (halted_back turn t m s.0, s.1)

module _ {D : Type 0} {actor : ℕ} {seen : D → Option (List ℕ)} {images : D → ℕ → List ℕ → Type 0} {calls faults : D → ℕ} where
  pub turn_halted : (turn : Result TurnEnd Broken) (t : TurnEnd) (old new : Held D) → EndsAs turn t → IfOk turn IsWhole → GoesAs actor seen images calls faults turn old new → t ≡ ends.Halted → HasFailed new
  turn_halted turn t old new m whole step e = step.halted (halted_so turn t m e whole)

  -- one that was not halted saw no failure, now or before
  pub turn_fine : (turn : Result TurnEnd Broken) (t : TurnEnd) (old new : Held D) → EndsAs turn t → GoesAs actor seen images calls faults turn old new → Stops (turn ≡ Err reasons.Halted) old new
      → (t ≡ ends.Halted → ⊥) → HasFailed new → ⊥
  turn_fine turn t old new m step stops other failed =
      let before = step.fine (λ e. other (halted_back turn t m e)) failed in
      other (turn_stops turn t old new m stops before).0

-- a turn that ended is whole
pub if_turned : (turn : Result TurnEnd Broken) (reading actor : ℕ) (w : World) → IfOk turn (λ x. x ≡ turn_end reading actor w) → IfOk turn IsWhole
if_turned (Ok x) reading actor w e = turn_whole reading actor w x e
if_turned (Err x) reading actor w e = _

pub if_closed : (turn : Result TurnEnd Broken) → IfOk turn (λ x. x ≡ ends.Done) → IfOk turn IsWhole
if_closed (Ok x) e = subst IsWhole (sym e) tt
if_closed (Err x) e = _

-- ---- turns, by their actors

session_is : (i : ℕ) → i < 64 → is_session i ≡ true
session_is i lt = lt-ltb i 64 lt

if_true : {X : Type 0} (b : Bool) (x y : X) → b ≡ true → (if b then x else y) ≡ x
if_true b x y e = rw e refl

pub session_turned : (reading : ℕ) (w : World) (i : ℕ) → i < 64 → session_turn reading i w ≡ turned reading i w
session_turned reading w i lt = sym (if_true (is_session i) (session_turn reading i w) (if i == 64 then timer_turn reading w else propagator_turn reading w) (session_is i lt))

pub session_ends : (reading : ℕ) (w : World) (i : ℕ) → i < 64 → session_end reading i (slice_get w.sessions i) w ≡ turn_end reading i w
unfolding turn_end
session_ends reading w i lt = sym (if_true (is_session i) (session_end reading i (slice_get w.sessions i) w) (background_end reading i w) (session_is i lt))

pub timer_turned : (reading : ℕ) (w : World) → timer_turn reading w ≡ turned reading 64 w
timer_turned reading w = refl

pub propagator_turned : (reading : ℕ) (w : World) → propagator_turn reading w ≡ turned reading 65 w
propagator_turned reading w = refl

pub timer_ended : (reading : ℕ) (w : World) → background_end reading 64 w ≡ turn_end reading 64 w
unfolding turn_end
timer_ended reading w = refl

pub propagator_ended : (reading : ℕ) (w : World) → background_end reading 65 w ≡ turn_end reading 65 w
unfolding turn_end
propagator_ended reading w = refl

-- a session that is to be told is told
told_ends : (reading actor : ℕ) (w : World) → length w.sessions ≤ 64 → is_owed (slice_get w.sessions actor) ≡ true → turn_end reading actor w ≡ ends.Done
told_ends reading actor w few owed =
    let there = owed_there w actor (slice_get w.sessions actor) refl owed in
    sym (session_ends reading w actor (omega (arith, few, there))) ∙ owed_end reading actor (slice_get w.sessions actor) w owed

-- or a disk stands in the way
pub turn_told : (turn : Result TurnEnd Broken) (t : TurnEnd) (reading actor : ℕ) (w : World) → EndsAs turn t → IfOk turn (λ x. x ≡ turn_end reading actor w) → IfErr turn (λ why. why ≡ reasons.Halted) → length w.sessions ≤ 64
    → is_owed (slice_get w.sessions actor) ≡ true → (t ≡ ends.Done) ⊎ (t ≡ ends.Halted)
turn_told (Ok x) t reading actor w m e why few owed = inl (m ∙ e ∙ told_ends reading actor w few owed)
turn_told (Err x) t reading actor w m e why few owed = inr (m ∙ ap broken_end why)

-- an actor that is no session and not the timer is the propagator
pub is_propagator : (w : World) (actor : ℕ) → IsActor w actor → length w.sessions ≤ 64 → 64 < actor → actor ≡ 65
is_propagator w actor (inl lt) few h = absurd (omega (arith, lt, few, h))
is_propagator w actor (inr (inl e)) few h = absurd (omega (arith, e, h))
is_propagator w actor (inr (inr e)) few h = e

-- ---- the beginning

pub opened_running : (home away : Tables) (scripts : List SessionScript) → MayBegin home away scripts → IsRunning [] (opened home away scripts)
unfolding opened
opened_running home away scripts m = record { begins = m; opening = refl; legal = opens; count = refl }

home-opened : (home away : Tables) (scripts : List SessionScript) → (opened home away scripts).home.opening ≡ home
unfolding opened
home-opened home away scripts = refl

away-opened : (home away : Tables) (scripts : List SessionScript) → (opened home away scripts).away.opening ≡ away
unfolding opened
away-opened home away scripts = refl

pub began_home : (home away : Tables) (scripts : List SessionScript) (w : World) → w ≡ opened home away scripts → w.home.opening ≡ home
began_home home away scripts w e = ap (λ (v : World). v.home.opening) e ∙ home-opened home away scripts

pub began_away : (home away : Tables) (scripts : List SessionScript) (w : World) → w ≡ opened home away scripts → w.away.opening ≡ away
began_away home away scripts w e = ap (λ (v : World). v.away.opening) e ∙ away-opened home away scripts

pub began_opened : (home away : Tables) (scripts : List SessionScript) (w : World) → w ≡ opened home away scripts → w ≡ opened w.home.opening w.away.opening scripts
began_opened home away scripts w e =
    e ∙ ap (λ t. opened t away scripts) (sym (began_home home away scripts w e)) ∙ ap (λ t. opened w.home.opening t scripts) (sym (began_away home away scripts w e))
