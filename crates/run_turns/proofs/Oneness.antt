-- There is one serial history.
use Rattle.std.proofs.Common.{◌≡◌, ◌≤◌, ◌⊎◌, inl, inr, ℕ, zero, suc, ◌+◌, ◌<◌, Bool, true, false, List, [], Option, Some, None, refl, sym, ap, subst, ◌∙◌, arith, length, map}
use Rattle.std.specs.Prelude.{slice_get, slice_set, is_some, if◌then◌else◌}
use Rattle.std.proofs.lemmas.Bool.{cases_lt}
use Rattle.std.proofs.lemmas.Option.{slice_get_within}
use Rattle.aq_base.specs.declared.DbId.TheVariants.{Home, Away}
use Rattle.queue_rows.specs.Session.{Session, Untold}
use Rattle.queue_rows.specs.Meaning.{Meaning, answers, parks}
use Rattle.queue_rows.specs.Statements.{meaning, next_statement}
use Rattle.queue_rows.specs.World.{World, opened, read_clock, stepped, with_session, uncounted}
use Rattle.queue_rows.specs.Sending.{Sending, next_sending, may_follow}
use Rattle.queue_rows.specs.Turns.{due_at, next_reading, begun, caught_up, timed, is_due, called, ended, turned_by, own_turn, is_durable, flushed, all_durable, told, propagated, propagated_by, turn_of, turn_of_some, session_turn, telling_of, telling_of_some, telling_turn, timer_turn, propagator_turn, any_live, drained, drained_once, DrainsIn, closing_turn}
use Rattle.queue_rows.specs.Serial.{next_session_turn, next_timer_turn, next_propagator_turn, each, session_turns, round, rounds, EndsIn, at_closing, next_closing_turn, IsSerial}
use Rattle.queue_rows.specs.declared.tables.Tables.{Tables}
use Rattle.queue_rows.specs.declared.reply.Reply.{Reply}
use Rattle.queue_rows.specs.declared.change.Change.{Change}
use Rattle.queue_rows.specs.declared.statement.Statement.{Statement}
use Rattle.queue_rows.specs.declared.history.History.{History}
use Rattle.queue_rows.specs.declared.history.SessionScript.{SessionScript}
use Rattle.queue_rows.specs.declared.history.Step.TheVariants.{Park, Timer, Told, Flush, End}
use Rattle.queue_rows.proofs.Sessions.{get_set-cases}
use Rattle.run_turns.proofs.Adding.{sessions-stepped, sessions-sent}
use Rattle.run_turns.proofs.Standing.{kept_from}
use Rattle.run_turns.proofs.Ordering.{sessions-called}
use Rattle.run_turns.proofs.Ended.{AreTold, told_one, told_set, told_same, told-opened, alive, round-dead}
use Rattle.run_turns.proofs.Resting.{drained_once-still}

-- ---- turns, by what they do to sessions

pub sessions-read : (reading : ℕ) (w : World) → (read_clock reading w).sessions ≡ w.sessions
unfolding read_clock
sessions-read reading w = refl

pub sessions_if : (b : Bool) (v w : World) → v.sessions ≡ w.sessions → (if b then v else w).sessions ≡ w.sessions
sessions_if true v w e = e
sessions_if false v w e = refl

sessions_unless : (b : Bool) (v w : World) → v.sessions ≡ w.sessions → (if b then w else v).sessions ≡ w.sessions
sessions_unless true v w e = refl
sessions_unless false v w e = e

pub sessions-caught_up : (actor : ℕ) (w : World) → (caught_up actor w).sessions ≡ w.sessions
unfolding caught_up
sessions-caught_up actor w = sessions_if (is_due w) (timed actor w) w (sessions-stepped actor w (due_at Home w) (due_at Away w) Timer)

pub sessions-flushed : (actor : ℕ) (w : World) → (flushed actor w).sessions ≡ w.sessions
unfolding flushed
sessions-flushed actor w = sessions_unless (is_durable w) (all_durable (stepped actor w [] [] Flush)) w (sessions-stepped actor w [] [] Flush)

sessions_by : (actor : ℕ) (o : Option Sending) (w : World) → (propagated_by actor o w).sessions ≡ w.sessions
sessions_by actor None w = refl
sessions_by actor (Some sending) w =
    sessions-sent actor sending (if may_follow w sending then w else flushed actor w) ∙ sessions_unless (may_follow w sending) (flushed actor w) w (sessions-flushed actor w)

pub sessions-propagated : (actor : ℕ) (w : World) → (propagated actor w).sessions ≡ w.sessions
unfolding propagated
sessions-propagated actor w = sessions_by actor (next_sending w) w

pub sessions-begun : (actor reading : ℕ) (w : World) → (begun actor reading w).sessions ≡ w.sessions
sessions-begun actor reading w = sessions-caught_up actor (read_clock reading w) ∙ sessions-read reading w

-- ---- what ended sessions called stays told

told-called : (i : ℕ) (s after : Session) (reply : Reply) (cs : List Change) (w : World) → slice_get w.sessions i ≡ Some s → s.live ≡ true → AreTold w → AreTold (called i s reply cs after w)
told-called i s after reply cs w there live t =
    let x = sessions-called i s after reply cs w in
    λ j y g d.
    let k = kept_from s.at cs (slice_set w.sessions i x.0) j y (ap (λ ss. slice_get ss j) (sym x.1) ∙ g) in
    k.untold ∙ told_one w i j x.0 k.before t (λ dead. alive x.0.live (x.3 ∙ live) dead) (get_set-cases w.sessions i j x.0 k.before (slice_get_within w.sessions i s there) k.there) (sym k.live ∙ d)

told-parked_so : (i : ℕ) (s : Session) (since : ℕ) (w : World) (b : Bool) → slice_get w.sessions i ≡ Some s → s.untold ≡ None → AreTold w
    → AreTold (if b then w else with_session i (record s { parked = Some since }) (stepped i w [] [] (Park (s.next + 1))))
told-parked_so i s since w true there u t = t
told-parked_so i s since w false there u t =
    let x = record s { parked = Some since } in
    told_set w (with_session i x (stepped i w [] [] (Park (s.next + 1)))) i s x there (ap (λ ss. slice_set ss i x) (sessions-stepped i w [] [] (Park (s.next + 1)))) (λ d. u) t

told-turned : (i : ℕ) (s : Session) (m : Meaning) (w : World) → slice_get w.sessions i ≡ Some s → s.live ≡ true → s.untold ≡ None → AreTold w → AreTold (turned_by i s m w)
told-turned i s (answers reply cs after) w there live u t = told-called i s after reply cs w there live t
told-turned i s (parks since) w there live u t = told-parked_so i s since w (is_some s.parked) there u t

told-own : (i : ℕ) (s : Session) (o : Option Statement) (w : World) → slice_get w.sessions i ≡ Some s → s.live ≡ true → s.untold ≡ None → AreTold w → AreTold (own_turn i s o w)
told-own i s None w there live u t =
    let x = record s { pending = []; marks = []; live = false } in
    told_set w (ended i s w) i s x there (ap (λ ss. slice_set ss i x) (sessions-stepped i w [] [] End)) (λ d. u) t
told-own i s (Some statement) w there live u t = told-turned i s (meaning w i s statement) w there live u t

told-told : (i : ℕ) (s : Session) (number : ℕ) (w : World) → slice_get w.sessions i ≡ Some s → AreTold w → AreTold (told i s number w)
told-told i s number w there t =
    let x = record s { untold = None } in
    told_set w (told i s number w) i s x there (ap (λ ss. slice_set ss i x) (sessions-stepped i (flushed i w) [] [] (Told number) ∙ sessions-flushed i w)) (λ d. refl) t

told_live : (reading i : ℕ) (s : Session) (w : World) (b : Bool) → s.live ≡ b → slice_get w.sessions i ≡ Some s → s.untold ≡ None → AreTold w
    → AreTold (if b then own_turn i s (next_statement w i s) (begun i reading w) else w)
told_live reading i s w true live there u t =
    let v = begun i reading w in
    let e = sessions-begun i reading w in
    told-own i s (next_statement w i s) v (ap (λ ss. slice_get ss i) e ∙ there) live u (told_same w v e t)
told_live reading i s w false live there u t = t

told_turn : (reading i : ℕ) (s : Session) (o : Option Untold) (w : World) → s.untold ≡ o → slice_get w.sessions i ≡ Some s → AreTold w → AreTold (turn_of reading i s o w)
told_turn reading i s (Some u) w e there t = told-told i s u.number w there t
told_turn reading i s None w e there t = told_live reading i s w s.live refl there e t

told_some : (reading i : ℕ) (o : Option Session) (w : World) → slice_get w.sessions i ≡ o → AreTold w → AreTold (turn_of_some reading i o w)
told_some reading i None w e t = t
told_some reading i (Some s) w e t = told_turn reading i s s.untold w refl e t

told-session_turn : (reading i : ℕ) (w : World) → AreTold w → AreTold (session_turn reading i w)
unfolding session_turn
told-session_turn reading i w t = told_some reading i (slice_get w.sessions i) w refl t

telling_so : (i : ℕ) (s : Session) (o : Option Untold) (w : World) → slice_get w.sessions i ≡ Some s → AreTold w → AreTold (telling_of i s o w)
telling_so i s None w e t = t
telling_so i s (Some u) w e t = told-told i s u.number w e t

telling_some : (i : ℕ) (o : Option Session) (w : World) → slice_get w.sessions i ≡ o → AreTold w → AreTold (telling_of_some i o w)
telling_some i None w e t = t
telling_some i (Some s) w e t = telling_so i s s.untold w e t

told-telling_turn : (i : ℕ) (w : World) → AreTold w → AreTold (telling_turn i w)
unfolding telling_turn
told-telling_turn i w t = telling_some i (slice_get w.sessions i) w refl t

told-timer : (reading : ℕ) (w : World) → AreTold w → AreTold (timer_turn reading w)
unfolding timer_turn
told-timer reading w t = told_same w (if any_live w then begun 64 reading w else w) (sessions_if (any_live w) (begun 64 reading w) w (sessions-begun 64 reading w)) t

told-propagator : (reading : ℕ) (w : World) → AreTold w → AreTold (propagator_turn reading w)
unfolding propagator_turn
told-propagator reading w t =
    let v = propagated 65 (begun 65 reading w) in
    told_same w (if any_live w then v else w) (sessions_if (any_live w) v w (sessions-propagated 65 (begun 65 reading w) ∙ sessions-begun 65 reading w)) t

told-each : (f : ℕ → World → World) (n : ℕ) (w : World) → ((i : ℕ) (v : World) → AreTold v → AreTold (f i v)) → AreTold w → AreTold (each f n w)
told-each f zero w k t = t
told-each f (suc n) w k t = k n (each f n w) (told-each f n w k t)

told-round : (w : World) → AreTold w → AreTold (round w)
unfolding round
told-round w t =
    let a = session_turns w in
    let ta = told-each next_session_turn (length w.sessions) w (λ i v. told-session_turn (next_reading v) i v) t in
    let b = next_timer_turn a in
    let tb = told-timer (next_reading a) a ta in
    let c = next_propagator_turn b in
    let tc = told-propagator (next_reading b) b tb in
    told-each telling_turn (length c.sessions) c told-telling_turn tc

told-rounds : (n : ℕ) (w : World) → AreTold w → AreTold (rounds n w)
unfolding rounds
told-rounds zero w t = t
told-rounds (suc n) w t = told-round (rounds n w) (told-rounds n w t)

-- ---- more rounds and more steps change nothing

rounds-suc : (n : ℕ) (w : World) → rounds (suc n) w ≡ round (rounds n w)
unfolding rounds
rounds-suc n w = refl

drained-suc : (n : ℕ) (w : World) → drained (suc n) w ≡ drained_once (drained n w)
unfolding drained
drained-suc n w = refl

module _ (f : World → World) (F : ℕ → World) (next : (n : ℕ) → F (suc n) ≡ f (F n)) where
  from_on : (n m : ℕ) → n ≤ m → f (F n) ≡ F n → F m ≡ F n
  from_on n zero le fix = ap F (omega arith)
  from_on n (suc m) le fix = one_on n m le fix (cases_lt m n) (λ g. from_on n m g fix)
    where
      one_on : (n m : ℕ) → n ≤ suc m → f (F n) ≡ F n → (m < n) ⊎ (n ≤ m) → (n ≤ m → F m ≡ F n) → F (suc m) ≡ F n
      one_on n m le fix (inl h) ih = ap F (omega arith)
      one_on n m le fix (inr h) ih = next m ∙ ap f (ih h) ∙ fix

  one_end : (n m : ℕ) → f (F n) ≡ F n → f (F m) ≡ F m → F n ≡ F m
  one_end n m a b = by_order (cases_lt n m)
    where
      by_order : (n < m) ⊎ (m ≤ n) → F n ≡ F m
      by_order (inl h) = sym (from_on n m (omega arith) a)
      by_order (inr h) = from_on m n h b

one_rounds : (start : World) (n m : ℕ) → AreTold start → EndsIn start n → EndsIn start m → rounds n start ≡ rounds m start
one_rounds start n m t a b =
    one_end round (λ k. rounds k start) (λ k. rounds-suc k start) n m (round-dead (rounds n start) (told-rounds n start t) a) (round-dead (rounds m start) (told-rounds m start t) b)

one_drain : (w : World) (n m : ℕ) → DrainsIn w n → DrainsIn w m → drained n w ≡ drained m w
one_drain w n m a b = one_end drained_once (λ k. drained k w) (λ k. drained-suc k w) n m (drained_once-still (drained n w) a) (drained_once-still (drained m w) b)

closing_is : (reading n : ℕ) (w : World) → closing_turn reading n w ≡ flushed 66 (drained n (read_clock reading w))
unfolding closing_turn
closing_is reading n w = refl

one_closing : (w : World) (n m : ℕ) → DrainsIn (at_closing w) n → DrainsIn (at_closing w) m → next_closing_turn n w ≡ next_closing_turn m w
one_closing w n m a b = closing_is (next_reading w) n w ∙ ap (flushed 66) (one_drain (at_closing w) n m a b) ∙ sym (closing_is (next_reading w) m w)

pub serial_is_one : (home away : Tables) (scripts : List SessionScript) (g h : History) → IsSerial home away scripts g → IsSerial home away scripts h → map uncounted g.entries ≡ map uncounted h.entries
serial_is_one home away scripts g h a b =
    let start = opened home away scripts in
    let same : rounds a.turns.count start ≡ rounds b.turns.count start = one_rounds start a.turns.count b.turns.count (told-opened home away scripts) a.turns.ends b.turns.ends in
    let drains : DrainsIn (at_closing (rounds b.turns.count start)) a.turns.steps = subst (λ w. DrainsIn (at_closing w) a.turns.steps) same a.turns.drains in
    a.turns.entries_are ∙ ap (λ w. (next_closing_turn a.turns.steps w).entries) same
    ∙ ap (λ w. w.entries) (one_closing (rounds b.turns.count start) a.turns.steps b.turns.steps drains b.turns.drains) ∙ sym b.turns.entries_are
