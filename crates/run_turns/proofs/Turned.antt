-- In the serial history each session has called all of its statements, each once, in order.
use Rattle.std.proofs.Common.{◌≡◌, ℕ, zero, suc, ◌+◌, ◌<◌, Bool, true, false, List, [], Option, Some, None, refl, sym, ap, ◌∙◌, arith, length, get_or, length-set}
use Rattle.std.specs.Prelude.{slice_get, slice_set, is_some, if◌then◌else◌}
use Rattle.std.proofs.Math.ListN.{length-map}
use Rattle.std.proofs.lemmas.Bool.{false≢true}
use Rattle.std.proofs.lemmas.Option.{slice_get_within, slice_get-get_or}
use Rattle.aq_base.specs.declared.DbId.TheVariants.{Home, Away}
use Rattle.queue_rows.specs.Session.{Session, Untold}
use Rattle.queue_rows.specs.Meaning.{Meaning, answers, parks}
use Rattle.queue_rows.specs.Statements.{meaning, next_statement}
use Rattle.queue_rows.specs.World.{World, opened, read_clock, stepped, with_session, fresh}
use Rattle.queue_rows.specs.Sending.{Sending, offers, arrives, confirms, next_sending, may_follow, sent}
use Rattle.queue_rows.specs.Turns.{due_at, next_reading, begun, caught_up, timed, is_due, called, parked, ended, turned_by, own_turn, is_durable, flushed, all_durable, told, propagated, propagated_by, turn_of, turn_of_some, session_turn, telling_of, telling_of_some, telling_turn, timer_turn, propagator_turn, any_live, drained, closing_turn}
use Rattle.queue_rows.specs.Serial.{next_session_turn, next_timer_turn, each, session_turns, round, rounds, next_closing_turn, IsSerial}
use Rattle.queue_rows.specs.Order.{calls_of, numbers_to, CallsAll, number_called}
use Rattle.queue_rows.specs.declared.tables.Tables.{Tables}
use Rattle.queue_rows.specs.declared.reply.Reply.{Reply}
use Rattle.queue_rows.specs.declared.change.Change.{Change}
use Rattle.queue_rows.specs.declared.statement.Statement.{Statement}
use Rattle.queue_rows.specs.declared.history.History.{History}
use Rattle.queue_rows.specs.declared.history.SessionScript.{SessionScript}
use Rattle.queue_rows.specs.declared.history.Step.{Step}
use Rattle.queue_rows.specs.declared.history.Step.TheVariants.{Call, Park, Timer, Offer, Arrive, Confirm, Told, Flush, End}
use Rattle.queue_rows.proofs.Sessions.{get_set-cases}
use Rattle.run_turns.proofs.Adding.{Adds, adds_so, adds-stepped, adds-called, offer_adds, arrive_adds, confirm_adds, sessions-stepped, sessions-sent}
use Rattle.run_turns.proofs.Standing.{kept_from, length-standing}
use Rattle.run_turns.proofs.Ordering.{IsInOrder, AreInOrder, sessions-called, kept_in_order, in_order_at, calls-own, next_within, calls-others, in_order_quiet, all_called, in_order_still}
use Rattle.run_turns.proofs.Calling.{in_order-opened, calls-uncounted, sessions-opened, scripts-opened}
use Rattle.run_turns.proofs.Ended.{all_dead}
use Rattle.run_turns.proofs.Oneness.{sessions-read, sessions-flushed, sessions-begun, sessions-propagated, sessions-caught_up}

-- ---- what turns keep

pub record IsKeptOf (start w : World) : Type 0 where
  pub order : AreInOrder w
  pub count : length w.sessions ≡ length start.sessions
  pub scripts : w.scripts ≡ start.scripts

module _ (start : World) where
  kept_still : (w new : World) (i : ℕ) (step : Step) → Adds i step w new → number_called step ≡ None → new.sessions ≡ w.sessions → IsKeptOf start w → IsKeptOf start new
  kept_still w new i step a q e k = record { order = in_order_still w new i step a q e k.order; count = ap length e ∙ k.count; scripts = a.scripts ∙ k.scripts }

  kept-read : (reading : ℕ) (w : World) → IsKeptOf start w → IsKeptOf start (read_clock reading w)
  unfolding read_clock
  kept-read reading w k = record { order = k.order; count = k.count; scripts = k.scripts }

  kept_if : (b : Bool) (v w : World) → IsKeptOf start v → IsKeptOf start w → IsKeptOf start (if b then v else w)
  kept_if true v w h k = h
  kept_if false v w h k = k

  kept-caught_up : (actor : ℕ) (w : World) → IsKeptOf start w → IsKeptOf start (caught_up actor w)
  unfolding caught_up
  kept-caught_up actor w k =
      kept_if (is_due w) (timed actor w) w (kept_still w (timed actor w) actor Timer (adds-stepped actor Timer w (due_at Home w) (due_at Away w)) refl (sessions-stepped actor w (due_at Home w) (due_at Away w) Timer) k) k

  kept-begun : (actor reading : ℕ) (w : World) → IsKeptOf start w → IsKeptOf start (begun actor reading w)
  kept-begun actor reading w k = kept-caught_up actor (read_clock reading w) (kept-read reading w k)

  kept-flushed : (actor : ℕ) (w : World) → IsKeptOf start w → IsKeptOf start (flushed actor w)
  unfolding flushed
  kept-flushed actor w k =
      let v = all_durable (stepped actor w [] [] Flush) in
      kept_if (is_durable w) w v k (kept_still w v actor Flush (adds_so (adds-stepped actor Flush w [] []) refl refl refl refl) refl (sessions-stepped actor w [] [] Flush) k)

  kept-sent : (actor : ℕ) (sending : Sending) (w : World) → IsKeptOf start w → IsKeptOf start (sent actor sending w)
  kept-sent actor (offers at to) w k = kept_still w (sent actor (offers at to) w) actor (Offer at to) (offer_adds actor at to w) refl (sessions-sent actor (offers at to) w) k
  kept-sent actor (arrives at a) w k = kept_still w (sent actor (arrives at a) w) actor (Arrive at a.outcome) (arrive_adds actor at a w) refl (sessions-sent actor (arrives at a) w) k
  kept-sent actor (confirms at number cs) w k = kept_still w (sent actor (confirms at number cs) w) actor (Confirm at) (confirm_adds actor at number cs w) refl (sessions-sent actor (confirms at number cs) w) k

  kept_by : (actor : ℕ) (o : Option Sending) (w : World) → IsKeptOf start w → IsKeptOf start (propagated_by actor o w)
  kept_by actor None w k = k
  kept_by actor (Some sending) w k = kept-sent actor sending (if may_follow w sending then w else flushed actor w) (kept_if (may_follow w sending) w (flushed actor w) k (kept-flushed actor w k))

  kept-propagated : (actor : ℕ) (w : World) → IsKeptOf start w → IsKeptOf start (propagated actor w)
  unfolding propagated
  kept-propagated actor w k = kept_by actor (next_sending w) w k

  -- ---- a session's own steps

  kept-called : (i : ℕ) (s after : Session) (reply : Reply) (cs : List Change) (statement : Statement) (w : World) → slice_get w.sessions i ≡ Some s → s.live ≡ true → next_statement w i s ≡ Some statement → IsKeptOf start w
      → IsKeptOf start (called i s reply cs after w)
  kept-called i s after reply cs statement w there live next k =
      let new = called i s reply cs after w in
      let number = s.next + 1 in
      let a = adds-called i s after reply cs w in
      let x = sessions-called i s after reply cs w in
      let h = k.order i s there in
      let own : IsInOrder (calls_of i new.entries) x.0 (slice_get new.scripts i) = record {
        calls = calls-own i w new number reply s.next a h.calls refl ∙ ap numbers_to (sym x.2);
        within = λ script g. let lt = next_within (slice_get w.scripts i) s.next statement script next (ap (λ xs. slice_get xs i) (sym a.scripts) ∙ g) in let n = x.2 in omega (arith, lt, n);
        ended = λ script g dead. absurd (let no : false ≡ true = sym dead ∙ x.3 ∙ live in false≢true no);
      } in
      record {
        order = λ j y g.
            let b = kept_from s.at cs (slice_set w.sessions i x.0) j y (ap (λ ss. slice_get ss j) (sym x.1) ∙ g) in
            kept_in_order (calls_of j new.entries) b.before y (slice_get new.scripts j) b.next b.live
            (in_order_at w new i j x.0 b.before k.order a.scripts own (calls-others i w new (Call number reply) a) (get_set-cases w.sessions i j x.0 b.before (slice_get_within w.sessions i s there) b.there));
        count = ap length x.1 ∙ length-standing s.at cs (slice_set w.sessions i x.0) ∙ length-set w.sessions i x.0 ∙ k.count;
        scripts = a.scripts ∙ k.scripts;
      }

  -- a session that has called no more takes its place behind a step that is no call
  kept_set : (i : ℕ) (s x : Session) (step : Step) (w : World) → number_called step ≡ None → slice_get w.sessions i ≡ Some s → x.next ≡ s.next
      → ((script : SessionScript) → slice_get w.scripts i ≡ Some script → x.live ≡ false → x.next ≡ length script.statements) → IsKeptOf start w → IsKeptOf start (with_session i x (stepped i w [] [] step))
  kept_set i s x step w q there n e k =
      let new = with_session i x (stepped i w [] [] step) in
      let a = adds_so (adds-stepped i step w [] []) refl refl refl refl in
      let same : new.sessions ≡ slice_set w.sessions i x = ap (λ ss. slice_set ss i x) (sessions-stepped i w [] [] step) in
      record { order = in_order_quiet w new i i step s x a q k.order there same n e; count = ap length same ∙ length-set w.sessions i x ∙ k.count; scripts = a.scripts ∙ k.scripts }

  kept-parked : (i : ℕ) (s : Session) (since : ℕ) (w : World) → slice_get w.sessions i ≡ Some s → s.live ≡ true → IsKeptOf start w → IsKeptOf start (parked i s since w)
  kept-parked i s since w there live k =
      kept_if (is_some s.parked) w (with_session i (record s { parked = Some since }) (stepped i w [] [] (Park (s.next + 1)))) k
      (kept_set i s (record s { parked = Some since }) (Park (s.next + 1)) w refl there refl (λ script g dead. absurd (false≢true (sym dead ∙ live))) k)

  kept-ended : (i : ℕ) (s : Session) (w : World) → slice_get w.sessions i ≡ Some s → next_statement w i s ≡ None → IsKeptOf start w → IsKeptOf start (ended i s w)
  kept-ended i s w there none k =
      let h = k.order i s there in
      kept_set i s (record s { pending = []; marks = []; live = false }) End w refl there refl
      (λ script g dead. let le = h.within script g in let ge = all_called (slice_get w.scripts i) s.next script none g in omega (arith, le, ge)) k

  kept-told : (i : ℕ) (s : Session) (number : ℕ) (w : World) → slice_get w.sessions i ≡ Some s → IsKeptOf start w → IsKeptOf start (told i s number w)
  kept-told i s number w there k =
      let v = flushed i w in
      let kv = kept-flushed i w k in
      let here : slice_get v.sessions i ≡ Some s = ap (λ ss. slice_get ss i) (sessions-flushed i w) ∙ there in
      let h = kv.order i s here in
      kept_set i s (record s { untold = None }) (Told number) v refl here refl (λ script g dead. h.ended script g dead) kv

  kept_turned : (i : ℕ) (s : Session) (m : Meaning) (statement : Statement) (w : World) → slice_get w.sessions i ≡ Some s → s.live ≡ true → next_statement w i s ≡ Some statement → IsKeptOf start w → IsKeptOf start (turned_by i s m w)
  kept_turned i s (answers reply cs after) statement w there live next k = kept-called i s after reply cs statement w there live next k
  kept_turned i s (parks since) statement w there live next k = kept-parked i s since w there live k

  kept_own : (i : ℕ) (s : Session) (o : Option Statement) (w : World) → slice_get w.sessions i ≡ Some s → s.live ≡ true → next_statement w i s ≡ o → IsKeptOf start w → IsKeptOf start (own_turn i s o w)
  kept_own i s None w there live next k = kept-ended i s w there next k
  kept_own i s (Some statement) w there live next k = kept_turned i s (meaning w i s statement) statement w there live next k

  -- what the next statement is, a turn's beginning leaves
  next_same : (i : ℕ) (s : Session) (v w : World) → v.scripts ≡ w.scripts → next_statement v i s ≡ next_statement w i s
  next_same i s v w e = ap (λ ss. Rattle.queue_rows.specs.Statements.statement_of (slice_get ss i) s.next) e

  kept_live : (reading i : ℕ) (s : Session) (w : World) (b : Bool) → s.live ≡ b → slice_get w.sessions i ≡ Some s → IsKeptOf start w → IsKeptOf start (if b then own_turn i s (next_statement w i s) (begun i reading w) else w)
  kept_live reading i s w true live there k =
      let v = begun i reading w in
      let kv = kept-begun i reading w k in
      kept_own i s (next_statement w i s) v (ap (λ ss. slice_get ss i) (sessions-begun i reading w) ∙ there) live (next_same i s v w (kv.scripts ∙ sym k.scripts)) kv
  kept_live reading i s w false live there k = k

  kept_turn : (reading i : ℕ) (s : Session) (o : Option Untold) (w : World) → slice_get w.sessions i ≡ Some s → IsKeptOf start w → IsKeptOf start (turn_of reading i s o w)
  kept_turn reading i s (Some u) w there k = kept-told i s u.number w there k
  kept_turn reading i s None w there k = kept_live reading i s w s.live refl there k

  kept_some : (reading i : ℕ) (o : Option Session) (w : World) → slice_get w.sessions i ≡ o → IsKeptOf start w → IsKeptOf start (turn_of_some reading i o w)
  kept_some reading i None w e k = k
  kept_some reading i (Some s) w e k = kept_turn reading i s s.untold w e k

  kept-session_turn : (reading i : ℕ) (w : World) → IsKeptOf start w → IsKeptOf start (session_turn reading i w)
  unfolding session_turn
  kept-session_turn reading i w k = kept_some reading i (slice_get w.sessions i) w refl k

  telling_so : (i : ℕ) (s : Session) (o : Option Untold) (w : World) → slice_get w.sessions i ≡ Some s → IsKeptOf start w → IsKeptOf start (telling_of i s o w)
  telling_so i s None w e k = k
  telling_so i s (Some u) w e k = kept-told i s u.number w e k

  telling_some : (i : ℕ) (o : Option Session) (w : World) → slice_get w.sessions i ≡ o → IsKeptOf start w → IsKeptOf start (telling_of_some i o w)
  telling_some i None w e k = k
  telling_some i (Some s) w e k = telling_so i s s.untold w e k

  kept-telling_turn : (i : ℕ) (w : World) → IsKeptOf start w → IsKeptOf start (telling_turn i w)
  unfolding telling_turn
  kept-telling_turn i w k = telling_some i (slice_get w.sessions i) w refl k

  kept-timer : (reading : ℕ) (w : World) → IsKeptOf start w → IsKeptOf start (timer_turn reading w)
  unfolding timer_turn
  kept-timer reading w k = kept_if (any_live w) (begun 64 reading w) w (kept-begun 64 reading w k) k

  kept-propagator : (reading : ℕ) (w : World) → IsKeptOf start w → IsKeptOf start (propagator_turn reading w)
  unfolding propagator_turn
  kept-propagator reading w k = kept_if (any_live w) (propagated 65 (begun 65 reading w)) w (kept-propagated 65 (begun 65 reading w) (kept-begun 65 reading w k)) k

  kept-each : (f : ℕ → World → World) (n : ℕ) (w : World) → ((i : ℕ) (v : World) → IsKeptOf start v → IsKeptOf start (f i v)) → IsKeptOf start w → IsKeptOf start (each f n w)
  kept-each f zero w h k = k
  kept-each f (suc n) w h k = h n (each f n w) (kept-each f n w h k)

  kept-round : (w : World) → IsKeptOf start w → IsKeptOf start (round w)
  unfolding round
  kept-round w k =
      let a = session_turns w in
      let ka = kept-each next_session_turn (length w.sessions) w (λ i v. kept-session_turn (next_reading v) i v) k in
      let b = next_timer_turn a in
      let kb = kept-timer (next_reading a) a ka in
      let c = Rattle.queue_rows.specs.Serial.next_propagator_turn b in
      kept-each telling_turn (length c.sessions) c kept-telling_turn (kept-propagator (next_reading b) b kb)

  kept-rounds : (n : ℕ) (w : World) → IsKeptOf start w → IsKeptOf start (rounds n w)
  unfolding rounds
  kept-rounds zero w k = k
  kept-rounds (suc n) w k = kept-round (rounds n w) (kept-rounds n w k)

  kept-drained : (n : ℕ) (w : World) → IsKeptOf start w → IsKeptOf start (drained n w)
  unfolding drained
  kept-drained zero w k = k
  kept-drained (suc n) w k = kept-propagated 66 (caught_up 66 (drained n w)) (kept-caught_up 66 (drained n w) (kept-drained n w k))

  kept-closing : (reading n : ℕ) (w : World) → IsKeptOf start w → IsKeptOf start (closing_turn reading n w)
  unfolding closing_turn
  kept-closing reading n w k = kept-flushed 66 (drained n (read_clock reading w)) (kept-drained n (read_clock reading w) (kept-read reading w k))

-- ---- the end

sessions-drained : (n : ℕ) (w : World) → (drained n w).sessions ≡ w.sessions
unfolding drained
sessions-drained zero w = refl
sessions-drained (suc n) w = sessions-propagated 66 (caught_up 66 (drained n w)) ∙ sessions-caught_up 66 (drained n w) ∙ sessions-drained n w

pub sessions-closing : (reading n : ℕ) (w : World) → (closing_turn reading n w).sessions ≡ w.sessions
unfolding closing_turn
sessions-closing reading n w = sessions-flushed 66 (drained n (read_clock reading w)) ∙ sessions-drained n (read_clock reading w) ∙ sessions-read reading w

pub serial_calls_all : (home away : Tables) (scripts : List SessionScript) (h : History) → IsSerial home away scripts h → CallsAll h
serial_calls_all home away scripts h a = λ j script there.
    let start = opened home away scripts in
    let last = rounds a.turns.count start in
    let end = next_closing_turn a.turns.steps last in
    let k = kept-closing start (next_reading last) a.turns.steps last (kept-rounds start a.turns.count start (record { order = in_order-opened home away scripts; count = refl; scripts = refl })) in
    let mine : slice_get scripts j ≡ Some script = ap (λ ss. slice_get ss j) (sym a.begins.scripts_are) ∙ there in
    let n : length end.sessions ≡ length scripts = k.count ∙ ap length (sessions-opened home away scripts) ∙ length-map scripts fresh in
    let lt : j < length end.sessions = let g = slice_get_within scripts j script mine in omega (arith, g, n) in
    let s = get_or end.sessions j (fresh script) in
    let at : slice_get end.sessions j ≡ Some s = slice_get-get_or end.sessions j (fresh script) lt in
    let o = k.order j s at in
    let dead : s.live ≡ false = all_dead last j s a.turns.ends (ap (λ ss. slice_get ss j) (sym (sessions-closing (next_reading last) a.turns.steps last)) ∙ at) in
    let its : slice_get end.scripts j ≡ Some script = ap (λ ss. slice_get ss j) (k.scripts ∙ scripts-opened home away scripts) ∙ mine in
    let all : s.next ≡ length script.statements = o.ended script its dead in
    record {
      calls = sym (calls-uncounted j h.entries) ∙ ap (calls_of j) a.turns.entries_are ∙ o.calls ∙ ap numbers_to all;
      within = omega arith;
    }
