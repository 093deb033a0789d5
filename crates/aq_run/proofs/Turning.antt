-- How far the sessions come in one turn, and how many readings it takes.
use Rattle.std.proofs.Common.{◌≡◌, ◌≢◌, ◌⊎◌, inl, inr, ℕ, ◌+◌, ◌<◌, ◌≤◌, Bool, true, false, List, [], Option, Some, None, refl, sym, ap, subst, ◌∙◌, arith, length, length-set}
use Rattle.std.specs.Prelude.{◌^◌, slice_get, slice_set, is_some, if◌then◌else◌, min, max}
use Rattle.std.proofs.lemmas.Bool.{false≢true}
use Rattle.std.proofs.lemmas.Option.{slice_get_within, none-some}
use Rattle.aq_base.specs.declared.DbId.TheVariants.{Home, Away}
use Rattle.queue_rows.specs.Session.{Session, Untold}
use Rattle.queue_rows.specs.Meaning.{Meaning, answers, parks}
use Rattle.queue_rows.specs.Statements.{statement_of, meaning, next_statement}
use Rattle.queue_rows.specs.World.{greatest_moment, World, read_clock, stepped, with_session}
use Rattle.queue_rows.specs.declared.change.Change.{Change}
use Rattle.queue_rows.specs.declared.history.SessionScript.{SessionScript}
use Rattle.queue_rows.specs.declared.history.Step.{Step}
use Rattle.queue_rows.specs.declared.history.Step.TheVariants.{Park, Timer, Told, Flush, End}
use Rattle.queue_rows.specs.declared.reply.Reply.{Reply}
use Rattle.queue_rows.specs.declared.statement.Statement.{Statement}
use Rattle.queue_rows.proofs.Sessions.{get_set-cases}
use Rattle.queue_rows.specs.Sending.{Sending, offers, arrives, confirms, next_sending, may_follow, sent}
use Rattle.queue_rows.specs.Turns.{due_at, next_reading, begun, caught_up, timed, is_due, called, ended, turned_by, own_turn, is_durable, flushed, all_durable, told, propagated, propagated_by, turn_of, turn_of_some, session_turn, telling_of, telling_of_some, telling_turn, timer_turn, propagator_turn, any_live}
use Rattle.run_turns.proofs.Adding.{adds-stepped, adds-called, offer_adds, arrive_adds, confirm_adds, sessions-stepped}
use Rattle.run_turns.proofs.Standing.{IsKept, kept_from, length-standing}
use Rattle.run_turns.proofs.Ordering.{sessions-called, next_within}
use Rattle.run_turns.proofs.Oneness.{sessions-flushed, sessions-begun, sessions-propagated}
use Rattle.aq_world.proofs.OfRun.{of_run-begun, of_run-session_turn, of_run-telling_turn, of_run-timer_turn, of_run-propagator_turn}
use Rattle.aq_world.proofs.Waits.{no_wait}
use Rattle.aq_run.specs.Progress.{asked, asked_by}

-- ---- how a session comes further

-- it has called no less, and no more than it asks, and it does not go on again
pub record Came (most : ℕ) (s t : Session) : Type 0 where
  pub lived : t.live ≡ true → s.live ≡ true
  pub called : s.next ≤ t.next
  pub within : s.next ≤ most → t.next ≤ most

pub came_self : (most : ℕ) (s : Session) → Came most s s
came_self most s = record { lived = λ l. l; called = omega arith; within = λ le. le }

pub came_trans : (most : ℕ) (r s t : Session) → Came most r s → Came most s t → Came most r t
came_trans most r s t a b = record {
  lived = λ l. a.lived (b.lived l);
  called = let x = a.called in let y = b.called in omega (arith, x, y);
  within = λ le. b.within (a.within le);
}

-- one that lost positions alone has come as far
pub came_like : (most : ℕ) (s x t : Session) → t.next ≡ x.next → t.live ≡ x.live → Came most s x → Came most s t
came_like most s x t n l c = record {
  lived = λ e. c.lived (sym l ∙ e);
  called = let h = c.called in omega (arith, h, n);
  within = λ le. let h = c.within le in omega (arith, h, n);
}

-- where that holds, it has called one more or goes on no more
abbrev pub Ups : Type 0 → Session → Session → Type 0
Ups late s t = late → t.live ≡ true → s.next + 1 ≤ t.next

ups_like : (late : Type 0) (s x t : Session) → t.next ≡ x.next → t.live ≡ x.live → Ups late s x → Ups late s t
ups_like late s x t n l u = λ so live. let h = u so (sym l ∙ live) in omega (arith, h, n)

-- the session of that number is the one and becomes the other, and others lose at most positions
record Changes (i : ℕ) (s x : Session) (old new : List Session) : Type 0 where
  there : slice_get old i ≡ Some s
  back : (j : ℕ) (y : Session) → slice_get new j ≡ Some y → IsKept (slice_set old i x) j y
  count : length new ≡ length old

-- the session of that number comes further, and others lose at most positions
record Moves (late : Type 0) (i : ℕ) (s : Session) (most : ℕ) (old new : List Session) : Type 0 where
  count : length new ≡ length old
  came : (t : Session) → slice_get new i ≡ Some t → Came most s t
  ups : (t : Session) → slice_get new i ≡ Some t → Ups late s t
  others : (j : ℕ) (t : Session) → j ≢ i → slice_get new j ≡ Some t → IsKept old j t

kept_here : (ss : List Session) (j : ℕ) (y : Session) → slice_get ss j ≡ Some y → IsKept ss j y
kept_here ss j y g = record { before = y; there = g; next = refl; live = refl; untold = refl }

same_session : (o : Option Session) (s t : Session) → o ≡ Some s → o ≡ Some t → s ≡ t
same_session o s t a b = let e : Some s ≡ Some t = sym a ∙ b in cc

-- who stands at the changed number is like the new one
like_own : (P : Session → Type 0) (i : ℕ) (x b : Session) (old : List Session) → P x → ((i ≡ i) × (Some x ≡ Some b)) ⊎ ((i ≢ i) × (slice_get old i ≡ Some b)) → P b
like_own P i x b old p (inl (e, q)) = let same : x ≡ b = cc in subst P same p
like_own P i x b old p (inr (n, q)) = absurd (n refl)

kept_other : (i j : ℕ) (x t : Session) (old : List Session) → j ≢ i → (k : IsKept (slice_set old i x) j t)
    → ((j ≡ i) × (Some x ≡ Some k.before)) ⊎ ((j ≢ i) × (slice_get old j ≡ Some k.before)) → IsKept old j t
kept_other i j x t old n k (inl (e, q)) = absurd (n e)
kept_other i j x t old n k (inr (m, q)) = record { before = k.before; there = q; next = k.next; live = k.live; untold = k.untold }

moves_changed : (late : Type 0) (i : ℕ) (s x : Session) (most : ℕ) (old new : List Session) → Changes i s x old new → Came most s x → Ups late s x → Moves late i s most old new
moves_changed late i s x most old new c came ups =
    let lt : i < length old = slice_get_within old i s c.there in
    record {
      count = c.count;
      came = λ t g.
          let k = c.back i t g in
          came_like most s k.before t k.next k.live (like_own (Came most s) i x k.before old came (get_set-cases old i i x k.before lt k.there));
      ups = λ t g.
          let k = c.back i t g in
          ups_like late s k.before t k.next k.live (like_own (Ups late s) i x k.before old ups (get_set-cases old i i x k.before lt k.there));
      others = λ j t n g.
          let k = c.back j t g in
          kept_other i j x t old n k (get_set-cases old i j x k.before lt k.there);
    }

moves_same : (late : Type 0) (i : ℕ) (s : Session) (most : ℕ) (ss : List Session) → slice_get ss i ≡ Some s → (late → s.live ≡ true → ⊥) → Moves late i s most ss ss
moves_same late i s most ss there never = record {
  count = refl;
  came = λ t g. subst (Came most s) (same_session (slice_get ss i) s t there g) (came_self most s);
  ups = λ t g so live. absurd (never so (ap (λ y. y.live) (same_session (slice_get ss i) s t there g) ∙ live));
  others = λ j t n g. kept_here ss j t g;
}

-- ---- what sessions become

changes_set : (i : ℕ) (s x : Session) (old new : List Session) → slice_get old i ≡ Some s → new ≡ slice_set old i x → Changes i s x old new
changes_set i s x old new there e = record {
  there = there;
  back = λ j y g. kept_here (slice_set old i x) j y (ap (λ ss. slice_get ss j) (sym e) ∙ g);
  count = ap length e ∙ length-set old i x;
}

asked_more : (o : Option SessionScript) (number : ℕ) (statement : Statement) → statement_of o number ≡ Some statement → number + 1 ≤ asked_by o
asked_more None number statement e = absurd (let no : None ≡ Some statement = e in cc)
asked_more (Some script) number statement e = let lt = next_within (Some script) number statement script e refl in omega (arith, lt)

moves_called : (late : Type 0) (i : ℕ) (s after : Session) (reply : Reply) (cs : List Change) (statement : Statement) (w : World) → slice_get w.sessions i ≡ Some s → s.live ≡ true
    → next_statement w i s ≡ Some statement → Moves late i s (asked w i) w.sessions (called i s reply cs after w).sessions
moves_called late i s after reply cs statement w there live next =
    let x = sessions-called i s after reply cs w in
    let new = (called i s reply cs after w).sessions in
    let changes : Changes i s x.0 w.sessions new = record {
      there = there;
      back = λ j y g. kept_from s.at cs (slice_set w.sessions i x.0) j y (ap (λ ss. slice_get ss j) (sym x.1) ∙ g);
      count = ap length x.1 ∙ length-standing s.at cs (slice_set w.sessions i x.0) ∙ length-set w.sessions i x.0;
    } in
    let n : x.0.next ≡ s.next + 1 = x.2 in
    let more = asked_more (slice_get w.scripts i) s.next statement next in
    moves_changed late i s x.0 (asked w i) w.sessions new changes
    (record { lived = λ l. live; called = omega (arith, n); within = λ le. omega (arith, n, more) })
    (λ so l. omega (arith, n))

moves_ended : (late : Type 0) (i : ℕ) (s : Session) (most : ℕ) (w : World) → slice_get w.sessions i ≡ Some s → Moves late i s most w.sessions (ended i s w).sessions
moves_ended late i s most w there =
    let x = record s { pending = []; marks = []; live = false } in
    moves_changed late i s x most w.sessions (ended i s w).sessions
    (changes_set i s x w.sessions (ended i s w).sessions there (ap (λ ss. slice_set ss i x) (sessions-stepped i w [] [] End)))
    (record { lived = λ l. absurd (false≢true l); called = omega arith; within = λ le. le })
    (λ so l. absurd (false≢true l))

moves_parked : (late : Type 0) (i : ℕ) (s : Session) (since most : ℕ) (w : World) (b : Bool) → slice_get w.sessions i ≡ Some s → (late → ⊥)
    → Moves late i s most w.sessions (if b then w else with_session i (record s { parked = Some since }) (stepped i w [] [] (Park (s.next + 1)))).sessions
moves_parked late i s since most w true there never = moves_same late i s most w.sessions there (λ so l. never so)
moves_parked late i s since most w false there never =
    let x = record s { parked = Some since } in
    let new = with_session i x (stepped i w [] [] (Park (s.next + 1))) in
    moves_changed late i s x most w.sessions new.sessions
    (changes_set i s x w.sessions new.sessions there (ap (λ ss. slice_set ss i x) (sessions-stepped i w [] [] (Park (s.next + 1)))))
    (record { lived = λ l. l; called = omega arith; within = λ le. le })
    (λ so l. absurd (never so))

moves_turned : (late : Type 0) (i : ℕ) (s : Session) (m : Meaning) (statement : Statement) (w : World) → slice_get w.sessions i ≡ Some s → s.live ≡ true
    → next_statement w i s ≡ Some statement → ((since : ℕ) → late → m ≡ parks since → ⊥) → Moves late i s (asked w i) w.sessions (turned_by i s m w).sessions
moves_turned late i s (answers reply cs after) statement w there live next never = moves_called late i s after reply cs statement w there live next
moves_turned late i s (parks since) statement w there live next never = moves_parked late i s since (asked w i) w (is_some s.parked) there (λ so. never since so refl)

moves_own : (late : Type 0) (i : ℕ) (s : Session) (o : Option Statement) (w : World) → slice_get w.sessions i ≡ Some s → s.live ≡ true → next_statement w i s ≡ o
    → (late → 2 ^ 62 ≤ w.moment) → Moves late i s (asked w i) w.sessions (own_turn i s o w).sessions
moves_own late i s None w there live next at = moves_ended late i s (asked w i) w there
moves_own late i s (Some statement) w there live next at =
    moves_turned late i s (meaning w i s statement) statement w there live next (λ since so e. no_wait w i s statement since (at so) e)

-- the same, as seen from the world before the turn began
moves_from : (late : Type 0) (i : ℕ) (s : Session) (v w new : World) → v.sessions ≡ w.sessions → v.scripts ≡ w.scripts → Moves late i s (asked v i) v.sessions new.sessions
    → Moves late i s (asked w i) w.sessions new.sessions
moves_from late i s v w new e f m =
    subst (λ scripts. Moves late i s (asked_by (slice_get scripts i)) w.sessions new.sessions) f
    (subst (λ ss. Moves late i s (asked v i) ss new.sessions) e m)

-- ---- the moment

moment-read : (reading : ℕ) (w : World) → (read_clock reading w).moment ≡ max w.moment (min reading greatest_moment)
unfolding read_clock
moment-read reading w = refl

moment_if : (b : Bool) (v w : World) → v.moment ≡ w.moment → (if b then v else w).moment ≡ w.moment
moment_if true v w e = e
moment_if false v w e = refl

moment-stepped : (actor : ℕ) (w : World) (home away : List Change) (step : Step) → (stepped actor w home away step).moment ≡ w.moment
unfolding stepped
moment-stepped actor w home away step = refl

moment-caught_up : (actor : ℕ) (w : World) → (caught_up actor w).moment ≡ w.moment
unfolding caught_up
moment-caught_up actor w = moment_if (is_due w) (timed actor w) w (moment-stepped actor w (due_at Home w) (due_at Away w) Timer)

greatest : (moment opening n : ℕ) → 2 ^ 62 ≤ n → 2 ^ 62 ≤ max moment (min (min (opening + (n + 1)) (2 ^ 62)) (2 ^ 62))
greatest moment opening n h = omega (arith, h)

-- so late the moment is the greatest one
late_moment : (i : ℕ) (w : World) → 2 ^ 62 ≤ w.readings → 2 ^ 62 ≤ (begun i (next_reading w) w).moment
late_moment i w h =
    let e : (begun i (next_reading w) w).moment ≡ max w.moment (min (next_reading w) greatest_moment) = moment-caught_up i (read_clock (next_reading w) w) ∙ moment-read (next_reading w) w in
    let g = greatest w.moment w.opening w.readings h in
    omega (arith, e, g)

-- ---- a turn of a session

-- that this turn must call or end: it was told all, and the moment is the greatest one
record IsLate (s : Session) (w : World) : Type 0 where
  told : s.untold ≡ None
  readings : 2 ^ 62 ≤ w.readings

moves_told : (late : Type 0) (i : ℕ) (s : Session) (number most : ℕ) (w : World) → slice_get w.sessions i ≡ Some s → (late → ⊥) → Moves late i s most w.sessions (told i s number w).sessions
moves_told late i s number most w there never =
    let v = flushed i w in
    let x = record s { untold = None } in
    moves_changed late i s x most w.sessions (told i s number w).sessions
    (changes_set i s x w.sessions (told i s number w).sessions there (ap (λ ss. slice_set ss i x) (sessions-stepped i v [] [] (Told number) ∙ sessions-flushed i w)))
    (record { lived = λ l. l; called = omega arith; within = λ le. le })
    (λ so l. absurd (never so))

moves_live : (i : ℕ) (s : Session) (w : World) (b : Bool) → s.live ≡ b → slice_get w.sessions i ≡ Some s
    → Moves (IsLate s w) i s (asked w i) w.sessions (if b then own_turn i s (next_statement w i s) (begun i (next_reading w) w) else w).sessions
moves_live i s w false live there = moves_same (IsLate s w) i s (asked w i) w.sessions there (λ so l. absurd (false≢true (sym live ∙ l)))
moves_live i s w true live there =
    let v = begun i (next_reading w) w in
    let e = sessions-begun i (next_reading w) w in
    let f = (of_run-begun i (next_reading w) w).scripts in
    let next : next_statement v i s ≡ next_statement w i s = ap (λ ss. statement_of (slice_get ss i) s.next) f in
    moves_from (IsLate s w) i s v w (own_turn i s (next_statement w i s) v) e f
    (moves_own (IsLate s w) i s (next_statement w i s) v (ap (λ ss. slice_get ss i) e ∙ there) live next (λ so. late_moment i w so.readings))

moves_turn : (i : ℕ) (s : Session) (o : Option Untold) (w : World) → s.untold ≡ o → slice_get w.sessions i ≡ Some s → Moves (IsLate s w) i s (asked w i) w.sessions (turn_of (next_reading w) i s o w).sessions
moves_turn i s (Some u) w e there = moves_told (IsLate s w) i s u.number (asked w i) w there (λ so. none-some u (sym so.told ∙ e))
moves_turn i s None w e there = moves_live i s w s.live refl there

-- ---- readings

readings-read : (reading : ℕ) (w : World) → (read_clock reading w).readings ≡ w.readings + 1
unfolding read_clock
readings-read reading w = refl

readings_if : (b : Bool) (v w : World) → v.readings ≡ w.readings → (if b then v else w).readings ≡ w.readings
readings_if true v w e = e
readings_if false v w e = refl

readings_unless : (b : Bool) (v w : World) → v.readings ≡ w.readings → (if b then w else v).readings ≡ w.readings
readings_unless true v w e = refl
readings_unless false v w e = e

readings-caught_up : (actor : ℕ) (w : World) → (caught_up actor w).readings ≡ w.readings
unfolding caught_up
readings-caught_up actor w = readings_if (is_due w) (timed actor w) w (adds-stepped actor Timer w (due_at Home w) (due_at Away w)).readings

readings-begun : (actor reading : ℕ) (w : World) → (begun actor reading w).readings ≡ w.readings + 1
readings-begun actor reading w = readings-caught_up actor (read_clock reading w) ∙ readings-read reading w

readings-flushed : (actor : ℕ) (w : World) → (flushed actor w).readings ≡ w.readings
unfolding flushed
readings-flushed actor w = readings_unless (is_durable w) (all_durable (stepped actor w [] [] Flush)) w (adds-stepped actor Flush w [] []).readings

readings-sent : (actor : ℕ) (sending : Sending) (w : World) → (sent actor sending w).readings ≡ w.readings
readings-sent actor (offers at to) w = (offer_adds actor at to w).readings
readings-sent actor (arrives at a) w = (arrive_adds actor at a w).readings
readings-sent actor (confirms at number cs) w = (confirm_adds actor at number cs w).readings

readings_by : (actor : ℕ) (o : Option Sending) (w : World) → (propagated_by actor o w).readings ≡ w.readings
readings_by actor None w = refl
readings_by actor (Some sending) w =
    readings-sent actor sending (if may_follow w sending then w else flushed actor w) ∙ readings_unless (may_follow w sending) (flushed actor w) w (readings-flushed actor w)

readings-propagated : (actor : ℕ) (w : World) → (propagated actor w).readings ≡ w.readings
unfolding propagated
readings-propagated actor w = readings_by actor (next_sending w) w

-- a turn takes one reading at most
pub record IsRead (w new : World) : Type 0 where
  pub least : w.readings ≤ new.readings
  pub most : new.readings ≤ w.readings + 1

read_none : (w new : World) → new.readings ≡ w.readings → IsRead w new
read_none w new e = record { least = omega (arith, e); most = omega (arith, e) }

read_one : (w new : World) → new.readings ≡ w.readings + 1 → IsRead w new
read_one w new e = record { least = omega (arith, e); most = omega (arith, e) }

read_if : (b : Bool) (w new : World) → new.readings ≡ w.readings + 1 → IsRead w (if b then new else w)
read_if true w new e = read_one w new e
read_if false w new e = read_none w w refl

readings-turned : (i : ℕ) (s : Session) (m : Meaning) (w : World) → (turned_by i s m w).readings ≡ w.readings
readings-turned i s (answers reply cs after) w = (adds-called i s after reply cs w).readings
readings-turned i s (parks since) w =
    readings_unless (is_some s.parked) (with_session i (record s { parked = Some since }) (stepped i w [] [] (Park (s.next + 1)))) w (adds-stepped i (Park (s.next + 1)) w [] []).readings

readings-own : (i : ℕ) (s : Session) (o : Option Statement) (w : World) → (own_turn i s o w).readings ≡ w.readings
readings-own i s None w = (adds-stepped i End w [] []).readings
readings-own i s (Some statement) w = readings-turned i s (meaning w i s statement) w

readings-told : (i : ℕ) (s : Session) (number : ℕ) (w : World) → (told i s number w).readings ≡ w.readings
readings-told i s number w = (adds-stepped i (Told number) (flushed i w) [] []).readings ∙ readings-flushed i w

read_turn : (reading i : ℕ) (s : Session) (o : Option Untold) (w : World) → IsRead w (turn_of reading i s o w)
read_turn reading i s (Some u) w = read_none w (told i s u.number w) (readings-told i s u.number w)
read_turn reading i s None w =
    let v = begun i reading w in
    read_if s.live w (own_turn i s (next_statement w i s) v) (readings-own i s (next_statement w i s) v ∙ readings-begun i reading w)

read_some : (reading i : ℕ) (o : Option Session) (w : World) → IsRead w (turn_of_some reading i o w)
read_some reading i None w = read_none w w refl
read_some reading i (Some s) w = read_turn reading i s s.untold w

-- ---- each turn

-- the turn of the session of that number
pub record TakesTurn (i : ℕ) (old new : World) : Type 0 where
  pub scripts : new.scripts ≡ old.scripts
  pub count : length new.sessions ≡ length old.sessions
  pub read : IsRead old new
  pub came : (s t : Session) → slice_get old.sessions i ≡ Some s → slice_get new.sessions i ≡ Some t → Came (asked old i) s t
  pub ups : (s t : Session) → slice_get old.sessions i ≡ Some s → slice_get new.sessions i ≡ Some t → s.untold ≡ None → 2 ^ 62 ≤ old.readings → t.live ≡ true → s.next + 1 ≤ t.next
  pub others : (j : ℕ) (t : Session) → j ≢ i → slice_get new.sessions j ≡ Some t → IsKept old.sessions j t

turn_moved : (i : ℕ) (s : Session) (old new : World) → slice_get old.sessions i ≡ Some s → new.scripts ≡ old.scripts → IsRead old new → Moves (IsLate s old) i s (asked old i) old.sessions new.sessions → TakesTurn i old new
turn_moved i s old new there scripts read m = record {
  scripts = scripts;
  count = m.count;
  read = read;
  came = λ r t at g. subst (λ x. Came (asked old i) x t) (same_session (slice_get old.sessions i) s r there at) (m.came t g);
  ups = λ r t at g told late live.
      let e : s ≡ r = same_session (slice_get old.sessions i) s r there at in
      let h = m.ups t g (record { told = ap (λ x. x.untold) e ∙ told; readings = late }) live in
      let n = ap (λ x. x.next) e in
      omega (arith, h, n);
  others = m.others;
}

turn_none : (i : ℕ) (w : World) → slice_get w.sessions i ≡ None → TakesTurn i w w
turn_none i w none = record {
  scripts = refl;
  count = refl;
  read = read_none w w refl;
  came = λ s t at g. absurd (none-some s (sym none ∙ at));
  ups = λ s t at g told late live. absurd (none-some s (sym none ∙ at));
  others = λ j t n g. kept_here w.sessions j t g;
}

turn_some : (i : ℕ) (o : Option Session) (w : World) → slice_get w.sessions i ≡ o → (turn_of_some (next_reading w) i o w).scripts ≡ w.scripts → TakesTurn i w (turn_of_some (next_reading w) i o w)
turn_some i None w e scripts = turn_none i w e
turn_some i (Some s) w e scripts = turn_moved i s w (turn_of (next_reading w) i s s.untold w) e scripts (read_turn (next_reading w) i s s.untold w) (moves_turn i s s.untold w refl e)

scripts_some : (reading i : ℕ) (w : World) → (turn_of_some reading i (slice_get w.sessions i) w).scripts ≡ w.scripts
unfolding session_turn
scripts_some reading i w = (of_run-session_turn reading i w).scripts

pub takes_turn : (i : ℕ) (w : World) → TakesTurn i w (session_turn (next_reading w) i w)
unfolding session_turn
takes_turn i w = turn_some i (slice_get w.sessions i) w refl (scripts_some (next_reading w) i w)

-- ---- telling turns

-- the session of that number is told what it called
pub record Tells (i : ℕ) (old new : World) : Type 0 where
  pub scripts : new.scripts ≡ old.scripts
  pub count : length new.sessions ≡ length old.sessions
  pub readings : new.readings ≡ old.readings
  pub came : (s t : Session) → slice_get old.sessions i ≡ Some s → slice_get new.sessions i ≡ Some t → Came (asked old i) s t
  pub told : (t : Session) → slice_get new.sessions i ≡ Some t → t.untold ≡ None
  pub others : (j : ℕ) (t : Session) → j ≢ i → slice_get new.sessions j ≡ Some t → IsKept old.sessions j t

tells_none : (i : ℕ) (w : World) → ((t : Session) → slice_get w.sessions i ≡ Some t → t.untold ≡ None) → Tells i w w
tells_none i w told = record {
  scripts = refl;
  count = refl;
  readings = refl;
  came = λ s t at g. subst (Came (asked w i) s) (same_session (slice_get w.sessions i) s t at g) (came_self (asked w i) s);
  told = told;
  others = λ j t n g. kept_here w.sessions j t g;
}

tells_one : (i : ℕ) (s : Session) (number : ℕ) (w : World) → slice_get w.sessions i ≡ Some s → (told i s number w).scripts ≡ w.scripts → Tells i w (told i s number w)
tells_one i s number w there scripts =
    let v = flushed i w in
    let x = record s { untold = None } in
    let new = told i s number w in
    let e : new.sessions ≡ slice_set w.sessions i x = ap (λ ss. slice_set ss i x) (sessions-stepped i v [] [] (Told number) ∙ sessions-flushed i w) in
    let m = moves_told ⊥ i s number (asked w i) w there (λ never. never) in
    let lt : i < length w.sessions = slice_get_within w.sessions i s there in
    record {
      scripts = scripts;
      count = m.count;
      readings = readings-told i s number w;
      came = λ r t at g. subst (λ y. Came (asked w i) y t) (same_session (slice_get w.sessions i) s r there at) (m.came t g);
      told = λ t g. like_own (λ y. y.untold ≡ None) i x t w.sessions refl (get_set-cases w.sessions i i x t lt (ap (λ ss. slice_get ss i) (sym e) ∙ g));
      others = m.others;
    }

tells_so : (i : ℕ) (s : Session) (o : Option Untold) (w : World) → s.untold ≡ o → slice_get w.sessions i ≡ Some s → (telling_of i s o w).scripts ≡ w.scripts → Tells i w (telling_of i s o w)
tells_so i s None w e there scripts = tells_none i w (λ t g. ap (λ y. y.untold) (sym (same_session (slice_get w.sessions i) s t there g)) ∙ e)
tells_so i s (Some u) w e there scripts = tells_one i s u.number w there scripts

tells_some : (i : ℕ) (o : Option Session) (w : World) → slice_get w.sessions i ≡ o → (telling_of_some i o w).scripts ≡ w.scripts → Tells i w (telling_of_some i o w)
tells_some i None w e scripts = tells_none i w (λ t g. absurd (none-some t (sym e ∙ g)))
tells_some i (Some s) w e scripts = tells_so i s s.untold w refl e scripts

scripts_telling : (i : ℕ) (w : World) → (telling_of_some i (slice_get w.sessions i) w).scripts ≡ w.scripts
unfolding telling_turn
scripts_telling i w = (of_run-telling_turn i w).scripts

pub tells : (i : ℕ) (w : World) → Tells i w (telling_turn i w)
unfolding telling_turn
tells i w = tells_some i (slice_get w.sessions i) w refl (scripts_telling i w)

-- ---- turns of the timer and the propagator

-- no session changes
pub record Rests (old new : World) : Type 0 where
  pub scripts : new.scripts ≡ old.scripts
  pub sessions : new.sessions ≡ old.sessions
  pub read : IsRead old new

sessions_if : (b : Bool) (v w : World) → v.sessions ≡ w.sessions → (if b then v else w).sessions ≡ w.sessions
sessions_if true v w e = e
sessions_if false v w e = refl

pub rests_timer : (reading : ℕ) (w : World) → Rests w (timer_turn reading w)
unfolding timer_turn
rests_timer reading w = record {
  scripts = (of_run-timer_turn reading w).scripts;
  sessions = sessions_if (any_live w) (begun 64 reading w) w (sessions-begun 64 reading w);
  read = read_if (any_live w) w (begun 64 reading w) (readings-begun 64 reading w);
}

pub rests_propagator : (reading : ℕ) (w : World) → Rests w (propagator_turn reading w)
unfolding propagator_turn
rests_propagator reading w =
    let v = begun 65 reading w in
    record {
      scripts = (of_run-propagator_turn reading w).scripts;
      sessions = sessions_if (any_live w) (propagated 65 v) w (sessions-propagated 65 v ∙ sessions-begun 65 reading w);
      read = read_if (any_live w) w (propagated 65 v) (readings-propagated 65 v ∙ readings-begun 65 reading w);
    }

-- while a session goes on the timer takes a reading
pub timer_reads : (reading : ℕ) (w : World) → any_live w ≡ true → (timer_turn reading w).readings ≡ w.readings + 1
unfolding timer_turn
timer_reads reading w live = rw live (readings-begun 64 reading w)
