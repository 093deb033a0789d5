-- How far the sessions come in a round.
use Rattle.std.proofs.Common.{◌≡◌, ◌≢◌, ◌⊎◌, inl, inr, ℕ, zero, suc, ◌+◌, ◌<◌, ◌≤◌, Bool, true, false, List, [], ◌∷◌, Some, None, refl, sym, ap, subst, ◌∙◌, arith, length, get_or}
use Rattle.std.specs.Prelude.{◌^◌, ◌||◌, slice_get}
use Rattle.std.specs.List.{list_any}
use Rattle.std.proofs.lemmas.Option.{slice_get_within, slice_get-get_or}
use Rattle.queue_rows.specs.Session.{Session}
use Rattle.queue_rows.specs.Turns.{is_live, next_reading, telling_turn, any_live}
use Rattle.queue_rows.proofs.Sessions.{same_or_not}
use Rattle.queue_rows.specs.World.{World}
use Rattle.queue_rows.specs.Serial.{each, next_session_turn, next_timer_turn, next_propagator_turn, session_turns, telling_turns, round}
use Rattle.run_turns.proofs.Standing.{IsKept}
use Rattle.run_turns.proofs.Ended.{all_dead}
use Rattle.aq_run.specs.Progress.{asked, asked_by, AreAt, AreTold}
use Rattle.aq_run.proofs.Turning.{Came, came_self, came_trans, came_like, TakesTurn, takes_turn, Tells, tells, Rests, rests_timer, rests_propagator, timer_reads}

-- ---- from one world to a later one

-- what a session was, from which it has come
pub record HasCome (most : ℕ) (ss : List Session) (j : ℕ) (t : Session) : Type 0 where
  pub before : Session
  pub there : slice_get ss j ≡ Some before
  pub came : Came most before t

-- each session has come further
pub record ComeOn (old new : World) : Type 0 where
  pub scripts : new.scripts ≡ old.scripts
  pub count : length new.sessions ≡ length old.sessions
  pub least : old.readings ≤ new.readings
  pub each : (j : ℕ) (t : Session) → slice_get new.sessions j ≡ Some t → HasCome (asked old j) old.sessions j t

come_self : (w : World) → ComeOn w w
come_self w = record { scripts = refl; count = refl; least = omega arith; each = λ j t g. record { before = t; there = g; came = came_self (asked w j) t } }

come_trans : (u v w : World) → ComeOn u v → ComeOn v w → ComeOn u w
come_trans u v w a b = record {
  scripts = b.scripts ∙ a.scripts;
  count = b.count ∙ a.count;
  least = let x = a.least in let y = b.least in omega (arith, x, y);
  each = λ j t g.
      let h = b.each j t g in
      let k = a.each j h.before h.there in
      record {
        before = k.before;
        there = k.there;
        came = came_trans (asked u j) k.before h.before t k.came (subst (λ scripts. Came (asked_by (slice_get scripts j)) h.before t) a.scripts h.came);
      };
}

-- who lost positions alone
kept_come : (most : ℕ) (ss : List Session) (j : ℕ) (t : Session) → IsKept ss j t → HasCome most ss j t
kept_come most ss j t k = record { before = k.before; there = k.there; came = came_like most k.before k.before t k.next k.live (came_self most k.before) }

-- who stands there now stood there before
stood : (old new : List Session) (j : ℕ) (t : Session) → length new ≡ length old → slice_get new j ≡ Some t → slice_get old j ≡ Some (get_or old j t)
stood old new j t count g = let h = slice_get_within new j t g in slice_get-get_or old j t (omega (arith, h, count))

turn_one : (i j : ℕ) (old new : World) (t : Session) → TakesTurn i old new → slice_get new.sessions j ≡ Some t → (j ≡ i) ⊎ (j ≢ i) → HasCome (asked old j) old.sessions j t
turn_one i j old new t turn g (inr n) = kept_come (asked old j) old.sessions j t (turn.others j t n g)
turn_one i j old new t turn g (inl e) =
    let here : slice_get new.sessions i ≡ Some t = ap (slice_get new.sessions) (sym e) ∙ g in
    let s = get_or old.sessions i t in
    let at = stood old.sessions new.sessions i t turn.count here in
    subst (λ n. HasCome (asked old n) old.sessions n t) (sym e) (record { before = s; there = at; came = turn.came s t at here })

turn_on : (i : ℕ) (old new : World) → TakesTurn i old new → ComeOn old new
turn_on i old new turn = record { scripts = turn.scripts; count = turn.count; least = turn.read.least; each = λ j t g. turn_one i j old new t turn g (same_or_not i j) }

tells_at : (i j : ℕ) (old new : World) (t : Session) → Tells i old new → slice_get new.sessions j ≡ Some t → (j ≡ i) ⊎ (j ≢ i) → HasCome (asked old j) old.sessions j t
tells_at i j old new t h g (inr n) = kept_come (asked old j) old.sessions j t (h.others j t n g)
tells_at i j old new t h g (inl e) =
    let here : slice_get new.sessions i ≡ Some t = ap (slice_get new.sessions) (sym e) ∙ g in
    let s = get_or old.sessions i t in
    let at = stood old.sessions new.sessions i t h.count here in
    subst (λ n. HasCome (asked old n) old.sessions n t) (sym e) (record { before = s; there = at; came = h.came s t at here })

tells_on : (i : ℕ) (old new : World) → Tells i old new → ComeOn old new
tells_on i old new h = record { scripts = h.scripts; count = h.count; least = let e = h.readings in omega (arith, e); each = λ j t g. tells_at i j old new t h g (same_or_not i j) }

rests_on : (old new : World) → Rests old new → ComeOn old new
rests_on old new r = record {
  scripts = r.scripts;
  count = ap length r.sessions;
  least = r.read.least;
  each = λ j t g. record { before = t; there = ap (λ ss. slice_get ss j) (sym r.sessions) ∙ g; came = came_self (asked old j) t };
}

-- ---- the turns of the sessions

-- the sessions before that number have had their turn, and the others stand as they stood but for positions
record After (n : ℕ) (w v : World) : Type 0 where
  on : ComeOn w v
  most : v.readings ≤ w.readings + n
  rest : (j : ℕ) (t : Session) → n ≤ j → slice_get v.sessions j ≡ Some t → IsKept w.sessions j t
  ups : 2 ^ 62 ≤ w.readings → AreTold w → (j : ℕ) (s t : Session) → j < n → slice_get w.sessions j ≡ Some s → slice_get v.sessions j ≡ Some t → t.live ≡ true → s.next + 1 ≤ t.next

after_none : (w : World) → After 0 w w
after_none w = record {
  on = come_self w;
  most = omega arith;
  rest = λ j t le g. record { before = t; there = g; next = refl; live = refl; untold = refl };
  ups = λ late told j s t lt. absurd (omega (arith, lt));
}

rest_next : (w v : World) (j : ℕ) (t : Session) (k : IsKept v.sessions j t) → IsKept w.sessions j k.before → IsKept w.sessions j t
rest_next w v j t k m = record { before = m.before; there = m.there; next = k.next ∙ m.next; live = k.live ∙ m.live; untold = k.untold ∙ m.untold }

same_one : (ss : List Session) (j : ℕ) (s t : Session) → slice_get ss j ≡ Some s → slice_get ss j ≡ Some t → s ≡ t
same_one ss j s t a b = let e : Some s ≡ Some t = sym a ∙ b in cc

-- the session whose turn it is has called or ended
up_own : (n : ℕ) (w v new : World) → After n w v → TakesTurn n v new → 2 ^ 62 ≤ w.readings → AreTold w → (s t : Session) → slice_get w.sessions n ≡ Some s → slice_get new.sessions n ≡ Some t → t.live ≡ true → s.next + 1 ≤ t.next
up_own n w v new a turn late told s t at g live =
    let r = get_or v.sessions n t in
    let there = stood v.sessions new.sessions n t turn.count g in
    let k = a.rest n r (omega arith) there in
    let e : k.before ≡ s = same_one w.sessions n k.before s k.there at in
    let heard : r.untold ≡ None = k.untold ∙ told n k.before k.there in
    let least = a.on.least in
    let up = turn.ups r t there g heard (omega (arith, late, least)) live in
    let n1 : r.next ≡ k.before.next = k.next in
    let n2 : k.before.next ≡ s.next = ap (λ x. x.next) e in
    omega (arith, up, n1, n2)

up_one : (n j : ℕ) (w v new : World) → After n w v → TakesTurn n v new → 2 ^ 62 ≤ w.readings → AreTold w → (s t : Session) → j < n + 1 → slice_get w.sessions j ≡ Some s → slice_get new.sessions j ≡ Some t → t.live ≡ true → (j ≡ n) ⊎ (j ≢ n)
    → s.next + 1 ≤ t.next
up_one n j w v new a turn late told s t lt at g live (inl e) =
    up_own n w v new a turn late told s t (ap (slice_get w.sessions) (sym e) ∙ at) (ap (slice_get new.sessions) (sym e) ∙ g) live
up_one n j w v new a turn late told s t lt at g live (inr ne) =
    let k = turn.others j t ne g in
    let before : j < n = omega (arith, lt, ne) in
    let up = a.ups late told j s k.before before at k.there (sym k.live ∙ live) in
    let n1 = k.next in
    omega (arith, up, n1)

after_next : (n : ℕ) (w v new : World) → After n w v → TakesTurn n v new → After (n + 1) w new
after_next n w v new a turn = record {
  on = come_trans w v new a.on (turn_on n v new turn);
  most = let x = a.most in let y = turn.read.most in omega (arith, x, y);
  rest = λ j t le g.
      let ne : j ≢ n = λ e. omega (arith, le, e) in
      let k = turn.others j t ne g in
      rest_next w v j t k (a.rest j k.before (omega (arith, le)) k.there);
  ups = λ late told j s t lt at g live. up_one n j w v new a turn late told s t lt at g live (same_or_not n j);
}

after_each : (n : ℕ) (w : World) → After n w (each next_session_turn n w)
after_each zero w = after_none w
after_each (suc n) w =
    let v = each next_session_turn n w in
    let e : n + 1 ≡ suc n = omega arith in
    subst (λ m. After m w (next_session_turn n v)) e (after_next n w v (next_session_turn n v) (after_each n w) (takes_turn n v))

-- so many turns take as many readings at most
pub few_readings : (n : ℕ) (w : World) → (each next_session_turn n w).readings ≤ w.readings + n
few_readings n w = (after_each n w).most

pub few_turned : (w v : World) → v ≡ session_turns w → v.readings ≤ w.readings + length w.sessions
few_turned w v e = subst (λ u. u.readings ≤ w.readings + length w.sessions) (sym e) (few_readings (length w.sessions) w)

pub same_count : (n : ℕ) (w : World) → length (each next_session_turn n w).sessions ≡ length w.sessions
same_count n w = (after_each n w).on.count

-- ---- replies are told

record Heard (n : ℕ) (w v : World) : Type 0 where
  on : ComeOn w v
  readings : v.readings ≡ w.readings
  told : (j : ℕ) (t : Session) → j < n → slice_get v.sessions j ≡ Some t → t.untold ≡ None

heard_one : (n j : ℕ) (w v new : World) → Heard n w v → Tells n v new → (t : Session) → j < n + 1 → slice_get new.sessions j ≡ Some t → (j ≡ n) ⊎ (j ≢ n) → t.untold ≡ None
heard_one n j w v new h turn t lt g (inl e) = turn.told t (ap (slice_get new.sessions) (sym e) ∙ g)
heard_one n j w v new h turn t lt g (inr ne) =
    let k = turn.others j t ne g in
    let before : j < n = omega (arith, lt, ne) in
    k.untold ∙ h.told j k.before before k.there

heard_next : (n : ℕ) (w v new : World) → Heard n w v → Tells n v new → Heard (n + 1) w new
heard_next n w v new h turn = record {
  on = come_trans w v new h.on (tells_on n v new turn);
  readings = turn.readings ∙ h.readings;
  told = λ j t lt g. heard_one n j w v new h turn t lt g (same_or_not n j);
}

heard_each : (n : ℕ) (w : World) → Heard n w (each telling_turn n w)
heard_each zero w = record { on = come_self w; readings = refl; told = λ j t lt. absurd (omega (arith, lt)) }
heard_each (suc n) w =
    let v = each telling_turn n w in
    let e : n + 1 ≡ suc n = omega arith in
    subst (λ m. Heard m w (telling_turn n v)) e (heard_next n w v (telling_turn n v) (heard_each n w) (tells n v))

pub same_readings : (n : ℕ) (w : World) → (each telling_turn n w).readings ≡ w.readings
same_readings n w = (heard_each n w).readings

pub same_sessions : (n : ℕ) (w : World) → length (each telling_turn n w).sessions ≡ length w.sessions
same_sessions n w = (heard_each n w).on.count

-- ---- a round

live_if : (w : World) (j : ℕ) (s : Session) (b : Bool) → any_live w ≡ b → slice_get w.sessions j ≡ Some s → s.live ≡ true → any_live w ≡ true
live_if w j s true e g live = e
live_if w j s false e g live = absurd (let no : true ≡ false = sym live ∙ all_dead w j s e g in cc)

-- a session that goes on, where one does
record Lives (sessions : List Session) : Type 0 where
  number : ℕ
  session : Session
  there : slice_get sessions number ≡ Some session
  live : session.live ≡ true

first_lives : (s : Session) (more : List Session) (b : Bool) → s.live ≡ b → b || list_any is_live more ≡ true → (list_any is_live more ≡ true → Lives more) → Lives (s ∷ more)
first_lives s more true is e rest = record { number = 0; session = s; there = refl; live = is }
first_lives s more false is e rest = let next = rest e in record { number = suc next.number; session = next.session; there = next.there; live = next.live }

one_lives : (sessions : List Session) → list_any is_live sessions ≡ true → Lives sessions
one_lives [] e = cc
one_lives (s ∷ more) e = first_lives s more (is_live s) refl e (λ there. one_lives more there)

who_lives : (w : World) → any_live w ≡ true → Lives w.sessions
unfolding any_live
who_lives w e = one_lives w.sessions e

-- where one goes on, one went on before
lived_before : (old new : World) → ComeOn old new → any_live new ≡ true → any_live old ≡ true
lived_before old new on e =
    let l = who_lives new e in
    let h = on.each l.number l.session l.there in
    live_if old l.number h.before (any_live old) refl h.there (h.came.lived l.live)

-- what a round makes of a world
pub record IsRound (w d : World) : Type 0 where
  pub on : ComeOn w d
  pub most : d.readings ≤ w.readings + length w.sessions + 2
  pub ups : 2 ^ 62 ≤ w.readings → AreTold w → (j : ℕ) (s t : Session) → slice_get w.sessions j ≡ Some s → slice_get d.sessions j ≡ Some t → t.live ≡ true → s.next + 1 ≤ t.next
  pub told : AreTold d
  pub reads : any_live d ≡ true → w.readings + 1 ≤ d.readings

up_through : (w a d : World) → After (length w.sessions) w a → ComeOn a d → 2 ^ 62 ≤ w.readings → AreTold w → (j : ℕ) (s t : Session) → slice_get w.sessions j ≡ Some s → slice_get d.sessions j ≡ Some t → t.live ≡ true → s.next + 1 ≤ t.next
up_through w a d after on late told j s t at g live =
    let h = on.each j t g in
    let up = after.ups late told j s h.before (slice_get_within w.sessions j s at) at h.there (h.came.lived live) in
    let more = h.came.called in
    omega (arith, up, more)

pub is_round : (w : World) → IsRound w (round w)
unfolding round
is_round w =
    let a = session_turns w in
    let b = next_timer_turn a in
    let c = next_propagator_turn b in
    let d = telling_turns c in
    let after = after_each (length w.sessions) w in
    let timer = rests_timer (next_reading a) a in
    let propagator = rests_propagator (next_reading b) b in
    let heard = heard_each (length c.sessions) c in
    let behind : ComeOn b d = come_trans b c d (rests_on b c propagator) heard.on in
    let rest : ComeOn a d = come_trans a b d (rests_on a b timer) behind in
    record {
      on = come_trans w a d after.on rest;
      most = let x = after.most in let y = timer.read.most in let z = propagator.read.most in let e = heard.readings in omega (arith, x, y, z, e);
      ups = up_through w a d after rest;
      told = λ j t g. heard.told j t (let lt = slice_get_within d.sessions j t g in let n = heard.on.count in omega (arith, lt, n)) g;
      reads = λ live.
          let e : b.readings ≡ a.readings + 1 = timer_reads (next_reading a) a (lived_before a d rest live) in
          let x = after.on.least in
          let y = behind.least in
          omega (arith, e, x, y);
    }

-- ---- how far the sessions are

-- in a round no session falls back
pub stays_at : (k : ℕ) (w : World) → AreAt k w → AreAt k (round w)
stays_at k w a = λ j t g.
    let r = is_round w in
    let h = r.on.each j t g in
    let at = a j h.before h.there in
    record {
      called = λ live. let x = at.called (h.came.lived live) in let y = h.came.called in omega (arith, x, y);
      within = subst (λ scripts. t.next ≤ asked_by (slice_get scripts j)) (sym r.on.scripts) (h.came.within at.within);
    }

-- and so late each that goes on has called one more
pub one_further : (k : ℕ) (w : World) → 2 ^ 62 ≤ w.readings → AreTold w → AreAt k w → AreAt (k + 1) (round w)
one_further k w late told a = λ j t g.
    let r = is_round w in
    let h = r.on.each j t g in
    let at = a j h.before h.there in
    let stays = stays_at k w a j t g in
    record {
      called = λ live. let x = at.called (h.came.lived live) in let y = r.ups late told j h.before t h.there g live in omega (arith, x, y);
      within = stays.within;
    }

-- who goes on has called no more than it asks
pub live_within : (k most : ℕ) (w : World) → any_live w ≡ true → AreAt k w → ((i : ℕ) → asked w i ≤ most) → k ≤ most
live_within k most w e a few =
    let l = who_lives w e in
    let at = a l.number l.session l.there in
    let reached = at.called l.live in
    let within = at.within in
    let top = few l.number in
    omega (arith, reached, within, top)
