-- Each turn takes legal steps, whatever reading it takes.
use Rattle.std.proofs.Common.{◌≡◌, ℕ, zero, suc, ◌+◌, ◌<◌, ◌≤◌, Bool, true, false, not, List, [], ◌∷◌, ◌++◌, Option, Some, None, refl, sym, ap, subst, ◌∙◌, arith, add-one, length}
use Rattle.std.specs.Prelude.{slice_get, option_map, option_and_then, if◌then◌else◌, nat_lt, ◌||◌, ◌&&◌, ◌==◌, is_some}
use Rattle.std.proofs.lemmas.Bool.{lt-ltb, le-ltb, ltb-false, le-leb, and_parts, and_from, or_left, or_right, eq-eqb, not-true, not_from_false}
use Rattle.std.proofs.lemmas.Option.{slice_get_within}
use Rattle.aq_base.specs.declared.DbId.{DbId}
use Rattle.aq_base.specs.declared.DbId.TheVariants.{Home, Away}
use Rattle.queue_rows.specs.Session.{Session, Untold}
use Rattle.queue_rows.specs.Meaning.{Meaning, answers, parks}
use Rattle.queue_rows.specs.Due.{due}
use Rattle.queue_rows.specs.Propagating.{Dispatch, dispatch}
use Rattle.queue_rows.specs.World.{committed_tables, other_db, World, Transit, Stage, on_its_way, came, database_at, read_clock, stepped, with_session, entry_of}
use Rattle.queue_rows.specs.Legal.{is_late, is_first_of_turn, is_timely_after, last_entry, IsLegal, MayStep, is_timely, is_sender, is_actor, IsReady}
use Rattle.queue_rows.specs.declared.tables.Tables.{Tables}
use Rattle.queue_rows.specs.declared.statement.Statement.{Statement}
use Rattle.queue_rows.specs.declared.history.Entry.{Entry}
use Rattle.queue_rows.specs.declared.history.SlotRef.{SlotRef}
use Rattle.queue_rows.specs.declared.history.Step.{Step}
use Rattle.queue_rows.specs.declared.history.Step.TheVariants.{Call, Park, Timer, Offer, Arrive, Confirm, Told, Flush, End}
use Rattle.valid_laws.proofs.Still.{nothing_after}
use Rattle.queue_rows.specs.Sending.{Sending, offers, arrives, confirms, dispatch_at, picked, offer_of, arrival_of, confirmation_of, sending_on, sending_of, next_sending, is_durable_at, may_follow, sent}
use Rattle.queue_rows.specs.Statements.{slot_sent, meaning, next_statement}
use Rattle.queue_rows.specs.Turns.{due_at, is_due, timed, caught_up, begun, own_turn, turned_by, is_durable, all_durable, flushed, told, propagated_by, propagated, turn_of, turn_of_some, session_turn, telling_of, telling_of_some, telling_turn, any_live, timer_turn, propagator_turn, drained_once, drained, closing_turn}
use Rattle.run_laws.specs.ValidRun.{IsValidWorld}
use Rattle.run_laws.proofs.Sendings.{confirms_so}
use Rattle.run_laws.proofs.Stepping.{step_sessions, step_transit}
use Rattle.run_laws.proofs.Worlds.{timed_leads}
use Rattle.run_turns.proofs.Adding.{Adds, step_adds, last-snoc}
use Rattle.run_turns.proofs.Oneness.{sessions-read, sessions-begun}
use Rattle.run_turns.proofs.Sounding.{IsSound, sound_from, come_within, ReadInTime, legal_in_time}

-- ---- worlds of a run

-- The worlds of a run, and the reading that comes next in each: they are legal, and that reading and legal steps lead from one to another.
pub record GoesOn (start : World) (On : World → Type 0) (next_of : World → ℕ) : Type 0 where
  pub legal : (w : World) → On w → (readings : List ℕ) × IsLegal start readings w
  pub read : (w : World) → On w → On (read_clock (next_of w) w)
  pub step : (actor : ℕ) (step : Step) (w new : World) → On w → is_timely w actor step ≡ true → MayStep actor step w new → On new

-- the actor may make any step
abbrev pub MayGo : ℕ → World → Type 0
MayGo actor w = (step : Step) → is_timely w actor step ≡ true

-- ---- readings of their own

timely_if : (w : World) (actor : ℕ) (step : Step) → is_timely_after (last_entry w.entries) w.readings actor step ≡ true → is_timely w actor step ≡ true
timely_if w actor step e = or_right (is_late step) (is_timely_after (last_entry w.entries) w.readings actor step) e

timely_by : (o : Option Entry) (readings actor : ℕ) (step : Step) → ((e : Entry) → o ≡ Some e → e.readings < readings) → 0 < readings → is_timely_after o readings actor step ≡ true
timely_by None readings actor step h p = lt-ltb 0 readings p
timely_by (Some e) readings actor step h p =
    or_left (nat_lt e.readings readings || (is_first_of_turn e.step && (e.actor == actor))) ((e.actor == 66) && (actor == 66)) (or_left (nat_lt e.readings readings) (is_first_of_turn e.step && (e.actor == actor)) (lt-ltb e.readings readings (h e refl)))

-- behind a reading every step is timely
go_read : (w : World) (actor reading : ℕ) → ReadInTime w → MayGo actor (read_clock reading w)
unfolding read_clock
go_read w actor reading r step = timely_if (read_clock reading w) actor step (timely_by (last_entry w.entries) (w.readings + 1) actor step (λ e last. let h = r e last in omega (arith, h)) (omega arith))

timely_behind : (e : Entry) (readings actor : ℕ) (step : Step) → is_first_of_turn e.step ≡ true → e.actor ≡ actor → is_timely_after (Some e) readings actor step ≡ true
timely_behind e readings actor step f same =
    or_left (nat_lt e.readings readings || (is_first_of_turn e.step && (e.actor == actor))) ((e.actor == 66) && (actor == 66))
    (or_right (nat_lt e.readings readings) (is_first_of_turn e.step && (e.actor == actor)) (and_from (is_first_of_turn e.step) (e.actor == actor) f (eq-eqb e.actor actor same)))

timely_closing : (e : Entry) (readings : ℕ) (step : Step) → e.actor ≡ 66 → is_timely_after (Some e) readings 66 step ≡ true
timely_closing e readings step same = or_right (nat_lt e.readings readings || (is_first_of_turn e.step && (e.actor == 66))) ((e.actor == 66) && (66 == 66)) (and_from (e.actor == 66) true (eq-eqb e.actor 66 same) refl)

-- behind an actor's due work and flush it may go on
go_behind : (actor : ℕ) (step : Step) (w new : World) → is_first_of_turn step ≡ true → Adds actor step w new → MayGo actor new
go_behind actor step w new f a next =
    let e = entry_of actor w a.home a.away step in
    timely_if new actor next (ap (λ o. is_timely_after o new.readings actor next) (ap last_entry a.entries ∙ last-snoc w.entries e) ∙ timely_behind e new.readings actor next f refl)

-- behind any of its steps the closing turn may
go_closing : (step : Step) (w new : World) → Adds 66 step w new → MayGo 66 new
go_closing step w new a next =
    let e = entry_of 66 w a.home a.away step in
    timely_if new 66 next (ap (λ o. is_timely_after o new.readings 66 next) (ap last_entry a.entries ∙ last-snoc w.entries e) ∙ timely_closing e new.readings next refl)

-- ---- due work

same_due : (t u : Tables) (xs ys : List Session) (db : DbId) (a b : Option SlotRef) (m n : ℕ) → t ≡ u → xs ≡ ys → a ≡ b → m ≡ n → due t xs db a m ≡ due u ys db b n
same_due t u xs ys db a b m n p q r s = ap (λ x. due x xs db a m) p ∙ ap (λ x. due u x db a m) q ∙ ap (λ x. due u ys db x m) r ∙ ap (due u ys db b) s

none_due : (w : World) (actor : ℕ) (db : DbId) → IsValidWorld w → due_at db (timed actor w) ≡ []
none_due w actor db v =
    let b = timed_leads actor w in
    let t = (database_at db w).tables in
    same_due (database_at db (timed actor w)).tables (committed_tables t (due_at db w) w.moment) (timed actor w).sessions w.sessions db (slot_sent (timed actor w)) (slot_sent w) (timed actor w).moment w.moment (b.tables db)
    (step_sessions actor w (due_at Home w) (due_at Away w) Timer) (ap (option_map (λ x. x.slot)) (step_transit actor w (due_at Home w) (due_at Away w) Timer)) b.moment
    ∙ nothing_after t w.sessions db (slot_sent w) w.moment (v.databases db).valid

-- behind due work nothing is due
calm_timed : (w : World) (actor : ℕ) → IsValidWorld w → is_due (timed actor w) ≡ false
unfolding is_due
calm_timed w actor v =
    ap (λ cs. not ((length cs == 0) && (length (due_at Away (timed actor w)) == 0))) (none_due w actor Home v) ∙ ap (λ cs. not (true && (length cs == 0))) (none_due w actor Away v)

-- ---- a turn that has begun

pub record HasBegun (On : World → Type 0) (actor : ℕ) (w : World) : Type 0 where
  pub on : On w
  pub go : MayGo actor w
  pub by : is_actor w actor ≡ true

pub record IsCalmTurn (On : World → Type 0) (actor : ℕ) (w : World) : Type 0 where
  pub begun_so : HasBegun On actor w
  pub calm : is_due w ≡ false

same_actor : (v w : World) (actor : ℕ) → v.sessions ≡ w.sessions → is_actor w actor ≡ true → is_actor v actor ≡ true
same_actor v w actor e h = ap (λ xs. nat_lt actor (length xs) || (actor == 64) || is_sender actor) e ∙ h

module _ (start : World) (sv : IsValidWorld start) (sk : IsSound start) (first : start.entries ≡ []) (On : World → Type 0) (next_of : World → ℕ) (goes : GoesOn start On next_of) where
  -- a legal step leads on
  step_on : {w new : World} (actor : ℕ) (step : Step) → On w → is_timely w actor step ≡ true → MayStep actor step w new → On new
  step_on {w = w} {new = new} actor step c timely m = goes.step actor step w new c timely m

  pub valid_now : (w : World) → On w → IsValidWorld w
  valid_now w c = let l = goes.legal w c in (sound_from start sv sk l.0 w l.1).0

  sound_now : (w : World) → On w → IsSound w
  sound_now w c = let l = goes.legal w c in (sound_from start sv sk l.0 w l.1).1

  in_time_now : (w : World) → On w → ReadInTime w
  in_time_now w c = let l = goes.legal w c in legal_in_time start l.0 w first l.1

  caught_cases : (w : World) (actor : ℕ) (b : Bool) → is_due w ≡ b → HasBegun On actor w → IsCalmTurn On actor (if b then timed actor w else w)
  caught_cases w actor true e k =
      let m : MayStep actor Timer w (timed actor w) = record { by = k.by; wanted = e; result = refl } in
      record {
        begun_so = record {
          on = step_on actor Timer k.on (k.go Timer) m;
          go = go_behind actor Timer w (timed actor w) refl (step_adds actor Timer w (timed actor w) m);
          by = same_actor (timed actor w) w actor (step_sessions actor w (due_at Home w) (due_at Away w) Timer) k.by;
        };
        calm = calm_timed w actor (valid_now w k.on);
      }
  caught_cases w actor false e k = record { begun_so = k; calm = e }

  caught_so : (w : World) (actor : ℕ) → HasBegun On actor w → IsCalmTurn On actor (caught_up actor w)
  unfolding caught_up
  caught_so w actor k = caught_cases w actor (is_due w) refl k

  -- the reading that a turn takes
  read_so : (w : World) (actor : ℕ) → is_actor w actor ≡ true → On w → HasBegun On actor (read_clock (next_of w) w)
  read_so w actor by c = record {
    on = goes.read w c;
    go = go_read w actor (next_of w) (in_time_now w c);
    by = same_actor (read_clock (next_of w) w) w actor (sessions-read (next_of w) w) by;
  }

  begun_turn : (w : World) (actor : ℕ) → is_actor w actor ≡ true → On w → IsCalmTurn On actor (begun actor (next_of w) w)
  begun_turn w actor by c = caught_so (read_clock (next_of w) w) actor (read_so w actor by c)

  -- ---- a session's own steps

  park_on : (v : World) (i : ℕ) (s : Session) (statement : Statement) (since : ℕ) (o : Option ℕ) → s.parked ≡ o → meaning v i s statement ≡ parks since → next_statement v i s ≡ Some statement → MayGo i v → IsReady i s v → On v
      → On (if is_some o then v else with_session i (record s { parked = Some since }) (stepped i v [] [] (Park (s.next + 1))))
  park_on v i s statement since (Some at) p e n go ready c = c
  park_on v i s statement since None p e n go ready c =
      step_on i (Park (s.next + 1)) c (go (Park (s.next + 1))) (record { session = s; statement = statement; since = since; number_is = refl; parks = record { ready = ready; once = p; next = n; means = e; result = refl } })

  by_meaning : (v : World) (i : ℕ) (s : Session) (statement : Statement) (m : Meaning) → meaning v i s statement ≡ m → next_statement v i s ≡ Some statement → MayGo i v → IsReady i s v → On v → On (turned_by i s m v)
  by_meaning v i s statement (answers reply cs after) e n go ready c =
      step_on i (Call (s.next + 1) reply) c (go (Call (s.next + 1) reply)) (record { session = s; statement = statement; changes = cs; after = after; number_is = refl; calls = record { ready = ready; next = n; means = e; result = refl } })
  by_meaning v i s statement (parks since) e n go ready c = park_on v i s statement since s.parked refl e n go ready c

  by_next : (v : World) (i : ℕ) (s : Session) (o : Option Statement) → next_statement v i s ≡ o → MayGo i v → IsReady i s v → On v → On (own_turn i s o v)
  by_next v i s None e go ready c = step_on i End c (go End) (s, record { ready = ready; all = e; result = refl })
  by_next v i s (Some statement) e go ready c = by_meaning v i s statement (meaning v i s statement) refl e go ready c

  scripts-caught : (w : World) (actor : ℕ) (b : Bool) → (if b then timed actor w else w).scripts ≡ w.scripts
  unfolding stepped
  scripts-caught w actor true = refl
  scripts-caught w actor false = refl

  scripts-begun : (w : World) (actor reading : ℕ) → (begun actor reading w).scripts ≡ w.scripts
  unfolding caught_up read_clock
  scripts-begun w actor reading = scripts-caught (read_clock reading w) actor (is_due (read_clock reading w))

  next-begun : (w : World) (actor reading i : ℕ) (s : Session) → next_statement (begun actor reading w) i s ≡ next_statement w i s
  next-begun w actor reading i s = ap (λ xs. Rattle.queue_rows.specs.Statements.statement_of (slice_get xs i) s.next) (scripts-begun w actor reading)

  is_own : (w : World) (i : ℕ) (s : Session) → slice_get w.sessions i ≡ Some s → is_actor w i ≡ true
  is_own w i s there = or_left (nat_lt i (length w.sessions) || (i == 64)) (is_sender i) (or_left (nat_lt i (length w.sessions)) (i == 64) (lt-ltb i (length w.sessions) (slice_get_within w.sessions i s there)))

  by_live : (w : World) (i : ℕ) (s : Session) (b : Bool) → s.live ≡ b → slice_get w.sessions i ≡ Some s → s.untold ≡ None → On w → On (if b then own_turn i s (next_statement w i s) (begun i (next_of w) w) else w)
  by_live w i s false e there told c = c
  by_live w i s true e there told c =
      let k = begun_turn w i (is_own w i s there) c in
      let v = begun i (next_of w) w in
      by_next v i s (next_statement w i s) (next-begun w i (next_of w) i s) k.begun_so.go
      (record { there = ap (λ xs. slice_get xs i) (sessions-begun i (next_of w) w) ∙ there; live = e; told = told; calm = k.calm }) k.begun_so.on

  -- ---- flushes

  -- all is durable, and what came is seen
  pub record IsFlushed (w new : World) : Type 0 where
    pub durable : (db : DbId) → (database_at db new).made ≤ (database_at db new).durable
    sessions : new.sessions ≡ w.sessions
    made : (db : DbId) → (database_at db new).made ≡ (database_at db w).made
    on : On new
    pub sends : next_sending new ≡ next_sending w
    pub due_same : is_due new ≡ is_due w

  both_durable : (w : World) → is_durable w ≡ true → (db : DbId) → (database_at db w).made ≤ (database_at db w).durable
  both_durable w e Home = let p = and_parts (is_durable_at Home w) (is_durable_at Away w) e in ltb-false w.home.durable w.home.made (not-true (nat_lt w.home.durable w.home.made) p.0)
  both_durable w e Away = let p = and_parts (is_durable_at Home w) (is_durable_at Away w) e in ltb-false w.away.durable w.away.made (not-true (nat_lt w.away.durable w.away.made) p.1)

  abbrev flush_of : ℕ → World → World
  flush_of actor w = all_durable (stepped actor w [] [] Flush)

  flush_dispatch : (w : World) (actor : ℕ) (at : SlotRef) (db : DbId) → dispatch (database_at db (flush_of actor w)).tables at ≡ dispatch (database_at db w).tables at
  unfolding stepped
  flush_dispatch w actor at Home = refl
  flush_dispatch w actor at Away = refl

  flush_arrival : (w : World) (actor : ℕ) (at : SlotRef) (d : Dispatch) → arrival_of (flush_of actor w) at d ≡ arrival_of w at d
  unfolding stepped
  flush_arrival w actor at d = by (other_db at.db)
    where
      by : (o : DbId) → arrives at (Rattle.queue_rows.specs.Propagating.arriving (database_at o (all_durable (stepped actor w [] [] Flush))).tables at d (database_at o (all_durable (stepped actor w [] [] Flush))).next w.moment)
          ≡ arrives at (Rattle.queue_rows.specs.Propagating.arriving (database_at o w).tables at d (database_at o w).next w.moment)
      by Home = refl
      by Away = refl

  flush_confirmation : (w : World) (actor : ℕ) (at : SlotRef) (n : ℕ) (d : Dispatch) → confirmation_of (flush_of actor w) at n d ≡ confirmation_of w at n d
  unfolding stepped
  flush_confirmation w actor at n d = by at.db
    where
      by : (o : DbId) → confirms at n (Rattle.queue_rows.specs.Propagating.confirming (database_at o (all_durable (stepped actor w [] [] Flush))).tables at d.schedule w.moment) ≡ confirms at n (Rattle.queue_rows.specs.Propagating.confirming (database_at o w).tables at d.schedule w.moment)
      by Home = refl
      by Away = refl

  map_same : {A B : Type 0} (f g : A → B) → ((x : A) → f x ≡ g x) → (o : Option A) → option_map f o ≡ option_map g o
  map_same f g k None = refl
  map_same f g k (Some x) = ap Some (k x)

  then_same : {A B : Type 0} (f g : A → Option B) → ((x : A) → f x ≡ g x) → (o : Option A) → option_and_then f o ≡ option_and_then g o
  then_same f g k None = refl
  then_same f g k (Some x) = k x

  flush_offer : (w : World) (actor : ℕ) (at : SlotRef) → offer_of (flush_of actor w) at ≡ offer_of w at
  flush_offer w actor at = ap (option_map (λ d. offers at d.parcel.to)) (flush_dispatch w actor at at.db)

  flush_on : (w : World) (actor : ℕ) (at : SlotRef) (stage : Stage) → sending_on (flush_of actor w) at stage ≡ sending_on w at stage
  flush_on w actor at on_its_way = ap (option_map (arrival_of (flush_of actor w) at)) (flush_dispatch w actor at at.db) ∙ map_same (arrival_of (flush_of actor w) at) (arrival_of w at) (flush_arrival w actor at) (dispatch_at w at)
  flush_on w actor at (came n) = ap (option_map (confirmation_of (flush_of actor w) at n)) (flush_dispatch w actor at at.db) ∙ map_same (confirmation_of (flush_of actor w) at n) (confirmation_of w at n) (flush_confirmation w actor at n) (dispatch_at w at)

  flush_picked : (w : World) (actor : ℕ) → picked (flush_of actor w) ≡ picked w
  unfolding stepped
  flush_picked w actor = refl

  flush_of_transit : (w : World) (actor : ℕ) (o : Option Transit) → sending_of (flush_of actor w) o ≡ sending_of w o
  flush_of_transit w actor None = ap (option_and_then (offer_of (flush_of actor w))) (flush_picked w actor) ∙ then_same (offer_of (flush_of actor w)) (offer_of w) (flush_offer w actor) (picked w)
  flush_of_transit w actor (Some t) = flush_on w actor t.slot t.stage

  flush_transit : (w : World) (actor : ℕ) → (flush_of actor w).transit ≡ w.transit
  unfolding stepped
  flush_transit w actor = refl

  flush_sends : (w : World) (actor : ℕ) → next_sending (flush_of actor w) ≡ next_sending w
  unfolding next_sending
  flush_sends w actor = ap (sending_of (flush_of actor w)) (flush_transit w actor) ∙ flush_of_transit w actor w.transit

  flush_due : (w : World) (actor : ℕ) → is_due (flush_of actor w) ≡ is_due w
  unfolding is_due stepped
  flush_due w actor = refl

  flush_durable : (w : World) (actor : ℕ) (db : DbId) → ((database_at db (flush_of actor w)).made ≤ (database_at db (flush_of actor w)).durable) × ((database_at db (flush_of actor w)).made ≡ (database_at db w).made)
  unfolding stepped
  flush_durable w actor Home = (omega arith, omega arith)
  flush_durable w actor Away = (omega arith, omega arith)

  flush_cases : (w : World) (actor : ℕ) (b : Bool) → is_durable w ≡ b → is_actor w actor ≡ true → On w → IsFlushed w (if b then w else all_durable (stepped actor w [] [] Flush))
  flush_cases w actor true e by c = record { durable = both_durable w e; sessions = refl; made = λ db. refl; on = c; sends = refl; due_same = refl }
  flush_cases w actor false e by c = record {
    durable = λ db. (flush_durable w actor db).0;
    sessions = step_sessions actor w [] [] Flush;
    made = λ db. (flush_durable w actor db).1;
    on = step_on actor Flush c refl (record { by = by; wanted = e; result = refl });
    sends = flush_sends w actor;
    due_same = flush_due w actor;
  }

  flushed_so : (w : World) (actor : ℕ) → is_actor w actor ≡ true → On w → IsFlushed w (flushed actor w)
  unfolding flushed
  flushed_so w actor by c = flush_cases w actor (is_durable w) refl by c

  go_flushed : (w : World) (actor : ℕ) (b : Bool) → is_durable w ≡ b → is_actor w actor ≡ true → MayGo actor w → MayGo actor (if b then w else all_durable (stepped actor w [] [] Flush))
  go_flushed w actor true e by go = go
  go_flushed w actor false e by go = go_behind actor Flush w (all_durable (stepped actor w [] [] Flush)) refl (step_adds actor Flush w (all_durable (stepped actor w [] [] Flush)) (record { by = by; wanted = e; result = refl }))

  go_flush : (w : World) (actor : ℕ) → is_actor w actor ≡ true → MayGo actor w → MayGo actor (flushed actor w)
  unfolding flushed
  go_flush w actor by go = go_flushed w actor (is_durable w) refl by go

  -- ---- tellings

  told_on : (w : World) (i : ℕ) (s : Session) (u : Untold) → s.untold ≡ Some u → slice_get w.sessions i ≡ Some s → On w → On (told i s u.number w)
  told_on w i s u e there c =
      let f = flushed_so w i (is_own w i s there) c in
      let n = (sound_now w c).counted i s u there e in
      step_on i (Told u.number) f.on refl
      (record {
        session = s;
        untold = u;
        number_is = refl;
        tells = record {
          there = ap (λ xs. slice_get xs i) f.sessions ∙ there;
          called = e;
          home_durable = let a = n.home in let b = f.made Home in let d = f.durable Home in omega (arith, a, b, d);
          away_durable = let a = n.away in let b = f.made Away in let d = f.durable Away in omega (arith, a, b, d);
          result = refl;
        };
      })

  by_call : (w : World) (i : ℕ) (s : Session) (o : Option Untold) → s.untold ≡ o → slice_get w.sessions i ≡ Some s → On w → On (turn_of (next_of w) i s o w)
  by_call w i s (Some u) e there c = told_on w i s u e there c
  by_call w i s None e there c = by_live w i s s.live refl there e c

  by_session : (w : World) (i : ℕ) (o : Option Session) → slice_get w.sessions i ≡ o → On w → On (turn_of_some (next_of w) i o w)
  by_session w i None e c = c
  by_session w i (Some s) e c = by_call w i s s.untold refl e c

  pub session_turn_on : (w : World) (i : ℕ) → On w → On (session_turn (next_of w) i w)
  unfolding session_turn
  session_turn_on w i c = by_session w i (slice_get w.sessions i) refl c

  telling_by : (w : World) (i : ℕ) (s : Session) (o : Option Untold) → s.untold ≡ o → slice_get w.sessions i ≡ Some s → On w → On (telling_of i s o w)
  telling_by w i s None e there c = c
  telling_by w i s (Some u) e there c = told_on w i s u e there c

  telling_some : (w : World) (i : ℕ) (o : Option Session) → slice_get w.sessions i ≡ o → On w → On (telling_of_some i o w)
  telling_some w i None e c = c
  telling_some w i (Some s) e c = telling_by w i s s.untold refl e c

  pub telling_turn_on : (w : World) (i : ℕ) → On w → On (telling_turn i w)
  unfolding telling_turn
  telling_turn_on w i c = telling_some w i (slice_get w.sessions i) refl c

  -- ---- propagation

  -- where all is durable, any step that comes next may follow
  pub durable_there : (w : World) (db : DbId) → (database_at db w).made ≤ (database_at db w).durable → is_durable_at db w ≡ true
  durable_there w db le = not_from_false (nat_lt (database_at db w).durable (database_at db w).made) (le-ltb (database_at db w).durable (database_at db w).made le)

  follows : (w : World) (s : Sending) → On w → ((db : DbId) → (database_at db w).made ≤ (database_at db w).durable) → next_sending w ≡ Some s → may_follow w s ≡ true
  follows w (offers at to) c d e = durable_there w at.db (d at.db)
  follows w (arrives at a) c d e = refl
  follows w (confirms at number cs) c d e =
      let k = sound_now w c in
      let x = confirms_so w at number cs e in
      let o = other_db at.db in
      let within = come_within (database_at o w).tables at number (k.come at number x.sent) in
      let seen = k.seen o (d o) in
      le-leb number (database_at o w).durable_seen (omega (arith, within, seen))

  -- the step is legal
  send_on : (w : World) (actor : ℕ) (s : Sending) → is_sender actor ≡ true → HasBegun On actor w → is_due w ≡ false → next_sending w ≡ Some s → may_follow w s ≡ true → (step : Step) × MayStep actor step w (sent actor s w)
  send_on w actor (offers at to) by k calm e f = (Offer at to, record { by = by; calm = calm; next = e; durable = f; result = refl })
  send_on w actor (arrives at a) by k calm e f =
      (Arrive at a.outcome, record { arriving = a; outcome_is = refl; sends = record { by = by; calm = calm; next = e; durable = f; result = refl } })
  send_on w actor (confirms at number cs) by k calm e f =
      (Confirm at, record { number = number; changes = cs; sends = record { by = by; calm = calm; next = e; durable = f; result = refl } })

  -- behind it the world is on the clock, and one entry of the actor is added
  record HasSent (actor : ℕ) (w new : World) : Type 0 where
    step : Step
    on : On new
    adds : Adds actor step w new

  sent_so : (w : World) (actor : ℕ) (s : Sending) → is_sender actor ≡ true → HasBegun On actor w → is_due w ≡ false → next_sending w ≡ Some s → may_follow w s ≡ true → HasSent actor w (sent actor s w)
  sent_so w actor s by k calm e f =
      let m = send_on w actor s by k calm e f in
      record { step = m.0; on = step_on actor m.0 k.on (k.go m.0) m.1; adds = step_adds actor m.0 w (sent actor s w) m.1 }

  before_sending : (w : World) (actor : ℕ) (s : Sending) (b : Bool) → may_follow w s ≡ b → is_sender actor ≡ true → IsCalmTurn On actor w → next_sending w ≡ Some s → HasSent actor (if b then w else flushed actor w) (sent actor s (if b then w else flushed actor w))
  before_sending w actor s true f by k e = sent_so w actor s by k.begun_so k.calm e f
  before_sending w actor s false f by k e =
      let x = flushed_so w actor k.begun_so.by k.begun_so.on in
      let v = flushed actor w in
      sent_so v actor s by (record { on = x.on; go = go_flush w actor k.begun_so.by k.begun_so.go; by = same_actor v w actor x.sessions k.begun_so.by }) (x.due_same ∙ k.calm) (x.sends ∙ e) (follows v s x.on x.durable (x.sends ∙ e))

  propagated_cases : (w : World) (actor : ℕ) (o : Option Sending) → next_sending w ≡ o → is_sender actor ≡ true → IsCalmTurn On actor w → On (propagated_by actor o w)
  propagated_cases w actor None e by k = k.begun_so.on
  propagated_cases w actor (Some s) e by k = (before_sending w actor s (may_follow w s) refl by k e).on

  propagated_on : (w : World) (actor : ℕ) → is_sender actor ≡ true → IsCalmTurn On actor w → On (propagated actor w)
  unfolding propagated
  propagated_on w actor by k = propagated_cases w actor (next_sending w) refl by k

  -- ---- the timer and the propagator

  timer_if : (w : World) (b : Bool) → On w → On (if b then begun 64 (next_of w) w else w)
  timer_if w true c = (begun_turn w 64 (or_left (nat_lt 64 (length w.sessions) || true) false (or_right (nat_lt 64 (length w.sessions)) true refl)) c).begun_so.on
  timer_if w false c = c

  pub timer_on : (w : World) → On w → On (timer_turn (next_of w) w)
  unfolding timer_turn
  timer_on w c = timer_if w (any_live w) c

  sender_is : (w : World) (actor : ℕ) → is_sender actor ≡ true → is_actor w actor ≡ true
  sender_is w actor e = or_right (nat_lt actor (length w.sessions) || (actor == 64)) (is_sender actor) e

  propagator_if : (w : World) (b : Bool) → On w → On (if b then propagated 65 (begun 65 (next_of w) w) else w)
  propagator_if w true c = propagated_on (begun 65 (next_of w) w) 65 refl (begun_turn w 65 (sender_is w 65 refl) c)
  propagator_if w false c = c

  pub propagator_on : (w : World) → On w → On (propagator_turn (next_of w) w)
  unfolding propagator_turn
  propagator_on w c = propagator_if w (any_live w) c

  -- ---- the closing turn

  closing_by : (w : World) → is_actor w 66 ≡ true
  closing_by w = sender_is w 66 refl

  closing_cases : (w : World) (o : Option Sending) → next_sending w ≡ o → IsCalmTurn On 66 w → HasBegun On 66 (propagated_by 66 o w)
  closing_cases w None e k = k.begun_so
  closing_cases w (Some s) e k =
      let x = before_sending w 66 s (may_follow w s) refl refl k e in
      let v = if may_follow w s then w else flushed 66 w in
      record { on = x.on; go = go_closing x.step v (sent 66 s v) x.adds; by = closing_by (sent 66 s v) }

  closing_step : (w : World) → HasBegun On 66 w → HasBegun On 66 (drained_once w)
  unfolding propagated
  closing_step w k = closing_cases (caught_up 66 w) (next_sending (caught_up 66 w)) refl (caught_so w 66 k)

  drained_on : (n : ℕ) (w : World) → HasBegun On 66 w → HasBegun On 66 (drained n w)
  unfolding drained
  drained_on zero w k = k
  drained_on (suc n) w k = closing_step (drained n w) (drained_on n w k)

  pub draining_on : (n : ℕ) (w : World) → On w → HasBegun On 66 (drained n (read_clock (next_of w) w))
  draining_on n w c = drained_on n (read_clock (next_of w) w) (read_so w 66 (closing_by w) c)

  pub closing_on : (n : ℕ) (w : World) → On w → On (closing_turn (next_of w) n w)
  unfolding closing_turn
  closing_on n w c = let k = draining_on n w c in (flushed_so (drained n (read_clock (next_of w) w)) 66 k.by k.on).on

  -- it ends with a flush
  pub closing_flushed : (n : ℕ) (w : World) → On w → IsFlushed (drained n (read_clock (next_of w) w)) (closing_turn (next_of w) n w)
  unfolding closing_turn
  closing_flushed n w c = let k = draining_on n w c in flushed_so (drained n (read_clock (next_of w) w)) 66 k.by k.on

  -- ---- turns that are broken off

  pub read_on : (w : World) → On w → On (read_clock (next_of w) w)
  read_on w c = goes.read w c

  pub begun_on : (w : World) (actor : ℕ) → is_actor w actor ≡ true → On w → On (begun actor (next_of w) w)
  begun_on w actor by c = (begun_turn w actor by c).begun_so.on

  pub flushed_on : (w : World) (actor : ℕ) → is_actor w actor ≡ true → On w → On (flushed actor w)
  flushed_on w actor by c = (flushed_so w actor by c).on

  pub begun_flushed_on : (w : World) (actor : ℕ) → is_actor w actor ≡ true → On w → On (flushed actor (begun actor (next_of w) w))
  begun_flushed_on w actor by c = let k = begun_turn w actor by c in flushed_on (begun actor (next_of w) w) actor k.begun_so.by k.begun_so.on

  -- the closing turn, while it drains
  pub drains_on : (n : ℕ) (w : World) → On w → On (drained n (read_clock (next_of w) w))
  drains_on n w c = (draining_on n w c).on

  pub drains_caught_on : (n : ℕ) (w : World) → On w → On (caught_up 66 (drained n (read_clock (next_of w) w)))
  drains_caught_on n w c = (caught_so (drained n (read_clock (next_of w) w)) 66 (draining_on n w c)).begun_so.on

  pub drains_flushed_on : (n : ℕ) (w : World) → On w → On (flushed 66 (caught_up 66 (drained n (read_clock (next_of w) w))))
  drains_flushed_on n w c =
      let k = caught_so (drained n (read_clock (next_of w) w)) 66 (draining_on n w c) in
      flushed_on (caught_up 66 (drained n (read_clock (next_of w) w))) 66 k.begun_so.by k.begun_so.on
