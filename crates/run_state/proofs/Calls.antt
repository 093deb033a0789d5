-- What a call, a telling, a wait and an end make of a run.
use Rattle.std.proofs.Common.{◌≡◌, ℕ, ◌+◌, ◌<◌, ◌≤◌, ◌^◌, List, [], Option, Some, None, refl, sym, ap, subst, ◌∙◌, arith, is_some, if◌then◌else◌, Bool, true, false}
use Rattle.std.specs.Prelude.{slice_get, slice_set, option_map, IfSome}
use Rattle.aq_base.specs.declared.DbId.{DbId}
use Rattle.aq_base.specs.declared.DbId.TheVariants.{Home, Away}
use Rattle.queue_rows.specs.Session.{Session, standing_after}
use Rattle.queue_rows.specs.Turns.{ids_taken, parked, ended, flushed, told, standing, called_in, all_durable, is_durable}
use Rattle.queue_rows.specs.World.{at_home, at_away, World, database_at, stepped, with_session}
use Rattle.queue_rows.specs.declared.change.Change.{Change}
use Rattle.queue_rows.specs.declared.session.Pending.{Pending}
use Rattle.queue_rows.specs.declared.history.Arrival.{Arrival}
use Rattle.queue_rows.specs.declared.history.Arrival.TheVariants.{Copied, Seen, Failed}
use Rattle.queue_rows.specs.declared.history.Step.{Step}
use Rattle.queue_rows.specs.declared.history.Step.TheVariants.{Call, Park, Told, Flush, End}
use Rattle.sessions.specs.declared.state.SessionState.{SessionState}
use Rattle.queue_rows.specs.Sending.{home_of, away_of, ids_copied, taking_ids}
use Rattle.run_state.specs.CallEffects.{IsCallable, IsLaterThan, called_with, closed_call, done_by, entered_as, entered_call, holding}
use Rattle.session_registry.specs.Sessions.{session_of, unmarked, changed_at, after_call, after_park, after_reply, after_end, gone_in, left_by, IsAbsent, OfSession}
use Rattle.run_state.specs.declared.call_effect.CallEffect.{CallEffect}
use Rattle.run_state.specs.declared.call_effect.Holdings.{Holdings}
use Rattle.session_registry.specs.declared.new_positions.NewPositions.{NewPositions}
use Rattle.session_registry.proofs.Results.{of_some}
use Rattle.session_registry.proofs.Changing.{changed_there, got_changed}
use Rattle.session_registry.proofs.Leaving.{standing_is}
use Rattle.session_registry.proofs.ShownSessions.{changed_twice}

-- ---- a session is set

pub sessions-stepped : (i : ℕ) (w : World) (home away : List Change) (step : Step) → (stepped i w home away step).sessions ≡ w.sessions
unfolding stepped
sessions-stepped i w home away step = refl

durable_if : (i : ℕ) (w : World) (b : Bool) → (if b then w else all_durable (stepped i w [] [] Flush)).sessions ≡ w.sessions
durable_if i w true = refl
durable_if i w false = sessions-stepped i w [] [] Flush

pub sessions-flushed : (i : ℕ) (w : World) → (flushed i w).sessions ≡ w.sessions
unfolding flushed
sessions-flushed i w = durable_if i w (is_durable w)

-- what a flush is, where all is durable and where it is not
pub flush_still : (i : ℕ) (w : World) → is_durable w ≡ true → w ≡ flushed i w
unfolding flushed
flush_still i w durable = sym (ap (λ b. if b then w else all_durable (stepped i w [] [] Flush)) durable)

pub flush_new : (i : ℕ) (w : World) → is_durable w ≡ false → all_durable (stepped i w [] [] Flush) ≡ flushed i w
unfolding flushed
flush_new i w late = sym (ap (λ b. if b then w else all_durable (stepped i w [] [] Flush)) late)

set_session : (f : Session → Session) (w : World) (i : ℕ) (s : Session) → slice_get w.sessions i ≡ Some s → record w { sessions = changed_at i f w.sessions } ≡ with_session i (f s) w
set_session f w i s there = ap (λ ss. record w { sessions = ss }) (changed_there f w.sessions i s there)

set_after : (f : Session → Session) (i : ℕ) (step : Step) (s : Session) (w : World) → slice_get w.sessions i ≡ Some s
    → (let v = stepped i w [] [] step in record v { sessions = changed_at i f v.sessions }) ≡ with_session i (f s) (stepped i w [] [] step)
set_after f i step s w there = set_session f (stepped i w [] [] step) i s (ap (λ ss. slice_get ss i) (sessions-stepped i w [] [] step) ∙ there)

pub ended_is : (i : ℕ) (s : Session) (w : World) → slice_get w.sessions i ≡ Some s
    → (let v = stepped i w [] [] End in record v { sessions = changed_at i after_end v.sessions }) ≡ ended i s w
ended_is i s w there = set_after after_end i End s w there

pub told_is : (i number : ℕ) (s : Session) (w : World) → slice_get w.sessions i ≡ Some s
    → (let v = stepped i (flushed i w) [] [] (Told number) in record v { sessions = changed_at i after_reply v.sessions }) ≡ told i s number w
told_is i number s w there = set_after after_reply i (Told number) s (flushed i w) (ap (λ ss. slice_get ss i) (sessions-flushed i w) ∙ there)

pub parked_is : (i since n : ℕ) (s : Session) (w : World) → slice_get w.sessions i ≡ Some s → is_some s.parked ≡ false → n ≡ s.next
    → (let v = stepped i w [] [] (Park (n + 1)) in record v { sessions = changed_at i (after_park since) v.sessions }) ≡ parked i s since w
parked_is i since n s w there none number =
    ap (λ k. let v = stepped i w [] [] (Park (k + 1)) in record v { sessions = changed_at i (after_park since) v.sessions }) number
    ∙ set_after (after_park since) i (Park (s.next + 1)) s w there
    ∙ sym (ap (λ b. if b then w else with_session i (record s { parked = Some since }) (stepped i w [] [] (Park (s.next + 1)))) none)

pub waits_still : (i since : ℕ) (s : Session) (w : World) → is_some s.parked ≡ true → w ≡ parked i s since w
waits_still i since s w waits = sym (ap (λ b. if b then w else with_session i (record s { parked = Some since }) (stepped i w [] [] (Park (s.next + 1)))) waits)

-- ---- the session that is found

pub session_there : (o : Option Session) (state : SessionState) → option_map session_of (Some state) ≡ option_map unmarked o → (s : Session) × (o ≡ Some s) × (session_of state ≡ unmarked s)
session_there None state e = absurd (let no : Some (session_of state) ≡ None = e in cc)
session_there (Some s) state e = (s, refl, let is : Some (session_of state) ≡ Some (unmarked s) = e in cc)

pub none_there : (o : Option Session) → None ≡ option_map unmarked o → o ≡ None
none_there None e = refl
none_there (Some s) e = absurd (let no : None ≡ Some (unmarked s) = e in cc)

-- a session that was found is there
pub not_absent : {P : Type 0} (w v : World) (i : ℕ) (state : SessionState) → w ≡ v → option_map session_of (Some state) ≡ option_map unmarked (slice_get w.sessions i) → IsAbsent i v → P
not_absent w v i state same is absent =
    let none : slice_get w.sessions i ≡ None = ap (λ (x : World). slice_get x.sessions i) same ∙ absent in
    absurd (let no : Some (session_of state) ≡ None = is ∙ ap (option_map unmarked) none in cc)

pub caller_of : (w v : World) (i : ℕ) (state : SessionState) (call : CallEffect) → w ≡ v → option_map session_of (Some state) ≡ option_map unmarked (slice_get w.sessions i) → OfSession i v (λ t. IsCallable v i t call)
    → (s : Session) × (slice_get v.sessions i ≡ Some s) × (session_of state ≡ unmarked s) × (IsCallable v i s call)
caller_of w v i state call same is may =
    let s = session_there (slice_get w.sessions i) state is in
    let there : slice_get v.sessions i ≡ Some s.0 = ap (λ x. slice_get x.sessions i) (sym same) ∙ s.1 in
    (s.0, there, s.2, of_some (λ t. IsCallable v i t call) (slice_get v.sessions i) s.0 there may)

-- ---- a call

pub later_sides : (db : DbId) (pend : Option Pending) (cs other home away : List Change) → other ≡ [] → home ≡ home_of db cs other → away ≡ away_of db cs other
    → IfSome pend (λ p. cs ≡ []) → IsLaterThan pend home away
later_sides db None cs other home away none at_h at_a later = tt
later_sides Home (Some p) cs other home away none at_h at_a later = (at_h ∙ later, at_a ∙ none)
later_sides Away (Some p) cs other home away none at_h at_a later = (at_h ∙ none, at_a ∙ later)

-- ids are taken by the call alone
pub next_entered : (db at : DbId) (i number : ℕ) (w : World) (call : CallEffect) (gone : List (List ℕ)) → (database_at db (entered_as i number at call gone w)).next ≡ (database_at db w).next
unfolding stepped
next_entered Home at i number w call gone = refl
next_entered Away at i number w call gone = refl

-- nor by a step
next_stepped : (db : DbId) (w : World) (actor : ℕ) (home away : List Change) (step : Step) → (database_at db (stepped actor w home away step)).next ≡ (database_at db w).next
unfolding stepped
next_stepped Home w actor home away step = refl
next_stepped Away w actor home away step = refl

same_next : (db : DbId) (w v : World) → v.home ≡ w.home → v.away ≡ w.away → (database_at db w).next ≡ (database_at db v).next
same_next Home w v home away = ap (λ d. d.next) (sym home)
same_next Away w v home away = ap (λ d. d.next) (sym away)

pub next_sent : (db : DbId) (w v u : World) (actor : ℕ) (home away : List Change) (step : Step) → v ≡ stepped actor u home away step → v.home ≡ w.home → v.away ≡ w.away
    → (database_at db w).next ≡ (database_at db u).next
next_sent db w v u actor home away step is at_h at_a = same_next db w v at_h at_a ∙ ap (λ x. (database_at db x).next) is ∙ next_stepped db u actor home away step

pub copies_few : (outcome : Arrival) → ids_copied outcome ≤ 1
copies_few (Copied id) = omega arith
copies_few Seen = omega arith
copies_few (Failed cause disabled) = omega arith

taken_sessions : (db : DbId) (n : ℕ) (w : World) → (taking_ids db n w).sessions ≡ w.sessions
taken_sessions Home n w = refl
taken_sessions Away n w = refl

early_mapped : (h : Holdings) (o : Option Session) → IfSome o (λ s. s.next + 1 < 2 ^ 32) → IfSome (option_map (holding h) o) (λ s. s.next + 1 < 2 ^ 32)
early_mapped h None early = tt
early_mapped h (Some s) early = early

-- the session has a number left for its call, whatever it holds
pub early_held : (i : ℕ) (h : Holdings) (ss now : List Session) → now ≡ changed_at i (holding h) ss → IfSome (slice_get ss i) (λ s. s.next + 1 < 2 ^ 32) → IfSome (slice_get now i) (λ s. s.next + 1 < 2 ^ 32)
early_held i h ss now is early =
    subst (λ o. IfSome o (λ s. s.next + 1 < 2 ^ 32)) (sym (ap (λ them. slice_get them i) is ∙ got_changed (holding h) ss i)) (early_mapped h (slice_get ss i) early)

-- what the sessions are after it
sessions_called : (db : DbId) (i : ℕ) (s : Session) (call : CallEffect) (gone : List (List ℕ)) (ss : List Session) (home away : ℕ) → slice_get ss i ≡ Some s → gone ≡ gone_in call.commit
    → left_by db gone (changed_at i (after_call call.positions home away) (changed_at i (holding call.holdings) ss))
    ≡ standing_after db call.commit (slice_set ss i (after_call call.positions home away (holding call.holdings s)))
sessions_called db i s call gone ss home away there are =
    let f = holding call.holdings in
    let g = after_call call.positions home away in
    ap (λ names. left_by db names (changed_at i g (changed_at i f ss))) are
    ∙ ap (left_by db (gone_in call.commit)) (changed_twice f g ss i ∙ changed_there (λ t. g (f t)) ss i s there)
    ∙ sym (standing_is db call.commit (slice_set ss i (g (f s))))

call_at : (db : DbId) (i : ℕ) (w : World) (s : Session) (call : CallEffect) (gone : List (List ℕ)) → slice_get w.sessions i ≡ Some s → gone ≡ gone_in call.commit
    → closed_call i (taking_ids db (ids_taken call.reply) (entered_call i w (home_of db call.commit []) (away_of db call.commit []) (Call (s.next + 1) call.reply) call.holdings)) db call.positions gone
    ≡ standing db call.commit (called_in (taking_ids db (ids_taken call.reply) (stepped i w (at_home db call.commit) (at_away db call.commit) (Call (s.next + 1) call.reply))) i s (done_by call s))
unfolding stepped
call_at Home i w s call gone there are =
    let v = taking_ids Home (ids_taken call.reply) (stepped i w call.commit [] (Call (s.next + 1) call.reply)) in
    ap (λ ss. record v { sessions = ss }) (sessions_called Home i s call gone w.sessions v.home.made v.away.made there are)
call_at Away i w s call gone there are =
    let v = taking_ids Away (ids_taken call.reply) (stepped i w [] call.commit (Call (s.next + 1) call.reply)) in
    ap (λ ss. record v { sessions = ss }) (sessions_called Away i s call gone w.sessions v.home.made v.away.made there are)

-- the ids may be taken last
ids_last : (db : DbId) (i n : ℕ) (w : World) (positions : NewPositions) (gone : List (List ℕ)) → taking_ids db n (closed_call i w db positions gone) ≡ closed_call i (taking_ids db n w) db positions gone
ids_last Home i n w positions gone = refl
ids_last Away i n w positions gone = refl

pub call_is : (db : DbId) (i n number : ℕ) (w entered taken : World) (s : Session) (call : CallEffect) (gone : List (List ℕ)) → slice_get w.sessions i ≡ Some s → s.at ≡ db
    → number ≡ s.next → n ≡ ids_taken call.reply → gone ≡ gone_in call.commit → entered ≡ entered_as i (number + 1) db call gone w → taken ≡ taking_ids db n entered
    → taken ≡ called_with i call w s
call_is db i n number w entered taken s call gone there at number_is ids are first second =
    let step = Call (s.next + 1) call.reply in
    let u = entered_call i w (home_of db call.commit []) (away_of db call.commit []) step call.holdings in
    second ∙ ap (λ k. taking_ids db k entered) ids
    ∙ ap (taking_ids db (ids_taken call.reply)) (first ∙ ap (λ k. entered_as i (k + 1) db call gone w) number_is)
    ∙ ids_last db i (ids_taken call.reply) u call.positions gone
    ∙ call_at db i w s call gone there are
    ∙ ap (λ d. standing d call.commit (called_in (taking_ids d (ids_taken call.reply) (stepped i w (at_home d call.commit) (at_away d call.commit) step)) i s (done_by call s))) (sym at)
