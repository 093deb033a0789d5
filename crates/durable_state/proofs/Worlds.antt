-- What the steps of a run add to its world.
use Rattle.std.proofs.Common.{◌≡◌, ◌+◌, ◌++◌, ℕ, Bool, true, false, not, if◌then◌else◌, List, [], ◌∷◌, length, Option, Some, None, refl, sym, ap, ◌∙◌, subst, arith}
use Rattle.std.specs.Prelude.{◌&&◌, ◌≤◌, IsSome, nat_lt, slice_get, option_map, IfSome, is_some, Result, OnOk}
use Rattle.std.proofs.Math.ListN.{length-set}
use Rattle.std.proofs.lemmas.Bool.{le-ltb}
use Rattle.aq_base.specs.declared.DbId.{DbId}
use Rattle.aq_base.specs.declared.DbId.TheVariants.{Home, Away}
use Rattle.history_laws.specs.Durability.{is_flush}
use Rattle.queue_rows.specs.Propagating.{Arriving}
use Rattle.queue_rows.specs.Session.{Session, standing_after}
use Rattle.queue_rows.specs.World.{at_home, at_away, other_db, World, Transit, entry_of, read_clock, stepped, with_session}
use Rattle.queue_rows.specs.declared.change.Change.{Change}
use Rattle.queue_rows.specs.declared.history.Entry.{Entry}
use Rattle.queue_rows.specs.declared.history.SlotRef.{SlotRef}
use Rattle.queue_rows.specs.declared.history.Step.{Step}
use Rattle.queue_rows.specs.declared.history.Step.TheVariants.{Call, Park, Told, Flush, End, Offer, Arrive, Confirm}
use Rattle.queue_rows.specs.Turns.{ids_taken, all_durable, ended, flushed, is_durable, parked, told}
use Rattle.queue_rows.specs.Sending.{offers, arrives, confirms, home_of, away_of, ids_copied, sent, taking_ids, transit_after}
use Rattle.run_state.specs.CallEffects.{called_with}
use Rattle.run_state.specs.Promises.{promised}
use Rattle.session_registry.specs.Sessions.{OfSession, gone_in, session_of, unmarked}
use Rattle.run_state.proofs.Calls.{session_there}
use Rattle.session_registry.proofs.Leaving.{standing_is}
use Rattle.run_state.proofs.Promises.{length-left, telling_takes}
use Rattle.session_registry.proofs.Results.{of_some, ok_from}
use Rattle.sessions.specs.declared.state.SessionState.{SessionState}
use Rattle.run_state.specs.declared.call_effect.CallEffect.{CallEffect}
use Rattle.durable_state.proofs.Lists.{if_true, if_false}

-- the world has one entry more of that actor, which commits these changes, and is a flush or not
pub record Adds (actor : ℕ) (flush : Bool) (home away : List Change) (w v : World) : Type 0 where
  pub entry : Entry
  pub entries : v.entries ≡ w.entries ++ entry ∷ []
  pub by : entry.actor ≡ actor
  pub is : is_flush entry.step ≡ flush
  pub home_is : entry.home ≡ home
  pub away_is : entry.away ≡ away
  pub moment_is : entry.moment ≡ w.moment
  pub home_opening : v.home.opening ≡ w.home.opening
  pub away_opening : v.away.opening ≡ w.away.opening
  pub count : length v.sessions ≡ length w.sessions

pub adds_stepped : (flush : Bool) (actor : ℕ) (w : World) (home away : List Change) (step : Step) → is_flush step ≡ flush → Adds actor flush home away w (stepped actor w home away step)
unfolding stepped
adds_stepped flush actor w home away step is = record {
  entry = entry_of actor w home away step;
  entries = refl;
  by = refl;
  is = is;
  home_is = refl;
  away_is = refl;
  moment_is = refl;
  home_opening = refl;
  away_opening = refl;
  count = refl;
}

-- ---- what changes nothing of it

adds_sessions : (actor : ℕ) (flush : Bool) (home away : List Change) (w u : World) (ss : List Session) → length ss ≡ length u.sessions → Adds actor flush home away w u → Adds actor flush home away w (record u { sessions = ss })
adds_sessions actor flush home away w u ss many a = record {
  entry = a.entry;
  entries = a.entries;
  by = a.by;
  is = a.is;
  home_is = a.home_is;
  away_is = a.away_is;
  moment_is = a.moment_is;
  home_opening = a.home_opening;
  away_opening = a.away_opening;
  count = many ∙ a.count;
}

adds_transit : (actor : ℕ) (flush : Bool) (home away : List Change) (w u : World) (t : Option Transit) → Adds actor flush home away w u → Adds actor flush home away w (record u { transit = t })
adds_transit actor flush home away w u t a = record {
  entry = a.entry;
  entries = a.entries;
  by = a.by;
  is = a.is;
  home_is = a.home_is;
  away_is = a.away_is;
  moment_is = a.moment_is;
  home_opening = a.home_opening;
  away_opening = a.away_opening;
  count = a.count;
}

adds_ids : (actor : ℕ) (flush : Bool) (home away : List Change) (w u : World) (db : DbId) (n : ℕ) → Adds actor flush home away w u → Adds actor flush home away w (taking_ids db n u)
adds_ids actor flush home away w u Home n a = record {
  entry = a.entry;
  entries = a.entries;
  by = a.by;
  is = a.is;
  home_is = a.home_is;
  away_is = a.away_is;
  moment_is = a.moment_is;
  home_opening = a.home_opening;
  away_opening = a.away_opening;
  count = a.count;
}
adds_ids actor flush home away w u Away n a = record {
  entry = a.entry;
  entries = a.entries;
  by = a.by;
  is = a.is;
  home_is = a.home_is;
  away_is = a.away_is;
  moment_is = a.moment_is;
  home_opening = a.home_opening;
  away_opening = a.away_opening;
  count = a.count;
}

adds_durable : (actor : ℕ) (flush : Bool) (home away : List Change) (w u : World) → Adds actor flush home away w u → Adds actor flush home away w (all_durable u)
adds_durable actor flush home away w u a = record {
  entry = a.entry;
  entries = a.entries;
  by = a.by;
  is = a.is;
  home_is = a.home_is;
  away_is = a.away_is;
  moment_is = a.moment_is;
  home_opening = a.home_opening;
  away_opening = a.away_opening;
  count = a.count;
}

-- ---- sessions

standing_many : (db : DbId) (cs : List Change) (ss : List Session) → length (standing_after db cs ss) ≡ length ss
standing_many db cs ss = ap length (standing_is db cs ss) ∙ length-left db (gone_in cs) ss

pub adds_called : (i : ℕ) (w : World) (s : Session) (call : CallEffect) → Adds i false (at_home s.at call.commit) (at_away s.at call.commit) w (called_with i call w s)
adds_called i w s call =
    let home = at_home s.at call.commit in
    let away = at_away s.at call.commit in
    let step = Call (s.next + 1) call.reply in
    let u = taking_ids s.at (ids_taken call.reply) (stepped i w home away step) in
    adds_sessions i false home away w u _ (standing_many s.at call.commit _ ∙ length-set u.sessions i _) (adds_ids i false home away w (stepped i w home away step) s.at (ids_taken call.reply) (adds_stepped false i w home away step refl))

pub adds_ended : (i : ℕ) (w : World) (s : Session) → Adds i false [] [] w (ended i s w)
adds_ended i w s = adds_sessions i false [] [] w (stepped i w [] [] End) _ (length-set (stepped i w [] [] End).sessions i _) (adds_stepped false i w [] [] End refl)

pub adds_parked : (i since : ℕ) (w : World) (s : Session) → is_some s.parked ≡ false → Adds i false [] [] w (parked i s since w)
adds_parked i since w s none =
    let v = with_session i (record s { parked = Some since }) (stepped i w [] [] (Park (s.next + 1))) in
    subst (Adds i false [] [] w) (sym (if_false (is_some s.parked) w v none))
    (adds_sessions i false [] [] w (stepped i w [] [] (Park (s.next + 1))) _ (length-set (stepped i w [] [] (Park (s.next + 1))).sessions i _) (adds_stepped false i w [] [] (Park (s.next + 1)) refl))

-- ---- readings

pub entries_read : (reading : ℕ) (w : World) → (read_clock reading w).entries ≡ w.entries
unfolding read_clock
entries_read reading w = refl

pub home_read : (reading : ℕ) (w : World) → (read_clock reading w).home.opening ≡ w.home.opening
unfolding read_clock
home_read reading w = refl

pub away_read : (reading : ℕ) (w : World) → (read_clock reading w).away.opening ≡ w.away.opening
unfolding read_clock
away_read reading w = refl

-- ---- durable commits

not_less : (n : ℕ) → not (nat_lt n n) ≡ true
not_less n = ap not (le-ltb n n (omega arith))

durable_now : (u : World) → is_durable (all_durable u) ≡ true
durable_now u = ap (λ (b : Bool). b && not (nat_lt u.away.made u.away.made)) (not_less u.home.made) ∙ not_less u.away.made

durable_if : (b : Bool) (w u : World) → (b ≡ true → is_durable w ≡ true) → is_durable u ≡ true → is_durable (if b then w else u) ≡ true
durable_if true w u here later = here refl
durable_if false w u here later = later

pub durable_flushed : (i : ℕ) (w : World) → is_durable (flushed i w) ≡ true
unfolding flushed
durable_flushed i w = durable_if (is_durable w) w (all_durable (stepped i w [] [] Flush)) (λ h. h) (durable_now (stepped i w [] [] Flush))

pub flushed_same : (i : ℕ) (w : World) → is_durable w ≡ true → flushed i w ≡ w
unfolding flushed
flushed_same i w h = if_true (is_durable w) w (all_durable (stepped i w [] [] Flush)) h

flushed_new : (i : ℕ) (w : World) → is_durable w ≡ false → flushed i w ≡ all_durable (stepped i w [] [] Flush)
unfolding flushed
flushed_new i w h = if_false (is_durable w) w (all_durable (stepped i w [] [] Flush)) h

pub flushed_again : (i : ℕ) (w : World) → flushed i (flushed i w) ≡ flushed i w
flushed_again i w = flushed_same i (flushed i w) (durable_flushed i w)

pub adds_flush : (i : ℕ) (w : World) → is_durable w ≡ false → Adds i true [] [] w (flushed i w)
adds_flush i w h = subst (Adds i true [] [] w) (sym (flushed_new i w h)) (adds_durable i true [] [] w (stepped i w [] [] Flush) (adds_stepped true i w [] [] Flush refl))

-- ---- telling

sessions_stepped : (i : ℕ) (w : World) (step : Step) → (stepped i w [] [] step).sessions ≡ w.sessions
unfolding stepped
sessions_stepped i w step = refl

sessions_if : (i : ℕ) (w : World) (b : Bool) → (if b then w else all_durable (stepped i w [] [] Flush)).sessions ≡ w.sessions
sessions_if i w true = refl
sessions_if i w false = sessions_stepped i w Flush

pub sessions_flushed : (i : ℕ) (w : World) → (flushed i w).sessions ≡ w.sessions
unfolding flushed
sessions_flushed i w = sessions_if i w (is_durable w)

told_flushed : (i number : ℕ) (s : Session) (w : World) → told i s number (flushed i w) ≡ told i s number w
told_flushed i number s w =
    ap (λ (u : World). with_session i (record s { untold = None }) (stepped i u [] [] (Told number))) (flushed_again i w)

some_on : {A : Type 0} (P Q : A → Type 0) (o : Option A) → ((x : A) → P x → Q x) → IfSome o P → IfSome o Q
some_on P Q None f h = tt
some_on P Q (Some x) f h = f x h

-- what was told behind a flush was told with it
told_behind : (i number : ℕ) (w v : World) → OfSession i (flushed i w) (λ s. v ≡ told i s number (flushed i w)) → OfSession i w (λ s. v ≡ told i s number w)
told_behind i number w v h =
    some_on (λ s. v ≡ told i s number (flushed i w)) (λ s. v ≡ told i s number w) (slice_get w.sessions i) (λ s e. e ∙ told_flushed i number s w)
    (subst (λ (ss : List Session). IfSome (slice_get ss i) (λ s. v ≡ told i s number (flushed i w))) (sessions_flushed i w) h)

pub told_on : (i number : ℕ) (w u v : World) → u ≡ flushed i w → OfSession i u (λ s. v ≡ told i s number u) → OfSession i w (λ s. v ≡ told i s number w)
told_on i number w u v is h = told_behind i number w v (subst (λ (x : World). OfSession i x (λ s. v ≡ told i s number x)) is h)

-- of a world in which all is durable
pub adds_told : (i number : ℕ) (w : World) (s : Session) → flushed i w ≡ w → Adds i false [] [] w (told i s number w)
adds_told i number w s same =
    let telling : World → World = λ u. with_session i (record s { untold = None }) (stepped i u [] [] (Told number)) in
    subst (λ (u : World). Adds i false [] [] w (telling u)) (sym same) (adds_sessions i false [] [] w (stepped i w [] [] (Told number)) _ (length-set (stepped i w [] [] (Told number)).sessions i _) (adds_stepped false i w [] [] (Told number) refl))

-- ---- propagation

pub adds_offered : (actor : ℕ) (w : World) (at : SlotRef) (to : List ℕ) → Adds actor false [] [] w (sent actor (offers at to) w)
unfolding sent
adds_offered actor w at to = adds_transit actor false [] [] w (stepped actor w [] [] (Offer at to)) _ (adds_stepped false actor w [] [] (Offer at to) refl)

pub adds_arrived : (actor : ℕ) (w : World) (at : SlotRef) (a : Arriving) → Adds actor false (home_of at.db a.origin a.there) (away_of at.db a.origin a.there) w (sent actor (arrives at a) w)
unfolding sent
adds_arrived actor w at a =
    let home = home_of at.db a.origin a.there in
    let away = away_of at.db a.origin a.there in
    let v = stepped actor w home away (Arrive at a.outcome) in
    adds_transit actor false home away w (taking_ids (other_db at.db) (ids_copied a.outcome) v) (transit_after v at a.outcome)
    (adds_ids actor false home away w v (other_db at.db) (ids_copied a.outcome) (adds_stepped false actor w home away (Arrive at a.outcome) refl))

pub adds_confirmed : (actor : ℕ) (w : World) (at : SlotRef) (number : ℕ) (cs : List Change) → Adds actor false (at_home at.db cs) (at_away at.db cs) w (sent actor (confirms at number cs) w)
unfolding sent
adds_confirmed actor w at number cs =
    let home = at_home at.db cs in
    let away = at_away at.db cs in
    adds_transit actor false home away w (stepped actor w home away (Confirm at)) None (adds_stepped false actor w home away (Confirm at) refl)

-- ---- what was made of a step, where it was made

there_is : (i : ℕ) (w v : World) (f : Session → World) (state : SessionState) → option_map session_of (Some state) ≡ option_map unmarked (slice_get w.sessions i) → OfSession i w (λ s. v ≡ f s)
    → (s : Session) × (v ≡ f s) × (session_of state ≡ unmarked s)
there_is i w v f state is made =
    let s = session_there (slice_get w.sessions i) state is in
    (s.0, of_some (λ t. v ≡ f t) (slice_get w.sessions i) s.0 s.1 made, s.2)

pub called_adds : {T E : Type 0} (made : Result T E) (i : ℕ) (w v : World) (state : SessionState) (call : CallEffect) → option_map session_of (Some state) ≡ option_map unmarked (slice_get w.sessions i)
    → OnOk made (OfSession i w (λ s. v ≡ called_with i call w s)) → OnOk made (Adds i false (at_home state.at call.commit) (at_away state.at call.commit) w v)
called_adds made i w v state call is h = ok_from made h (λ o.
    let s = there_is i w v (called_with i call w) state is o in
    let at : s.0.at ≡ state.at = sym (ap (λ (t : Session). t.at) s.2) in
    subst (λ (d : DbId). Adds i false (at_home d call.commit) (at_away d call.commit) w v) at
    (subst (Adds i false (at_home s.0.at call.commit) (at_away s.0.at call.commit) w) (sym s.1) (adds_called i w s.0 call)))

pub parked_adds : {T E : Type 0} (made : Result T E) (i since : ℕ) (w v : World) (state : SessionState) → option_map session_of (Some state) ≡ option_map unmarked (slice_get w.sessions i)
    → is_some state.parked ≡ false → OnOk made (OfSession i w (λ s. v ≡ parked i s since w)) → OnOk made (Adds i false [] [] w v)
parked_adds made i since w v state is none h = ok_from made h (λ o.
    let s = there_is i w v (λ t. parked i t since w) state is o in
    let still : is_some s.0.parked ≡ false = sym (ap (λ (t : Session). is_some t.parked) s.2) ∙ none in
    subst (Adds i false [] [] w) (sym s.1) (adds_parked i since w s.0 still))

pub ended_adds : {T E : Type 0} (made : Result T E) (i : ℕ) (w v : World) (state : SessionState) → option_map session_of (Some state) ≡ option_map unmarked (slice_get w.sessions i)
    → OnOk made (OfSession i w (λ s. v ≡ ended i s w)) → OnOk made (Adds i false [] [] w v)
ended_adds made i w v state is h = ok_from made h (λ o.
    let s = there_is i w v (λ t. ended i t w) state is o in subst (Adds i false [] [] w) (sym s.1) (adds_ended i w s.0))

pub stepped_adds : {T E : Type 0} (made : Result T E) (actor : ℕ) (w v : World) (home away : List Change) (step : Step) → is_flush step ≡ false
    → OnOk made (v ≡ stepped actor w home away step) → OnOk made (Adds actor false home away w v)
stepped_adds made actor w v home away step quiet did = ok_from made did (λ is. subst (Adds actor false home away w) (sym is) (adds_stepped false actor w home away step quiet))

pub offered_adds : {T E : Type 0} (made : Result T E) (actor : ℕ) (w v : World) (at : SlotRef) (to : List ℕ) → OnOk made (v ≡ sent actor (offers at to) w) → OnOk made (Adds actor false [] [] w v)
offered_adds made actor w v at to did = ok_from made did (λ is. subst (Adds actor false [] [] w) (sym is) (adds_offered actor w at to))

pub arrived_adds : {T E : Type 0} (made : Result T E) (actor : ℕ) (w v : World) (at : SlotRef) (a : Arriving) (home away : List Change) → home_of at.db a.origin a.there ≡ home → away_of at.db a.origin a.there ≡ away
    → OnOk made (v ≡ sent actor (arrives at a) w) → OnOk made (Adds actor false home away w v)
arrived_adds made actor w v at a home away at_h at_a did = ok_from made did (λ is.
    subst (λ (l : List Change). Adds actor false l away w v) at_h (subst (λ (l : List Change). Adds actor false (home_of at.db a.origin a.there) l w v) at_a
    (subst (Adds actor false (home_of at.db a.origin a.there) (away_of at.db a.origin a.there) w) (sym is) (adds_arrived actor w at a))))

pub confirmed_adds : {T E : Type 0} (made : Result T E) (actor : ℕ) (w v : World) (at : SlotRef) (cs : List Change) → OnOk made ((number : ℕ) → v ≡ sent actor (confirms at number cs) w)
    → OnOk made (Adds actor false (at_home at.db cs) (at_away at.db cs) w v)
confirmed_adds made actor w v at cs did = ok_from made did (λ is. subst (Adds actor false (at_home at.db cs) (at_away at.db cs) w) (sym (is 0)) (adds_confirmed actor w at 0 cs))

pub told_adds : (i number : ℕ) (w v : World) (state : SessionState) → option_map session_of (Some state) ≡ option_map unmarked (slice_get w.sessions i)
    → flushed i w ≡ w → OfSession i w (λ s. v ≡ told i s number w) → Adds i false [] [] w v
told_adds i number w v state is same o =
    let s = there_is i w v (λ t. told i t number w) state is o in subst (Adds i false [] [] w) (sym s.1) (adds_told i number w s.0 same)

-- what was promised for it is taken
pub told_takes : (i number : ℕ) (w v : World) (state : SessionState) → option_map session_of (Some state) ≡ option_map unmarked (slice_get w.sessions i)
    → OfSession i w (λ s. IsSome s.untold) → OfSession i w (λ s. v ≡ told i s number w) → promised v + 1 ≤ promised w
told_takes i number w v state is owed did =
    let s = session_there (slice_get w.sessions i) state is in
    let made = of_some (λ t. v ≡ told i t number w) (slice_get w.sessions i) s.0 s.1 did in
    subst (λ (u : World). promised u + 1 ≤ promised w) (sym made)
    (telling_takes i number s.0 w s.1 (of_some (λ t. IsSome t.untold) (slice_get w.sessions i) s.0 s.1 owed))

-- ---- behind a flush

pub flushed_behind : (i : ℕ) (w old new u : World) → w ≡ old → u ≡ new → new ≡ flushed i old → u ≡ flushed i w
flushed_behind i w old new u before behind did = behind ∙ did ∙ ap (flushed i) (sym before)

pub still_flushed : (i : ℕ) (w u : World) → u ≡ flushed i w → flushed i u ≡ u
still_flushed i w u is = ap (flushed i) is ∙ flushed_again i w ∙ sym is

pub session_behind : (i : ℕ) (w u : World) (state : SessionState) → u ≡ flushed i w → option_map session_of (Some state) ≡ option_map unmarked (slice_get w.sessions i)
    → option_map session_of (Some state) ≡ option_map unmarked (slice_get u.sessions i)
session_behind i w u state is there =
    there ∙ sym (ap (λ (ss : List Session). option_map unmarked (slice_get ss i)) (ap (λ (x : World). x.sessions) is ∙ sessions_flushed i w))

pub owed_behind : (i : ℕ) (old u : World) → u ≡ flushed i old → OfSession i old (λ s. IsSome s.untold) → OfSession i u (λ s. IsSome s.untold)
owed_behind i old u is owed =
    subst (λ (ss : List Session). IfSome (slice_get ss i) (λ s. IsSome s.untold)) (sym (ap (λ (x : World). x.sessions) is ∙ sessions_flushed i old)) owed
