-- What each legal step adds to a world, and what it leaves durable and on its way.
use Rattle.std.proofs.Common.{◌≡◌, ◌≢◌, ℕ, ◌+◌, ◌≤◌, ◌⊎◌, inl, inr, List, [], ◌∷◌, ◌++◌, Bool, true, false, Option, Some, None, refl, sym, ap, subst, ◌∙◌, arith, length}
use Rattle.std.specs.Prelude.{slice_get, slice_set, nat_lt}
use Rattle.std.proofs.lemmas.Bool.{ltb-false, not-true, true≢false}
use Rattle.std.proofs.lemmas.Option.{none-some, slice_get_within}
use Rattle.aq_base.specs.declared.DbId.{DbId}
use Rattle.aq_base.specs.declared.DbId.TheVariants.{Home, Away}
use Rattle.queue_rows.specs.Session.{Session, Untold}
use Rattle.queue_rows.specs.World.{at_home, at_away, other_db, World, on_its_way, came, database_at, stepped, with_session}
use Rattle.queue_rows.specs.Turns.{ids_taken, due_at, timed, having_called, called_in, called, all_durable}
use Rattle.queue_rows.specs.declared.change.Change.{Change}
use Rattle.queue_rows.specs.declared.reply.Reply.{Reply}
use Rattle.queue_rows.specs.declared.history.SlotRef.{SlotRef}
use Rattle.queue_rows.specs.declared.history.Arrival.{Arrival}
use Rattle.queue_rows.specs.declared.history.Arrival.TheVariants.{Copied, Seen, Failed}
use Rattle.queue_rows.specs.declared.history.Step.{Step}
use Rattle.queue_rows.specs.declared.history.Step.TheVariants.{Call, Park, Timer, Offer, Arrive, Confirm, Told, Flush, End}
use Rattle.queue_rows.proofs.Sessions.{get_set-cases}
use Rattle.history_laws.specs.Durability.{is_flush}
use Rattle.queue_rows.specs.Sending.{sent, offers, arrives, confirms, ids_copied, home_of, away_of, pair_number, transit_after, is_durable_at}
use Rattle.queue_rows.specs.Legal.{MayStep}
use Rattle.run_laws.proofs.Stepping.{Leads, no_changes, no_ids, only_at, ids_at, world_at, call_leads, call_transit, step_sessions, step_transit, leads_with_session, leads_with_transit, leads_durable}
use Rattle.run_laws.proofs.Worlds.{quiet_leads, timed_leads, due_changes, arrival_changes, arrival_leads, arrival_transit, confirm_leads}
use Rattle.run_turns.proofs.Adding.{Adds, step_adds, sessions-sent}
use Rattle.run_turns.proofs.Sounding.{StaysDurable, stays_stepped, stays_session, stays_transit, stays_standing, stays_taking, arrival_stays, other_stage}
use Rattle.run_fates.proofs.Arrivals.{entry_is}

-- ---- what is added

-- the world has one entry more, which is that step of that actor
pub record Led (actor : ℕ) (step : Step) (w new : World) : Type 0 where
  pub changes : DbId → List Change
  pub taken : DbId → ℕ
  pub leads : Leads w new changes taken
  pub made_by : leads.entry.actor ≡ actor
  pub step_is : leads.entry.step ≡ step

led : (actor : ℕ) (step : Step) (w new result : World) (cs : DbId → List Change) (taken : DbId → ℕ) → new ≡ result → Leads w result cs taken → Adds actor step w new → Led actor step w new
led actor step w new result cs taken same b a =
    let k = subst (λ x. Leads w x cs taken) (sym same) b in
    let e = entry_is actor step w new cs taken k a in
    record { changes = cs; taken = taken; leads = k; made_by = ap (λ x. x.actor) e; step_is = ap (λ x. x.step) e }

session_leads : (w : World) (actor i : ℕ) (step : Step) (behind : Session) → Leads w (with_session i behind (stepped actor w [] [] step)) no_changes no_ids
session_leads w actor i step behind = leads_with_session w (stepped actor w [] [] step) no_changes no_ids i behind (quiet_leads actor w step)

offer_leads : (w : World) (actor : ℕ) (at : SlotRef) (to : List ℕ) → Leads w (sent actor (offers at to) w) no_changes no_ids
unfolding sent
offer_leads w actor at to = leads_with_transit w (stepped actor w [] [] (Offer at to)) no_changes no_ids (Some (record { slot = at; stage = on_its_way })) (quiet_leads actor w (Offer at to))

pub step_led : (w new : World) (actor : ℕ) (step : Step) → MayStep actor step w new → Led actor step w new
step_led w new i (Call number reply) m =
    let s = m.session in
    led i (Call number reply) w new (called i s reply m.changes m.after w) (only_at s.at m.changes) (ids_at s.at (ids_taken reply)) m.calls.result (call_leads w i s reply m.changes m.after s.at) (step_adds i (Call number reply) w new m)
step_led w new i (Park number) m =
    let s = m.session in
    let behind = record s { parked = Some m.since } in
    led i (Park number) w new (with_session i behind (stepped i w [] [] (Park (s.next + 1)))) no_changes no_ids m.parks.result (session_leads w i i (Park (s.next + 1)) behind) (step_adds i (Park number) w new m)
step_led w new i (Told number) m =
    let behind = record m.session { untold = None } in
    led i (Told number) w new (with_session i behind (stepped i w [] [] (Told m.untold.number))) no_changes no_ids m.tells.result (session_leads w i i (Told m.untold.number) behind) (step_adds i (Told number) w new m)
step_led w new i Flush m =
    led i Flush w new (all_durable (stepped i w [] [] Flush)) no_changes no_ids m.result (leads_durable w (stepped i w [] [] Flush) no_changes no_ids (quiet_leads i w Flush)) (step_adds i Flush w new m)
step_led w new i End m =
    let behind = record m.0 { pending = []; marks = []; live = false } in
    led i End w new (with_session i behind (stepped i w [] [] End)) no_changes no_ids m.1.result (session_leads w i i End behind) (step_adds i End w new m)
step_led w new i Timer m = led i Timer w new (timed i w) (due_changes w) no_ids m.result (timed_leads i w) (step_adds i Timer w new m)
step_led w new i (Offer at to) m = led i (Offer at to) w new (sent i (offers at to) w) no_changes no_ids m.result (offer_leads w i at to) (step_adds i (Offer at to) w new m)
step_led w new i (Arrive at outcome) m =
    let a = m.arriving in
    led i (Arrive at outcome) w new (sent i (arrives at a) w) (arrival_changes at a) (ids_at (other_db at.db) (ids_copied a.outcome)) m.sends.result (arrival_leads i w at a) (step_adds i (Arrive at outcome) w new m)
step_led w new i (Confirm at) m =
    led i (Confirm at) w new (sent i (confirms at m.number m.changes) w) (only_at at.db m.changes) no_ids m.sends.result (confirm_leads i w at m.number m.changes) (step_adds i (Confirm at) w new m)

-- ---- what is durable

call_stays : (w : World) (i : ℕ) (s after : Session) (reply : Reply) (cs : List Change) → StaysDurable w (called i s reply cs after w)
call_stays w i s after reply cs =
    let at = s.at in
    let step = Call (s.next + 1) reply in
    let x = having_called (world_at w i s reply cs after at) s after in
    stays_standing w (called_in (world_at w i s reply cs after at) i s after) at cs
    (stays_session w (world_at w i s reply cs after at) i x (stays_taking w (stepped i w (at_home at cs) (at_away at cs) step) at (ids_taken reply) (stays_stepped i w (at_home at cs) (at_away at cs) step)))

session_stays : (w : World) (actor i : ℕ) (step : Step) (behind : Session) → StaysDurable w (with_session i behind (stepped actor w [] [] step))
session_stays w actor i step behind = stays_session w (stepped actor w [] [] step) i behind (stays_stepped actor w [] [] step)

offer_stays : (w : World) (actor : ℕ) (at : SlotRef) (to : List ℕ) → StaysDurable w (sent actor (offers at to) w)
unfolding sent
offer_stays w actor at to = stays_transit w (stepped actor w [] [] (Offer at to)) (Some (record { slot = at; stage = on_its_way })) (stays_stepped actor w [] [] (Offer at to))

confirm_stays : (w : World) (actor : ℕ) (at : SlotRef) (number : ℕ) (cs : List Change) → StaysDurable w (sent actor (confirms at number cs) w)
unfolding sent
confirm_stays w actor at number cs = stays_transit w (stepped actor w (at_home at.db cs) (at_away at.db cs) (Confirm at)) None (stays_stepped actor w (at_home at.db cs) (at_away at.db cs) (Confirm at))

-- each step but a flush leaves what is durable
pub step_stays : (w new : World) (actor : ℕ) (step : Step) → MayStep actor step w new → is_flush step ≡ false → StaysDurable w new
step_stays w new i (Call number reply) m f = subst (StaysDurable w) (sym m.calls.result) (call_stays w i m.session m.after reply m.changes)
step_stays w new i (Park number) m f = subst (StaysDurable w) (sym m.parks.result) (session_stays w i i (Park (m.session.next + 1)) (record m.session { parked = Some m.since }))
step_stays w new i (Told number) m f = subst (StaysDurable w) (sym m.tells.result) (session_stays w i i (Told m.untold.number) (record m.session { untold = None }))
step_stays w new i Flush m f = absurd (true≢false f)
step_stays w new i End m f = subst (StaysDurable w) (sym m.1.result) (session_stays w i i End (record m.0 { pending = []; marks = []; live = false }))
step_stays w new i Timer m f = subst (StaysDurable w) (sym m.result) (stays_stepped i w (due_at Home w) (due_at Away w) Timer)
step_stays w new i (Offer at to) m f = subst (StaysDurable w) (sym m.result) (offer_stays w i at to)
step_stays w new i (Arrive at outcome) m f = subst (StaysDurable w) (sym m.sends.result) (arrival_stays w i at m.arriving)
step_stays w new i (Confirm at) m f = subst (StaysDurable w) (sym m.sends.result) (confirm_stays w i at m.number m.changes)

-- all is durable
pub record AllDurable (db : DbId) (w : World) : Type 0 where
  pub made : (database_at db w).durable ≡ (database_at db w).made
  pub seen : (database_at db w).durable_seen ≡ length (database_at db w).tables.seen

flush_durable : (w : World) (db : DbId) → AllDurable db (all_durable w)
flush_durable w Home = record { made = refl; seen = refl }
flush_durable w Away = record { made = refl; seen = refl }

-- and so it is behind a flush
pub step_flushes : (w new : World) (actor : ℕ) (step : Step) → MayStep actor step w new → is_flush step ≡ true → (db : DbId) → AllDurable db new
step_flushes w new i (Call number reply) m f db = absurd (true≢false (sym f))
step_flushes w new i (Park number) m f db = absurd (true≢false (sym f))
step_flushes w new i (Told number) m f db = absurd (true≢false (sym f))
step_flushes w new i Flush m f db = subst (AllDurable db) (sym m.result) (flush_durable (stepped i w [] [] Flush) db)
step_flushes w new i End m f db = absurd (true≢false (sym f))
step_flushes w new i Timer m f db = absurd (true≢false (sym f))
step_flushes w new i (Offer at to) m f db = absurd (true≢false (sym f))
step_flushes w new i (Arrive at outcome) m f db = absurd (true≢false (sym f))
step_flushes w new i (Confirm at) m f db = absurd (true≢false (sym f))

-- ---- what is to be told

-- the session of that number had that to be told
pub record WasUntold (w : World) (j : ℕ) (u : Untold) : Type 0 where
  pub before : Session
  pub there : slice_get w.sessions j ≡ Some before
  pub told : before.untold ≡ Some u

-- whatever is to be told was so before
abbrev pub HadUntold : World → World → Type 0
HadUntold w new = (j : ℕ) (y : Session) (u : Untold) → slice_get new.sessions j ≡ Some y → y.untold ≡ Some u → WasUntold w j u

had_same : (w new : World) → new.sessions ≡ w.sessions → HadUntold w new
had_same w new e j y u there told = record { before = y; there = ap (λ xs. slice_get xs j) (sym e) ∙ there; told = told }

had_set : (w : World) (actor i : ℕ) (step : Step) (s behind : Session) → slice_get w.sessions i ≡ Some s → ((u : Untold) → behind.untold ≡ Some u → s.untold ≡ Some u) → HadUntold w (with_session i behind (stepped actor w [] [] step))
had_set w actor i step s behind at same j y u there told = by (get_set-cases w.sessions i j behind y (slice_get_within w.sessions i s at) (ap (λ xs. slice_get (slice_set xs i behind) j) (sym (step_sessions actor w [] [] step)) ∙ there))
  where
    by : ((j ≡ i) × (Some behind ≡ Some y)) ⊎ ((j ≢ i) × (slice_get w.sessions j ≡ Some y)) → WasUntold w j u
    by (inl p) =
        let it : behind ≡ y = (let a : Some behind ≡ Some y = p.1 in cc) in
        record { before = s; there = ap (slice_get w.sessions) p.0 ∙ at; told = same u (ap (λ x. x.untold) it ∙ told) }
    by (inr p) = record { before = y; there = p.1; told = told }

-- the step is no call
pub step_untold : (w new : World) (actor : ℕ) (step : Step) → MayStep actor step w new → ((n : ℕ) (reply : Reply) → step ≢ Call n reply) → HadUntold w new
step_untold w new i (Call number reply) m f = absurd (f number reply refl)
step_untold w new i (Park number) m f =
    subst (HadUntold w) (sym m.parks.result) (had_set w i i (Park (m.session.next + 1)) m.session (record m.session { parked = Some m.since }) m.parks.ready.there (λ u e. e))
step_untold w new i (Told number) m f =
    subst (HadUntold w) (sym m.tells.result) (had_set w i i (Told m.untold.number) m.session (record m.session { untold = None }) m.tells.there (λ u e. absurd (none-some u e)))
step_untold w new i Flush m f = subst (HadUntold w) (sym m.result) (had_same w (all_durable (stepped i w [] [] Flush)) (step_sessions i w [] [] Flush))
step_untold w new i End m f = subst (HadUntold w) (sym m.1.result) (had_set w i i End m.0 (record m.0 { pending = []; marks = []; live = false }) m.1.ready.there (λ u e. e))
step_untold w new i Timer m f = subst (HadUntold w) (sym m.result) (had_same w (timed i w) (step_sessions i w (due_at Home w) (due_at Away w) Timer))
step_untold w new i (Offer at to) m f = subst (HadUntold w) (sym m.result) (had_same w (sent i (offers at to) w) (sessions-sent i (offers at to) w))
step_untold w new i (Arrive at outcome) m f = subst (HadUntold w) (sym m.sends.result) (had_same w (sent i (arrives at m.arriving) w) (sessions-sent i (arrives at m.arriving) w))
step_untold w new i (Confirm at) m f = subst (HadUntold w) (sym m.sends.result) (had_same w (sent i (confirms at m.number m.changes) w) (sessions-sent i (confirms at m.number m.changes) w))

-- ---- what is on its way

-- The slot that is being sent is the same; or one was offered, of a database whose commits are all durable; or none is on its way.
pub data Carries (w new : World) : Type 0 where
  keeps : new.transit ≡ w.transit → Carries w new
  starts : (at : SlotRef) → new.transit ≡ Some (record { slot = at; stage = on_its_way }) → (database_at at.db new).made ≤ (database_at at.db new).durable → Carries w new
  leaves : ((at : SlotRef) → new.transit ≡ Some (record { slot = at; stage = on_its_way }) → ⊥) → Carries w new

offer_transit : (w : World) (actor : ℕ) (at : SlotRef) (to : List ℕ) → (sent actor (offers at to) w).transit ≡ Some (record { slot = at; stage = on_its_way })
unfolding sent
offer_transit w actor at to = refl

-- an offer commits nothing
offer_durable : (w : World) (actor : ℕ) (at : SlotRef) (to : List ℕ) → is_durable_at at.db w ≡ true → (database_at at.db (sent actor (offers at to) w)).made ≤ (database_at at.db (sent actor (offers at to) w)).durable
offer_durable w actor at to e =
    let new = sent actor (offers at to) w in
    let count : (database_at at.db new).made ≡ (database_at at.db w).made + 0 = (offer_leads w actor at to).count at.db in
    let stays = (offer_stays w actor at to).durable at.db in
    let le = ltb-false (database_at at.db w).durable (database_at at.db w).made (not-true (nat_lt (database_at at.db w).durable (database_at at.db w).made) e) in
    omega (arith, count, stays, le)

confirm_transit : (w : World) (actor : ℕ) (at : SlotRef) (number : ℕ) (cs : List Change) → (sent actor (confirms at number cs) w).transit ≡ None
unfolding sent
confirm_transit w actor at number cs = refl

none_on_way : (w : World) (at : SlotRef) (outcome : Arrival) (x : SlotRef) → transit_after w at outcome ≡ Some (record { slot = x; stage = on_its_way }) → ⊥
none_on_way w at (Copied id) x e = other_stage (record { slot = x; stage = on_its_way }) (record { slot = at; stage = came (pair_number (database_at (other_db at.db) w).tables at) }) refl refl (sym e)
none_on_way w at Seen x e = other_stage (record { slot = x; stage = on_its_way }) (record { slot = at; stage = came (pair_number (database_at (other_db at.db) w).tables at) }) refl refl (sym e)
none_on_way w at (Failed cause disabled) x e = absurd (none-some (record { slot = x; stage = on_its_way }) e)

pub step_carries : (w new : World) (actor : ℕ) (step : Step) → MayStep actor step w new → Carries w new
step_carries w new i (Call number reply) m = keeps (ap (λ x. x.transit) m.calls.result ∙ call_transit w i m.session reply m.changes m.after m.session.at)
step_carries w new i (Park number) m = keeps (ap (λ x. x.transit) m.parks.result ∙ step_transit i w [] [] (Park (m.session.next + 1)))
step_carries w new i (Told number) m = keeps (ap (λ x. x.transit) m.tells.result ∙ step_transit i w [] [] (Told m.untold.number))
step_carries w new i Flush m = keeps (ap (λ x. x.transit) m.result ∙ step_transit i w [] [] Flush)
step_carries w new i End m = keeps (ap (λ x. x.transit) m.1.result ∙ step_transit i w [] [] End)
step_carries w new i Timer m = keeps (ap (λ x. x.transit) m.result ∙ step_transit i w (due_at Home w) (due_at Away w) Timer)
step_carries w new i (Offer at to) m = starts at (ap (λ x. x.transit) m.result ∙ offer_transit w i at to) (subst (λ x. (database_at at.db x).made ≤ (database_at at.db x).durable) (sym m.result) (offer_durable w i at to m.durable))
step_carries w new i (Arrive at outcome) m =
    let a = m.arriving in
    let arrived = stepped i w (home_of at.db a.origin a.there) (away_of at.db a.origin a.there) (Arrive at a.outcome) in
    leaves (λ x e. none_on_way arrived at a.outcome x (sym (arrival_transit i w at a) ∙ ap (λ y. y.transit) (sym m.sends.result) ∙ e))
step_carries w new i (Confirm at) m = leaves (λ x e. absurd (none-some (record { slot = x; stage = on_its_way }) (sym (confirm_transit w i at m.number m.changes) ∙ ap (λ y. y.transit) (sym m.sends.result) ∙ e)))
