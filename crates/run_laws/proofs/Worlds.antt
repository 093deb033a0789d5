-- Worlds begin valid, and each reading and each legal step leaves them so.
use Rattle.std.proofs.Common.{◌≡◌, ◌≢◌, ◌≤◌, ◌+◌, ◌⊎◌, inl, inr, ℕ, List, [], Bool, true, false, max, refl, sym, ap, ◌∙◌, subst, arith, Option, Some, None}
use Rattle.std.specs.Prelude.{slice_get, slice_set, map, min, option_map, if◌then◌else◌}
use Rattle.std.specs.List.{list_any}
use Rattle.std.proofs.lemmas.Bool.{false≢true}
use Rattle.std.proofs.lemmas.Option.{none-some, slice_get_within}
use Rattle.aq_base.specs.declared.DbId.{DbId}
use Rattle.aq_base.specs.declared.DbId.TheVariants.{Home, Away}
use Rattle.aq_base.specs.declared.limits.TheConstants.{MOMENT_LIMIT}
use Rattle.queue_rows.specs.Session.{Session, is_same_db, marks_slot}
use Rattle.queue_rows.specs.Propagating.{Dispatch, dispatch, Arriving, confirming}
use Rattle.queue_rows.specs.World.{greatest_moment, fresh, at_home, at_away, committed_tables, commits_in, other_db, World, Stage, on_its_way, came, Transit, database_at, opened, read_clock, stepped, with_session}
use Rattle.queue_rows.specs.Valid.{is_valid_schedule}
use Rattle.queue_rows.specs.declared.tables.Tables.{Tables}
use Rattle.queue_rows.specs.declared.change.Change.{Change}
use Rattle.queue_rows.specs.declared.history.SlotRef.{SlotRef}
use Rattle.queue_rows.specs.declared.history.SessionScript.{SessionScript}
use Rattle.queue_rows.specs.declared.history.Arrival.{Arrival}
use Rattle.queue_rows.specs.declared.history.Arrival.TheVariants.{Copied, Seen, Failed}
use Rattle.queue_rows.specs.declared.history.Step.{Step}
use Rattle.queue_rows.specs.declared.history.Step.TheVariants.{Call, Park, Timer, Offer, Arrive, Confirm, Told, Flush, End}
use Rattle.queue_rows.proofs.Sessions.{get_set-cases}
use Rattle.valid_laws.specs.PendingLaws.{count_passed}
use Rattle.valid_laws.proofs.Framing.{room_less}
use Rattle.statement_laws.specs.StandingLaws.{count_held, AreStanding}
use Rattle.statement_laws.proofs.Administering.{same_is}
use Rattle.statement_laws.proofs.Framing.{same_db, count_set}
use Rattle.statement_laws.proofs.Standing.{empty_stands, empty_two, two_empty, standing_later, replaced_standing}
use Rattle.statement_laws.proofs.Stepping.{same_standing}
use Rattle.history_laws.specs.ValidWorld.{AreScripts, IsRight}
use Rattle.history_laws.specs.WorldLaws.{MayBegin}
use Rattle.history_laws.proofs.Worlds.{fresh_empty, latest_within, opened_right, opening_within, replaced_by}
use Rattle.history_laws.specs.LocalMarks.{is_remote_at, MarksAreLocal}
use Rattle.history_laws.proofs.Making.{own_db}
use Rattle.queue_rows.specs.Sending.{taking_ids, with_transit, home_of, away_of, offers, arrives, confirms, next_sending, ids_copied, transit_after, sent}
use Rattle.queue_rows.specs.Statements.{slot_sent}
use Rattle.queue_rows.specs.Turns.{due_at, timed, all_durable}
use Rattle.queue_rows.specs.Legal.{MayStep, IsLegal, opens, reads, steps}
use Rattle.run_laws.specs.ValidRun.{IsBeingSent, IsValidWorld}
use Rattle.run_laws.proofs.Arriving.{ArrivesAs, as_seen, as_failed, as_copied, arrives_as}
use Rattle.run_laws.proofs.Calling.{call_valid}
use Rattle.run_laws.proofs.Picking.{picked_sent}
use Rattle.run_laws.proofs.Sendings.{offered, arrives_so, confirms_so}
use Rattle.run_laws.proofs.Stepping.{Leads, no_changes, no_ids, at_both, only_at, ids_at, valid_behind, step_leads, step_sessions, step_transit, leads_with_session, leads_with_transit, leads_taking, leads_durable}
use Rattle.run_laws.proofs.Working.{due_right, due_local, due_rests, sent_dispatched, schedule_valid, taken_right, taken_local, failed_right, failed_local, confirmed_right, confirmed_local}

-- ---- what leads to a world, said of changes that are the same

pub leads_as : (w new : World) (cs ds : DbId → List Change) (taken : DbId → ℕ) → ((db : DbId) → cs db ≡ ds db) → Leads w new cs taken → Leads w new ds taken
leads_as w new cs ds taken same b = record {
  entry = b.entry;
  entries = b.entries;
  changes = λ db. b.changes db ∙ same db;
  at_moment = b.at_moment;
  tables = λ db. b.tables db ∙ ap (λ x. committed_tables (database_at db w).tables x w.moment) (same db);
  count = λ db. b.count db ∙ ap (λ x. (database_at db w).made + commits_in x) (same db);
  next = b.next;
  moment = b.moment;
  scripts = b.scripts;
}

none_both : (db : DbId) → at_both [] [] db ≡ []
none_both Home = refl
none_both Away = refl

pub quiet_leads : (actor : ℕ) (w : World) (step : Step) → Leads w (stepped actor w [] [] step) no_changes no_ids
quiet_leads actor w step = leads_as w (stepped actor w [] [] step) (at_both [] []) no_changes no_ids none_both (step_leads actor w [] [] step)

-- no further id
more_none : (t : Tables) (db : DbId) (n moment : ℕ) (sessions : List Session) → IsRight t db n moment sessions → IsRight t db (n + 0) moment sessions
more_none t db n moment sessions r = let e : n ≡ n + 0 = omega arith in subst (λ k. IsRight t db k moment sessions) e r

-- ---- steps that commit nothing

-- what the sessions hold is right and local
record HoldsRight (w : World) (sessions : List Session) : Type 0 where
  right : (db : DbId) → IsRight (database_at db w).tables db (database_at db w).next w.moment sessions
  local : (db : DbId) → MarksAreLocal (database_at db w).tables db sessions

quiet_valid : (w new : World) → IsValidWorld w → Leads w new no_changes no_ids → HoldsRight w new.sessions → ((t : Transit) → new.transit ≡ Some t → IsBeingSent (database_at t.slot.db w).tables t.slot) → IsValidWorld new
quiet_valid w new v b h sent = valid_behind w new no_changes no_ids v b (λ db. more_none (database_at db w).tables db (database_at db w).next w.moment new.sessions (h.right db)) h.local sent

same_holds : (w : World) → IsValidWorld w → HoldsRight w w.sessions
same_holds w v = record { right = v.databases; local = v.local }

-- one session is replaced by one of its database with no further marks
replaced_holds : (w : World) (i : ℕ) (s behind : Session) → IsValidWorld w → slice_get w.sessions i ≡ Some s → behind.at ≡ s.at → ((id slot : ℕ) → list_any (marks_slot id slot) behind.marks ≡ true → list_any (marks_slot id slot) s.marks ≡ true)
    → ((db : DbId) → is_same_db s.at db ≡ true → AreStanding (database_at db w).tables db (database_at db w).next w.moment (slice_set w.sessions i behind)) → HoldsRight w (slice_set w.sessions i behind)
replaced_holds w i s behind v there same no_more own = record {
  right = λ db. replaced_by (database_at db w).tables db (database_at db w).next w.moment i s behind w.sessions (is_same_db s.at db) refl (v.databases db) there same (own db);
  local = λ db j y e f id slot h. by db j y f id slot h (get_set-cases w.sessions i j behind y (slice_get_within w.sessions i s there) e);
}
  where
    by : (db : DbId) (j : ℕ) (y : Session) → is_same_db y.at db ≡ true → (id slot : ℕ) → list_any (marks_slot id slot) y.marks ≡ true → ((j ≡ i) × (Some behind ≡ Some y)) ⊎ ((j ≢ i) × (slice_get w.sessions j ≡ Some y)) → is_remote_at (database_at db w).tables id slot ≡ false
    by db j y f id slot h (inl p) =
        let it : behind ≡ y = (let a : Some behind ≡ Some y = p.1 in cc) in
        v.local db i s there (same_db s.at y.at db (sym same ∙ ap (λ x. x.at) it) f) id slot (no_more id slot (ap (λ x. list_any (marks_slot id slot) x.marks) it ∙ h))
    by db j y f id slot h (inr p) = v.local db j y p.1 f id slot h

same_session : (w : World) (i : ℕ) (s behind : Session) → IsValidWorld w → slice_get w.sessions i ≡ Some s → behind.at ≡ s.at → behind.pending ≡ s.pending → behind.marks ≡ s.marks → HoldsRight w (slice_set w.sessions i behind)
same_session w i s behind v there same p m =
    replaced_holds w i s behind v there same (λ id slot h. ap (list_any (marks_slot id slot)) (sym m) ∙ h)
    (λ db at. same_standing (database_at db w).tables db (database_at db w).next w.moment i s behind w.sessions (v.databases db).standing there at same p m)

empty_session : (w : World) (i : ℕ) (s behind : Session) → IsValidWorld w → slice_get w.sessions i ≡ Some s → behind.at ≡ s.at → behind.pending ≡ [] → behind.marks ≡ [] → HoldsRight w (slice_set w.sessions i behind)
empty_session w i s behind v there same p m =
    replaced_holds w i s behind v there same (λ id slot h. absurd (false≢true (sym (ap (list_any (marks_slot id slot)) m) ∙ h)))
    (λ db at.
    let t = (database_at db w).tables in
    let next = (database_at db w).next in
    let k = (v.databases db).standing in
    let here = same_db behind.at s.at db same at in
    replaced_standing t t db next next w.moment i s behind w.sessions k there here (empty_stands t next w.moment behind p m) (λ j b e f d. k.each j b e f) (λ j b e f d. (empty_two behind b p m, two_empty b behind p m))
    (room_less t (count_held db w.sessions) (count_held db (slice_set w.sessions i behind)) (λ n. let a = count_set db w.sessions i s behind n there at here in let c = ap (count_passed n) p in omega (arith, a, c)) k.room) k.up)

-- a step of a session that commits nothing
session_valid : (w : World) (actor i : ℕ) (step : Step) (behind : Session) → IsValidWorld w → HoldsRight w (slice_set w.sessions i behind) → IsValidWorld (with_session i behind (stepped actor w [] [] step))
session_valid w actor i step behind v h =
    quiet_valid w (with_session i behind (stepped actor w [] [] step)) v (leads_with_session w (stepped actor w [] [] step) no_changes no_ids i behind (quiet_leads actor w step))
    (subst (λ xs. HoldsRight w (slice_set xs i behind)) (sym (step_sessions actor w [] [] step)) h) (λ t e. v.sent t (sym (step_transit actor w [] [] step) ∙ e))

flush_valid : (w : World) (actor : ℕ) → IsValidWorld w → IsValidWorld (all_durable (stepped actor w [] [] Flush))
flush_valid w actor v =
    quiet_valid w (all_durable (stepped actor w [] [] Flush)) v (leads_durable w (stepped actor w [] [] Flush) no_changes no_ids (quiet_leads actor w Flush)) (subst (HoldsRight w) (sym (step_sessions actor w [] [] Flush)) (same_holds w v))
    (λ t e. v.sent t (sym (step_transit actor w [] [] Flush) ∙ e))

-- ---- due work

due_both : (w : World) (db : DbId) → at_both (due_at Home w) (due_at Away w) db ≡ due_at db w
due_both w Home = refl
due_both w Away = refl

abbrev pub due_changes : World → DbId → List Change
due_changes w db = due_at db w

pub timed_leads : (actor : ℕ) (w : World) → Leads w (timed actor w) (due_changes w) no_ids
timed_leads actor w = leads_as w (timed actor w) (at_both (due_at Home w) (due_at Away w)) (due_changes w) no_ids (due_both w) (step_leads actor w (due_at Home w) (due_at Away w) Timer)

timed_valid : (actor : ℕ) (w : World) → IsValidWorld w → IsValidWorld (timed actor w)
timed_valid actor w v =
    let sessions = step_sessions actor w (due_at Home w) (due_at Away w) Timer in
    let transit = step_transit actor w (due_at Home w) (due_at Away w) Timer in
    valid_behind w (timed actor w) (due_changes w) no_ids v (timed_leads actor w)
    (λ db. let t = (database_at db w).tables in
    more_none (committed_tables t (due_at db w) w.moment) db (database_at db w).next w.moment (timed actor w).sessions
    (subst (IsRight (committed_tables t (due_at db w) w.moment) db (database_at db w).next w.moment) (sym sessions) (due_right t db (slot_sent w) (database_at db w).next w.moment w.sessions (v.databases db) v.last)))
    (λ db. let t = (database_at db w).tables in
    subst (MarksAreLocal (committed_tables t (due_at db w) w.moment) db) (sym sessions) (due_local t db (slot_sent w) (database_at db w).next w.moment w.sessions (v.databases db) v.last (v.local db)))
    (λ t e.
    let there : w.transit ≡ Some t = sym transit ∙ e in
    let db = t.slot.db in
    due_rests (database_at db w).tables db (slot_sent w) (database_at db w).next w.moment w.sessions (v.databases db) v.last t.slot (ap (option_map (λ x. x.slot)) there) (own_db db) (v.sent t there))

-- ---- an offer

offer_valid : (actor : ℕ) (w : World) (at : SlotRef) (to : List ℕ) → IsValidWorld w → next_sending w ≡ Some (offers at to) → IsValidWorld (sent actor (offers at to) w)
unfolding sent
offer_valid actor w at to v e =
    let k = offered w at to e in
    let step = Offer at to in
    let transit : Option Transit = Some (record { slot = at; stage = on_its_way }) in
    quiet_valid w (with_transit transit (stepped actor w [] [] step)) v (leads_with_transit w (stepped actor w [] [] step) no_changes no_ids transit (quiet_leads actor w step)) (subst (HoldsRight w) (sym (step_sessions actor w [] [] step)) (same_holds w v))
    (λ t f.
    let same : record { slot = at; stage = on_its_way } ≡ t = (let a : Some (record { slot = at; stage = on_its_way }) ≡ Some t = f in cc) in
    subst (λ x. IsBeingSent (database_at x.slot.db w).tables x.slot) same
    (subst (λ x. IsBeingSent (database_at at.db w).tables x) (sym k.at_is) (picked_sent (database_at at.db w).tables w.moment at.db k.id k.slot (v.databases at.db).valid k.picked_there)))

-- ---- an arrival

-- what the origin and the destination commit
pub own_of : (db : DbId) (origin there : List Change) → at_both (home_of db origin there) (away_of db origin there) db ≡ origin
own_of Home origin there = refl
own_of Away origin there = refl

pub other_of : (db : DbId) (origin there : List Change) → at_both (home_of db origin there) (away_of db origin there) (other_db db) ≡ there
other_of Home origin there = refl
other_of Away origin there = refl

-- each database is the origin or the destination
pub is_one : (at db : DbId) → (db ≡ at) ⊎ (db ≡ other_db at)
is_one Home Home = inl refl
is_one Home Away = inr refl
is_one Away Home = inr refl
is_one Away Away = inl refl

pub ids_own : (at : DbId) (n : ℕ) → ids_at (other_db at) n at ≡ 0
ids_own Home n = refl
ids_own Away n = refl

pub ids_other : (at : DbId) (n : ℕ) → ids_at (other_db at) n (other_db at) ≡ n
ids_other Home n = refl
ids_other Away n = refl

abbrev pub arrival_changes : SlotRef → Arriving → DbId → List Change
arrival_changes at a = at_both (home_of at.db a.origin a.there) (away_of at.db a.origin a.there)

module _ (actor : ℕ) (w : World) (at : SlotRef) (a : Arriving) where
  abbrev arrived : World
  arrived = stepped actor w (home_of at.db a.origin a.there) (away_of at.db a.origin a.there) (Arrive at a.outcome)

  pub arrival_leads : Leads w (sent actor (arrives at a) w) (arrival_changes at a) (ids_at (other_db at.db) (ids_copied a.outcome))
  unfolding sent
  arrival_leads =
      leads_with_transit w (taking_ids (other_db at.db) (ids_copied a.outcome) arrived) (arrival_changes at a) (ids_at (other_db at.db) (ids_copied a.outcome)) (transit_after arrived at a.outcome)
      (leads_taking w arrived (arrival_changes at a) (other_db at.db) (ids_copied a.outcome) (step_leads actor w (home_of at.db a.origin a.there) (away_of at.db a.origin a.there) (Arrive at a.outcome)))

  taking_sessions : (db : DbId) (n : ℕ) (x : World) → (taking_ids db n x).sessions ≡ x.sessions
  taking_sessions Home n x = refl
  taking_sessions Away n x = refl

  pub arrival_sessions : (sent actor (arrives at a) w).sessions ≡ w.sessions
  unfolding sent
  arrival_sessions = taking_sessions (other_db at.db) (ids_copied a.outcome) arrived ∙ step_sessions actor w (home_of at.db a.origin a.there) (away_of at.db a.origin a.there) (Arrive at a.outcome)

  pub arrival_transit : (sent actor (arrives at a) w).transit ≡ transit_after arrived at a.outcome
  unfolding sent
  arrival_transit = refl

  -- what is sent behind it is the slot, where it did not fail
  transit_slot : (outcome : Arrival) (t : Transit) → transit_after arrived at outcome ≡ Some t → t.slot ≡ at
  transit_slot (Copied id) t e = sent_slot t e
    where
      sent_slot : {n : ℕ} (t : Transit) → Some (record { slot = at; stage = came n }) ≡ Some t → t.slot ≡ at
      sent_slot {n} t e = let same : record { slot = at; stage = came n } ≡ t = cc in ap (λ x. x.slot) (sym same)
  transit_slot Seen t e = sent_slot t e
    where
      sent_slot : {n : ℕ} (t : Transit) → Some (record { slot = at; stage = came n }) ≡ Some t → t.slot ≡ at
      sent_slot {n} t e = let same : record { slot = at; stage = came n } ≡ t = cc in ap (λ x. x.slot) (sym same)
  transit_slot (Failed cause disabled) t e = absurd (none-some t e)

-- each database is right and local behind what it commits, and so is the slot
record ArrivesRight (w : World) (at : SlotRef) (a : Arriving) : Type 0 where
  origin_right : IsRight (committed_tables (database_at at.db w).tables a.origin w.moment) at.db (database_at at.db w).next w.moment w.sessions
  origin_local : MarksAreLocal (committed_tables (database_at at.db w).tables a.origin w.moment) at.db w.sessions
  there_right : IsRight (committed_tables (database_at (other_db at.db) w).tables a.there w.moment) (other_db at.db) ((database_at (other_db at.db) w).next + ids_copied a.outcome) w.moment w.sessions
  there_local : MarksAreLocal (committed_tables (database_at (other_db at.db) w).tables a.there w.moment) (other_db at.db) w.sessions
  being_sent : (x : World) (t : Transit) → transit_after x at a.outcome ≡ Some t → IsBeingSent (committed_tables (database_at at.db w).tables a.origin w.moment) at

arrives_right : (w : World) (at : SlotRef) (a : Arriving) (d : Dispatch) → IsValidWorld w → (k : IsBeingSent (database_at at.db w).tables at) → d.schedule ≡ k.schedule
    → ArrivesAs (database_at (other_db at.db) w).tables at d (database_at (other_db at.db) w).next w.moment a → ArrivesRight w at a
arrives_right w at a d v k s (as_seen seen e) =
    subst (ArrivesRight w at) (sym e)
    (record {
      origin_right = v.databases at.db;
      origin_local = v.local at.db;
      there_right = let x = other_db at.db in more_none (database_at x w).tables x (database_at x w).next w.moment w.sessions (v.databases x);
      there_local = v.local (other_db at.db);
      being_sent = λ x t f. k;
    })
arrives_right w at a d v k s (as_failed cause e) =
    let t = (database_at at.db w).tables in
    let next = (database_at at.db w).next in
    let r = v.databases at.db in
    let few : d.schedule.failures ≤ 15 = (let x = k.few in let same = ap (λ y. y.failures) s in omega (arith, x, same)) in
    let ok = ap (λ x. is_valid_schedule t x) s ∙ schedule_valid t at r.valid k in
    subst (ArrivesRight w at) (sym e)
    (record {
      origin_right = failed_right t at.db next w.moment w.sessions r v.last d.schedule ok few;
      origin_local = failed_local t at.db next w.moment w.sessions r v.last d.schedule ok few (v.local at.db);
      there_right = let x = other_db at.db in more_none (database_at x w).tables x (database_at x w).next w.moment w.sessions (v.databases x);
      there_local = v.local (other_db at.db);
      being_sent = λ x t f. absurd (none-some t f);
    })
arrives_right w at a d v k s (as_copied new may e) =
    let x = other_db at.db in
    let there = (database_at x w).tables in
    let next = (database_at x w).next in
    subst (ArrivesRight w at) (sym e)
    (record {
      origin_right = v.databases at.db;
      origin_local = v.local at.db;
      there_right = taken_right there x at d.parcel next w.moment w.sessions (v.databases x) v.last may;
      there_local = taken_local there x at d.parcel next w.moment w.sessions (v.databases x) v.last may (v.local x);
      being_sent = λ y t f. k;
    })

-- the slot that is being sent, with what is dispatched of it
pub record SendsOn (w : World) (at : SlotRef) (d : Dispatch) : Type 0 where
  pub being : IsBeingSent (database_at at.db w).tables at
  pub schedule_is : d.schedule ≡ being.schedule

pub sends_on : (w : World) (at : SlotRef) (stage : Stage) (d : Dispatch) → IsValidWorld w → w.transit ≡ Some (record { slot = at; stage = stage }) → dispatch (database_at at.db w).tables at ≡ Some d → SendsOn w at d
sends_on w at stage d v e f =
    let k = v.sent (record { slot = at; stage = stage }) e in
    let x = sent_dispatched (database_at at.db w).tables at (v.databases at.db).valid k in
    let same : d ≡ x.dispatched = (let h : Some d ≡ Some x.dispatched = sym f ∙ x.dispatch_is in cc) in
    record { being = k; schedule_is = ap (λ y. y.schedule) same ∙ x.schedule_is }

arrival_valid : (actor : ℕ) (w : World) (at : SlotRef) (a : Arriving) → IsValidWorld w → next_sending w ≡ Some (arrives at a) → IsValidWorld (sent actor (arrives at a) w)
arrival_valid actor w at a v e =
    let k = arrives_so w at a e in
    let d = k.dispatched in
    let x = sends_on w at on_its_way d v k.sent k.dispatch_is in
    let o = other_db at.db in
    let h = arrives_right w at a d v x.being x.schedule_is
    (subst (ArrivesAs (database_at o w).tables at d (database_at o w).next w.moment) (sym k.arriving_is) (arrives_as (database_at at.db w).tables (database_at o w).tables at d (database_at o w).next w.moment (v.databases at.db).valid (v.databases o).standing.up k.dispatch_is)) in
    let sessions = arrival_sessions actor w at a in
    valid_behind w (sent actor (arrives at a) w) (arrival_changes at a) (ids_at o (ids_copied a.outcome)) v (arrival_leads actor w at a)
    (λ db. subst (IsRight (committed_tables (database_at db w).tables (arrival_changes at a db) w.moment) db ((database_at db w).next + ids_at o (ids_copied a.outcome) db) w.moment) (sym sessions) (right_by h db (is_one at.db db)))
    (λ db. subst (MarksAreLocal (committed_tables (database_at db w).tables (arrival_changes at a db) w.moment) db) (sym sessions) (local_by h db (is_one at.db db)))
    (λ t f.
    let g = sym (arrival_transit actor w at a) ∙ f in
    let same : t.slot ≡ at = transit_slot actor w at a a.outcome t g in
    subst (λ y. IsBeingSent (committed_tables (database_at y.db w).tables (arrival_changes at a y.db) w.moment) y) (sym same)
    (subst (λ cs. IsBeingSent (committed_tables (database_at at.db w).tables cs w.moment) at) (sym (own_of at.db a.origin a.there)) (h.being_sent (arrived actor w at a) t g)))
  where
    right_by : ArrivesRight w at a → (db : DbId) → (db ≡ at.db) ⊎ (db ≡ other_db at.db) → IsRight (committed_tables (database_at db w).tables (arrival_changes at a db) w.moment) db ((database_at db w).next + ids_at (other_db at.db) (ids_copied a.outcome) db) w.moment w.sessions
    right_by h db (inl p) =
        subst (λ d. IsRight (committed_tables (database_at d w).tables (arrival_changes at a d) w.moment) d ((database_at d w).next + ids_at (other_db at.db) (ids_copied a.outcome) d) w.moment w.sessions) (sym p)
        (subst (λ cs. IsRight (committed_tables (database_at at.db w).tables cs w.moment) at.db ((database_at at.db w).next + ids_at (other_db at.db) (ids_copied a.outcome) at.db) w.moment w.sessions) (sym (own_of at.db a.origin a.there))
        (subst (λ n. IsRight (committed_tables (database_at at.db w).tables a.origin w.moment) at.db ((database_at at.db w).next + n) w.moment w.sessions) (sym (ids_own at.db (ids_copied a.outcome)))
        (more_none (committed_tables (database_at at.db w).tables a.origin w.moment) at.db (database_at at.db w).next w.moment w.sessions h.origin_right)))
    right_by h db (inr p) =
        subst (λ d. IsRight (committed_tables (database_at d w).tables (arrival_changes at a d) w.moment) d ((database_at d w).next + ids_at (other_db at.db) (ids_copied a.outcome) d) w.moment w.sessions) (sym p)
        (subst (λ cs. IsRight (committed_tables (database_at (other_db at.db) w).tables cs w.moment) (other_db at.db) ((database_at (other_db at.db) w).next + ids_at (other_db at.db) (ids_copied a.outcome) (other_db at.db)) w.moment w.sessions) (sym (other_of at.db a.origin a.there))
        (subst (λ n. IsRight (committed_tables (database_at (other_db at.db) w).tables a.there w.moment) (other_db at.db) ((database_at (other_db at.db) w).next + n) w.moment w.sessions) (sym (ids_other at.db (ids_copied a.outcome))) h.there_right))

    local_by : ArrivesRight w at a → (db : DbId) → (db ≡ at.db) ⊎ (db ≡ other_db at.db) → MarksAreLocal (committed_tables (database_at db w).tables (arrival_changes at a db) w.moment) db w.sessions
    local_by h db (inl p) =
        subst (λ d. MarksAreLocal (committed_tables (database_at d w).tables (arrival_changes at a d) w.moment) d w.sessions) (sym p)
        (subst (λ cs. MarksAreLocal (committed_tables (database_at at.db w).tables cs w.moment) at.db w.sessions) (sym (own_of at.db a.origin a.there)) h.origin_local)
    local_by h db (inr p) =
        subst (λ d. MarksAreLocal (committed_tables (database_at d w).tables (arrival_changes at a d) w.moment) d w.sessions) (sym p)
        (subst (λ cs. MarksAreLocal (committed_tables (database_at (other_db at.db) w).tables cs w.moment) (other_db at.db) w.sessions) (sym (other_of at.db a.origin a.there)) h.there_local)

-- ---- a confirmation

pub only_both : (at db : DbId) (cs : List Change) → at_both (at_home at cs) (at_away at cs) db ≡ only_at at cs db
only_both Home Home cs = refl
only_both Home Away cs = refl
only_both Away Home cs = refl
only_both Away Away cs = refl

module _ (actor : ℕ) (w : World) (at : SlotRef) (number : ℕ) (cs : List Change) where
  pub confirm_leads : Leads w (sent actor (confirms at number cs) w) (only_at at.db cs) no_ids
  unfolding sent
  confirm_leads =
      leads_with_transit w (stepped actor w (at_home at.db cs) (at_away at.db cs) (Confirm at)) (only_at at.db cs) no_ids None
      (leads_as w (stepped actor w (at_home at.db cs) (at_away at.db cs) (Confirm at)) (at_both (at_home at.db cs) (at_away at.db cs)) (only_at at.db cs) no_ids (λ db. only_both at.db db cs) (step_leads actor w (at_home at.db cs) (at_away at.db cs) (Confirm at)))

  pub confirm_sessions : (sent actor (confirms at number cs) w).sessions ≡ w.sessions
  unfolding sent
  confirm_sessions = step_sessions actor w (at_home at.db cs) (at_away at.db cs) (Confirm at)

  confirm_transit : (sent actor (confirms at number cs) w).transit ≡ None
  unfolding sent
  confirm_transit = refl

  confirm_valid : IsValidWorld w → next_sending w ≡ Some (confirms at number cs) → IsValidWorld (sent actor (confirms at number cs) w)
  confirm_valid v e =
      let k = confirms_so w at number cs e in
      let d = k.dispatched in
      let x = sends_on w at (came number) d v k.sent k.dispatch_is in
      valid_behind w (sent actor (confirms at number cs) w) (only_at at.db cs) no_ids v confirm_leads
      (λ db. more_none (committed_tables (database_at db w).tables (only_at at.db cs db) w.moment) db (database_at db w).next w.moment (sent actor (confirms at number cs) w).sessions
      (subst (IsRight (committed_tables (database_at db w).tables (only_at at.db cs db) w.moment) db (database_at db w).next w.moment) (sym confirm_sessions) (right_by d x k.commits db (is_same_db at.db db) refl)))
      (λ db. subst (MarksAreLocal (committed_tables (database_at db w).tables (only_at at.db cs db) w.moment) db) (sym confirm_sessions) (local_by d x k.commits db (is_same_db at.db db) refl))
      (λ t f. absurd (none-some t (sym confirm_transit ∙ f)))
    where
      right_by : (d : Dispatch) → SendsOn w at d → cs ≡ confirming (database_at at.db w).tables at d.schedule w.moment → (db : DbId) (b : Bool) → is_same_db at.db db ≡ b → IsRight (committed_tables (database_at db w).tables (if b then cs else []) w.moment) db (database_at db w).next w.moment w.sessions
      right_by d x c db true same =
          subst (λ y. IsRight (committed_tables (database_at y w).tables cs w.moment) y (database_at y w).next w.moment w.sessions) (same_is at.db db same)
          (subst (λ ds. IsRight (committed_tables (database_at at.db w).tables ds w.moment) at.db (database_at at.db w).next w.moment w.sessions) (sym c)
          (confirmed_right (database_at at.db w).tables at.db at (database_at at.db w).next w.moment w.sessions (v.databases at.db) v.last x.being d.schedule x.schedule_is (v.local at.db)))
      right_by d x c db false same = v.databases db

      local_by : (d : Dispatch) → SendsOn w at d → cs ≡ confirming (database_at at.db w).tables at d.schedule w.moment → (db : DbId) (b : Bool) → is_same_db at.db db ≡ b → MarksAreLocal (committed_tables (database_at db w).tables (if b then cs else []) w.moment) db w.sessions
      local_by d x c db true same =
          subst (λ y. MarksAreLocal (committed_tables (database_at y w).tables cs w.moment) y w.sessions) (same_is at.db db same)
          (subst (λ ds. MarksAreLocal (committed_tables (database_at at.db w).tables ds w.moment) at.db w.sessions) (sym c)
          (confirmed_local (database_at at.db w).tables at.db at (database_at at.db w).next w.moment w.sessions (v.databases at.db) v.last x.being d.schedule x.schedule_is (v.local at.db)))
      local_by d x c db false same = v.local db

-- ---- each step

pub step_keeps_valid : (w new : World) (actor : ℕ) (step : Step) → IsValidWorld w → MayStep actor step w new → IsValidWorld new
step_keeps_valid w new i (Call number reply) v m =
    let c = m.calls in subst IsValidWorld (sym c.result) (call_valid w i m.session m.statement reply m.changes m.after v c.ready.there c.next c.means)
step_keeps_valid w new i (Park number) v m =
    let p = m.parks in
    let behind = record m.session { parked = Some m.since } in
    subst IsValidWorld (sym p.result) (session_valid w i i (Park (m.session.next + 1)) behind v (same_session w i m.session behind v p.ready.there refl refl refl))
step_keeps_valid w new i (Told number) v m =
    let t = m.tells in
    let behind = record m.session { untold = None } in
    subst IsValidWorld (sym t.result) (session_valid w i i (Told m.untold.number) behind v (same_session w i m.session behind v t.there refl refl refl))
step_keeps_valid w new i Flush v m = subst IsValidWorld (sym m.result) (flush_valid w i v)
step_keeps_valid w new i End v m =
    let behind = record m.0 { pending = []; marks = []; live = false } in subst IsValidWorld (sym m.1.result) (session_valid w i i End behind v (empty_session w i m.0 behind v m.1.ready.there refl refl refl))
step_keeps_valid w new i Timer v m = subst IsValidWorld (sym m.result) (timed_valid i w v)
step_keeps_valid w new i (Offer at to) v m = subst IsValidWorld (sym m.result) (offer_valid i w at to v m.next)
step_keeps_valid w new i (Arrive at outcome) v m = subst IsValidWorld (sym m.sends.result) (arrival_valid i w at m.arriving v m.sends.next)
step_keeps_valid w new i (Confirm at) v m = subst IsValidWorld (sym m.sends.result) (confirm_valid i w at m.number m.changes v m.sends.next)

-- ---- the beginning, and readings

right_later : (t : Tables) (db : DbId) (next moment later : ℕ) (sessions : List Session) → moment ≤ later → IsRight t db next moment sessions → IsRight t db next later sessions
right_later t db next moment later sessions le r = record { valid = r.valid; fields = r.fields; latest = let x = r.latest in omega (arith, x, le); standing = standing_later t db next moment next later sessions (omega arith) le r.standing; most = r.most }

read_right : (w : World) (reading : ℕ) (db : DbId) → IsRight (database_at db w).tables db (database_at db w).next w.moment w.sessions
    → IsRight (database_at db (read_clock reading w)).tables db (database_at db (read_clock reading w)).next (read_clock reading w).moment (read_clock reading w).sessions
unfolding read_clock
read_right w reading Home r = right_later w.home.tables Home w.home.next w.moment (max w.moment (min reading greatest_moment)) w.sessions (omega arith) r
read_right w reading Away r = right_later w.away.tables Away w.away.next w.moment (max w.moment (min reading greatest_moment)) w.sessions (omega arith) r

read_local : (w : World) (reading : ℕ) (db : DbId) → MarksAreLocal (database_at db w).tables db w.sessions → MarksAreLocal (database_at db (read_clock reading w)).tables db (read_clock reading w).sessions
unfolding read_clock
read_local w reading Home m = m
read_local w reading Away m = m

pub read_tables : (w : World) (reading : ℕ) (db : DbId) → (database_at db (read_clock reading w)).tables ≡ (database_at db w).tables
unfolding read_clock
read_tables w reading Home = refl
read_tables w reading Away = refl

within_greatest : (moment reading : ℕ) → moment ≤ MOMENT_LIMIT → max moment (min reading greatest_moment) ≤ MOMENT_LIMIT
within_greatest moment reading h = omega (arith, h)

read_last : (w : World) (reading : ℕ) → w.moment ≤ MOMENT_LIMIT → (read_clock reading w).moment ≤ MOMENT_LIMIT
unfolding read_clock
read_last w reading h = within_greatest w.moment reading h

read_scripts : (w : World) (reading : ℕ) → ((read_clock reading w).scripts ≡ w.scripts) × ((read_clock reading w).transit ≡ w.transit)
unfolding read_clock
read_scripts w reading = (refl, refl)

pub reading_keeps_valid : (w : World) (reading : ℕ) → IsValidWorld w → IsValidWorld (read_clock reading w)
reading_keeps_valid w reading v = record {
  databases = λ db. read_right w reading db (v.databases db);
  local = λ db. read_local w reading db (v.local db);
  last = read_last w reading v.last;
  scripts = subst AreScripts (sym (read_scripts w reading).0) v.scripts;
  sent = λ t e. subst (λ x. IsBeingSent x t.slot) (sym (read_tables w reading t.slot.db)) (v.sent t (sym (read_scripts w reading).1 ∙ e));
}

none_local : (t : Tables) (db : DbId) (scripts : List SessionScript) → MarksAreLocal t db (map fresh scripts)
none_local t db scripts i s e f id slot h = absurd (false≢true (sym (ap (list_any (marks_slot id slot)) (fresh_empty scripts i s e).1) ∙ h))

pub opens_valid : (home away : Tables) (scripts : List SessionScript) → MayBegin home away scripts → IsValidWorld (opened home away scripts)
unfolding opened
opens_valid home away scripts b = record {
  databases = opened_right home away scripts b;
  local = λ db. none_local (database_at db (opened home away scripts)).tables db scripts;
  last = opening_within home.latest away.latest (latest_within home b.home_valid) (latest_within away b.away_valid);
  scripts = b.may_ask;
  sent = λ t e. absurd (none-some t e);
}

-- ---- every legal history

legal_from : (start : World) → IsValidWorld start → (readings : List ℕ) (w : World) → IsLegal start readings w → IsValidWorld w
legal_from start v readings w opens = v
legal_from start v readings w (reads before u reading legal) = reading_keeps_valid u reading (legal_from start v before u legal)
legal_from start v readings w (steps same u new actor step legal timely may) = step_keeps_valid u new actor step (legal_from start v same u legal) may

pub legal_is_valid : (home away : Tables) (scripts : List SessionScript) (readings : List ℕ) (w : World) → MayBegin home away scripts → IsLegal (opened home away scripts) readings w → IsValidWorld w
legal_is_valid home away scripts readings w b legal = legal_from (opened home away scripts) (opens_valid home away scripts b) readings w legal
