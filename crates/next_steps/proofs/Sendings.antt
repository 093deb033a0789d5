-- The step of propagation that comes next, and what must be durable before it.
use Rattle.std.proofs.Common.{◌≡◌, ◌≤◌, inl, inr, ℕ, List, [], Bool, true, false, Option, Some, None, refl, sym, ap, subst, ◌∙◌, option_map, arith}
use Rattle.std.specs.Prelude.{find, option_and_then, is_some, IfSome, IsSome, if◌then◌else◌}
use Rattle.std.proofs.lemmas.Option.{none-some}
use Rattle.aq_base.specs.declared.DbId.{DbId}
use Rattle.aq_base.specs.declared.DbId.TheVariants.{Home, Away}
use Rattle.queue_rows.specs.Order.{IsFront}
use Rattle.queue_rows.specs.Rows.{find_message, slot_of, table_of}
use Rattle.queue_rows.specs.Propagating.{Dispatch, Arriving, dispatch, dispatch_by, dispatch_of, dispatch_of_slot, parcel_by, is_schedule_of, arriving, confirming}
use Rattle.queue_rows.specs.declared.change.Change.{Change}
use Rattle.queue_rows.specs.declared.history.SlotRef.{SlotRef}
use Rattle.queue_rows.specs.declared.history.Step.TheVariants.{Flush}
use Rattle.queue_rows.specs.declared.rows.MsgRow.{MsgRow}
use Rattle.queue_rows.specs.declared.rows.ScheduleRow.{ScheduleRow}
use Rattle.queue_rows.specs.declared.rows.SlotRow.{SlotRow}
use Rattle.queue_rows.specs.declared.rows.TableRow.{TableRow}
use Rattle.queue_rows.specs.declared.tables.Tables.{Tables}
use Rattle.queue_rows.specs.World.{other_db, World, Stage, on_its_way, came, database_at, stepped}
use Rattle.propagation.specs.Outcomes as outcomes
use Rattle.queue_rows.specs.Sending.{Sending, offers, arrives, confirms, dispatch_at, picked, offer_of, arrival_of, confirmation_of, sending_on, next_sending, may_follow, sent}
use Rattle.queue_rows.specs.Turns.{is_durable, all_durable, flushed, propagated, propagated_by}
use Rattle.run_laws.specs.ValidRun.{IsValidWorld}
use Rattle.run_laws.proofs.Working.{sent_dispatched}
use Rattle.run_turns.proofs.Growing.{grows_propagated, grows_sent}
use Rattle.run_turns.proofs.Resting.{propagated-none}
use Rattle.run_state.specs.Entries.{IsUntold}
use Rattle.next_steps.specs.Sendings.{made_ready, HasIds}
use Rattle.next_steps.proofs.Sizes.{has_ids}

-- ---- offers

to_by : (m : MsgRow) (s : SlotRow) (table : Option TableRow) (schedule : Option ScheduleRow) (d : Dispatch) → dispatch_by m s table schedule ≡ Some d → d.parcel.to ≡ d.schedule.to
to_by m s None schedule d e = absurd (none-some d e)
to_by m s (Some table) None d e = absurd (none-some d e)
to_by m s (Some table) (Some schedule) d e =
    let made : Dispatch = record { parcel = parcel_by m s schedule.to table; schedule = schedule } in
    let same : made ≡ d = (let h : Some made ≡ Some d = e in cc) in
    subst (λ y. y.parcel.to ≡ y.schedule.to) same refl

to_of_slot : (t : Tables) (m : MsgRow) (o : Option SlotRow) (d : Dispatch) → option_and_then (dispatch_of_slot t m) o ≡ Some d → d.parcel.to ≡ d.schedule.to
to_of_slot t m None d e = absurd (none-some d e)
to_of_slot t m (Some s) d e = to_by m s (table_of t m.queue) (find (is_schedule_of m.queue s) t.schedules) d e

to_of : (t : Tables) (slot : ℕ) (o : Option MsgRow) (d : Dispatch) → option_and_then (dispatch_of t slot) o ≡ Some d → d.parcel.to ≡ d.schedule.to
to_of t slot None d e = absurd (none-some d e)
to_of t slot (Some m) d e = to_of_slot t m (slot_of m slot) d e

-- a slot is sent where its schedule sends
sends_to : (t : Tables) (at : SlotRef) (d : Dispatch) → dispatch t at ≡ Some d → d.parcel.to ≡ d.schedule.to
sends_to t at d e = to_of t at.slot (find_message t at.id) d e

none_by : (at : SlotRef) (o : Option Dispatch) → option_map (λ d. d.schedule) o ≡ None → None ≡ option_map (λ d. offers at d.parcel.to) o
none_by at None e = refl
none_by at (Some d) e = absurd (none-some d.schedule (sym e))

some_by : (at : SlotRef) (o : Option Dispatch) (schedule : ScheduleRow) → option_map (λ d. d.schedule) o ≡ Some schedule → ((d : Dispatch) → o ≡ Some d → d.parcel.to ≡ d.schedule.to) → Some (offers at schedule.to) ≡ option_map (λ d. offers at d.parcel.to) o
some_by at None schedule e k = absurd (none-some schedule e)
some_by at (Some d) schedule e k =
    let same : d.schedule ≡ schedule = (let h : Some d.schedule ≡ Some schedule = e in cc) in
    ap (λ x. Some (offers at x)) (ap (λ (s : ScheduleRow). s.to) (sym same) ∙ sym (k d refl))

pub none_picked : (w : World) → picked w ≡ None → None ≡ option_and_then (offer_of w) (picked w)
none_picked w e = sym (ap (option_and_then (offer_of w)) e)

pub none_offered : (w : World) (at : SlotRef) → picked w ≡ Some at → option_map (λ d. d.schedule) (dispatch_at w at) ≡ None → None ≡ option_and_then (offer_of w) (picked w)
none_offered w at p e = none_by at (dispatch_at w at) e ∙ sym (ap (option_and_then (offer_of w)) p)

pub offered_so : (w : World) (at : SlotRef) (schedule : ScheduleRow) → picked w ≡ Some at → option_map (λ d. d.schedule) (dispatch_at w at) ≡ Some schedule
    → Some (offers at schedule.to) ≡ option_and_then (offer_of w) (picked w)
offered_so w at schedule p e = some_by at (dispatch_at w at) schedule e (λ d f. sends_to (database_at at.db w).tables at d f) ∙ sym (ap (option_and_then (offer_of w)) p)

-- ---- arrivals and confirmations

few_if : (o : Option Dispatch) (d : Dispatch) → o ≡ Some d → d.schedule.failures ≤ 15 → IfSome o (λ x. x.schedule.failures ≤ 15)
few_if o d e h = subst (λ x. IfSome x (λ y. y.schedule.failures ≤ 15)) (sym e) h

-- what is being sent is there, and its schedule did not fail too often
pub is_dispatched : (w : World) (at : SlotRef) (stage : Stage) (t : Tables) → t ≡ (database_at at.db w).tables → IsValidWorld w → w.transit ≡ Some (record { slot = at; stage = stage }) → IsSome (dispatch t at)
is_dispatched w at stage t p v e =
    let x = sent_dispatched (database_at at.db w).tables at (v.databases at.db).valid (v.sent (record { slot = at; stage = stage }) e) in
    ap (λ u. is_some (dispatch u at)) p ∙ ap is_some x.dispatch_is

pub few_failures : (w : World) (at : SlotRef) (stage : Stage) (t : Tables) → t ≡ (database_at at.db w).tables → IsValidWorld w → w.transit ≡ Some (record { slot = at; stage = stage }) → IfSome (dispatch t at) (λ d. d.schedule.failures ≤ 15)
few_failures w at stage t p v e =
    let k = v.sent (record { slot = at; stage = stage }) e in
    let x = sent_dispatched (database_at at.db w).tables at (v.databases at.db).valid k in
    few_if (dispatch t at) x.dispatched (ap (λ u. dispatch u at) p ∙ x.dispatch_is) (subst (λ (s : ScheduleRow). s.failures ≤ 15) (sym x.schedule_is) k.few)

arrived_by : (w : World) (at : SlotRef) (o : Option Dispatch) (a : Arriving) → option_map (λ d. arriving (database_at (other_db at.db) w).tables at d (database_at (other_db at.db) w).next w.moment) o ≡ Some a → Some (arrives at a) ≡ option_map (arrival_of w at) o
arrived_by w at None a e = absurd (none-some a e)
arrived_by w at (Some d) a e = sym (ap (option_map (arrives at)) e)

same_arrival : (t u : Tables) (at : SlotRef) (x y : Tables) (m n i j : ℕ) → t ≡ u → x ≡ y → m ≡ n → i ≡ j → outcomes.arrival_of t at x m i ≡ outcomes.arrival_of u at y n j
same_arrival t u at x y m n i j p q r s =
    ap (λ z. outcomes.arrival_of z at x m i) p ∙ ap (λ z. outcomes.arrival_of u at z m i) q ∙ ap (λ z. outcomes.arrival_of u at y z i) r ∙ ap (outcomes.arrival_of u at y n) s

-- the arrival that was found comes next
pub arrival_is : (w : World) (at : SlotRef) (origin there : Tables) (next moment : ℕ) (a : Arriving) → origin ≡ (database_at at.db w).tables → there ≡ (database_at (other_db at.db) w).tables → next ≡ (database_at (other_db at.db) w).next
    → moment ≡ w.moment → outcomes.arrival_of origin at there next moment ≡ Some a → Some (arrives at a) ≡ sending_on w at on_its_way
arrival_is w at origin there next moment a p q r s e =
    arrived_by w at (dispatch_at w at) a (sym (same_arrival origin (database_at at.db w).tables at there (database_at (other_db at.db) w).tables next (database_at (other_db at.db) w).next moment w.moment p q r s) ∙ e)

confirmed_by : (w : World) (at : SlotRef) (number : ℕ) (o : Option Dispatch) (cs : List Change) → option_map (λ d. confirming (database_at at.db w).tables at d.schedule w.moment) o ≡ Some cs
    → Some (confirms at number cs) ≡ option_map (confirmation_of w at number) o
confirmed_by w at number None cs e = absurd (none-some cs e)
confirmed_by w at number (Some d) cs e = sym (ap (option_map (confirms at number)) e)

pub confirmation_is : (w : World) (at : SlotRef) (number : ℕ) (origin : Tables) (moment : ℕ) (cs : List Change) → origin ≡ (database_at at.db w).tables → moment ≡ w.moment → outcomes.confirmation_of origin at moment ≡ Some cs
    → Some (confirms at number cs) ≡ sending_on w at (came number)
confirmation_is w at number origin moment cs p q e =
    confirmed_by w at number (dispatch_at w at) cs (sym (ap (λ t. outcomes.confirmation_of t at moment) p ∙ ap (outcomes.confirmation_of (database_at at.db w).tables at) q) ∙ e)

-- ---- what must be durable

next_if : (b : Bool) (actor : ℕ) (w : World) (db : DbId) → (database_at db (if b then w else all_durable (stepped actor w [] [] Flush))).next ≡ (database_at db w).next
unfolding stepped
next_if true actor w db = refl
next_if false actor w Home = refl
next_if false actor w Away = refl

next-flushed : (actor : ℕ) (w : World) (db : DbId) → (database_at db (flushed actor w)).next ≡ (database_at db w).next
unfolding flushed
next-flushed actor w db = next_if (is_durable w) actor w db

ids_if : (b : Bool) (actor : ℕ) (w : World) → HasIds w → HasIds (if b then w else flushed actor w)
ids_if true actor w h = h
ids_if false actor w h = λ db. let e = next-flushed actor w db in let k = h db in omega (arith, e, k)

pub ready_ids : (actor : ℕ) (s : Sending) (w v : World) → v ≡ made_ready actor s w → IsValidWorld w → HasIds v
ready_ids actor s w v e valid = subst HasIds (sym e) (ids_if (may_follow w s) actor w (has_ids w valid))

untold_if : (b : Bool) (actor : ℕ) (w v : World) → v ≡ (if b then w else flushed actor w) → IsUntold actor w v
untold_if true actor w v e = inl e
untold_if false actor w v e = inr e

pub ready_untold : (actor : ℕ) (s : Sending) (w v : World) → v ≡ made_ready actor s w → IsUntold actor w v
ready_untold actor s w v e = untold_if (may_follow w s) actor w v e

-- the step that comes next is made
pub sent_whole : (actor : ℕ) (s : Sending) (w v new : World) → next_sending w ≡ Some s → v ≡ made_ready actor s w → new ≡ sent actor s v → new ≡ propagated actor w
unfolding propagated
sent_whole actor s w v new e f g = g ∙ ap (sent actor s) f ∙ sym (ap (λ o. propagated_by actor o w) e)

pub none_sent : (actor : ℕ) (w new : World) → next_sending w ≡ None → new ≡ w → new ≡ propagated actor w
none_sent actor w new e f = f ∙ sym (propagated-none actor w e)

pub ready_front : (actor : ℕ) (s : Sending) (w v : World) → next_sending w ≡ Some s → v ≡ made_ready actor s w → IsFront v.entries (propagated actor w).entries
ready_front actor s w v e f = subst (λ x. IsFront v.entries x.entries) (sent_whole actor s w v (sent actor s v) e f refl) (grows_sent actor s v)

pub untouched_front : (actor : ℕ) (w v : World) → v ≡ w → IsFront v.entries (propagated actor w).entries
untouched_front actor w v e = subst (λ x. IsFront x.entries (propagated actor w).entries) (sym e) (grows_propagated actor w)
