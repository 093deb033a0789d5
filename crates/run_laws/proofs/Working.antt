-- Due work, arrivals and confirmations leave a database right.
use Rattle.std.proofs.Common.{◌≡◌, ◌≢◌, ◌≤◌, ◌<◌, ◌+◌, ℕ, List, [], ◌∷◌, Bool, true, false, not, refl, sym, ap, ◌∙◌, arith, Option, Some, None, ◌==◌, ◌&&◌}
use Rattle.std.specs.Prelude.{find, option_and_then, nat_le, if◌then◌else◌}
use Rattle.std.specs.List.{list_any, list_all}
use Rattle.std.proofs.lemmas.Bool.{eqb-true, eqb-false, eq-eqb, ne_eqb, and_parts, and_from, or_parts, or_from, or_left, le-leb, true≢false}
use Rattle.aq_base.specs.declared.DbId.{DbId}
use Rattle.aq_base.specs.declared.limits.TheConstants.{MOMENT_LIMIT, NEXT_LIMIT}
use Rattle.queue_rows.specs.Rows.{find_table, table_of, slot_of}
use Rattle.queue_rows.specs.Tables.{after}
use Rattle.queue_rows.specs.Session.{Session, is_same_db}
use Rattle.queue_rows.specs.Due.{Watch, is_left, is_sent, is_held_by_any, group_in, due_slot, due_slots, slot_numbers, due}
use Rattle.queue_rows.specs.Propagating.{Parcel, Dispatch, is_schedule_of, dispatch_by, dispatch_of_slot, dispatch_of, dispatch, taken_in, taken_in_by, copy_of, delayed, confirming}
use Rattle.queue_rows.specs.Within.{if_some, is_time, is_span}
use Rattle.queue_rows.specs.World.{committed_tables}
use Rattle.queue_rows.specs.Valid.{is_valid, is_valid_schedule, takes_subscribers, has_right_failures}
use Rattle.queue_rows.specs.Fits.{fits}
use Rattle.queue_rows.specs.declared.tables.Tables.{Tables}
use Rattle.queue_rows.specs.declared.rows.MsgRow.{MsgRow}
use Rattle.queue_rows.specs.declared.rows.SlotRow.{SlotRow}
use Rattle.queue_rows.specs.declared.rows.ScheduleRow.{ScheduleRow}
use Rattle.queue_rows.specs.declared.change.Change.{Change}
use Rattle.queue_rows.specs.declared.change.Change.TheVariants as changes
use Rattle.queue_rows.specs.declared.history.SlotRef.{SlotRef}
use Rattle.valid_laws.specs.Touching.{is_of_slot, puts_in, are_proper}
use Rattle.valid_laws.specs.ArrivalLaws.{MayTakeIn}
use Rattle.valid_laws.proofs.Arriving.{arrival_fits, confirmation_fits}
use Rattle.valid_laws.proofs.Doing.{Kind, nothing, expires, readies, changes_by, kind_in, due_slot_is}
use Rattle.valid_laws.proofs.Exceptions.{home_of}
use Rattle.valid_laws.proofs.Framing.{any_flat}
use Rattle.valid_laws.proofs.Making.{one_settles, one_change_fits}
use Rattle.valid_laws.proofs.Opened.{open_at}
use Rattle.valid_laws.proofs.Parts.{parts_of, all_found, six_parts, six_from, valid_id}
use Rattle.valid_laws.proofs.Saying.{undone_none, slots_put, confirm_none}
use Rattle.valid_laws.proofs.Undone.{due_fits}
use Rattle.statement_laws.specs.StandingLaws.{AreStanding}
use Rattle.statement_laws.proofs.Administering.{beside_keeps, held_standing}
use Rattle.statement_laws.proofs.Standing.{due_keeps_standing}
use Rattle.statement_laws.proofs.Stepping.{arrival_keeps_standing}
use Rattle.history_laws.proofs.Committing.{due_is_proper, arrival_is_proper, confirmation_is_proper}
use Rattle.history_laws.specs.ValidWorld.{IsRight}
use Rattle.history_laws.proofs.Plain.{is_plain, committed_fields, committed_latest}
use Rattle.history_laws.proofs.Answering.{committed_valid}
use Rattle.history_laws.specs.LocalMarks.{is_remote_at, MarksAreLocal}
use Rattle.history_laws.proofs.Marking.{sent_confirmation_keeps_standing}
use Rattle.history_laws.proofs.Sending.{sent_is_remote}
use Rattle.history_laws.proofs.Staying.{local_committed}
use Rattle.run_laws.specs.ValidRun.{IsBeingSent}
use Rattle.run_laws.proofs.Resting.{touches, sent_open, sent_rests}

-- ---- what commits of no session leave

-- a commit that fits and is plain, behind which the sessions stand, leaves a database right
pub right_behind : (t : Tables) (db : DbId) (next now moment : ℕ) (sessions : List Session) (cs : List Change) → IsRight t db next moment sessions → fits t (record { moment = moment; changes = cs }) ≡ true → list_any (λ x. not (is_plain x)) cs ≡ false
    → AreStanding (committed_tables t cs moment) db now moment sessions → now ≤ NEXT_LIMIT → IsRight (committed_tables t cs moment) db now moment sessions
right_behind t db next now moment sessions cs r f p k most = record {
  valid = committed_valid t moment cs r.valid f;
  fields = committed_fields t moment cs (all_plain cs p) r.fields;
  latest = committed_latest t moment cs (all_plain cs p) r.latest;
  standing = k;
  most = most;
}
  where
    not_not : (b : Bool) → not b ≡ false → b ≡ true
    not_not true e = refl
    not_not false e = absurd (true≢false e)

    all_plain : (xs : List Change) → list_any (λ x. not (is_plain x)) xs ≡ false → list_all is_plain xs ≡ true
    all_plain [] h = refl
    all_plain (x ∷ xs) h = let q = or_parts (not (is_plain x)) (list_any (λ y. not (is_plain y)) xs) h in and_from (is_plain x) (list_all is_plain xs) (not_not (is_plain x) q.0) (all_plain xs q.1)

-- and marks local, where it is proper and puts no marked message in
pub local_behind : (t : Tables) (db : DbId) (next moment : ℕ) (sessions : List Session) (cs : List Change) → is_valid t ≡ true → are_proper t cs ≡ true → AreStanding t db next moment sessions → ((id : ℕ) → id < t.next → list_any (puts_in id) cs ≡ false)
    → MarksAreLocal t db sessions → MarksAreLocal (committed_tables t cs moment) db sessions
local_behind t db next moment sessions cs v p k none m i s e f id slot h =
    let o = open_at t id slot ((k.each i s e f).marked id slot h) in
    local_committed slot id t moment cs v p (none id (valid_id t id o.message v o.found)) (m i s e f id slot h)

-- ---- due work

kind_names : (id slot : ℕ) (kind : Kind) (named a moment : ℕ) → ((named == id) && (a == slot)) ≡ false → list_any (is_of_slot id slot) (changes_by kind named a moment) ≡ false
kind_names id slot nothing named a moment e = refl
kind_names id slot expires named a moment e = or_from ((named == id) && (a == slot)) false e refl
kind_names id slot readies named a moment e = or_from ((named == id) && (a == slot)) false e refl

-- what is due names no slot that is being sent
module _ (w : Watch) (at : SlotRef) (sent : w.sent ≡ Some at) (same : is_same_db at.db w.db ≡ true) where
  left_here : (m : MsgRow) (a : ℕ) → ((m.id == at.id) && (a == at.slot)) ≡ true → is_left w m a ≡ true
  left_here m a e =
      let p = and_parts (m.id == at.id) (a == at.slot) e in
      or_left (is_sent w.sent w.db m.id a) (is_held_by_any w.sessions w.db m.id a (group_in w.tables m a))
      (ap (λ o. is_sent o w.db m.id a) sent
      ∙ and_from (is_same_db at.db w.db && (at.id == m.id)) (at.slot == a) (and_from (is_same_db at.db w.db) (at.id == m.id) same (eq-eqb at.id m.id (sym (eqb-true m.id at.id p.0)))) (eq-eqb at.slot a (sym (eqb-true a at.slot p.1))))

  left_none : (m : MsgRow) (a : ℕ) (o : Option SlotRow) → is_left w m a ≡ true → due_slot w m a o ≡ []
  left_none m a None e = refl
  left_none m a (Some x) e = rw e refl

  slot_by : (m : MsgRow) (a : ℕ) (b : Bool) → ((m.id == at.id) && (a == at.slot)) ≡ b → list_any (is_of_slot at.id at.slot) (due_slot w m a (slot_of m a)) ≡ false
  slot_by m a true e = ap (list_any (is_of_slot at.id at.slot)) (left_none m a (slot_of m a) (left_here m a e))
  slot_by m a false e = ap (list_any (is_of_slot at.id at.slot)) (due_slot_is w m a (slot_of m a)) ∙ kind_names at.id at.slot (kind_in w m a (slot_of m a)) m.id a w.moment e

  slots_name : (m : MsgRow) → list_any (is_of_slot at.id at.slot) (due_slots w m) ≡ false
  slots_name m = any_flat (is_of_slot at.id at.slot) (λ a. due_slot w m a (slot_of m a)) (λ a. slot_by m a ((m.id == at.id) && (a == at.slot)) refl) (slot_numbers m)

module _ (t : Tables) (db : DbId) (sent : Option SlotRef) (next moment : ℕ) (sessions : List Session) (r : IsRight t db next moment sessions) (top : moment ≤ MOMENT_LIMIT) where
  abbrev watch : Watch
  watch = record { tables = t; sessions = sessions; db = db; sent = sent; moment = moment }

  -- what is due is none of some changes
  pub due_none : (q : Change → Bool) → ((id slot at : ℕ) → q (changes.Expired id slot at) ≡ false) → ((id slot at : ℕ) → q (changes.Ready id slot at) ≡ false) → ((id : ℕ) (queue : List ℕ) (at : ℕ) → q (changes.Moved id queue at) ≡ false) → ((id : ℕ) → q (changes.Purged id) ≡ false)
      → list_any q (due t sessions db sent moment) ≡ false
  unfolding due
  due_none q a b m p = undone_none watch q (slots_put watch q a b) m p

  pub due_right : IsRight (committed_tables t (due t sessions db sent moment) moment) db next moment sessions
  due_right =
      right_behind t db next next moment sessions (due t sessions db sent moment) r (due_fits t sessions db sent moment r.valid r.latest top) (due_none (λ x. not (is_plain x)) (λ id slot at. refl) (λ id slot at. refl) (λ id queue at. refl) (λ id. refl))
      (due_keeps_standing t db sent next moment sessions r.valid r.latest top r.standing) r.most

  pub due_local : MarksAreLocal t db sessions → MarksAreLocal (committed_tables t (due t sessions db sent moment) moment) db sessions
  due_local m =
      local_behind t db next moment sessions (due t sessions db sent moment) r.valid (due_is_proper t sessions db sent moment r.valid r.latest top).proper r.standing (λ id lt. due_none (puts_in id) (λ n slot at. refl) (λ n slot at. refl) (λ n queue at. refl) (λ n. refl)) m

  pub due_rests : (at : SlotRef) → sent ≡ Some at → is_same_db at.db db ≡ true → IsBeingSent t at → IsBeingSent (committed_tables t (due t sessions db sent moment) moment) at
  unfolding due
  due_rests at e same k =
      sent_rests t moment (due t sessions db sent moment) at r.valid (due_is_proper t sessions db sent moment r.valid r.latest top).proper (due_none (puts_in at.id) (λ n slot a. refl) (λ n slot a. refl) (λ n queue a. refl) (λ n. refl))
      (undone_none watch (is_of_slot at.id at.slot) (slots_name watch at e same) (λ n queue a. refl) (λ n. refl)) (due_none touches (λ n slot a. refl) (λ n slot a. refl) (λ n queue a. refl) (λ n. refl)) k

-- ---- what is being sent

pub record IsDispatched (t : Tables) (at : SlotRef) (k : IsBeingSent t at) : Type 0 where
  pub dispatched : Dispatch
  pub dispatch_is : dispatch t at ≡ Some dispatched
  pub schedule_is : dispatched.schedule ≡ k.schedule

-- all that it needs is there in valid tables
pub sent_dispatched : (t : Tables) (at : SlotRef) → is_valid t ≡ true → (k : IsBeingSent t at) → IsDispatched t at k
sent_dispatched t at v k =
    let home = home_of t at.id k.message v k.message_is in
    let table : table_of t k.message.queue ≡ Some home.table = ap (option_and_then (λ q. find_table t q.table)) home.queue_is ∙ home.table_is in
    record {
      dispatched = record { parcel = record { to = k.schedule.to; name = k.slot.name; fields = home.table.fields; facts = k.message.facts; expires = k.slot.expires }; schedule = k.schedule };
      dispatch_is = ap (option_and_then (dispatch_of t at.slot)) k.message_is ∙ ap (option_and_then (dispatch_of_slot t k.message)) k.slot_is ∙ ap (λ o. dispatch_by k.message k.slot o (find (is_schedule_of k.message.queue k.slot) t.schedules)) table
          ∙ ap (dispatch_by k.message k.slot (Some home.table)) k.schedule_is;
      schedule_is = refl;
    }

pub sent_remote : (t : Tables) (at : SlotRef) → is_valid t ≡ true → IsBeingSent t at → is_remote_at t at.id at.slot ≡ true
sent_remote t at v k = let d = sent_dispatched t at v k in sent_is_remote t at d.dispatched v d.dispatch_is

pub schedule_valid : (t : Tables) (at : SlotRef) → is_valid t ≡ true → (k : IsBeingSent t at) → is_valid_schedule t k.schedule ≡ true
schedule_valid t at v k = all_found (is_valid_schedule t) (is_schedule_of k.message.queue k.slot) t.schedules k.schedule (parts_of t v).schedules k.schedule_is

-- ---- an arrival

module _ (t : Tables) (db : DbId) (at : SlotRef) (p : Parcel) (next moment : ℕ) (sessions : List Session) (r : IsRight t db next moment sessions) (top : moment ≤ MOMENT_LIMIT) (k : MayTakeIn t at p next moment) where
  pub taken_is : taken_in t at p next moment ≡ changes.Enqueued (copy_of k.table p next t.transaction moment) ∷ changes.Seen (record { id = at.id; slot = at.slot; copy = next }) ∷ []
  unfolding taken_in
  taken_is = ap (taken_in_by t at p next moment) (ap (option_and_then (λ q. find_table t q.table)) k.queue_is ∙ k.table_is)

  pub taken_right : IsRight (committed_tables t (taken_in t at p next moment) moment) db (next + 1) moment sessions
  taken_right =
      right_behind t db next (next + 1) moment sessions (taken_in t at p next moment) r (arrival_fits t at p next moment r.valid r.latest top k) (ap (list_any (λ x. not (is_plain x))) taken_is) (arrival_keeps_standing t db at p next moment sessions r.valid r.latest top k r.standing)
      (let w = k.within in omega (arith, w))

  pub taken_local : MarksAreLocal t db sessions → MarksAreLocal (committed_tables t (taken_in t at p next moment) moment) db sessions
  taken_local m =
      local_behind t db next moment sessions (taken_in t at p next moment) r.valid (arrival_is_proper t at p next moment r.valid r.latest top k).proper r.standing
      (λ id lt. ap (list_any (puts_in id)) taken_is ∙ or_from (next == id) false (ne_eqb next id (λ e. absurd (let up = r.standing.up in omega (arith, lt, e, up)))) refl) m

-- ---- a failure

fewer : (n : ℕ) → n + 1 ≢ 16 → n ≤ 15 → n + 1 ≤ 15
fewer n d le = omega (arith, le, d)

-- a schedule with one more failure is as it may be
fails_by : (n : ℕ) (enabled last : Bool) → (n + 1 == 16) ≡ last → n ≤ 15 → nat_le (n + 1) (if enabled && not last then 15 else 16) ≡ true
fails_by n true true e le = le-leb (n + 1) 16 (omega (arith, le))
fails_by n true false e le = le-leb (n + 1) 15 (fewer n (eqb-false (n + 1) 16 e) le)
fails_by n false last e le = le-leb (n + 1) 16 (omega (arith, le))

delayed_valid : (t : Tables) (s : ScheduleRow) (moment : ℕ) → is_valid_schedule t s ≡ true → s.failures ≤ 15 → is_valid_schedule t (delayed s moment) ≡ true
delayed_valid t s moment h few =
    let p = six_parts (takes_subscribers t s.queue) (has_right_failures s) (nat_le s.start MOMENT_LIMIT) (if_some is_span s.duration) (if_some is_span s.period) (is_time s.latency) h in
    six_from (takes_subscribers t s.queue) (has_right_failures (delayed s moment)) (nat_le s.start MOMENT_LIMIT) (if_some is_span s.duration) (if_some is_span s.period) (is_time s.latency)
    p.0 (fails_by s.failures s.enabled (s.failures + 1 == 16) refl few) p.2 p.3 p.4 p.5

module _ (t : Tables) (db : DbId) (next moment : ℕ) (sessions : List Session) (r : IsRight t db next moment sessions) (top : moment ≤ MOMENT_LIMIT) (s : ScheduleRow) (ok : is_valid_schedule t s ≡ true) (few : s.failures ≤ 15) where
  abbrev failed : List Change
  failed = changes.PutSchedule (delayed s moment) ∷ []

  put_standing : AreStanding (committed_tables t failed moment) db next moment sessions
  unfolding after
  put_standing = held_standing t (committed_tables t failed moment) db next moment sessions r.standing (beside_keeps t (committed_tables t failed moment) db moment sessions refl refl refl refl refl)

  pub failed_fits : fits t (record { moment = moment; changes = changes.PutSchedule (delayed s moment) ∷ [] }) ≡ true
  failed_fits =
      ap (λ cs. fits t (record { moment = moment; changes = cs })) (sym (one_settles t (changes.PutSchedule (delayed s moment)) None refl refl)) ∙ one_change_fits t moment (changes.PutSchedule (delayed s moment)) r.valid r.latest top (delayed_valid t s moment ok few) refl

  pub failed_right : IsRight (committed_tables t (changes.PutSchedule (delayed s moment) ∷ []) moment) db next moment sessions
  failed_right = right_behind t db next next moment sessions failed r failed_fits refl put_standing r.most

  pub failed_local : MarksAreLocal t db sessions → MarksAreLocal (committed_tables t (changes.PutSchedule (delayed s moment) ∷ []) moment) db sessions
  unfolding after
  failed_local m = m

-- ---- a confirmation

module _ (t : Tables) (db : DbId) (at : SlotRef) (next moment : ℕ) (sessions : List Session) (r : IsRight t db next moment sessions) (top : moment ≤ MOMENT_LIMIT) (k : IsBeingSent t at) where
  pub confirmed_none : (s : ScheduleRow) (q : Change → Bool) → q (changes.Done at.id at.slot moment) ≡ false → ((x : ScheduleRow) → q (changes.PutSchedule x) ≡ false) → ((id : ℕ) (queue : List ℕ) (a : ℕ) → q (changes.Moved id queue a) ≡ false) → ((id : ℕ) → q (changes.Purged id) ≡ false)
      → list_any q (confirming t at s moment) ≡ false
  confirmed_none s q a b m p = confirm_none t at s moment q a b m p

  pub confirmed_right : (s : ScheduleRow) → s ≡ k.schedule → MarksAreLocal t db sessions → IsRight (committed_tables t (confirming t at s moment) moment) db next moment sessions
  confirmed_right s e m =
      let d = sent_dispatched t at r.valid k in
      let ok : is_valid_schedule t s ≡ true = ap (is_valid_schedule t) e ∙ schedule_valid t at r.valid k in
      right_behind t db next next moment sessions (confirming t at s moment) r (confirmation_fits t at s moment r.valid r.latest top (sent_open t at k) ok) (confirmed_none s (λ x. not (is_plain x)) refl (λ x. refl) (λ n queue a. refl) (λ n. refl))
      (sent_confirmation_keeps_standing t db at d.dispatched s next moment sessions r.valid r.latest top d.dispatch_is (sent_open t at k) ok m r.standing) r.most

  pub confirmed_local : (s : ScheduleRow) → s ≡ k.schedule → MarksAreLocal t db sessions → MarksAreLocal (committed_tables t (confirming t at s moment) moment) db sessions
  confirmed_local s e m =
      let ok : is_valid_schedule t s ≡ true = ap (is_valid_schedule t) e ∙ schedule_valid t at r.valid k in
      local_behind t db next moment sessions (confirming t at s moment) r.valid (confirmation_is_proper t at s moment r.valid r.latest top (sent_open t at k) ok).proper r.standing (λ id lt. confirmed_none s (puts_in id) refl (λ x. refl) (λ n queue a. refl) (λ n. refl)) m
