-- What each step commits fits, is proper, puts in no message that is there, and leaves the tables of queues.
use Rattle.std.proofs.Common.{◌≡◌, ◌≤◌, ◌⊎◌, inl, inr, ℕ, List, [], ◌∷◌, Bool, true, false, refl, sym, ap, ◌∙◌, subst, arith, Option, Some, ◌==◌}
use Rattle.std.specs.Prelude.{slice_get, if◌then◌else◌}
use Rattle.std.specs.List.{list_any}
use Rattle.std.proofs.lemmas.Bool.{ne_eqb, or_from}
use Rattle.aq_base.specs.declared.DbId.{DbId}
use Rattle.aq_base.specs.declared.limits.TheConstants.{MOMENT_LIMIT}
use Rattle.queue_rows.specs.Tables.{after}
use Rattle.queue_rows.specs.Session.{Session, is_same_db}
use Rattle.queue_rows.specs.Meaning.{answers}
use Rattle.queue_rows.specs.Due.{due}
use Rattle.queue_rows.specs.Propagating.{Parcel, Dispatch, Arriving, delayed, taken_in, confirming}
use Rattle.queue_rows.specs.World.{committed_tables, other_db, World, on_its_way, came, database_at}
use Rattle.queue_rows.specs.Valid.{is_valid_schedule}
use Rattle.queue_rows.specs.Fits.{fits}
use Rattle.queue_rows.specs.declared.tables.Tables.{Tables}
use Rattle.queue_rows.specs.declared.rows.ScheduleRow.{ScheduleRow}
use Rattle.queue_rows.specs.declared.change.Change.{Change}
use Rattle.queue_rows.specs.declared.change.Change.TheVariants as changes
use Rattle.queue_rows.specs.declared.history.SlotRef.{SlotRef}
use Rattle.queue_rows.specs.declared.reply.Reply.{Reply}
use Rattle.queue_rows.specs.declared.statement.Statement.{Statement}
use Rattle.valid_laws.specs.Openness.{is_open_at}
use Rattle.valid_laws.specs.Touching.{puts_in, are_proper}
use Rattle.valid_laws.specs.ArrivalLaws.{MayTakeIn}
use Rattle.valid_laws.proofs.Arriving.{arrival_fits, taken_in_goes, confirmation_fits, confirmation_goes}
use Rattle.valid_laws.proofs.Committing.{commit_fits}
use Rattle.valid_laws.proofs.Opened.{open_at}
use Rattle.valid_laws.proofs.Parts.{valid_id}
use Rattle.valid_laws.proofs.Undone.{due_fits, due_goes}
use Rattle.statement_laws.proofs.Administering.{same_is}
use Rattle.history_laws.proofs.Committing.{due_is_proper, arrival_is_proper, confirmation_is_proper}
use Rattle.history_laws.specs.ValidWorld.{IsRight}
use Rattle.run_laws.proofs.Tabling.{TablesStay, goes_tables, none_stays}
use Rattle.queue_rows.specs.Statements.{slot_sent, meaning, next_statement}
use Rattle.queue_rows.specs.Sending.{arrives, confirms, next_sending}
use Rattle.run_laws.specs.ValidRun.{IsBeingSent, IsValidWorld}
use Rattle.run_laws.proofs.Arriving.{ArrivesAs, as_seen, as_failed, as_copied, arrives_as}
use Rattle.run_laws.proofs.Calling.{call_fits, call_gives, call_leaves, call_unput}
use Rattle.run_laws.proofs.Resting.{sent_open}
use Rattle.run_laws.proofs.Sendings.{IsArriving, arrives_so, confirms_so}
use Rattle.run_laws.proofs.Stepping.{no_changes, only_at}
use Rattle.run_laws.proofs.Working.{due_none, schedule_valid, taken_is, failed_fits, confirmed_none}
use Rattle.run_laws.proofs.Worlds.{due_changes, arrival_changes, own_of, other_of, is_one, sends_on}

-- ---- a commit of one database

pub record CommitsAt (t : Tables) (moment : ℕ) (cs : List Change) : Type 0 where
  pub fit : fits t (record { moment = moment; changes = cs }) ≡ true
  pub proper : are_proper t cs ≡ true
  pub unput : (id slot : ℕ) → is_open_at t id slot ≡ true → list_any (puts_in id) cs ≡ false
  pub tables : TablesStay t (committed_tables t cs moment)

module _ (t : Tables) (db : DbId) (next moment : ℕ) (sessions : List Session) (r : IsRight t db next moment sessions) (top : moment ≤ MOMENT_LIMIT) where
  pub nothing_commits : CommitsAt t moment []
  unfolding are_proper
  nothing_commits = record { fit = commit_fits t moment [] r.valid r.latest top tt; proper = refl; unput = λ id slot o. refl; tables = none_stays t moment [] refl }

  pub due_commits : (sent : Option SlotRef) → CommitsAt t moment (due t sessions db sent moment)
  due_commits sent = record {
    fit = due_fits t sessions db sent moment r.valid r.latest top;
    proper = (due_is_proper t sessions db sent moment r.valid r.latest top).proper;
    unput = λ id slot o. due_none t db sent next moment sessions r top (puts_in id) (λ n a at. refl) (λ n a at. refl) (λ n queue at. refl) (λ n. refl);
    tables = goes_tables t moment (due t sessions db sent moment) r.latest (due_goes t sessions db sent moment r.valid r.latest top);
  }

  pub taken_commits : (at : SlotRef) (p : Parcel) → MayTakeIn t at p next moment → CommitsAt t moment (taken_in t at p next moment)
  taken_commits at p k = record {
    fit = arrival_fits t at p next moment r.valid r.latest top k;
    proper = (arrival_is_proper t at p next moment r.valid r.latest top k).proper;
    unput = λ id slot o. let x = open_at t id slot o in
        ap (list_any (puts_in id)) (taken_is t db at p next moment sessions r top k)
        ∙ or_from (next == id) false (ne_eqb next id (λ e. absurd (let up = r.standing.up in let lt = valid_id t id x.message r.valid x.found in omega (arith, lt, e, up)))) refl;
    tables = goes_tables t moment (taken_in t at p next moment) r.latest (taken_in_goes t at p next moment r.valid r.latest top k);
  }

  pub failed_commits : (s : ScheduleRow) → is_valid_schedule t s ≡ true → s.failures ≤ 15 → CommitsAt t moment (changes.PutSchedule (delayed s moment) ∷ [])
  unfolding are_proper after
  failed_commits s ok few = record { fit = failed_fits t db next moment sessions r top s ok few; proper = refl; unput = λ id slot o. refl; tables = λ id m n f e same. refl }

  pub confirmed_commits : (at : SlotRef) (k : IsBeingSent t at) (s : ScheduleRow) → s ≡ k.schedule → CommitsAt t moment (confirming t at s moment)
  confirmed_commits at k s e =
      let ok : is_valid_schedule t s ≡ true = ap (is_valid_schedule t) e ∙ schedule_valid t at r.valid k in
      let o = sent_open t at k in
      record {
        fit = confirmation_fits t at s moment r.valid r.latest top o ok;
        proper = (confirmation_is_proper t at s moment r.valid r.latest top o ok).proper;
        unput = λ id slot x. confirmed_none t db at next moment sessions r top k s (puts_in id) refl (λ y. refl) (λ n queue a. refl) (λ n. refl);
        tables = goes_tables t moment (confirming t at s moment) r.latest (confirmation_goes t at s moment r.valid r.latest top o ok);
      }

-- ---- of both

abbrev pub Commits : World → (DbId → List Change) → Type 0
Commits w cs = (db : DbId) → CommitsAt (database_at db w).tables w.moment (cs db)

module _ (w : World) (v : IsValidWorld w) where
  none_here : (db : DbId) → CommitsAt (database_at db w).tables w.moment []
  none_here db = nothing_commits (database_at db w).tables db (database_at db w).next w.moment w.sessions (v.databases db) v.last

  pub quiet_commits : Commits w no_changes
  quiet_commits db = none_here db

  pub timed_commits : Commits w (due_changes w)
  timed_commits db = due_commits (database_at db w).tables db (database_at db w).next w.moment w.sessions (v.databases db) v.last (slot_sent w)

  -- one database commits
  only_by : (at : DbId) (cs : List Change) → CommitsAt (database_at at w).tables w.moment cs → (db : DbId) (b : Bool) → is_same_db at db ≡ b → CommitsAt (database_at db w).tables w.moment (if b then cs else [])
  only_by at cs k db true e = subst (λ d. CommitsAt (database_at d w).tables w.moment cs) (same_is at db e) k
  only_by at cs k db false e = none_here db

  pub only_commits : (at : DbId) (cs : List Change) → CommitsAt (database_at at w).tables w.moment cs → Commits w (only_at at cs)
  only_commits at cs k db = only_by at cs k db (is_same_db at db) refl

  pub call_commits : (i : ℕ) (s : Session) (statement : Statement) (reply : Reply) (cs : List Change) (after : Session) → slice_get w.sessions i ≡ Some s → next_statement w i s ≡ Some statement → meaning w i s statement ≡ answers reply cs after → Commits w (only_at s.at cs)
  call_commits i s statement reply cs after there next means =
      only_commits s.at cs
      (record {
        fit = call_fits w i s statement reply cs after v there next means;
        proper = (call_gives w i s statement reply cs after v there next means).1.commit.proper;
        unput = call_unput w i s statement reply cs after v there next means;
        tables = (call_leaves w i s statement reply cs after v there next means).tables;
      })

  pub confirm_commits : (at : SlotRef) (number : ℕ) (cs : List Change) → next_sending w ≡ Some (confirms at number cs) → Commits w (only_at at.db cs)
  confirm_commits at number cs e =
      let k = confirms_so w at number cs e in
      let x = sends_on w at (came number) k.dispatched v k.sent k.dispatch_is in
      only_commits at.db cs
      (subst (CommitsAt (database_at at.db w).tables w.moment) (sym k.commits)
      (confirmed_commits (database_at at.db w).tables at.db (database_at at.db w).next w.moment w.sessions (v.databases at.db) v.last at x.being k.dispatched.schedule x.schedule_is))

  -- what an arrival commits at its origin and at its destination
  pub record ArrivesWell (at : SlotRef) (a : Arriving) : Type 0 where
    pub origin : CommitsAt (database_at at.db w).tables w.moment a.origin
    pub there : CommitsAt (database_at (other_db at.db) w).tables w.moment a.there

  arrives_well : (at : SlotRef) (a : Arriving) (d : Dispatch) (k : IsBeingSent (database_at at.db w).tables at) → d.schedule ≡ k.schedule → ArrivesAs (database_at (other_db at.db) w).tables at d (database_at (other_db at.db) w).next w.moment a → ArrivesWell at a
  arrives_well at a d k s (as_seen seen e) = subst (ArrivesWell at) (sym e) (record { origin = none_here at.db; there = none_here (other_db at.db) })
  arrives_well at a d k s (as_failed cause e) =
      let t = (database_at at.db w).tables in
      let few : d.schedule.failures ≤ 15 = (let x = k.few in let same = ap (λ y. y.failures) s in omega (arith, x, same)) in
      subst (ArrivesWell at) (sym e)
      (record {
        origin = failed_commits t at.db (database_at at.db w).next w.moment w.sessions (v.databases at.db) v.last d.schedule (ap (λ x. is_valid_schedule t x) s ∙ schedule_valid t at (v.databases at.db).valid k) few;
        there = none_here (other_db at.db);
      })
  arrives_well at a d k s (as_copied new may e) =
      let x = other_db at.db in
      subst (ArrivesWell at) (sym e) (record { origin = none_here at.db; there = taken_commits (database_at x w).tables x (database_at x w).next w.moment w.sessions (v.databases x) v.last at d.parcel may })

  pub arrives_here : (at : SlotRef) (a : Arriving) (e : next_sending w ≡ Some (arrives at a)) → (k : IsArriving w at a) × ArrivesAs (database_at (other_db at.db) w).tables at k.dispatched (database_at (other_db at.db) w).next w.moment a
  arrives_here at a e =
      let k = arrives_so w at a e in
      let o = other_db at.db in (
        k,
        subst (ArrivesAs (database_at o w).tables at k.dispatched (database_at o w).next w.moment) (sym k.arriving_is)
            (arrives_as (database_at at.db w).tables (database_at o w).tables at k.dispatched (database_at o w).next w.moment (v.databases at.db).valid (v.databases o).standing.up k.dispatch_is),
      )

  by_one : (at : SlotRef) (a : Arriving) → ArrivesWell at a → (db : DbId) → (db ≡ at.db) ⊎ (db ≡ other_db at.db) → CommitsAt (database_at db w).tables w.moment (arrival_changes at a db)
  by_one at a h db (inl p) =
      subst (λ d. CommitsAt (database_at d w).tables w.moment (arrival_changes at a d)) (sym p) (subst (CommitsAt (database_at at.db w).tables w.moment) (sym (own_of at.db a.origin a.there)) h.origin)
  by_one at a h db (inr p) =
      subst (λ d. CommitsAt (database_at d w).tables w.moment (arrival_changes at a d)) (sym p) (subst (CommitsAt (database_at (other_db at.db) w).tables w.moment) (sym (other_of at.db a.origin a.there)) h.there)

  pub arrival_commits : (at : SlotRef) (a : Arriving) → next_sending w ≡ Some (arrives at a) → Commits w (arrival_changes at a)
  arrival_commits at a e db =
      let x = arrives_here at a e in
      let s = sends_on w at on_its_way x.0.dispatched v x.0.sent x.0.dispatch_is in
      by_one at a (arrives_well at a x.0.dispatched s.being s.schedule_is x.1) db (is_one at.db db)
