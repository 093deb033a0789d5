-- In each world of a legal history the marks of sessions stand in the groups of their slots.
use Rattle.std.proofs.Common.{◌≡◌, ◌≢◌, ◌+◌, ◌⊎◌, inl, inr, ℕ, List, [], true, false, refl, sym, ap, ◌∙◌, subst, Option, Some, None}
use Rattle.std.specs.Prelude.{slice_get, slice_set, map}
use Rattle.std.specs.List.{list_any}
use Rattle.std.proofs.lemmas.Bool.{false≢true}
use Rattle.std.proofs.lemmas.Option.{slice_get_within}
use Rattle.std.proofs.lemmas.List.Elements.{All-nil}
use Rattle.aq_base.specs.declared.DbId.{DbId}
use Rattle.aq_base.specs.declared.DbId.TheVariants.{Home, Away}
use Rattle.queue_rows.specs.Session.{Session, marks_slot}
use Rattle.queue_rows.specs.Meaning.{answers}
use Rattle.queue_rows.specs.Turns.{ids_taken, having_called, called, timed, all_durable}
use Rattle.queue_rows.specs.World.{fresh, committed_tables, other_db, World, on_its_way, Transit, database_at, opened, read_clock, stepped, with_session}
use Rattle.queue_rows.specs.declared.tables.Tables.{Tables}
use Rattle.queue_rows.specs.declared.change.Change.{Change}
use Rattle.queue_rows.specs.declared.history.SlotRef.{SlotRef}
use Rattle.queue_rows.specs.declared.history.SessionScript.{SessionScript}
use Rattle.queue_rows.specs.declared.history.Step.{Step}
use Rattle.queue_rows.specs.declared.history.Step.TheVariants.{Call, Park, Timer, Offer, Arrive, Confirm, Told, Flush, End}
use Rattle.queue_rows.specs.declared.reply.Reply.{Reply}
use Rattle.queue_rows.specs.declared.statement.Statement.{Statement}
use Rattle.queue_rows.proofs.Sessions.{get_set-cases}
use Rattle.valid_laws.specs.Openness.{is_open_at}
use Rattle.valid_laws.proofs.Parts.{valid_distinct}
use Rattle.statement_laws.proofs.Among.{each_found}
use Rattle.message_choice.specs.Sound.{AreInGroups}
use Rattle.history_laws.specs.WorldLaws.{MayBegin}
use Rattle.history_laws.proofs.Worlds.{fresh_empty}
use Rattle.history_laws.proofs.Making.{own_db}
use Rattle.run_laws.specs.GroupedMarks.{group_at, AreOfGroups}
use Rattle.run_laws.proofs.Staying.{committed_group}
use Rattle.run_laws.proofs.Grouped.{same_group_at, regrouped, all_in_groups}
use Rattle.queue_rows.specs.Sending.{sent, offers, arrives, confirms, ids_copied, with_transit}
use Rattle.queue_rows.specs.Statements.{meaning, next_statement}
use Rattle.queue_rows.specs.Legal.{MayStep, IsLegal, opens, reads, steps}
use Rattle.run_laws.specs.ValidRun.{IsValidWorld}
use Rattle.run_laws.specs.RunLaws.{AreGroupedMarks}
use Rattle.run_laws.proofs.Positions.{was_at}
use Rattle.run_laws.proofs.Calling.{call_leaves}
use Rattle.run_laws.proofs.Stepping.{Leads, no_changes, no_ids, only_at, ids_at, world_at, called_at, call_leads, call_sessions, step_sessions, leads_with_session, leads_with_transit, leads_durable}
use Rattle.run_laws.proofs.Committing.{Commits, quiet_commits, timed_commits, call_commits, confirm_commits, arrival_commits}
use Rattle.run_laws.proofs.Worlds.{quiet_leads, timed_leads, due_changes, arrival_changes, arrival_leads, arrival_sessions, confirm_leads, confirm_sessions, read_tables, opens_valid, reading_keeps_valid, step_keeps_valid}

-- a session's marks are on slots that can be taken, in their groups
record HasMarks (w : World) (s : Session) : Type 0 where
  groups : AreOfGroups (database_at s.at w).tables s.marks
  opens_there : (id slot : ℕ) → list_any (marks_slot id slot) s.marks ≡ true → is_open_at (database_at s.at w).tables id slot ≡ true

-- so each session of a valid world behind a step has
behind_step : (w new : World) (cs : DbId → List Change) (taken : DbId → ℕ) → IsValidWorld w → IsValidWorld new → Leads w new cs taken → Commits w cs → ((j : ℕ) (y : Session) → slice_get new.sessions j ≡ Some y → HasMarks w y) → AreGroupedMarks new
behind_step w new cs taken v nv b c h j y e =
    let k = h j y e in
    let t = (database_at y.at w).tables in
    let u = committed_tables t (cs y.at) w.moment in
    let at = c y.at in
    let now = ((nv.databases y.at).standing.each j y e (own_db y.at)).marked in
    subst (λ x. AreOfGroups x y.marks) (sym (b.tables y.at))
    (regrouped t u y.marks
    (λ id slot m.
    let o = k.opens_there id slot m in
    let p = sym (ap (λ x. is_open_at x id slot) (b.tables y.at)) ∙ now id slot m in
    same_group_at t u id slot o p (λ a z f g. committed_group t w.moment (cs y.at) id slot a z (v.databases y.at).valid at.proper (at.unput id slot o) o p f g) at.tables) k.groups)

old_marks : (w : World) → IsValidWorld w → AreGroupedMarks w → (j : ℕ) (y : Session) → slice_get w.sessions j ≡ Some y → HasMarks w y
old_marks w v g j y e = record { groups = g j y e; opens_there = ((v.databases y.at).standing.each j y e (own_db y.at)).marked }

same_sessions : (w new : World) → IsValidWorld w → AreGroupedMarks w → new.sessions ≡ w.sessions → (j : ℕ) (y : Session) → slice_get new.sessions j ≡ Some y → HasMarks w y
same_sessions w new v g same j y e = old_marks w v g j y (ap (λ xs. slice_get xs j) (sym same) ∙ e)

-- one session is replaced
set_sessions : (w : World) (xs : List Session) (i : ℕ) (s behind : Session) → IsValidWorld w → AreGroupedMarks w → slice_get w.sessions i ≡ Some s → HasMarks w behind → xs ≡ slice_set w.sessions i behind → (j : ℕ) (y : Session) → slice_get xs j ≡ Some y → HasMarks w y
set_sessions w xs i s behind v g there own set j y e = by (get_set-cases w.sessions i j behind y (slice_get_within w.sessions i s there) (ap (λ zs. slice_get zs j) (sym set) ∙ e))
  where
    by : ((j ≡ i) × (Some behind ≡ Some y)) ⊎ ((j ≢ i) × (slice_get w.sessions j ≡ Some y)) → HasMarks w y
    by (inl p) = let same : behind ≡ y = (let a : Some behind ≡ Some y = p.1 in cc) in subst (HasMarks w) same own
    by (inr p) = old_marks w v g j y p.1

-- ---- a call

module _ (w : World) (i : ℕ) (s : Session) (statement : Statement) (reply : Reply) (cs : List Change) (after : Session) (v : IsValidWorld w) (g : AreGroupedMarks w) (there : slice_get w.sessions i ≡ Some s) (next : next_statement w i s ≡ Some statement)
    (means : meaning w i s statement ≡ answers reply cs after) where
  abbrev behind : Session
  behind = having_called (world_at w i s reply cs after s.at) s after

  own_marks : HasMarks w behind
  own_marks =
      let l = call_leaves w i s statement reply cs after v there next means in
      let old = old_marks w v g i s there in
      record { groups = l.groups old.groups; opens_there = l.opens old.opens_there }

  call_groups : IsValidWorld (called i s reply cs after w) → AreGroupedMarks (called i s reply cs after w)
  call_groups nv =
      behind_step w (called_at w i s reply cs after s.at) (only_at s.at cs) (ids_at s.at (ids_taken reply)) v nv (call_leads w i s reply cs after s.at) (call_commits w v i s statement reply cs after there next means)
      (λ j y e.
      let x = was_at s.at cs (slice_set w.sessions i behind) j y (ap (λ xs. slice_get xs j) (sym (call_sessions w i s reply cs after s.at)) ∙ e) in
      let k = set_sessions w (slice_set w.sessions i behind) i s behind v g there own_marks refl j x.before x.there in
      subst (HasMarks w) (sym x.now) (record { groups = k.groups; opens_there = k.opens_there }))

-- ---- an offer

offer_groups : (w : World) (actor : ℕ) (at : SlotRef) (to : List ℕ) → IsValidWorld w → AreGroupedMarks w → IsValidWorld (sent actor (offers at to) w) → AreGroupedMarks (sent actor (offers at to) w)
unfolding sent
offer_groups w actor at to v g nv =
    let transit : Option Transit = Some (record { slot = at; stage = on_its_way }) in
    let before = stepped actor w [] [] (Offer at to) in
    behind_step w (with_transit transit before) no_changes no_ids v nv (leads_with_transit w before no_changes no_ids transit (quiet_leads actor w (Offer at to))) (quiet_commits w v)
    (same_sessions w (with_transit transit before) v g (step_sessions actor w [] [] (Offer at to)))

-- ---- each step

session_groups : (w : World) (actor i : ℕ) (step : Step) (s behind : Session) → IsValidWorld w → AreGroupedMarks w → slice_get w.sessions i ≡ Some s → HasMarks w behind → IsValidWorld (with_session i behind (stepped actor w [] [] step)) → AreGroupedMarks (with_session i behind (stepped actor w [] [] step))
session_groups w actor i step s behind v g there own nv =
    behind_step w (with_session i behind (stepped actor w [] [] step)) no_changes no_ids v nv (leads_with_session w (stepped actor w [] [] step) no_changes no_ids i behind (quiet_leads actor w step)) (quiet_commits w v)
    (set_sessions w (slice_set (stepped actor w [] [] step).sessions i behind) i s behind v g there own (ap (λ xs. slice_set xs i behind) (step_sessions actor w [] [] step)))

pub step_keeps_groups : (w new : World) (actor : ℕ) (step : Step) → IsValidWorld w → AreGroupedMarks w → MayStep actor step w new → AreGroupedMarks new
step_keeps_groups w new i (Call number reply) v g m =
    let c = m.calls in
    let nv = step_keeps_valid w new i (Call number reply) v m in
    subst AreGroupedMarks (sym c.result) (call_groups w i m.session m.statement reply m.changes m.after v g c.ready.there c.next c.means (subst IsValidWorld c.result nv))
step_keeps_groups w new i (Park number) v g m =
    let p = m.parks in
    let nv = step_keeps_valid w new i (Park number) v m in
    let old = old_marks w v g i m.session p.ready.there in
    subst AreGroupedMarks (sym p.result)
    (session_groups w i i (Park (m.session.next + 1)) m.session (record m.session { parked = Some m.since }) v g p.ready.there (record { groups = old.groups; opens_there = old.opens_there }) (subst IsValidWorld p.result nv))
step_keeps_groups w new i (Told number) v g m =
    let t = m.tells in
    let nv = step_keeps_valid w new i (Told number) v m in
    let old = old_marks w v g i m.session t.there in
    subst AreGroupedMarks (sym t.result)
    (session_groups w i i (Told m.untold.number) m.session (record m.session { untold = None }) v g t.there (record { groups = old.groups; opens_there = old.opens_there }) (subst IsValidWorld t.result nv))
step_keeps_groups w new i Flush v g m =
    let flushed = all_durable (stepped i w [] [] Flush) in
    let nv = step_keeps_valid w new i Flush v m in
    subst AreGroupedMarks (sym m.result)
    (behind_step w flushed no_changes no_ids v (subst IsValidWorld m.result nv) (leads_durable w (stepped i w [] [] Flush) no_changes no_ids (quiet_leads i w Flush)) (quiet_commits w v) (same_sessions w flushed v g (step_sessions i w [] [] Flush)))
step_keeps_groups w new i End v g m =
    let nv = step_keeps_valid w new i End v m in
    subst AreGroupedMarks (sym m.1.result)
    (session_groups w i i End m.0 (record m.0 { pending = []; marks = []; live = false }) v g m.1.ready.there
    (record { groups = All-nil (λ mark. mark.group ≡ group_at (database_at m.0.at w).tables mark.id mark.slot); opens_there = λ id slot h. absurd (false≢true h) }) (subst IsValidWorld m.1.result nv))
step_keeps_groups w new i Timer v g m =
    let nv = step_keeps_valid w new i Timer v m in
    subst AreGroupedMarks (sym m.result)
    (behind_step w (timed i w) (due_changes w) no_ids v (subst IsValidWorld m.result nv) (timed_leads i w) (timed_commits w v) (same_sessions w (timed i w) v g (step_sessions i w (due_changes w Home) (due_changes w Away) Timer)))
step_keeps_groups w new i (Offer at to) v g m =
    let nv = step_keeps_valid w new i (Offer at to) v m in
    subst AreGroupedMarks (sym m.result) (offer_groups w i at to v g (subst IsValidWorld m.result nv))
step_keeps_groups w new i (Arrive at outcome) v g m =
    let nv = step_keeps_valid w new i (Arrive at outcome) v m in
    let a = m.arriving in
    subst AreGroupedMarks (sym m.sends.result)
    (behind_step w (sent i (arrives at a) w) (arrival_changes at a) (ids_at (other_db at.db) (ids_copied a.outcome)) v (subst IsValidWorld m.sends.result nv) (arrival_leads i w at a) (arrival_commits w v at a m.sends.next) (same_sessions w (sent i (arrives at a) w) v g (arrival_sessions i w at a)))
step_keeps_groups w new i (Confirm at) v g m =
    let nv = step_keeps_valid w new i (Confirm at) v m in
    subst AreGroupedMarks (sym m.sends.result)
    (behind_step w (sent i (confirms at m.number m.changes) w) (only_at at.db m.changes) no_ids v (subst IsValidWorld m.sends.result nv) (confirm_leads i w at m.number m.changes) (confirm_commits w v at m.number m.changes m.sends.next)
    (same_sessions w (sent i (confirms at m.number m.changes) w) v g (confirm_sessions i w at m.number m.changes)))

-- ---- every legal history

read_sessions : (w : World) (reading : ℕ) → (read_clock reading w).sessions ≡ w.sessions
unfolding read_clock
read_sessions w reading = refl

pub reading_keeps_groups : (w : World) (reading : ℕ) → AreGroupedMarks w → AreGroupedMarks (read_clock reading w)
reading_keeps_groups w reading g j y f = subst (λ t. AreOfGroups t y.marks) (sym (read_tables w reading y.at)) (g j y (ap (λ xs. slice_get xs j) (sym (read_sessions w reading)) ∙ f))

opened_sessions : (home away : Tables) (scripts : List SessionScript) → (opened home away scripts).sessions ≡ map fresh scripts
unfolding opened
opened_sessions home away scripts = refl

pub opens_grouped : (home away : Tables) (scripts : List SessionScript) → AreGroupedMarks (opened home away scripts)
opens_grouped home away scripts j y f =
    let none = (fresh_empty scripts j y (ap (λ xs. slice_get xs j) (sym (opened_sessions home away scripts)) ∙ f)).1 in
    let t = (database_at y.at (opened home away scripts)).tables in
    subst (AreOfGroups t) (sym none) (All-nil (λ mark. mark.group ≡ group_at t mark.id mark.slot))

grouped_from : (start : World) → IsValidWorld start → AreGroupedMarks start → (readings : List ℕ) (w : World) → IsLegal start readings w → IsValidWorld w × AreGroupedMarks w
grouped_from start v g readings w opens = (v, g)
grouped_from start v g readings w (reads before u reading legal) = let x = grouped_from start v g before u legal in (reading_keeps_valid u reading x.0, reading_keeps_groups u reading x.1)
grouped_from start v g readings w (steps same u new actor step legal timely may) =
    let x = grouped_from start v g same u legal in (step_keeps_valid u new actor step x.0 may, step_keeps_groups u new actor step x.0 x.1 may)

pub legal_is_grouped : (home away : Tables) (scripts : List SessionScript) (readings : List ℕ) (w : World) → MayBegin home away scripts → IsLegal (opened home away scripts) readings w → AreGroupedMarks w
legal_is_grouped home away scripts readings w b legal = (grouped_from (opened home away scripts) (opens_valid home away scripts b) (opens_grouped home away scripts) readings w legal).1

pub grouped_are_in_groups : (w : World) (i : ℕ) (s : Session) → IsValidWorld w → AreGroupedMarks w → slice_get w.sessions i ≡ Some s → AreInGroups (database_at s.at w).tables s.marks
grouped_are_in_groups w i s v g e =
    let t = (database_at s.at w).tables in
    all_in_groups t s.marks t.messages (g i s e) (each_found t.messages (valid_distinct t (v.databases s.at).valid))
