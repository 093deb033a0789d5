-- What keeps a run sound: it begins so, and each reading and each legal step leaves it so.
use Rattle.std.proofs.Common.{◌≡◌, inl, inr, ℕ, zero, suc, ◌+◌, ◌≤◌, List, [], ◌∷◌, true, false, None, Some, sym, subst, arith, length, ◌&&◌}
use Rattle.std.specs.Prelude.{slice_get, slice_set, map, nat_le}
use Rattle.std.specs.List.{list_all}
use Rattle.std.specs.Str.{bytes_eq}
use Rattle.std.proofs.Math.ListN.{length-set}
use Rattle.std.proofs.lemmas.Bool.{and_parts, leb-true}
use Rattle.std.proofs.lemmas.Option.{none-some, slice_get_within}
use Rattle.std.proofs.lemmas.List.{length-map}
use Rattle.std.proofs.lemmas.List.Elements.{All-nil}
use Rattle.aq_base.specs.declared.DbId.{DbId}
use Rattle.aq_base.specs.declared.DbId.TheVariants.{Home, Away}
use Rattle.aq_base.specs.declared.limits.TheConstants.{SESSION_LIMIT, STATEMENT_LIMIT}
use Rattle.queue_rows.specs.Session.{Session, standing_after}
use Rattle.queue_rows.specs.Within.{are_within, statement_count, is_script_within}
use Rattle.queue_rows.specs.Distinct.{are_distinct}
use Rattle.queue_rows.specs.World.{fresh, World, opened, read_clock}
use Rattle.queue_rows.specs.declared.change.Change.{Change}
use Rattle.queue_rows.specs.declared.history.SlotRef.{SlotRef}
use Rattle.queue_rows.specs.declared.history.SessionScript.{SessionScript}
use Rattle.queue_rows.specs.declared.history.Step.{Step}
use Rattle.queue_rows.specs.declared.history.Step.TheVariants.{Call, Park, Timer, Offer, Arrive, Confirm, Told, Flush, End}
use Rattle.queue_rows.specs.declared.tables.Tables.{Tables}
use Rattle.queue_rows.proofs.Sessions.{get_set-cases}
use Rattle.durable_state.specs.Sound.{IsSound as IsSoundTables}
use Rattle.sessions.specs.Numbers.{IsPendable}
use Rattle.history_laws.specs.ValidWorld.{AreScripts}
use Rattle.history_laws.specs.WorldLaws.{MayBegin}
use Rattle.queue_rows.specs.Sending.{sent, offers}
use Rattle.queue_rows.specs.Turns.{having_called, due_at}
use Rattle.queue_rows.specs.Legal.{MayStep}
use Rattle.run_laws.proofs.Grouping.{opens_grouped, reading_keeps_groups, step_keeps_groups}
use Rattle.run_laws.proofs.Positions.{was_at, length-standing}
use Rattle.run_laws.proofs.Stepping.{call_sessions, step_sessions, world_at}
use Rattle.run_laws.proofs.Worlds.{opens_valid, reading_keeps_valid, step_keeps_valid, arrival_sessions, confirm_sessions}
use Rattle.next_steps.specs.Sound.{IsSound, IsSoundSession}
use Rattle.next_steps.proofs.Pends.{answered_so, few_after, pendable_after}

-- ---- the beginning

fresh_sound : (scripts : List SessionScript) (i : ℕ) (s : Session) → slice_get (map fresh scripts) i ≡ Some s → IsSoundSession s
fresh_sound [] i s e = absurd (none-some s e)
fresh_sound (x ∷ xs) zero s e = let same : fresh x ≡ s = (let a : Some (fresh x) ≡ Some s = e in cc) in subst IsSoundSession same (record { few = omega arith; pendable = All-nil IsPendable })
fresh_sound (x ∷ xs) (suc i) s e = fresh_sound xs i s e

few_scripts : (scripts : List SessionScript) → are_within scripts ≡ true → length scripts ≤ 64
unfolding are_within
few_scripts scripts h =
    let p3 = and_parts (nat_le (length scripts) SESSION_LIMIT && nat_le (statement_count scripts) STATEMENT_LIMIT && are_distinct bytes_eq (map (λ script. script.name) scripts)) (list_all is_script_within scripts) h in
    let p2 = and_parts (nat_le (length scripts) SESSION_LIMIT && nat_le (statement_count scripts) STATEMENT_LIMIT) (are_distinct bytes_eq (map (λ script. script.name) scripts)) p3.0 in
    leb-true (length scripts) SESSION_LIMIT (and_parts (nat_le (length scripts) SESSION_LIMIT) (nat_le (statement_count scripts) STATEMENT_LIMIT) p2.0).0

-- scripts that keep the limits may begin over tables that were recovered
pub may_begin : (home away : Tables) (scripts : List SessionScript) → IsSoundTables home → IsSoundTables away → AreScripts scripts → MayBegin home away scripts
may_begin home away scripts h a s = record {
  home_valid = h.valid;
  away_valid = a.valid;
  home_fields = h.fields;
  away_fields = a.fields;
  may_ask = s;
}

pub sound_opened : (home away : Tables) (scripts : List SessionScript) → MayBegin home away scripts → IsSound (opened home away scripts)
unfolding opened
sound_opened home away scripts m = record {
  valid = opens_valid home away scripts m;
  grouped = opens_grouped home away scripts;
  few = let n = few_scripts scripts m.may_ask.within in rw length-map n;
  each = fresh_sound scripts;
}

-- ---- a reading

pub sound_read : (w : World) (reading : ℕ) → IsSound w → IsSound (read_clock reading w)
unfolding read_clock
sound_read w reading k = record {
  valid = reading_keeps_valid w reading k.valid;
  grouped = reading_keeps_groups w reading k.grouped;
  few = k.few;
  each = k.each;
}

-- ---- the sessions behind a step

-- a few sessions, each of which can end its transaction
pub record AreSound (sessions : List Session) : Type 0 where
  pub few : length sessions ≤ 64
  pub each : (i : ℕ) (s : Session) → slice_get sessions i ≡ Some s → IsSoundSession s

are_sound : (w : World) → IsSound w → AreSound w.sessions
are_sound w k = record { few = k.few; each = k.each }

-- one of them is replaced
set_sound : (sessions : List Session) (i : ℕ) (s behind : Session) → slice_get sessions i ≡ Some s → AreSound sessions → IsSoundSession behind → AreSound (slice_set sessions i behind)
set_sound sessions i s behind there all own = record {
  few = let n = all.few in rw length-set n;
  each = λ j y e. elim (get_set-cases sessions i j behind y (slice_get_within sessions i s there) e) [
    | inl p ↦ subst IsSoundSession (let a : Some behind ≡ Some y = p.1 in let same : behind ≡ y = cc in same) own
    | inr p ↦ all.each j y p.1
  ];
}

-- queues have gone
standing_sound : (db : DbId) (cs : List Change) (sessions : List Session) → AreSound sessions → AreSound (standing_after db cs sessions)
standing_sound db cs sessions all = record {
  few = let n = all.few in let e = length-standing db cs sessions in omega (arith, n, e);
  each = λ j y e.
      let x = was_at db cs sessions j y e in
      let own = all.each j x.before x.there in
      subst IsSoundSession (sym x.now) (record { few = own.few; pendable = own.pendable });
}

offer_sessions : (actor : ℕ) (w : World) (at : SlotRef) (to : List ℕ) → (sent actor (offers at to) w).sessions ≡ w.sessions
unfolding sent
offer_sessions actor w at to = step_sessions actor w [] [] (Offer at to)

-- each step leaves them so
sessions_sound : (w new : World) (actor : ℕ) (step : Step) → IsSound w → MayStep actor step w new → AreSound new.sessions
sessions_sound w new i (Call number reply) k m =
    let c = m.calls in
    let s = m.session in
    let cs = m.changes in
    let after = m.after in
    let there = c.ready.there in
    let own = k.each i s there in
    let so = answered_so w i s m.statement reply cs after k.valid c.means in
    let behind = having_called (world_at w i s reply cs after s.at) s after in
    let more = few_after s reply cs after so in
    let few = own.few in
    subst (λ x. AreSound x.sessions) (sym c.result)
    (subst AreSound (sym (call_sessions w i s reply cs after s.at))
    (standing_sound s.at cs (slice_set w.sessions i behind)
    (set_sound w.sessions i s behind there (are_sound w k) (record { few = omega (arith, more, few); pendable = pendable_after s reply cs after so own.pendable }))))
sessions_sound w new i (Park number) k m =
    let p = m.parks in
    let s = m.session in
    let own = k.each i s p.ready.there in
    subst (λ x. AreSound x.sessions) (sym p.result)
    (subst (λ xs. AreSound (slice_set xs i (record s { parked = Some m.since }))) (sym (step_sessions i w [] [] (Park (s.next + 1))))
    (set_sound w.sessions i s (record s { parked = Some m.since }) p.ready.there (are_sound w k) (record { few = own.few; pendable = own.pendable })))
sessions_sound w new i (Told number) k m =
    let t = m.tells in
    let s = m.session in
    let own = k.each i s t.there in
    subst (λ x. AreSound x.sessions) (sym t.result)
    (subst (λ xs. AreSound (slice_set xs i (record s { untold = None }))) (sym (step_sessions i w [] [] (Told m.untold.number)))
    (set_sound w.sessions i s (record s { untold = None }) t.there (are_sound w k) (record { few = own.few; pendable = own.pendable })))
sessions_sound w new i End k m =
    let s = m.0 in
    let behind = record s { pending = []; marks = []; live = false } in
    subst (λ x. AreSound x.sessions) (sym m.1.result)
    (subst (λ xs. AreSound (slice_set xs i behind)) (sym (step_sessions i w [] [] End))
    (set_sound w.sessions i s behind m.1.ready.there (are_sound w k) (record { few = omega arith; pendable = All-nil IsPendable })))
sessions_sound w new i Flush k m = subst (λ x. AreSound x.sessions) (sym m.result) (subst AreSound (sym (step_sessions i w [] [] Flush)) (are_sound w k))
sessions_sound w new i Timer k m = subst (λ x. AreSound x.sessions) (sym m.result) (subst AreSound (sym (step_sessions i w (due_at Home w) (due_at Away w) Timer)) (are_sound w k))
sessions_sound w new i (Offer at to) k m = subst (λ x. AreSound x.sessions) (sym m.result) (subst AreSound (sym (offer_sessions i w at to)) (are_sound w k))
sessions_sound w new i (Arrive at outcome) k m = subst (λ x. AreSound x.sessions) (sym m.sends.result) (subst AreSound (sym (arrival_sessions i w at m.arriving)) (are_sound w k))
sessions_sound w new i (Confirm at) k m = subst (λ x. AreSound x.sessions) (sym m.sends.result) (subst AreSound (sym (confirm_sessions i w at m.number m.changes)) (are_sound w k))

-- ---- each step

pub step_sound : (w new : World) (actor : ℕ) (step : Step) → IsSound w → MayStep actor step w new → IsSound new
step_sound w new actor step k may = let ss = sessions_sound w new actor step k may in record {
  valid = step_keeps_valid w new actor step k.valid may;
  grouped = step_keeps_groups w new actor step k.valid k.grouped may;
  few = ss.few;
  each = ss.each;
}
