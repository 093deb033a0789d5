-- Worlds begin so that each commit can be spelled, and each reading and each legal step leaves them so.
use Rattle.std.proofs.Common.{◌≡◌, ◌≢◌, ◌≤◌, ◌+◌, ◌==◌, ◌⊎◌, inl, inr, ℕ, zero, suc, length, arith, List, [], ◌∷◌, Bool, true, false, map, refl, sym, ap, ◌∙◌, subst, Option, Some, None}
use Rattle.std.specs.Prelude.{slice_get, slice_set, if◌then◌else◌}
use Rattle.std.specs.List.{AllByRecursion}
use Rattle.std.specs.Option.{IfSome}
use Rattle.std.proofs.lemmas.Bool.{true≢false}
use Rattle.std.proofs.lemmas.Option.{slice_get_within}
use Rattle.aq_base.specs.declared.DbId.{DbId}
use Rattle.aq_base.specs.declared.DbId.TheVariants.{Home, Away}
use Rattle.queue_rows.specs.Session.{Session, is_same_db}
use Rattle.queue_rows.specs.Meaning.{answers}
use Rattle.queue_rows.specs.Turns.{ids_taken, having_called, called, timed, all_durable}
use Rattle.queue_rows.specs.World.{fresh, uncounted, other_db, World, on_its_way, Transit, database_at, opened, read_clock, stepped, with_session}
use Rattle.queue_rows.specs.Propagating.{Arriving}
use Rattle.queue_rows.specs.declared.tables.Tables.{Tables}
use Rattle.queue_rows.specs.declared.change.Change.{Change}
use Rattle.queue_rows.specs.declared.history.Entry.{Entry}
use Rattle.queue_rows.specs.declared.history.History.{History}
use Rattle.queue_rows.specs.declared.history.SlotRef.{SlotRef}
use Rattle.queue_rows.specs.declared.history.SessionScript.{SessionScript}
use Rattle.queue_rows.specs.declared.history.Step.{Step}
use Rattle.queue_rows.specs.declared.history.Step.TheVariants.{Call, Park, Timer, Offer, Arrive, Confirm, Told, Flush, End}
use Rattle.queue_rows.specs.declared.reply.Reply.{Reply}
use Rattle.queue_rows.specs.declared.statement.Statement.{Statement}
use Rattle.queue_rows.proofs.Sessions.{get_set-cases}
use Rattle.history_laws.specs.Made.{changes_at, commit_at, commits_of}
use Rattle.history_laws.specs.WorldLaws.{MayBegin}
use Rattle.history_laws.proofs.Worlds.{fresh_empty}
use Rattle.queue_rows.specs.Sending.{sent, offers, arrives, confirms, next_sending, ids_copied, with_transit}
use Rattle.queue_rows.specs.Statements.{slot_sent, meaning, next_statement}
use Rattle.queue_rows.specs.Legal.{MayStep, IsLegal, opens, reads, steps, IsLegalBy, IsLegalHistory}
use Rattle.run_laws.specs.ValidRun.{IsValidWorld}
use Rattle.run_laws.proofs.Positions.{was_at}
use Rattle.run_laws.proofs.Stepping.{Leads, no_changes, no_ids, only_at, ids_at, world_at, called_at, call_leads, call_sessions, step_sessions, leads_with_session, leads_with_transit, leads_durable}
use Rattle.run_laws.proofs.Worlds.{quiet_leads, timed_leads, due_changes, arrival_changes, arrival_leads, arrival_sessions, own_of, other_of, is_one, confirm_leads, confirm_sessions, read_tables, opens_valid, reading_keeps_valid, step_keeps_valid}
use Rattle.redo_records.specs.Spellable.{CanBeSpelled}
use Rattle.run_spellings.specs.SpellableRun.{AreFullAdditions, AreSpellable, HasSpellableRows, have_text_rules, IsSpellableEntry, IsSpellableWorld, MayBeSpelled}
use Rattle.run_spellings.proofs.Calling.{call_answers}
use Rattle.run_spellings.proofs.Changing.{due_spells}
use Rattle.run_spellings.proofs.Each.{each_cons, each_last}
use Rattle.run_spellings.proofs.Keeping.{commit_keeps_rows}
use Rattle.run_spellings.proofs.Sending.{sending_spells}

-- ---- what holds behind a step

abbrev HoldsFull : Session → Type 0
HoldsFull s = AreFullAdditions s.pending

abbrev HoldFull : List Session → Type 0
HoldFull ss = (i : ℕ) (s : Session) → slice_get ss i ≡ Some s → HoldsFull s

abbrev Spells : (DbId → List Change) → Type 0
Spells cs = (db : DbId) → AreSpellable (cs db)

behind_step : (w new : World) (cs : DbId → List Change) (taken : DbId → ℕ) → IsSpellableWorld w → Leads w new cs taken → Spells cs → HoldFull new.sessions → IsSpellableWorld new
behind_step w new cs taken k b c held =
    let entry : IsSpellableEntry b.entry = record { home = subst AreSpellable (sym (b.changes Home)) (c Home); away = subst AreSpellable (sym (b.changes Away)) (c Away) } in
    record {
      rows = λ db. subst HasSpellableRows (sym (b.tables db)) (commit_keeps_rows (database_at db w).tables (cs db) w.moment (c db) (k.rows db));
      pending = held;
      rules = ap have_text_rules b.scripts ∙ k.rules;
      commits = subst (AllByRecursion IsSpellableEntry) (sym b.entries) (each_last IsSpellableEntry w.entries b.entry k.commits entry);
    }

none_spell : Spells no_changes
none_spell db = tt

only_by : (cs : List Change) (b : Bool) → AreSpellable cs → AreSpellable (if b then cs else [])
only_by cs true h = h
only_by cs false h = tt

only_spell : (at : DbId) (cs : List Change) → AreSpellable cs → Spells (only_at at cs)
only_spell at cs h db = only_by cs (is_same_db at db) h

-- ---- sessions

same_held : (w : World) (ss : List Session) → IsSpellableWorld w → ss ≡ w.sessions → HoldFull ss
same_held w ss k e = subst HoldFull (sym e) k.pending

-- one of them is replaced
set_held : (w : World) (ss : List Session) (i : ℕ) (s behind : Session) → IsSpellableWorld w → slice_get w.sessions i ≡ Some s → HoldsFull behind → ss ≡ slice_set w.sessions i behind → HoldFull ss
set_held w ss i s behind k there own e = subst HoldFull (sym e) (λ j y f. by j y (get_set-cases w.sessions i j behind y (slice_get_within w.sessions i s there) f))
  where
    by : (j : ℕ) (y : Session) → ((j ≡ i) × (Some behind ≡ Some y)) ⊎ ((j ≢ i) × (slice_get w.sessions j ≡ Some y)) → HoldsFull y
    by j y (inl p) = let same : behind ≡ y = (let a : Some behind ≡ Some y = p.1 in cc) in subst HoldsFull same own
    by j y (inr p) = k.pending j y p.1

-- ---- a call

module _ (w : World) (i : ℕ) (s : Session) (statement : Statement) (reply : Reply) (cs : List Change) (after : Session) (v : IsValidWorld w) (k : IsSpellableWorld w) (there : slice_get w.sessions i ≡ Some s) (next : next_statement w i s ≡ Some statement)
    (means : meaning w i s statement ≡ answers reply cs after) where
  abbrev behind : Session
  behind = having_called (world_at w i s reply cs after s.at) s after

  call_held : HoldFull (called_at w i s reply cs after s.at).sessions
  call_held j y e =
      let x = was_at s.at cs (slice_set w.sessions i behind) j y (ap (λ ss. slice_get ss j) (sym (call_sessions w i s reply cs after s.at)) ∙ e) in
      let own = set_held w (slice_set w.sessions i behind) i s behind k there (call_answers w i s v k there statement reply cs after next means).1 refl j x.before x.there in
      subst HoldsFull (sym x.now) own

  call_spelled : IsSpellableWorld (called i s reply cs after w)
  call_spelled =
      behind_step w (called_at w i s reply cs after s.at) (only_at s.at cs) (ids_at s.at (ids_taken reply)) k (call_leads w i s reply cs after s.at)
      (only_spell s.at cs (call_answers w i s v k there statement reply cs after next means).0) call_held

-- ---- propagation

offer_spelled : (w : World) (actor : ℕ) (at : SlotRef) (to : List ℕ) → IsSpellableWorld w → IsSpellableWorld (sent actor (offers at to) w)
unfolding sent
offer_spelled w actor at to k =
    let transit : Option Transit = Some (record { slot = at; stage = on_its_way }) in
    let before = stepped actor w [] [] (Offer at to) in
    behind_step w (with_transit transit before) no_changes no_ids k (leads_with_transit w before no_changes no_ids transit (quiet_leads actor w (Offer at to))) none_spell
    (same_held w (with_transit transit before).sessions k (step_sessions actor w [] [] (Offer at to)))

arrival_by : (at : SlotRef) (a : Arriving) → AreSpellable a.origin × AreSpellable a.there → (db : DbId) → (db ≡ at.db) ⊎ (db ≡ other_db at.db) → AreSpellable (arrival_changes at a db)
arrival_by at a h db (inl p) = subst (λ d. AreSpellable (arrival_changes at a d)) (sym p) (subst AreSpellable (sym (own_of at.db a.origin a.there)) h.0)
arrival_by at a h db (inr p) = subst (λ d. AreSpellable (arrival_changes at a d)) (sym p) (subst AreSpellable (sym (other_of at.db a.origin a.there)) h.1)

arrival_spelled : (w : World) (actor : ℕ) (at : SlotRef) (a : Arriving) → IsSpellableWorld w → next_sending w ≡ Some (arrives at a) → IsSpellableWorld (sent actor (arrives at a) w)
arrival_spelled w actor at a k e =
    behind_step w (sent actor (arrives at a) w) (arrival_changes at a) (ids_at (other_db at.db) (ids_copied a.outcome)) k (arrival_leads actor w at a) (λ db. arrival_by at a (sending_spells w (arrives at a) k e) db (is_one at.db db))
    (same_held w (sent actor (arrives at a) w).sessions k (arrival_sessions actor w at a))

confirmation_spelled : (w : World) (actor : ℕ) (at : SlotRef) (number : ℕ) (cs : List Change) → IsSpellableWorld w → next_sending w ≡ Some (confirms at number cs) → IsSpellableWorld (sent actor (confirms at number cs) w)
confirmation_spelled w actor at number cs k e =
    behind_step w (sent actor (confirms at number cs) w) (only_at at.db cs) no_ids k (confirm_leads actor w at number cs) (only_spell at.db cs (sending_spells w (confirms at number cs) k e))
    (same_held w (sent actor (confirms at number cs) w).sessions k (confirm_sessions actor w at number cs))

-- ---- each step

session_spelled : (w : World) (actor i : ℕ) (step : Step) (s behind : Session) → IsSpellableWorld w → slice_get w.sessions i ≡ Some s → HoldsFull behind → IsSpellableWorld (with_session i behind (stepped actor w [] [] step))
session_spelled w actor i step s behind k there own =
    behind_step w (with_session i behind (stepped actor w [] [] step)) no_changes no_ids k (leads_with_session w (stepped actor w [] [] step) no_changes no_ids i behind (quiet_leads actor w step)) none_spell
    (set_held w (slice_set (stepped actor w [] [] step).sessions i behind) i s behind k there own (ap (λ ss. slice_set ss i behind) (step_sessions actor w [] [] step)))

pub step_keeps_spellable : (w new : World) (actor : ℕ) (step : Step) → IsValidWorld w → IsSpellableWorld w → MayStep actor step w new → IsSpellableWorld new
step_keeps_spellable w new i (Call number reply) v k m =
    let c = m.calls in subst IsSpellableWorld (sym c.result) (call_spelled w i m.session m.statement reply m.changes m.after v k c.ready.there c.next c.means)
step_keeps_spellable w new i (Park number) v k m =
    let p = m.parks in
    subst IsSpellableWorld (sym p.result) (session_spelled w i i (Park (m.session.next + 1)) m.session (record m.session { parked = Some m.since }) k p.ready.there (k.pending i m.session p.ready.there))
step_keeps_spellable w new i (Told number) v k m =
    let t = m.tells in subst IsSpellableWorld (sym t.result) (session_spelled w i i (Told m.untold.number) m.session (record m.session { untold = None }) k t.there (k.pending i m.session t.there))
step_keeps_spellable w new i Flush v k m =
    let flushed = all_durable (stepped i w [] [] Flush) in
    subst IsSpellableWorld (sym m.result)
    (behind_step w flushed no_changes no_ids k (leads_durable w (stepped i w [] [] Flush) no_changes no_ids (quiet_leads i w Flush)) none_spell (same_held w flushed.sessions k (step_sessions i w [] [] Flush)))
step_keeps_spellable w new i End v k m =
    subst IsSpellableWorld (sym m.1.result) (session_spelled w i i End m.0 (record m.0 { pending = []; marks = []; live = false }) k m.1.ready.there tt)
step_keeps_spellable w new i Timer v k m =
    subst IsSpellableWorld (sym m.result)
    (behind_step w (timed i w) (due_changes w) no_ids k (timed_leads i w) (λ db. due_spells (database_at db w).tables w.sessions db (slot_sent w) w.moment)
    (same_held w (timed i w).sessions k (step_sessions i w (due_changes w Home) (due_changes w Away) Timer)))
step_keeps_spellable w new i (Offer at to) v k m = subst IsSpellableWorld (sym m.result) (offer_spelled w i at to k)
step_keeps_spellable w new i (Arrive at outcome) v k m = subst IsSpellableWorld (sym m.sends.result) (arrival_spelled w i at m.arriving k m.sends.next)
step_keeps_spellable w new i (Confirm at) v k m = subst IsSpellableWorld (sym m.sends.result) (confirmation_spelled w i at m.number m.changes k m.sends.next)

-- ---- the beginning, and readings

read_rest : (w : World) (reading : ℕ) → ((read_clock reading w).sessions ≡ w.sessions) × ((read_clock reading w).scripts ≡ w.scripts) × ((read_clock reading w).entries ≡ w.entries)
unfolding read_clock
read_rest w reading = (refl, refl, refl)

pub reading_keeps_spellable : (w : World) (reading : ℕ) → IsSpellableWorld w → IsSpellableWorld (read_clock reading w)
reading_keeps_spellable w reading k =
    let rest = read_rest w reading in
    record {
      rows = λ db. subst HasSpellableRows (sym (read_tables w reading db)) (k.rows db);
      pending = same_held w (read_clock reading w).sessions k rest.0;
      rules = ap have_text_rules rest.1 ∙ k.rules;
      commits = subst (AllByRecursion IsSpellableEntry) (sym rest.2) k.commits;
    }

opened_rows : (home away : Tables) (scripts : List SessionScript) → MayBeSpelled home away scripts → (db : DbId) → HasSpellableRows (database_at db (opened home away scripts)).tables
unfolding opened
opened_rows home away scripts b Home = b.home_rows
opened_rows home away scripts b Away = b.away_rows

opened_rest : (home away : Tables) (scripts : List SessionScript) → ((opened home away scripts).sessions ≡ map fresh scripts) × ((opened home away scripts).scripts ≡ scripts) × ((opened home away scripts).entries ≡ [])
unfolding opened
opened_rest home away scripts = (refl, refl, refl)

fresh_held : (scripts : List SessionScript) → HoldFull (map fresh scripts)
fresh_held scripts i s e = let none : AreFullAdditions [] = tt in subst AreFullAdditions (sym (fresh_empty scripts i s e).0) none

pub opens_spellable : (home away : Tables) (scripts : List SessionScript) → MayBeSpelled home away scripts → IsSpellableWorld (opened home away scripts)
opens_spellable home away scripts b =
    let rest = opened_rest home away scripts in
    record {
      rows = opened_rows home away scripts b;
      pending = subst HoldFull (sym rest.0) (fresh_held scripts);
      rules = ap have_text_rules rest.1 ∙ b.rules;
      commits = subst (AllByRecursion IsSpellableEntry) (sym rest.2) tt;
    }

-- ---- every legal history

spelled_from : (start : World) → IsValidWorld start → IsSpellableWorld start → (readings : List ℕ) (w : World) → IsLegal start readings w → IsValidWorld w × IsSpellableWorld w
spelled_from start v k readings w opens = (v, k)
spelled_from start v k readings w (reads before u reading legal) = let x = spelled_from start v k before u legal in (reading_keeps_valid u reading x.0, reading_keeps_spellable u reading x.1)
spelled_from start v k readings w (steps same u new actor step legal timely may) =
    let x = spelled_from start v k same u legal in (step_keeps_valid u new actor step x.0 may, step_keeps_spellable u new actor step x.0 x.1 may)

pub legal_is_spellable : (home away : Tables) (scripts : List SessionScript) (readings : List ℕ) (w : World) → MayBegin home away scripts → MayBeSpelled home away scripts → IsLegal (opened home away scripts) readings w → IsSpellableWorld w
legal_is_spellable home away scripts readings w b s legal = (spelled_from (opened home away scripts) (opens_valid home away scripts b) (opens_spellable home away scripts s) readings w legal).1

-- ---- the commits of a history

some_of : (n : ℕ) → (n == 0) ≡ false → 1 ≤ n
some_of zero e = absurd (true≢false e)
some_of (suc n) e = omega arith

commit_if : (moment : ℕ) (cs : List Change) (b : Bool) → (length cs == 0) ≡ b → AreSpellable cs → IfSome (if b then None else Some (record { moment = moment; changes = cs })) CanBeSpelled
commit_if moment cs true e h = tt
commit_if moment cs false e h = record { at_least_one = some_of (length cs) e; changes = h }

changes_spell : (db : DbId) (e : Entry) → IsSpellableEntry e → AreSpellable (changes_at db e)
changes_spell Home e h = h.home
changes_spell Away e h = h.away

-- the numbers of disk calls say nothing of it
commits_spell : (db : DbId) (entries : List Entry) → AllByRecursion IsSpellableEntry (map uncounted entries) → AllByRecursion CanBeSpelled (commits_of db entries)
commits_spell db [] h = tt
commits_spell db (e ∷ entries) h =
    let own = changes_spell db e (record { home = h.0.home; away = h.0.away }) in
    each_cons CanBeSpelled (commit_at db e) (commits_of db entries) (commit_if e.moment (changes_at db e) (length (changes_at db e) == 0) refl own) (commits_spell db entries h.1)

pub legal_commits_spell : (home away : Tables) (scripts : List SessionScript) (history : History) → MayBegin home away scripts → MayBeSpelled home away scripts → IsLegalHistory home away scripts history → (db : DbId) → AllByRecursion CanBeSpelled (commits_of db history.entries)
legal_commits_spell home away scripts history b s h db =
    let l : IsLegalBy h.0 home away scripts history = h.1 in
    let k = legal_is_spellable home away scripts h.0 l.end b s l.legal in
    commits_spell db history.entries (subst (AllByRecursion IsSpellableEntry) (sym l.entries_are) k.commits)
