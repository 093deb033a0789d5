-- Arrivals of a legal history.
use Rattle.std.proofs.Common.{◌≡◌, ℕ, List, [], ◌∷◌, ◌++◌, true, false, Bool, refl, sym, ap, ◌∙◌, subst, Option, Some, None, ◌==◌, ◌&&◌}
use Rattle.std.specs.Prelude.{map, if◌then◌else◌}
use Rattle.std.proofs.lemmas.Bool.{and_parts, eqb-true}
use Rattle.std.proofs.lemmas.Option.{none-some}
use Rattle.std.proofs.lemmas.List.{map-append}
use Rattle.aq_base.specs.declared.DbId.{DbId}
use Rattle.aq_base.specs.declared.DbId.TheVariants.{Home, Away}
use Rattle.queue_rows.specs.Session.{is_same_db}
use Rattle.queue_rows.specs.Propagating.{Arriving, arriving}
use Rattle.queue_rows.specs.World.{uncounted, other_db, World, database_at, opened, read_clock, entry_of}
use Rattle.queue_rows.specs.Legal.{last_entry, MayStep, IsLegal, opens, reads, steps, IsLegalHistory}
use Rattle.queue_rows.specs.declared.tables.Tables.{Tables}
use Rattle.queue_rows.specs.declared.change.Change.{Change}
use Rattle.queue_rows.specs.declared.history.Entry.{Entry}
use Rattle.queue_rows.specs.declared.history.History.{History}
use Rattle.queue_rows.specs.declared.history.SlotRef.{SlotRef}
use Rattle.queue_rows.specs.declared.history.SessionScript.{SessionScript}
use Rattle.queue_rows.specs.declared.history.Arrival.{Arrival}
use Rattle.queue_rows.specs.declared.history.Arrival.TheVariants.{Copied, Seen, Failed}
use Rattle.queue_rows.specs.declared.history.Step.{Step}
use Rattle.queue_rows.specs.declared.history.Step.TheVariants.{Call, Park, Timer, Offer, Arrive, Confirm, Told, Flush, End}
use Rattle.statement_laws.proofs.Administering.{same_is}
use Rattle.history_laws.specs.Made.{changes_at, commits_of, after_commits, opening_of}
use Rattle.history_laws.specs.WorldLaws.{MayBegin}
use Rattle.history_laws.specs.LegalFates.{opening_at}
use Rattle.history_laws.specs.Arrivals.{IsSeenOnce, is_same_slot, copy_by, tables_at, ArrivesSo, AreArrivals, HasArrivals}
use Rattle.history_laws.proofs.Arriving.{left_at, AreIn, none_in, more_in, fitting_has_arrivals}
use Rattle.history_laws.proofs.Lasting.{opening_is, commits_uncounted}
use Rattle.history_laws.proofs.Seeing.{fitting_sees_once}
use Rattle.queue_rows.specs.Sending.{arrives, sent, next_sending, ids_copied}
use Rattle.run_laws.specs.ValidRun.{IsValidWorld}
use Rattle.run_laws.proofs.Sendings.{arrives_so}
use Rattle.run_laws.proofs.Stepping.{Leads, ids_at}
use Rattle.run_laws.proofs.Worlds.{arrival_changes, other_of, arrival_leads, opens_valid}
use Rattle.run_turns.proofs.Adding.{Adds, step_adds, arrive_adds, last-snoc}
use Rattle.history_laws.proofs.Making.{opened_made}
use Rattle.run_fates.proofs.Making.{AreMade, made_from}
use Rattle.run_fates.proofs.Lasting.{legal_commits_fit}

-- what leads to a world adds the entry of the step
pub entry_is : (actor : ℕ) (step : Step) (w new : World) (cs : DbId → List Change) (taken : DbId → ℕ) (b : Leads w new cs taken) (a : Adds actor step w new) → b.entry ≡ entry_of actor w a.home a.away step
entry_is actor step w new cs taken b a =
    let e = entry_of actor w a.home a.away step in
    let same : Some b.entry ≡ Some e = sym (last-snoc w.entries b.entry) ∙ ap last_entry (sym b.entries ∙ a.entries) ∙ last-snoc w.entries e in
    cc

pub same_slot_is : (a b : SlotRef) → is_same_slot a b ≡ true → a ≡ b
same_slot_is a b h =
    let p = and_parts (is_same_db a.db b.db && (a.id == b.id)) (a.slot == b.slot) h in
    let q = and_parts (is_same_db a.db b.db) (a.id == b.id) p.0 in
    ap (λ d. record { db = d; id = a.id; slot = a.slot }) (same_is a.db b.db q.0) ∙ ap (λ n. record { db = b.db; id = n; slot = a.slot }) (eqb-true a.id b.id q.1) ∙ ap (λ n. record { db = b.db; id = b.id; slot = n }) (eqb-true a.slot b.slot p.1)

-- the slot that an entry says to have been copied is that of its step
copied_as : (x at : SlotRef) (outcome : Arrival) (id : ℕ) → copy_by x (Arrive at outcome) ≡ Some id → (x ≡ at) × (outcome ≡ Copied id)
copied_as x at (Copied n) id e = by (is_same_slot x at) refl e
  where
    by : (b : Bool) → is_same_slot x at ≡ b → (if b then Some n else None) ≡ Some id → (x ≡ at) × (Copied n ≡ Copied id)
    by true f k = (same_slot_is x at f, (let same : n ≡ id = (let h : Some n ≡ Some id = k in cc) in ap Copied same))
    by false f k = absurd (none-some id k)
copied_as x at Seen id e = absurd (none-some id e)
copied_as x at (Failed cause disabled) id e = absurd (none-some id e)

module _ (opening : DbId → Tables) where
  -- a step that tells of no copy
  quiet_in : (actor : ℕ) (step : Step) (w new : World) → ((at : SlotRef) → copy_by at step ≡ None) → Adds actor step w new → AreIn opening w.entries → AreIn opening new.entries
  quiet_in actor step w new none a k = subst (AreIn opening) (sym a.entries) (more_in opening w.entries (entry_of actor w a.home a.away step) k (λ at id f. absurd (none-some id (sym (none at) ∙ f))))

  pub left_is : (w : World) → AreMade opening w → (db : DbId) → (database_at db w).tables ≡ left_at opening db w.entries
  left_is w m db = (m db).tables

  arrival_in : (actor : ℕ) (w : World) (at : SlotRef) (a : Arriving) → AreMade opening w → next_sending w ≡ Some (arrives at a) → AreIn opening w.entries → AreIn opening (sent actor (arrives at a) w).entries
  arrival_in actor w at a m e k =
      let new = sent actor (arrives at a) w in
      let b = arrival_leads actor w at a in
      let adds = arrive_adds actor at a w in
      let o = other_db at.db in
      let x = arrives_so w at a e in
      let step_is : b.entry.step ≡ Arrive at a.outcome = ap (λ y. y.step) (entry_is actor (Arrive at a.outcome) w new (arrival_changes at a) (ids_at o (ids_copied a.outcome)) b adds) in
      subst (AreIn opening) (sym b.entries)
      (more_in opening w.entries b.entry k
      (λ slot id f.
      let c = copied_as slot at a.outcome id (ap (copy_by slot) (sym step_is) ∙ f) in
      subst (λ y. ArrivesSo (left_at opening y.db w.entries) (left_at opening (other_db y.db) w.entries) y id b.entry) (sym c.0)
      (subst (λ t. ArrivesSo t (left_at opening o w.entries) at id b.entry) (left_is w m at.db)
      (subst (λ t. ArrivesSo (database_at at.db w).tables t at id b.entry) (left_is w m o)
      (record {
        dispatched = x.dispatched;
        next = (database_at o w).next;
        dispatch_is = x.dispatch_is;
        outcome = ap (λ n. (arriving (database_at o w).tables at x.dispatched (database_at o w).next n).outcome) b.at_moment ∙ ap (λ y. y.outcome) (sym x.arriving_is) ∙ c.1;
        commits = b.changes o ∙ other_of at.db a.origin a.there ∙ ap (λ y. y.there) x.arriving_is ∙ ap (λ n. (arriving (database_at o w).tables at x.dispatched (database_at o w).next n).there) (sym b.at_moment);
      })))))

  step_in : (actor : ℕ) (step : Step) (w new : World) → AreMade opening w → MayStep actor step w new → AreIn opening w.entries → AreIn opening new.entries
  step_in i (Call number reply) w new m s k = quiet_in i (Call number reply) w new (λ at. refl) (step_adds i (Call number reply) w new s) k
  step_in i (Park number) w new m s k = quiet_in i (Park number) w new (λ at. refl) (step_adds i (Park number) w new s) k
  step_in i (Told number) w new m s k = quiet_in i (Told number) w new (λ at. refl) (step_adds i (Told number) w new s) k
  step_in i Flush w new m s k = quiet_in i Flush w new (λ at. refl) (step_adds i Flush w new s) k
  step_in i End w new m s k = quiet_in i End w new (λ at. refl) (step_adds i End w new s) k
  step_in i Timer w new m s k = quiet_in i Timer w new (λ at. refl) (step_adds i Timer w new s) k
  step_in i (Offer at to) w new m s k = quiet_in i (Offer at to) w new (λ x. refl) (step_adds i (Offer at to) w new s) k
  step_in i (Arrive at outcome) w new m s k = subst (λ y. AreIn opening y.entries) (sym s.sends.result) (arrival_in i w at s.arriving m s.sends.next k)
  step_in i (Confirm at) w new m s k = quiet_in i (Confirm at) w new (λ x. refl) (step_adds i (Confirm at) w new s) k

  legal_in : (start : World) → IsValidWorld start → AreMade opening start → (readings : List ℕ) (w : World) → start.entries ≡ [] → IsLegal start readings w → AreIn opening w.entries
  unfolding read_clock
  legal_in start v m readings w none opens = subst (AreIn opening) (sym none) (none_in opening)
  legal_in start v m readings w none (reads before u reading legal) = legal_in start v m before u none legal
  legal_in start v m readings w none (steps same u new actor step legal timely may) =
      step_in actor step u new (made_from opening start v m same u legal).1 may (legal_in start v m same u none legal)

changes_uncounted : (db : DbId) (e : Entry) → changes_at db (uncounted e) ≡ changes_at db e
changes_uncounted Home e = refl
changes_uncounted Away e = refl

pub none_yet : (home away : Tables) (scripts : List SessionScript) → (opened home away scripts).entries ≡ []
unfolding opened
none_yet home away scripts = refl

legal_are_arrivals : (home away : Tables) (scripts : List SessionScript) (h : History) → MayBegin home away scripts → IsLegalHistory home away scripts h → AreArrivals h
legal_are_arrivals home away scripts h b legal at id before e rest q f =
    let l = legal.1 in
    let o : DbId → Tables = λ db. opening_at db home away in
    let start = opened home away scripts in
    let split : l.end.entries ≡ map uncounted before ++ uncounted e ∷ map uncounted rest = sym l.entries_are ∙ ap (map uncounted) q ∙ map-append uncounted before (e ∷ rest) in
    let so = legal_in o start (opens_valid home away scripts b) (opened_made home away scripts) legal.0 l.end (none_yet home away scripts) l.legal at id (map uncounted before) (uncounted e) (map uncounted rest) split f in
    let left : (db : DbId) → after_commits (opening_at db home away) (commits_of db (map uncounted before)) ≡ tables_at db h before =
    λ db. ap (after_commits (opening_at db home away)) (commits_uncounted db before) ∙ ap (λ t. after_commits t (commits_of db before)) (sym (opening_is home away scripts h l.begins db)) in
    let there = other_db at.db in
    let counted : ArrivesSo (after_commits (opening_at at.db home away) (commits_of at.db (map uncounted before))) (after_commits (opening_at there home away) (commits_of there (map uncounted before))) at id e =
    record { dispatched = so.dispatched; next = so.next; dispatch_is = so.dispatch_is; outcome = so.outcome; commits = sym (changes_uncounted there e) ∙ so.commits } in
    subst (λ t. ArrivesSo t (tables_at there h before) at id e) (left at.db) (subst (λ t. ArrivesSo (after_commits (opening_at at.db home away) (commits_of at.db (map uncounted before))) t at id e) (left there) counted)

pub legal_has_arrivals : (home away : Tables) (scripts : List SessionScript) (h : History) → MayBegin home away scripts → IsLegalHistory home away scripts h → HasArrivals h
legal_has_arrivals home away scripts h b legal = fitting_has_arrivals h (legal_commits_fit home away scripts h b legal) (legal_are_arrivals home away scripts h b legal)

pub legal_sees_once : (home away : Tables) (scripts : List SessionScript) (h : History) → MayBegin home away scripts → IsLegalHistory home away scripts h → (db : DbId) (at : SlotRef) → IsSeenOnce (opening_of db h) (commits_of db h.entries) at
legal_sees_once home away scripts h b legal db at = fitting_sees_once (opening_of db h) (commits_of db h.entries) at (legal_commits_fit home away scripts h b legal db)
