-- Each database of a legal world is what its commits made of its opening.
use Rattle.std.proofs.Common.{◌≡◌, ◌≢◌, ◌≤◌, ◌<◌, ◌+◌, ◌⊎◌, inl, inr, ℕ, List, [], ◌∷◌, ◌++◌, Bool, true, false, refl, sym, ap, ◌∙◌, subst, arith, Option, Some, None, ◌==◌}
use Rattle.std.specs.Prelude.{slice_get, slice_set, map, All, AllPairs, if◌then◌else◌}
use Rattle.std.specs.List.{list_any}
use Rattle.std.proofs.lemmas.Bool.{ne_eqb, false≢true}
use Rattle.std.proofs.lemmas.Option.{slice_get_within}
use Rattle.std.proofs.lemmas.List.Elements.{All-nil, All-cons, All-weaker}
use Rattle.aq_base.specs.declared.DbId.{DbId}
use Rattle.aq_base.specs.declared.DbId.TheVariants.{Home, Away}
use Rattle.queue_rows.specs.Session.{Session, is_same_db}
use Rattle.queue_rows.specs.Meaning.{answers}
use Rattle.queue_rows.specs.Turns.{ids_taken, due_at, timed, having_called, called, all_durable}
use Rattle.queue_rows.specs.Propagating.{Dispatch, Arriving}
use Rattle.queue_rows.specs.Valid.{is_valid_schedule}
use Rattle.queue_rows.specs.declared.tables.Tables.{Tables}
use Rattle.queue_rows.specs.declared.change.Change.{Change}
use Rattle.queue_rows.specs.declared.history.SlotRef.{SlotRef}
use Rattle.queue_rows.specs.declared.history.SessionScript.{SessionScript}
use Rattle.queue_rows.specs.declared.history.Step.{Step}
use Rattle.queue_rows.specs.declared.history.Step.TheVariants.{Call, Park, Timer, Offer, Arrive, Confirm, Told, Flush, End}
use Rattle.queue_rows.specs.declared.reply.Reply.{Reply}
use Rattle.queue_rows.specs.declared.statement.Statement.{Statement}
use Rattle.valid_laws.proofs.Pending.{pairs-one}
use Rattle.statement_laws.specs.Sessions.{is_addition_of}
use Rattle.statement_laws.proofs.Administering.{same_is}
use Rattle.history_laws.specs.CommitLaws.{IsProperCommit}
use Rattle.history_laws.specs.Proper.{ids_put_in}
use Rattle.history_laws.proofs.Committing.{due_is_proper, arrival_is_proper, confirmation_is_proper}
use Rattle.history_laws.specs.WorldLaws.{MayBegin}
use Rattle.queue_rows.specs.World.{other_db, World, Transit, on_its_way, came, database_at, opened, read_clock, stepped, with_session}
use Rattle.history_laws.specs.LegalFates.{opening_at, changes_so_far, IsUnused, AreUnused, IsMade, AddsEntry}
use Rattle.history_laws.proofs.Giving.{Gives, added_below}
use Rattle.history_laws.proofs.Making.{own_db, own_made, quiet_made, unused_quiet, unused_more, commit_keeps_made, opened_made}
use Rattle.queue_rows.specs.Sending.{sent, offers, arrives, confirms, next_sending, ids_copied, with_transit}
use Rattle.queue_rows.specs.Statements.{slot_sent, meaning, next_statement}
use Rattle.queue_rows.specs.Legal.{MayStep, IsLegal, opens, reads, steps}
use Rattle.run_laws.specs.ValidRun.{IsValidWorld}
use Rattle.run_laws.proofs.Arriving.{ArrivesAs, as_seen, as_failed, as_copied}
use Rattle.run_laws.proofs.Calling.{call_fits, call_gives}
use Rattle.run_laws.proofs.Committing.{Commits, timed_commits, confirm_commits, arrival_commits, arrives_here}
use Rattle.run_laws.proofs.Positions.{was_at}
use Rattle.run_laws.proofs.Resting.{sent_open}
use Rattle.run_laws.proofs.Sendings.{confirms_so}
use Rattle.run_laws.proofs.Stepping.{Leads, no_changes, no_ids, only_at, ids_at, world_at, called_at, call_leads, call_sessions, step_sessions, leads_with_session, leads_with_transit, leads_durable}
use Rattle.run_laws.proofs.Working.{schedule_valid}
use Rattle.run_laws.proofs.Worlds.{quiet_leads, timed_leads, due_changes, arrival_changes, own_of, other_of, is_one, ids_other, arrival_leads, arrival_sessions, confirm_leads, confirm_sessions, sends_on, opens_valid, reading_keeps_valid, step_keeps_valid}

-- what is added, at one database
adds_one : (w new : World) (cs : DbId → List Change) (taken : DbId → ℕ) (db : DbId) → Leads w new cs taken → AddsEntry db w new (cs db) (taken db)
adds_one w new cs taken Home b = record { entry = b.entry; entries = b.entries; changes = b.changes Home; moment = b.at_moment; tables = b.tables Home; count = b.count Home; next = b.next Home }
adds_one w new cs taken Away b = record { entry = b.entry; entries = b.entries; changes = b.changes Away; moment = b.at_moment; tables = b.tables Away; count = b.count Away; next = b.next Away }

-- sessions say of a database only what they have added
with_sessions : (opening : Tables) (db : DbId) (x : World) (ys : List Session) → IsMade opening db x → AreUnused opening (changes_so_far db x) db ys → IsMade opening db (record x { sessions = ys })
with_sessions opening Home x ys m u = record { tables = m.tables; count = m.count; fit = m.fit; proper = m.proper; first = m.first; given = m.given; held = u }
with_sessions opening Away x ys m u = record { tables = m.tables; count = m.count; fit = m.fit; proper = m.proper; first = m.first; given = m.given; held = u }

module _ (opening : DbId → Tables) where
  abbrev pub AreMade : World → Type 0
  AreMade w = (db : DbId) → IsMade (opening db) db w

  -- ---- steps of no session

  -- a commit that puts in messages with ids from the next one on
  commit_made : (w new : World) (cs : DbId → List Change) (taken : DbId → ℕ) (db : DbId) (ids : List ℕ) → IsValidWorld w → AreMade w → Leads w new cs taken → Commits w cs → ids_put_in (cs db) ≡ ids → AllPairs (λ a b. (a == b) ≡ false) ids
      → All (λ id. ((database_at db w).next ≤ id) × (id < (database_at db w).next + taken db)) ids → new.sessions ≡ w.sessions → IsMade (opening db) db new
  commit_made w new cs taken db ids v m b c put apart range same =
      let at = c db in
      let a = adds_one w new cs taken db b in
      let proper : IsProperCommit (database_at db w).tables (cs db) ids = record { proper = at.proper; ids_are = put } in
      let k = m db in
      commit_keeps_made (opening db) db w new (cs db) (taken db) ids k a proper apart
      (All-weaker (λ id. ((database_at db w).next ≤ id) × (id < (database_at db w).next + taken db)) (IsUnused (opening db) (changes_so_far db w))
      (λ id r. record {
        later = let f = k.first in let x = r.0 in omega (arith, f, x);
        new = All-weaker (λ e. e < (database_at db w).next) (λ e. (e == id) ≡ false) (λ e lt. ne_eqb e id (λ q. absurd (let x = r.0 in omega (arith, lt, x, q)))) (ids_put_in (changes_so_far db w)) k.given;
      }) ids range)
      (All-weaker (λ id. ((database_at db w).next ≤ id) × (id < (database_at db w).next + taken db)) (λ id. id < (database_at db w).next + taken db) (λ id r. r.1) ids range)
      at.fit
      (λ j y e f id h.
      let old_y : slice_get w.sessions j ≡ Some y = ap (λ xs. slice_get xs j) (sym same) ∙ e in
      let below = added_below (database_at db w).next id y.pending ((v.databases db).standing.each j y old_y f).given h in
      unused_more (opening db) db w new (taken db) (cs db) ids k a proper id (k.held j y old_y f id h)
      (All-weaker (λ e. ((database_at db w).next ≤ e) × (e < (database_at db w).next + taken db)) (λ e. (e == id) ≡ false) (λ e r. ne_eqb e id (λ q. absurd (let x = r.0 in omega (arith, below, x, q)))) ids range))

  no_pairs : AllPairs (λ (a b : ℕ). (a == b) ≡ false) []
  no_pairs = λ i j d lt at. absurd (let no : j < 0 = at in omega arith)

  -- nothing is put in
  none_made : (w new : World) (cs : DbId → List Change) (taken : DbId → ℕ) (db : DbId) → IsValidWorld w → AreMade w → Leads w new cs taken → Commits w cs → ids_put_in (cs db) ≡ [] → new.sessions ≡ w.sessions → IsMade (opening db) db new
  none_made w new cs taken db v m b c put same = commit_made w new cs taken db [] v m b c put no_pairs (All-nil (λ id. ((database_at db w).next ≤ id) × (id < (database_at db w).next + taken db))) same

  -- ---- steps of a session that commit nothing

  quiet_set : (w : World) (actor i : ℕ) (step : Step) (s behind : Session) → AreMade w → slice_get w.sessions i ≡ Some s → behind.at ≡ s.at → ((id : ℕ) → list_any (is_addition_of id) behind.pending ≡ true → list_any (is_addition_of id) s.pending ≡ true)
      → AreMade (with_session i behind (stepped actor w [] [] step))
  quiet_set w actor i step s behind m there same no_more db =
      let new = with_session i behind (stepped actor w [] [] step) in
      quiet_made (opening db) db w new (adds_one w new no_changes no_ids db (leads_with_session w (stepped actor w [] [] step) no_changes no_ids i behind (quiet_leads actor w step)))
      (subst (AreUnused (opening db) (changes_so_far db w) db) (sym (ap (λ xs. slice_set xs i behind) (step_sessions actor w [] [] step)))
      (unused_quiet (opening db) db (changes_so_far db w) i s behind w.sessions (m db).held there (λ at. (ap (λ d. is_same_db d db) (sym same) ∙ at, no_more)))) (m db)

  quiet_same : (w new : World) → AreMade w → Leads w new no_changes no_ids → new.sessions ≡ w.sessions → AreMade new
  quiet_same w new m b same db =
      quiet_made (opening db) db w new (adds_one w new no_changes no_ids db b) (subst (AreUnused (opening db) (changes_so_far db w) db) (sym same) (m db).held) (m db)

  -- ---- a call

  module _ (w : World) (i : ℕ) (s : Session) (statement : Statement) (reply : Reply) (cs : List Change) (after : Session) (v : IsValidWorld w) (m : AreMade w) (there : slice_get w.sessions i ≡ Some s) (next : next_statement w i s ≡ Some statement)
      (means : meaning w i s statement ≡ answers reply cs after) where
    abbrev new_world : World
    new_world = called_at w i s reply cs after s.at

    abbrev behind : Session
    behind = having_called (world_at w i s reply cs after s.at) s after

    abbrev set : List Session
    set = slice_set w.sessions i behind

    -- the world behind it, but for positions
    abbrev middle : World
    middle = record new_world { sessions = set }

    middle_adds : (db : DbId) → AddsEntry db w middle (only_at s.at cs db) (ids_at s.at (ids_taken reply) db)
    middle_adds Home = let a = adds_one w new_world (only_at s.at cs) (ids_at s.at (ids_taken reply)) Home (call_leads w i s reply cs after s.at) in
        record { entry = a.entry; entries = a.entries; changes = a.changes; moment = a.moment; tables = a.tables; count = a.count; next = a.next }
    middle_adds Away = let a = adds_one w new_world (only_at s.at cs) (ids_at s.at (ids_taken reply)) Away (call_leads w i s reply cs after s.at) in
        record { entry = a.entry; entries = a.entries; changes = a.changes; moment = a.moment; tables = a.tables; count = a.count; next = a.next }

    gives_behind : (ids : List ℕ) → Gives (database_at s.at w).tables (database_at s.at w).next (ids_taken reply) s after cs ids → Gives (database_at s.at w).tables (database_at s.at w).next (ids_taken reply) s behind cs ids
    gives_behind ids g = record { commit = g.commit; apart = g.apart; from = g.from; left = g.left; gone = g.gone }

    own_adds : (db : DbId) → is_same_db s.at db ≡ true → AddsEntry db w middle cs (ids_taken reply)
    own_adds db e = subst (λ n. AddsEntry db w middle cs n) (ap (λ b. if b then ids_taken reply else 0) e) (subst (λ ds. AddsEntry db w middle ds (ids_at s.at (ids_taken reply) db)) (ap (λ b. if b then cs else []) e) (middle_adds db))

    other_adds : (db : DbId) → is_same_db s.at db ≡ false → AddsEntry db w middle [] 0
    other_adds db e = subst (λ n. AddsEntry db w middle [] n) (ap (λ b. if b then ids_taken reply else 0) e) (subst (λ ds. AddsEntry db w middle ds (ids_at s.at (ids_taken reply) db)) (ap (λ b. if b then cs else []) e) (middle_adds db))

    middle_own : IsMade (opening s.at) s.at middle
    middle_own =
        let x = call_gives w i s statement reply cs after v there next means in
        own_made (opening s.at) s.at w middle i (ids_taken reply) s behind cs x.0 (m s.at) (v.databases s.at).standing there (own_db s.at) (gives_behind x.0 x.1) (own_adds s.at (own_db s.at))
        (call_fits w i s statement reply cs after v there next means) refl

    middle_by : (db : DbId) (b : Bool) → is_same_db s.at db ≡ b → IsMade (opening db) db middle
    middle_by db true e = subst (λ d. IsMade (opening d) d middle) (same_is s.at db e) middle_own
    middle_by db false e =
        quiet_made (opening db) db w middle (other_adds db e) (unused_quiet (opening db) db (changes_so_far db w) i s behind w.sessions (m db).held there (λ at. absurd (false≢true (sym e ∙ at)))) (m db)

    call_made : AreMade (called i s reply cs after w)
    call_made db =
        let k = middle_by db (is_same_db s.at db) refl in
        let whole = with_sessions (opening db) db middle new_world.sessions k
        (λ j y e f id h.
        let x = was_at s.at cs set j y (ap (λ xs. slice_get xs j) (sym (call_sessions w i s reply cs after s.at)) ∙ e) in
        k.held j x.before x.there (ap (λ z. is_same_db z.at db) (sym x.now) ∙ f) id (ap (λ z. list_any (is_addition_of id) z.pending) (sym x.now) ∙ h)) in
        whole

  -- ---- due work, arrivals and confirmations

  timed_made : (w : World) (actor : ℕ) → IsValidWorld w → AreMade w → AreMade (timed actor w)
  timed_made w actor v m db =
      let r = v.databases db in
      none_made w (timed actor w) (due_changes w) no_ids db v m (timed_leads actor w) (timed_commits w v) (due_is_proper (database_at db w).tables w.sessions db (slot_sent w) w.moment r.valid r.latest v.last).ids_are (step_sessions actor w (due_at Home w) (due_at Away w) Timer)

  offer_made : (w : World) (actor : ℕ) (at : SlotRef) (to : List ℕ) → AreMade w → AreMade (sent actor (offers at to) w)
  unfolding sent
  offer_made w actor at to m =
      let transit : Option Transit = Some (record { slot = at; stage = on_its_way }) in
      let before_it = stepped actor w [] [] (Offer at to) in
      quiet_same w (with_transit transit before_it) m (leads_with_transit w before_it no_changes no_ids transit (quiet_leads actor w (Offer at to))) (step_sessions actor w [] [] (Offer at to))

  confirm_ids : (w : World) (at : SlotRef) (number : ℕ) (cs : List Change) → IsValidWorld w → next_sending w ≡ Some (confirms at number cs) → (db : DbId) (b : Bool) → is_same_db at.db db ≡ b → ids_put_in (if b then cs else []) ≡ []
  confirm_ids w at number cs v e db true same =
      let k = confirms_so w at number cs e in
      let x = sends_on w at (came number) k.dispatched v k.sent k.dispatch_is in
      let r = v.databases at.db in
      let t = (database_at at.db w).tables in
      let s = k.dispatched.schedule in
      let ok = ap (λ y. is_valid_schedule t y) x.schedule_is ∙ schedule_valid t at r.valid x.being in
      ap ids_put_in k.commits ∙ (confirmation_is_proper t at s w.moment r.valid r.latest v.last (sent_open t at x.being) ok).ids_are
  confirm_ids w at number cs v e db false same = refl

  confirm_made : (w : World) (actor : ℕ) (at : SlotRef) (number : ℕ) (cs : List Change) → IsValidWorld w → AreMade w → next_sending w ≡ Some (confirms at number cs) → AreMade (sent actor (confirms at number cs) w)
  confirm_made w actor at number cs v m e db =
      none_made w (sent actor (confirms at number cs) w) (only_at at.db cs) no_ids db v m (confirm_leads actor w at number cs) (confirm_commits w v at number cs e) (confirm_ids w at number cs v e db (is_same_db at.db db) refl) (confirm_sessions actor w at number cs)

  -- the ids that an arrival puts in at the destination
  record IdsThere (w : World) (at : SlotRef) (a : Arriving) (ids : List ℕ) : Type 0 where
    there_are : ids_put_in a.there ≡ ids
    origin_are : ids_put_in a.origin ≡ []
    apart : AllPairs (λ x y. (x == y) ≡ false) ids
    range : All (λ id. ((database_at (other_db at.db) w).next ≤ id) × (id < (database_at (other_db at.db) w).next + ids_copied a.outcome)) ids

  none_there : (w : World) (at : SlotRef) (n : ℕ) → All (λ id. ((database_at (other_db at.db) w).next ≤ id) × (id < (database_at (other_db at.db) w).next + n)) []
  none_there w at n = All-nil (λ id. ((database_at (other_db at.db) w).next ≤ id) × (id < (database_at (other_db at.db) w).next + n))

  arrival_ids : (w : World) (at : SlotRef) (a : Arriving) → IsValidWorld w → next_sending w ≡ Some (arrives at a) → (ids : List ℕ) × IdsThere w at a ids
  arrival_ids w at a v e = let x = arrives_here w v at a e in by x.0.dispatched x.1
    where
      by : (d : Dispatch) → ArrivesAs (database_at (other_db at.db) w).tables at d (database_at (other_db at.db) w).next w.moment a → (ids : List ℕ) × IdsThere w at a ids
      by d (as_seen seen q) = subst (λ y. (ids : List ℕ) × IdsThere w at y ids) (sym q) ([], record { there_are = refl; origin_are = refl; apart = no_pairs; range = none_there w at 0 })
      by d (as_failed cause q) = subst (λ y. (ids : List ℕ) × IdsThere w at y ids) (sym q) ([], record { there_are = refl; origin_are = refl; apart = no_pairs; range = none_there w at 0 })
      by d (as_copied new may q) =
          let o = other_db at.db in
          let n = (database_at o w).next in
          let r = v.databases o in
          subst (λ y. (ids : List ℕ) × IdsThere w at y ids) (sym q) (
            n ∷ [],
            record {
              there_are = (arrival_is_proper (database_at o w).tables at d.parcel n w.moment r.valid r.latest v.last may).ids_are;
              origin_are = refl;
              apart = pairs-one (λ x y. (x == y) ≡ false) n;
              range = All-cons (λ id. (n ≤ id) × (id < n + 1)) n [] (omega arith, omega arith) (All-nil (λ id. (n ≤ id) × (id < n + 1)));
            },
          )

  arrival_made : (w : World) (actor : ℕ) (at : SlotRef) (a : Arriving) → IsValidWorld w → AreMade w → next_sending w ≡ Some (arrives at a) → AreMade (sent actor (arrives at a) w)
  arrival_made w actor at a v m e db = by (arrival_ids w at a v e) db (is_one at.db db)
    where
      by : (ids : List ℕ) × IdsThere w at a ids → (db : DbId) → (db ≡ at.db) ⊎ (db ≡ other_db at.db) → IsMade (opening db) db (sent actor (arrives at a) w)
      by x db (inl p) =
          subst (λ d. IsMade (opening d) d (sent actor (arrives at a) w)) (sym p)
          (none_made w (sent actor (arrives at a) w) (arrival_changes at a) (ids_at (other_db at.db) (ids_copied a.outcome)) at.db v m (arrival_leads actor w at a) (arrival_commits w v at a e)
          (ap ids_put_in (own_of at.db a.origin a.there) ∙ x.1.origin_are) (arrival_sessions actor w at a))
      by x db (inr p) =
          let o = other_db at.db in
          let n = ids_other at.db (ids_copied a.outcome) in
          subst (λ d. IsMade (opening d) d (sent actor (arrives at a) w)) (sym p)
          (commit_made w (sent actor (arrives at a) w) (arrival_changes at a) (ids_at o (ids_copied a.outcome)) o x.0 v m (arrival_leads actor w at a) (arrival_commits w v at a e)
          (ap ids_put_in (other_of at.db a.origin a.there) ∙ x.1.there_are) x.1.apart
          (subst (λ k. All (λ id. ((database_at o w).next ≤ id) × (id < (database_at o w).next + k)) x.0) (sym n) x.1.range) (arrival_sessions actor w at a))

  -- ---- each step

  pub step_made : (w new : World) (actor : ℕ) (step : Step) → IsValidWorld w → AreMade w → MayStep actor step w new → AreMade new
  step_made w new i (Call number reply) v a m =
      let c = m.calls in subst AreMade (sym c.result) (call_made w i m.session m.statement reply m.changes m.after v a c.ready.there c.next c.means)
  step_made w new i (Park number) v a m =
      let p = m.parks in subst AreMade (sym p.result) (quiet_set w i i (Park (m.session.next + 1)) m.session (record m.session { parked = Some m.since }) a p.ready.there refl (λ id h. h))
  step_made w new i (Told number) v a m =
      let t = m.tells in subst AreMade (sym t.result) (quiet_set w i i (Told m.untold.number) m.session (record m.session { untold = None }) a t.there refl (λ id h. h))
  step_made w new i Flush v a m =
      subst AreMade (sym m.result) (quiet_same w (all_durable (stepped i w [] [] Flush)) a (leads_durable w (stepped i w [] [] Flush) no_changes no_ids (quiet_leads i w Flush)) (step_sessions i w [] [] Flush))
  step_made w new i End v a m =
      subst AreMade (sym m.1.result) (quiet_set w i i End m.0 (record m.0 { pending = []; marks = []; live = false }) a m.1.ready.there refl (λ id h. absurd (false≢true h)))
  step_made w new i Timer v a m = subst AreMade (sym m.result) (timed_made w i v a)
  step_made w new i (Offer at to) v a m = subst AreMade (sym m.result) (offer_made w i at to a)
  step_made w new i (Arrive at outcome) v a m = subst AreMade (sym m.sends.result) (arrival_made w i at m.arriving v a m.sends.next)
  step_made w new i (Confirm at) v a m = subst AreMade (sym m.sends.result) (confirm_made w i at m.number m.changes v a m.sends.next)

  read_one : (w : World) (reading : ℕ) (db : DbId) → IsMade (opening db) db w → IsMade (opening db) db (read_clock reading w)
  unfolding read_clock
  read_one w reading Home m = record { tables = m.tables; count = m.count; fit = m.fit; proper = m.proper; first = m.first; given = m.given; held = m.held }
  read_one w reading Away m = record { tables = m.tables; count = m.count; fit = m.fit; proper = m.proper; first = m.first; given = m.given; held = m.held }

  pub made_from : (start : World) → IsValidWorld start → AreMade start → (readings : List ℕ) (w : World) → IsLegal start readings w → IsValidWorld w × AreMade w
  made_from start v a readings w opens = (v, a)
  made_from start v a readings w (reads earlier u reading legal) = let x = made_from start v a earlier u legal in (reading_keeps_valid u reading x.0, λ db. read_one u reading db (x.1 db))
  made_from start v a readings w (steps same u new actor step legal timely may) =
      let x = made_from start v a same u legal in (step_keeps_valid u new actor step x.0 may, step_made u new actor step x.0 x.1 may)

-- ---- every legal history

-- each world of a legal history is valid, and its databases are made so
pub record IsSoundWorld (home away : Tables) (w : World) : Type 0 where
  pub valid : IsValidWorld w
  pub made : (db : DbId) → IsMade (opening_at db home away) db w

pub legal_is_sound : (home away : Tables) (scripts : List SessionScript) (readings : List ℕ) (w : World) → MayBegin home away scripts → IsLegal (opened home away scripts) readings w → IsSoundWorld home away w
legal_is_sound home away scripts readings w b legal =
    let x = made_from (λ db. opening_at db home away) (opened home away scripts) (opens_valid home away scripts b) (opened_made home away scripts) readings w legal in record { valid = x.0; made = x.1 }
