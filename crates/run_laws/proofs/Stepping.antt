-- What a step leaves of a world, and when it is valid.
use Rattle.std.proofs.Common.{◌≡◌, ◌+◌, ℕ, List, [], ◌∷◌, ◌++◌, refl, sym, subst, arith, Option, Some}
use Rattle.std.specs.Prelude.{slice_set, if◌then◌else◌}
use Rattle.aq_base.specs.declared.DbId.{DbId}
use Rattle.aq_base.specs.declared.DbId.TheVariants.{Home, Away}
use Rattle.queue_rows.specs.Session.{Session, is_same_db, standing_after}
use Rattle.queue_rows.specs.World.{at_home, at_away, committed_tables, commits_in, World, Transit, database_at, entry_of, stepped, with_session}
use Rattle.queue_rows.specs.Turns.{ids_taken, having_called, called_in, standing, all_durable}
use Rattle.queue_rows.specs.declared.change.Change.{Change}
use Rattle.queue_rows.specs.declared.reply.Reply.{Reply}
use Rattle.queue_rows.specs.declared.history.Entry.{Entry}
use Rattle.queue_rows.specs.declared.history.Step.{Step}
use Rattle.queue_rows.specs.declared.history.Step.TheVariants.{Call}
use Rattle.history_laws.specs.Made.{changes_at}
use Rattle.history_laws.specs.ValidWorld.{AreScripts, IsRight}
use Rattle.history_laws.specs.LocalMarks.{MarksAreLocal}
use Rattle.queue_rows.specs.Sending.{taking_ids, with_transit}
use Rattle.run_laws.specs.ValidRun.{IsBeingSent, IsValidWorld}

-- ---- what is left of a world

-- The world has one entry more, which commits these changes at each database, and takes so many ids there.
pub record Leads (w new : World) (cs : DbId → List Change) (taken : DbId → ℕ) : Type 0 where
  pub entry : Entry
  pub entries : new.entries ≡ w.entries ++ entry ∷ []
  pub changes : (db : DbId) → changes_at db entry ≡ cs db
  pub at_moment : entry.moment ≡ w.moment
  pub tables : (db : DbId) → (database_at db new).tables ≡ committed_tables (database_at db w).tables (cs db) w.moment
  pub count : (db : DbId) → (database_at db new).made ≡ (database_at db w).made + commits_in (cs db)
  pub next : (db : DbId) → (database_at db new).next ≡ (database_at db w).next + taken db
  pub moment : new.moment ≡ w.moment
  pub scripts : new.scripts ≡ w.scripts

abbrev pub no_changes : DbId → List Change
no_changes db = []

abbrev pub no_ids : DbId → ℕ
no_ids db = 0

-- of what is committed at one database, and of the ids that are taken there, what another one has
abbrev pub only_at : DbId → List Change → DbId → List Change
only_at at cs db = if is_same_db at db then cs else []

abbrev pub ids_at : DbId → ℕ → DbId → ℕ
ids_at at taken db = if is_same_db at db then taken else 0

-- it is valid where each database is right behind what it commits
pub valid_behind : (w new : World) (cs : DbId → List Change) (taken : DbId → ℕ) → IsValidWorld w → Leads w new cs taken
    → ((db : DbId) → IsRight (committed_tables (database_at db w).tables (cs db) w.moment) db ((database_at db w).next + taken db) w.moment new.sessions)
    → ((db : DbId) → MarksAreLocal (committed_tables (database_at db w).tables (cs db) w.moment) db new.sessions)
    → ((t : Transit) → new.transit ≡ Some t → IsBeingSent (committed_tables (database_at t.slot.db w).tables (cs t.slot.db) w.moment) t.slot) → IsValidWorld new
valid_behind w new cs taken v b right local sent = record {
  databases = λ db. subst (λ t. IsRight t db (database_at db new).next new.moment new.sessions) (sym (b.tables db))
      (subst (λ n. IsRight (committed_tables (database_at db w).tables (cs db) w.moment) db n new.moment new.sessions) (sym (b.next db))
      (subst (λ n. IsRight (committed_tables (database_at db w).tables (cs db) w.moment) db ((database_at db w).next + taken db) n new.sessions) (sym b.moment) (right db)));
  local = λ db. subst (λ t. MarksAreLocal t db new.sessions) (sym (b.tables db)) (local db);
  last = let e = b.moment in let l = v.last in omega (arith, e, l);
  scripts = subst AreScripts (sym b.scripts) v.scripts;
  sent = λ t e. subst (λ x. IsBeingSent x t.slot) (sym (b.tables t.slot.db)) (sent t e);
}

-- ---- a call

module _ (w : World) (i : ℕ) (s : Session) (reply : Reply) (cs : List Change) (after : Session) where
  abbrev pub step_at : DbId → World
  step_at at = stepped i w (at_home at cs) (at_away at cs) (Call (s.next + 1) reply)

  abbrev pub world_at : DbId → World
  world_at at = taking_ids at (ids_taken reply) (step_at at)

  abbrev pub called_at : DbId → World
  called_at at = standing at cs (called_in (world_at at) i s after)

  pub call_leads : (at : DbId) → Leads w (called_at at) (only_at at cs) (ids_at at (ids_taken reply))
  unfolding stepped
  call_leads Home = record {
    entry = entry_of i w cs [] (Call (s.next + 1) reply);
    entries = refl;
    changes = λ db. by_db db;
    at_moment = refl;
    tables = λ db. tables_by db;
    count = λ db. count_by db;
    next = λ db. next_by db;
    moment = refl;
    scripts = refl;
  }
    where
      by_db : (db : DbId) → changes_at db (entry_of i w cs [] (Call (s.next + 1) reply)) ≡ only_at Home cs db
      by_db Home = refl
      by_db Away = refl

      tables_by : (db : DbId) → (database_at db (called_at Home)).tables ≡ committed_tables (database_at db w).tables (only_at Home cs db) w.moment
      tables_by Home = refl
      tables_by Away = refl

      count_by : (db : DbId) → (database_at db (called_at Home)).made ≡ (database_at db w).made + commits_in (only_at Home cs db)
      count_by Home = refl
      count_by Away = refl

      next_by : (db : DbId) → (database_at db (called_at Home)).next ≡ (database_at db w).next + ids_at Home (ids_taken reply) db
      next_by Home = refl
      next_by Away = omega arith
  call_leads Away = record {
    entry = entry_of i w [] cs (Call (s.next + 1) reply);
    entries = refl;
    changes = λ db. by_db db;
    at_moment = refl;
    tables = λ db. tables_by db;
    count = λ db. count_by db;
    next = λ db. next_by db;
    moment = refl;
    scripts = refl;
  }
    where
      by_db : (db : DbId) → changes_at db (entry_of i w [] cs (Call (s.next + 1) reply)) ≡ only_at Away cs db
      by_db Home = refl
      by_db Away = refl

      tables_by : (db : DbId) → (database_at db (called_at Away)).tables ≡ committed_tables (database_at db w).tables (only_at Away cs db) w.moment
      tables_by Home = refl
      tables_by Away = refl

      count_by : (db : DbId) → (database_at db (called_at Away)).made ≡ (database_at db w).made + commits_in (only_at Away cs db)
      count_by Home = refl
      count_by Away = refl

      next_by : (db : DbId) → (database_at db (called_at Away)).next ≡ (database_at db w).next + ids_at Away (ids_taken reply) db
      next_by Home = omega arith
      next_by Away = refl

  pub call_sessions : (at : DbId) → (called_at at).sessions ≡ standing_after at cs (slice_set w.sessions i (having_called (world_at at) s after))
  unfolding stepped
  call_sessions Home = refl
  call_sessions Away = refl

  pub call_transit : (at : DbId) → (called_at at).transit ≡ w.transit
  unfolding stepped
  call_transit Home = refl
  call_transit Away = refl

-- ---- the other steps

-- what is committed at home and at away
abbrev pub at_both : List Change → List Change → DbId → List Change
at_both home away Home = home
at_both home away Away = away

module _ (actor : ℕ) (w : World) (home away : List Change) (step : Step) where
  pub step_leads : Leads w (stepped actor w home away step) (at_both home away) no_ids
  unfolding stepped
  step_leads = record {
    entry = entry_of actor w home away step;
    entries = refl;
    changes = by_db;
    at_moment = refl;
    tables = tables_by;
    count = count_by;
    next = next_by;
    moment = refl;
    scripts = refl;
  }
    where
      by_db : (db : DbId) → changes_at db (entry_of actor w home away step) ≡ at_both home away db
      by_db Home = refl
      by_db Away = refl

      tables_by : (db : DbId) → (database_at db (stepped actor w home away step)).tables ≡ committed_tables (database_at db w).tables (at_both home away db) w.moment
      tables_by Home = refl
      tables_by Away = refl

      count_by : (db : DbId) → (database_at db (stepped actor w home away step)).made ≡ (database_at db w).made + commits_in (at_both home away db)
      count_by Home = refl
      count_by Away = refl

      next_by : (db : DbId) → (database_at db (stepped actor w home away step)).next ≡ (database_at db w).next + 0
      next_by Home = omega arith
      next_by Away = omega arith

  pub step_sessions : (stepped actor w home away step).sessions ≡ w.sessions
  unfolding stepped
  step_sessions = refl

  pub step_transit : (stepped actor w home away step).transit ≡ w.transit
  unfolding stepped
  step_transit = refl

-- what leads to a world leads to one with other sessions, or another slot that is being sent
pub leads_with_session : (w new : World) (cs : DbId → List Change) (taken : DbId → ℕ) (i : ℕ) (s : Session) → Leads w new cs taken → Leads w (with_session i s new) cs taken
leads_with_session w new cs taken i s b = record { entry = b.entry; entries = b.entries; changes = b.changes; at_moment = b.at_moment; tables = tables_by; count = count_by; next = next_by; moment = b.moment; scripts = b.scripts }
  where
    tables_by : (db : DbId) → (database_at db (with_session i s new)).tables ≡ committed_tables (database_at db w).tables (cs db) w.moment
    tables_by Home = b.tables Home
    tables_by Away = b.tables Away

    count_by : (db : DbId) → (database_at db (with_session i s new)).made ≡ (database_at db w).made + commits_in (cs db)
    count_by Home = b.count Home
    count_by Away = b.count Away

    next_by : (db : DbId) → (database_at db (with_session i s new)).next ≡ (database_at db w).next + taken db
    next_by Home = b.next Home
    next_by Away = b.next Away

pub leads_with_transit : (w new : World) (cs : DbId → List Change) (taken : DbId → ℕ) (t : Option Transit) → Leads w new cs taken → Leads w (with_transit t new) cs taken
leads_with_transit w new cs taken t b = record { entry = b.entry; entries = b.entries; changes = b.changes; at_moment = b.at_moment; tables = tables_by; count = count_by; next = next_by; moment = b.moment; scripts = b.scripts }
  where
    tables_by : (db : DbId) → (database_at db (with_transit t new)).tables ≡ committed_tables (database_at db w).tables (cs db) w.moment
    tables_by Home = b.tables Home
    tables_by Away = b.tables Away

    count_by : (db : DbId) → (database_at db (with_transit t new)).made ≡ (database_at db w).made + commits_in (cs db)
    count_by Home = b.count Home
    count_by Away = b.count Away

    next_by : (db : DbId) → (database_at db (with_transit t new)).next ≡ (database_at db w).next + taken db
    next_by Home = b.next Home
    next_by Away = b.next Away

-- ids are taken at a database where none were
pub leads_taking : (w new : World) (cs : DbId → List Change) (at : DbId) (n : ℕ) → Leads w new cs no_ids → Leads w (taking_ids at n new) cs (ids_at at n)
leads_taking w new cs Home n b = record { entry = b.entry; entries = b.entries; changes = b.changes; at_moment = b.at_moment; tables = tables_by; count = count_by; next = next_by; moment = b.moment; scripts = b.scripts }
  where
    tables_by : (db : DbId) → (database_at db (taking_ids Home n new)).tables ≡ committed_tables (database_at db w).tables (cs db) w.moment
    tables_by Home = b.tables Home
    tables_by Away = b.tables Away

    count_by : (db : DbId) → (database_at db (taking_ids Home n new)).made ≡ (database_at db w).made + commits_in (cs db)
    count_by Home = b.count Home
    count_by Away = b.count Away

    next_by : (db : DbId) → (database_at db (taking_ids Home n new)).next ≡ (database_at db w).next + ids_at Home n db
    next_by Home = let e = b.next Home in omega (arith, e)
    next_by Away = b.next Away
leads_taking w new cs Away n b = record { entry = b.entry; entries = b.entries; changes = b.changes; at_moment = b.at_moment; tables = tables_by; count = count_by; next = next_by; moment = b.moment; scripts = b.scripts }
  where
    tables_by : (db : DbId) → (database_at db (taking_ids Away n new)).tables ≡ committed_tables (database_at db w).tables (cs db) w.moment
    tables_by Home = b.tables Home
    tables_by Away = b.tables Away

    count_by : (db : DbId) → (database_at db (taking_ids Away n new)).made ≡ (database_at db w).made + commits_in (cs db)
    count_by Home = b.count Home
    count_by Away = b.count Away

    next_by : (db : DbId) → (database_at db (taking_ids Away n new)).next ≡ (database_at db w).next + ids_at Away n db
    next_by Home = b.next Home
    next_by Away = let e = b.next Away in omega (arith, e)

-- making all durable changes neither tables nor numbers of ids
pub leads_durable : (w new : World) (cs : DbId → List Change) (taken : DbId → ℕ) → Leads w new cs taken → Leads w (all_durable new) cs taken
leads_durable w new cs taken b = record { entry = b.entry; entries = b.entries; changes = b.changes; at_moment = b.at_moment; tables = tables_by; count = count_by; next = next_by; moment = b.moment; scripts = b.scripts }
  where
    tables_by : (db : DbId) → (database_at db (all_durable new)).tables ≡ committed_tables (database_at db w).tables (cs db) w.moment
    tables_by Home = b.tables Home
    tables_by Away = b.tables Away

    count_by : (db : DbId) → (database_at db (all_durable new)).made ≡ (database_at db w).made + commits_in (cs db)
    count_by Home = b.count Home
    count_by Away = b.count Away

    next_by : (db : DbId) → (database_at db (all_durable new)).next ≡ (database_at db w).next + taken db
    next_by Home = b.next Home
    next_by Away = b.next Away
