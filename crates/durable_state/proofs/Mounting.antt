-- A run begins on disks that were mounted.
use Rattle.std.proofs.Common.{◌≡◌, inr, ℕ, List, [], Option, refl, sym, ap, ◌∙◌, subst, arith}
use Rattle.aq_base.specs.declared.DbId.{DbId}
use Rattle.aq_base.specs.declared.DbId.TheVariants.{Home, Away}
use Rattle.queue_rows.specs.declared.tables.Tables.{Tables}
use Rattle.queue_rows.specs.declared.history.Entry.{Entry}
use Rattle.queue_rows.specs.declared.history.SessionScript.{SessionScript}
use Rattle.redo_journal.specs.Journaled.{Journaled}
use Rattle.crash_laws.specs.Crash.{Run, opened_run}
use Rattle.crash_laws.specs.CrashLaws.{OpeningSurvives}
use Rattle.queue_rows.specs.World.{World, opened}
use Rattle.durable_state.specs.Counted.{counted}
use Rattle.durable_state.specs.Mounting.{IsMountedOn}
use Rattle.durable_state.specs.Survival.{AreFaults, Begun, Survives, SurvivesAt}
use Rattle.durable_state.specs.declared.run_logs.RunLogs.{RunLogs}
use Rattle.durable_state.proofs.Stepping.{held_of}
use Rattle.durable_state.proofs.Writing.{not_failed}

home_opened : (home away : Tables) (scripts : List SessionScript) → (opened home away scripts).home.opening ≡ home
unfolding opened
home_opened home away scripts = refl

away_opened : (home away : Tables) (scripts : List SessionScript) → (opened home away scripts).away.opening ≡ away
unfolding opened
away_opened home away scripts = refl

entries_opened : (home away : Tables) (scripts : List SessionScript) → (opened home away scripts).entries ≡ []
unfolding opened
entries_opened home away scripts = refl

-- no commit was made, so none is counted
pub few_opened : (w : World) (home away : Tables) (scripts : List SessionScript) → w ≡ opened home away scripts → w.entries ≡ []
few_opened w home away scripts is = ap (λ (v : World). v.entries) is ∙ entries_opened home away scripts

run_opened : (db : DbId) (start : ℕ) (opening was : Tables) (entries : List Entry) → opening ≡ was → entries ≡ []
    → (let r : Run = record { db = db; opening = opening; start = start; entries = entries } in r) ≡ opened_run db was start
run_opened db start opening was entries same none =
    ap (λ (t : Tables). let r : Run = record { db = db; opening = t; start = start; entries = entries } in r) same
    ∙ ap (λ (es : List Entry). let r : Run = record { db = db; opening = was; start = start; entries = es } in r) none

module _ {D : Type 0} (seen : D → Option (List ℕ)) (images : D → ℕ → List ℕ → Type 0) (calls faults : D → ℕ) (opening_survives : OpeningSurvives images calls) where
  mounted : (db : DbId) (disk : D) (t : Tables) (j : Journaled D) → IsMountedOn seen images calls faults disk t j → SurvivesAt seen images calls disk (opened_run db t (calls disk)) j
  mounted db disk t j m settled bytes is loggable = record {
    survives = opening_survives db t (calls disk) j.disk m.later (m.crash settled bytes is);
    logs = inr (record { k = 0; logs = m.logs settled bytes is; at_least = omega arith });
  }

  mounted_faults : (disk : D) (t : Tables) (j : Journaled D) → IsMountedOn seen images calls faults disk t j → AreFaults faults disk j
  mounted_faults disk t j m = record { fine = λ none. m.fine; rose = λ some. not_failed j.failed_at m.unfailed some }

  pub begins : (w : World) (l : RunLogs D) (home away : Tables) (scripts : List SessionScript) → w ≡ opened home away scripts → l.calls.items ≡ [] → (b : Begun D)
      → IsMountedOn seen images calls faults b.home home l.home → IsMountedOn seen images calls faults b.away away l.away → Survives seen images calls faults b (held_of w l)
  begins w l home away scripts is none b at_home at_away =
      let entries : counted w.entries l.calls.items ≡ [] = ap (λ (es : List Entry). counted es l.calls.items) (few_opened w home away scripts is) in
      record {
        home = subst (λ (r : Run). SurvivesAt seen images calls b.home r l.home)
            (sym (run_opened Home (calls b.home) w.home.opening home (counted w.entries l.calls.items) (ap (λ (v : World). v.home.opening) is ∙ home_opened home away scripts) entries))
            (mounted Home b.home home l.home at_home);
        away = subst (λ (r : Run). SurvivesAt seen images calls b.away r l.away)
            (sym (run_opened Away (calls b.away) w.away.opening away (counted w.entries l.calls.items) (ap (λ (v : World). v.away.opening) is ∙ away_opened home away scripts) entries))
            (mounted Away b.away away l.away at_away);
        home_faults = mounted_faults b.home home l.home at_home;
        away_faults = mounted_faults b.away away l.away at_away;
      }
