-- The run that scripts begin over what the disks recover.
use Rattle.std.proofs.Common.{◌≡◌, List, [], refl, sym, ap, subst, ◌∙◌, map, arith}
use Rattle.std.proofs.lemmas.List.{append-nil}
use Rattle.std.specs.Prelude.{true}
use Rattle.queue_rows.specs.Serial.{Begins, AreSerial, IsSerial, IsSerialFront, IsOnTheWay, in_all}
use Rattle.queue_rows.specs.Tables.{empty_tables}
use Rattle.queue_rows.specs.Valid.{is_valid}
use Rattle.queue_rows.specs.Within.{are_within}
use Rattle.queue_rows.specs.World.{uncounted, opening_moment, World, opened}
use Rattle.queue_rows.specs.declared.history.History.{History}
use Rattle.queue_rows.specs.declared.history.SessionScript.{SessionScript}
use Rattle.queue_rows.specs.declared.tables.Tables.{Tables}
use Rattle.history_laws.specs.ValidWorld.{AreScripts}
use Rattle.history_laws.specs.WorldLaws.{MayBegin}
use Rattle.queue_rows.specs.Legal.{IsLegalHistory, opens}
use Rattle.run_turns.proofs.Calling.{session-opened, scripts-opened, entries-opened}
use Rattle.aq_world.specs.Entries.{BeginsAs}
use Rattle.aq_world.specs.Turning.{IsOfRun}
use Rattle.aq_run.specs.Progress.{AreAt, AreTold}
use Rattle.aq_run.specs.Histories.{empty_history}

-- the world begins with its openings and these scripts
abbrev pub Opens : List SessionScript → World → Type 0
Opens scripts w = w ≡ opened w.home.opening w.away.opening scripts

-- ---- the world that a run begins with

readings-opened : (home away : Tables) (scripts : List SessionScript) → (opened home away scripts).readings ≡ 0
unfolding opened
readings-opened home away scripts = refl

opening-opened : (home away : Tables) (scripts : List SessionScript) → (opened home away scripts).opening ≡ opening_moment home away
unfolding opened
opening-opened home away scripts = refl

at-opened : (home away : Tables) (scripts : List SessionScript) → AreAt 0 (opened home away scripts)
at-opened home away scripts = λ i s there.
    let e : s.next ≡ 0 = ap (λ x. x.next) (session-opened home away scripts i s there).2 in
    record { called = λ live. omega arith; within = omega (arith, e) }

told-opened : (home away : Tables) (scripts : List SessionScript) → AreTold (opened home away scripts)
told-opened home away scripts = λ i s there. ap (λ x. x.untold) (session-opened home away scripts i s there).2

pub readings-begun : (scripts : List SessionScript) (w : World) → Opens scripts w → w.readings ≡ 0
readings-begun scripts w e = ap (λ (x : World). x.readings) e ∙ readings-opened w.home.opening w.away.opening scripts

pub at-begun : (scripts : List SessionScript) (w : World) → Opens scripts w → AreAt 0 w
at-begun scripts w e = subst (AreAt 0) (sym e) (at-opened w.home.opening w.away.opening scripts)

pub told-begun : (scripts : List SessionScript) (w : World) → Opens scripts w → AreTold w
told-begun scripts w e = subst AreTold (sym e) (told-opened w.home.opening w.away.opening scripts)

pub scripts-begun : (scripts : List SessionScript) (w : World) → Opens scripts w → AreScripts scripts → AreScripts w.scripts
scripts-begun scripts w e are = subst AreScripts (sym (ap (λ (x : World). x.scripts) e ∙ scripts-opened w.home.opening w.away.opening scripts)) are

-- the tables are still those of the openings
pub home-begun : (scripts : List SessionScript) (w : World) → Opens scripts w → w.home.tables ≡ w.home.opening
unfolding opened
home-begun scripts w e = ap (λ (x : World). x.home.tables) e

pub away-begun : (scripts : List SessionScript) (w : World) → Opens scripts w → w.away.tables ≡ w.away.opening
unfolding opened
away-begun scripts w e = ap (λ (x : World). x.away.tables) e

-- ---- the history of a run

module _ (scripts : List SessionScript) (old new : World) (h : History) (e : Opens scripts old) (run : IsOfRun old new) (b : BeginsAs new h) where
  pub home_is : h.home ≡ old.home.opening
  home_is = b.home_is ∙ run.home

  pub away_is : h.away ≡ old.away.opening
  away_is = b.away_is ∙ run.away

  pub scripts_are : h.scripts ≡ scripts
  scripts_are = b.scripts_are ∙ run.scripts ∙ ap (λ (w : World). w.scripts) e ∙ scripts-opened old.home.opening old.away.opening scripts

  -- the run began as its history does
  start : old ≡ opened h.home h.away scripts
  start = e ∙ ap (λ t. opened t old.away.opening scripts) (sym home_is) ∙ ap (λ t. opened h.home t scripts) (sym away_is)

  begins_so : Begins h.home h.away scripts h
  begins_so = record {
    home_is = refl;
    away_is = refl;
    opening_is = b.opening_is ∙ run.opening ∙ ap (λ (w : World). w.opening) start ∙ opening-opened h.home h.away scripts;
    scripts_are = scripts_are;
  }

  pub may_so : MayBegin new.home.opening new.away.opening new.scripts → MayBegin h.home h.away scripts
  may_so may =
      subst (λ given. MayBegin h.home h.away given) (sym b.scripts_are ∙ scripts_are)
      (subst (λ t. MayBegin h.home t new.scripts) (sym b.away_is) (subst (λ t. MayBegin t new.away.opening new.scripts) (sym b.home_is) may))

  pub whole_run : AreSerial old new.entries → map uncounted h.entries ≡ new.entries → IsSerial h.home h.away scripts h
  whole_run all entries =
      record { begins = begins_so; turns = subst (AreSerial (opened h.home h.away scripts)) (sym entries) (subst (λ w. AreSerial w new.entries) start all) }

  pub part_run : IsOnTheWay old new.entries → map uncounted h.entries ≡ new.entries → IsSerialFront h.home h.away scripts h
  part_run way entries =
      record { begins = begins_so; way = subst (IsOnTheWay (opened h.home h.away scripts)) (sym entries) (subst (λ w. IsOnTheWay w new.entries) start way) }

-- a whole serial history is a first part of itself
pub serial_front : (home away : Tables) (scripts : List SessionScript) (history : History) → IsSerial home away scripts history → IsSerialFront home away scripts history
serial_front home away scripts history serial = record {
  begins = serial.begins;
  way = in_all (map uncounted history.entries) serial.turns ([], append-nil (map uncounted history.entries));
}

-- ---- a call that reached no run

none_within : are_within [] ≡ true
unfolding are_within
none_within = refl

-- no sessions are few
pub no_scripts : AreScripts []
no_scripts = record { within = none_within; ordered = refl }

empty_valid : is_valid empty_tables ≡ true
unfolding is_valid
empty_valid = refl

pub none_may : MayBegin empty_tables empty_tables []
none_may = record { home_valid = empty_valid; away_valid = empty_valid; home_fields = refl; away_fields = refl; may_ask = no_scripts }

pub none_legal : IsLegalHistory empty_tables empty_tables [] empty_history
none_legal = (
  [],
  record {
    begins = record { home_is = refl; away_is = refl; opening_is = refl; scripts_are = refl };
    end = opened empty_tables empty_tables [];
    entries_are = sym (entries-opened empty_tables empty_tables []);
    legal = opens;
  },
)
