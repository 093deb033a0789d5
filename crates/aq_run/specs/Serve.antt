-- What the program answers, whatever it is asked.
use Rattle.std.specs.Prelude.{◌≡◌, ◌⊎◌, ◌↔◌, ℕ, List, [], codes, Option, Some, None, IsSome, Ok, true, false}
use Rattle.aq_base.specs.Causes.{Rose}
use Rattle.aq_run.specs.Reading.{ConsumesInput}
use Rattle.aq_run.specs.Written.{Tells}
use Rattle.aq_base.specs.declared.stream.Sink.{Ghosts as SinkGhosts}
use Rattle.aq_base.specs.declared.stream.Source.{Ghosts as SourceGhosts}
use Rattle.aq_disk.specs.declared.device.Disk.{Ghosts}
use Rattle.queue_rows.specs.declared.history.SessionScript.{SessionScript}
use Rattle.queue_rows.specs.declared.tables.Tables.{Tables}
use Rattle.redo_records.specs.Recovered.{recovered}
use Rattle.script_text.specs.Script.{script}
use Rattle.aq_world.specs.Recovery.{FailsEither, FailsNeither}
use Rattle.aq_run.specs.Disks.{Keeps}
use Rattle.aq_run.specs.Histories.{empty_history}
use Rattle.aq_run.specs.Outcomes.{IsStatus}
use Rattle.aq_run.specs.Words.{mounts_disks, reads_input, runs}
use Rattle.aq_run.specs.declared.command.Command.{Command}
use Rattle.aq_run.specs.declared.outcome.Outcome.{Outcome}

-- what is told to words that are no command
abbrev pub usage_text : List ℕ
usage_text = codes "usage: aqd run | run --serial | dump | compact | gen N S K | audit\n"

-- ---- statuses and their causes

-- Each status has its cause; 4, out of memory, needs none.
pub record HasCauses {I S : Type 0} (source : SourceGhosts I) (sink : SinkGhosts S) (command : Option Command) (input input_after : I) (out out_after : S) (status : ℕ) : Type 0 where
  pub known : IsStatus status
  -- 1 is answered just to words that are no command
  pub usage : (status ≡ 1) ↔ (command ≡ None)
  -- 2 and 3 to commands that read the input, and at 3 the source failed
  pub bad : status ≡ 2 → reads_input command ≡ true
  pub unread : status ≡ 3 → (reads_input command ≡ true) × Rose (source.faults input) (source.faults input_after)
  -- 5 and 6 to commands that mount the disks
  pub stopped : (status ≡ 5) ⊎ (status ≡ 6) → mounts_disks command ≡ true
  -- at 7 the sink failed
  pub unwritten : status ≡ 7 → Rose (sink.faults out) (sink.faults out_after)

-- ---- the disks, whatever the command

-- A crash at any moment of a call without entries leaves what each disk recovers as it was. At 5 a call on a disk failed, and at 0, 6 and 7
-- none did.
pub record LeavesDisks {D C : Type 0} (device : Ghosts D) (home away : D) (o : Outcome D C) : Type 0 where
  pub home_kept : o.history.entries ≡ [] → Keeps device home o.home
  pub away_kept : o.history.entries ≡ [] → Keeps device away o.away
  pub failed : o.status ≡ 5 → FailsEither device.faults home away o.home o.away
  pub fine : (o.status ≡ 0) ⊎ ((o.status ≡ 6) ⊎ (o.status ≡ 7)) → FailsNeither device.faults home away o.home o.away

-- ---- words that are no command

-- the usage is told, and nothing else is done
pub record TellsUsage {S D C : Type 0} (sink : SinkGhosts S) (old new : S) (home away : D) (o : Outcome D C) : Type 0 where
  pub told : Tells sink.taken sink.faults old new usage_text
  pub history : o.history ≡ empty_history
  pub home_is : o.home ≡ home
  pub away_is : o.away ≡ away

-- ---- what is left alone

-- a command that reads no input leaves it as it was, and each other takes at most one byte past its limit
pub record TakesInput {I : Type 0} (source : SourceGhosts I) (command : Option Command) (old new : I) : Type 0 where
  pub few : ConsumesInput source.left old new
  pub unread : reads_input command ≡ false → new ≡ old

-- the clock is not called, and at 1 and 3, and at 2 of a run, neither disk is; what reaches no run has no history
pub record LeavesAlone {D C : Type 0} (command : Option Command) (home away : D) (clock : C) (o : Outcome D C) : Type 0 where
  pub clock_is : o.clock ≡ clock
  pub disks : (o.status ≡ 1) ⊎ (o.status ≡ 3) → (o.home ≡ home) × (o.away ≡ away)
  pub bad_script : o.status ≡ 2 → runs command ≡ true → (o.home ≡ home) × (o.away ≡ away)
  pub empty : (o.status ≡ 1) ⊎ ((o.status ≡ 2) ⊎ ((o.status ≡ 3) ⊎ (o.status ≡ 6))) → o.history ≡ empty_history

-- ---- completeness

-- the source tells that it has a script to be read
pub record HasScript {I : Type 0} (source : SourceGhosts I) (input : I) : Type 0 where
  pub bytes : List ℕ
  pub scripts : List SessionScript
  pub told : source.left input ≡ Some bytes
  pub reads : script bytes ≡ Ok scripts

-- the disk tells bytes that recover tables
pub record HasTables {D : Type 0} (device : Ghosts D) (disk : D) : Type 0 where
  pub bytes : List ℕ
  pub tables : Tables
  pub told : device.seen disk ≡ Some bytes
  pub recovers : recovered bytes ≡ Ok tables

-- Nothing but want of memory stands in the way: the words are a command, a run has its script, both disks recover where they are mounted,
-- and nothing failed.
pub record CanServe {I S D : Type 0} (source : SourceGhosts I) (sink : SinkGhosts S) (device : Ghosts D) (command : Option Command) (input input_after : I) (out out_after : S) (home away home_after away_after : D) : Type 0 where
  pub asked : IsSome command
  pub script_is : runs command ≡ true → HasScript source input
  pub home_is : mounts_disks command ≡ true → HasTables device home
  pub away_is : mounts_disks command ≡ true → HasTables device away
  pub reads : Rose (source.faults input) (source.faults input_after) → ⊥
  pub writes : Rose (sink.faults out) (sink.faults out_after) → ⊥
  pub disks : FailsEither device.faults home away home_after away_after → ⊥
