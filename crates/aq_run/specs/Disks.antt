-- What is said of the disks that a call is handed, before and after it. What a disk means comes as one argument, the device.
use Rattle.std.specs.Prelude.{◌≡◌, ◌⊎◌, ℕ, List, []}
use Rattle.std.specs.Option.{ForSome}
use Rattle.aq_base.specs.declared.DbId.{DbId}
use Rattle.aq_base.specs.declared.DbId.TheVariants.{Home, Away}
use Rattle.aq_disk.specs.declared.device.Disk.{Ghosts}
use Rattle.queue_rows.specs.declared.history.History.{History}
use Rattle.history_laws.specs.Made.{opening_of, tables_after}
use Rattle.redo_journal.specs.Runs.{IsDiskSettled}
use Rattle.aq_world.specs.Crash.{Run, SurvivesCrash}
use Rattle.aq_world.specs.Mounting.{IsUnopened}
use Rattle.aq_world.specs.Recovery.{RecoversTo, KeepsRecovered}
use Rattle.aq_world.specs.declared.mount.MountFault.{MountFault}

-- ---- histories and crashes

-- the run of a history at a database, whose disk had so many calls as mounting began
abbrev pub run_of : DbId → ℕ → History → Run
run_of db start h = record { db = db; opening = opening_of db h; start = start; entries = h.entries }

-- the disk is settled, and recovers the database as the history leaves it
pub record Leaves {D : Type 0} (device : Ghosts D) (db : DbId) (h : History) (disk : D) : Type 0 where
  pub settled : IsDiskSettled device.seen device.is_image device.calls disk
  pub recovers : RecoversTo device.seen disk (tables_after db h)

module _ {D : Type 0} (device : Ghosts D) where
  -- Where the disk was handed in settled: a crash at any moment of the call recovers the database after a prefix of the history's
  -- commits, which has all that were durable.
  abbrev pub SurvivesCall : DbId → D → D → History → Type 0
  SurvivesCall db old new h = IsDiskSettled device.seen device.is_image device.calls old
      → ForSome (device.seen old) (λ _. SurvivesCrash (run_of db (device.calls old) h) (device.calls new) (device.is_image new))

  -- where it was handed in settled it is left settled, and recovers the database as the history leaves it
  abbrev pub LeavesWhole : DbId → D → D → History → Type 0
  LeavesWhole db old new h = IsDiskSettled device.seen device.is_image device.calls old → ForSome (device.seen old) (λ _. Leaves device db h new)

  -- where it was handed in settled a crash at any moment of the call leaves what is recovered as it was: tables, or a damage
  abbrev pub Keeps : D → D → Type 0
  Keeps old new = KeepsRecovered device.seen device.is_image device.calls old new

-- ---- mounting

-- the databases were not mounted, for the cause that is told, and no disk lost anything
abbrev pub IsUnmounted : {D C : Type 0} → Ghosts D → D → D → MountFault D C → Type 0
IsUnmounted device home away fault = IsUnopened device fault.cause home away fault.home fault.away
