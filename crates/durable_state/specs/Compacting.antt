-- What becomes of the disks of a run whose logs are compacted before anything was done in it.
use Rattle.std.specs.Prelude.{◌≡◌, [], None}
use Rattle.aq_base.specs.declared.DbId.{DbId}
use Rattle.aq_base.specs.declared.DbId.TheVariants.{Home, Away}
use Rattle.aq_disk.specs.Causes.{Rose}
use Rattle.aq_disk.specs.declared.device.Disk.{Ghosts}
use Rattle.commit_log.specs.Compacting.{IsCompacted, KeepsTables}
use Rattle.commit_log.specs.CompactFault.{CompactFault}
use Rattle.commit_log.specs.CompactFault.TheVariants as faults
use Rattle.commit_log.specs.Sound.{IsSound}
use Rattle.durable_state.specs.Held.{Held}
use Rattle.durable_state.specs.declared.compacting.CompactCause.{CompactCause}
use Rattle.durable_state.specs.declared.compacting.CompactCause.TheVariants.{Fault, Memory}

-- Nothing was done since the databases were mounted: their tables, which are sound, are those with which they began, no entry was made, nothing is
-- queued, and no call has failed.
pub record IsFresh {D : Type 0} (v : Held D) : Type 0 where
  pub home_tables : v.world.home.tables ≡ v.world.home.opening
  pub away_tables : v.world.away.tables ≡ v.world.away.opening
  pub home_sound : IsSound v.world.home.opening
  pub away_sound : IsSound v.world.away.opening
  pub entries : v.entries ≡ []
  pub home_queued : v.home.queued ≡ []
  pub away_queued : v.away.queued ≡ []
  pub home_fine : v.home.failed_at ≡ None
  pub away_fine : v.away.failed_at ≡ None

-- why the log of that database was not compacted
abbrev pub cause_of : {D : Type 0} → DbId → CompactFault D → CompactCause
cause_of db (faults.Fault disk) = Fault db
cause_of db (faults.Memory disk) = Memory

module _ {D : Type 0} (device : Ghosts D) where
  -- both logs were compacted into the tables that they led to
  pub record AreCompacted (v : Held D) (home away : D) : Type 0 where
    pub home_log : IsCompacted device v.world.home.opening v.home home
    pub away_log : IsCompacted device v.world.away.opening v.away away

  -- on each disk a crash at any moment since then leaves the tables that its log led to
  pub record KeepBoth (v : Held D) (home away : D) : Type 0 where
    pub home_log : KeepsTables device v.world.home.opening v.home home
    pub away_log : KeepsTables device v.world.away.opening v.away away

  -- Why they were not, of home's disk and away's before and after. Home's log is compacted first. All memory is taken before the first call
  -- on a disk.
  abbrev pub HasCompactCause : CompactCause → D → D → D → D → Type 0
  HasCompactCause (Fault Home) home away home_after away_after = Rose (device.faults home) (device.faults home_after) × (away_after ≡ away)
  HasCompactCause (Fault Away) home away home_after away_after = (device.faults home_after ≡ device.faults home) × Rose (device.faults away) (device.faults away_after)
  HasCompactCause Memory home away home_after away_after = (device.faults home_after ≡ device.faults home) × (away_after ≡ away)
