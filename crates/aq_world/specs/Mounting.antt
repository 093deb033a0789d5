-- What becomes of disks whose databases are mounted.
use Rattle.std.specs.Prelude.{◌≡◌, ◌⊎◌, ℕ}
use Rattle.std.specs.Option.{ForSome}
use Rattle.aq_base.specs.declared.DbId.{DbId}
use Rattle.aq_base.specs.declared.DbId.TheVariants.{Home, Away}
use Rattle.aq_disk.specs.Causes.{Rose}
use Rattle.aq_disk.specs.declared.device.Disk.{Ghosts}
use Rattle.queue_rows.specs.World.{World}
use Rattle.durable_state.specs.Held.{Held}
use Rattle.durable_state.specs.LogFault.{LogFault}
use Rattle.durable_state.specs.LogFault.TheVariants as faults
use Rattle.durable_state.specs.LogMounting.{IsJustRead, IsMounted, KeepsWritten}
use Rattle.durable_state.specs.Recovery.{IsDamagedAt, IsRecovered, KeepsRecovered}
use Rattle.durable_state.specs.Sound.{IsSound}
use Rattle.aq_world.specs.declared.mount.MountCause.{MountCause}
use Rattle.aq_world.specs.declared.mount.MountCause.TheVariants.{Fault, Damaged, Memory}

-- why the log of that database was not mounted
abbrev pub cause_of : {D : Type 0} → DbId → LogFault D → MountCause
cause_of db (faults.Fault disk) = Fault db
cause_of db (faults.Damaged offset disk) = Damaged db offset
cause_of db (faults.Memory disk) = Memory

-- both databases of a run began with sound tables
abbrev pub HasSoundOpenings : World → Type 0
HasSoundOpenings w = IsSound w.home.opening × IsSound w.away.opening

module _ {D : Type 0} (device : Ghosts D) where
  -- both logs of a run were mounted of these disks, over the tables with which its databases begin
  pub record AreMounted (home away : D) (v : Held D) : Type 0 where
    pub home_log : IsMounted device home v.world.home.opening v.home
    pub away_log : IsMounted device away v.world.away.opening v.away

  -- a disk that was to be mounted lost nothing, and was not written where its journal has the version that is written
  pub record LosesNothing (old new : D) : Type 0 where
    pub kept : KeepsRecovered device.seen device.is_image device.calls old new
    pub written : KeepsWritten device old new

  -- the journal of the disk was read
  pub record WasRead (old new : D) : Type 0 where
    pub recovered : IsRecovered device.seen old
    pub fine : device.faults new ≡ device.faults old

  -- it was read and no more
  pub record WasOnlyRead (old new : D) : Type 0 where
    pub read : WasRead old new
    pub just : IsJustRead device old new

  -- ---- in which order it is done

  -- What became of away's disk where home's journal stood in the way: it was not looked at, as home's was being read; or it was read, and then
  -- home's was written anew.
  abbrev pub IsBeforeAway : D → D → Type 0
  IsBeforeAway away away_after = (away_after ≡ away) ⊎ WasOnlyRead away away_after

  -- What became of home's disk where away's journal stood in the way: it was read and no more, as away's was being read; or away's was read, and
  -- then home's was written anew where its version was an older one, and then away's.
  abbrev pub IsBehindHome : D → D → D → Type 0
  IsBehindHome home home_after away = WasOnlyRead home home_after ⊎ (WasRead home home_after × IsRecovered device.seen away)

  -- Why the databases were not mounted, of home's disk and away's before and after. Home's journal is read first, then away's; when both were
  -- read, home's is written anew where its version is an older one, and then away's. So where away is damaged home is read and no more.
  abbrev pub HasMountCause : MountCause → D → D → D → D → Type 0
  HasMountCause (Fault Home) home away home_after away_after = Rose (device.faults home) (device.faults home_after) × IsBeforeAway away away_after
  HasMountCause (Fault Away) home away home_after away_after = IsBehindHome home home_after away × Rose (device.faults away) (device.faults away_after)
  HasMountCause (Damaged Home offset) home away home_after away_after =
      IsDamagedAt device.seen home offset × (device.faults home_after ≡ device.faults home) × IsBeforeAway away away_after
  HasMountCause (Damaged Away offset) home away home_after away_after =
      WasRead home home_after × ForSome (device.seen away) (λ _. WasOnlyRead home home_after) × IsDamagedAt device.seen away offset × (device.faults away_after ≡ device.faults away)
  HasMountCause Memory home away home_after away_after = (device.faults home_after ≡ device.faults home) × (device.faults away_after ≡ device.faults away)

  -- they were not mounted, for this cause, and no disk lost anything
  pub record IsUnopened (cause : MountCause) (home away home_after away_after : D) : Type 0 where
    pub cause_is : HasMountCause cause home away home_after away_after
    pub home_disk : LosesNothing home home_after
    pub away_disk : LosesNothing away away_after
