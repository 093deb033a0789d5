-- What it is to read the journal of a disk, to write it anew where its version is an older one, and so to mount its log.
use Rattle.std.specs.Prelude.{◌≡◌, ◌≤◌, ℕ, List, [], Option, Some, None, false, Result, Ok, Err}
use Rattle.std.specs.Option.{ForSome}
use Rattle.aq_disk.specs.Causes.{Rose}
use Rattle.aq_disk.specs.Disk.{KeepsEarlier}
use Rattle.aq_disk.specs.declared.device.Disk.{Ghosts}
use Rattle.database_recovery.specs.Sound.{IsSound}
use Rattle.database_recovery.specs.Stored.{Stored}
use Rattle.redo_journal.specs.Begun.{after_mount}
use Rattle.redo_journal.specs.Journal.{Mounted, bodies_in, is_unbegun, journal, version_of, written_version}
use Rattle.redo_journal.specs.Journaled.{Journaled, Rests}
use Rattle.redo_journal.specs.Mount.{mounted_as}
use Rattle.redo_journal.specs.Runs.{CrashLeaves, IsDiskSettled}
use Rattle.redo_journal.specs.declared.frame.FrameAt.{FrameAt}
use Rattle.redo_records.specs.Recovered.{after_bodies, recovered}
use Rattle.queue_rows.specs.Tables.{empty_tables}
use Rattle.queue_rows.specs.declared.tables.Tables.{Tables}
use Rattle.checkpoint_commit.specs.Anew.{mounted_bytes}
use Rattle.commit_log.specs.Logged.{Logs}
use Rattle.commit_log.specs.Recovery.{KeepsRecovered, RecoversTo}
use Rattle.commit_log.specs.declared.fault.LogFault.{LogFault}
use Rattle.commit_log.specs.declared.fault.LogFault.TheVariants.{Fault, Damaged, Memory}

-- ---- answers

-- damage is told where it is; a fault and want of memory say nothing of what is recovered
abbrev pub IsDamageOf : {D : Type 0} → Result Tables ℕ → LogFault D → Type 0
IsDamageOf led (Fault disk) = Unit {0}
IsDamageOf led (Damaged at disk) = led ≡ Err at
IsDamageOf led (Memory disk) = Unit {0}

abbrev pub IsFault : {D : Type 0} → LogFault D → Type 0
IsFault (Fault disk) = Unit {0}
IsFault (Damaged at disk) = ⊥
IsFault (Memory disk) = ⊥

-- the disk that is given back
abbrev pub disk_in : {D : Type 0} → LogFault D → D
disk_in (Fault disk) = disk
disk_in (Damaged at disk) = disk
disk_in (Memory disk) = disk

-- the disk after a mount
abbrev pub disk_after : {D : Type 0} → Result (Journaled D × Stored) (LogFault D) → D
disk_after (Ok r) = r.0.disk
disk_after (Err e) = disk_in e

-- ---- what is written

-- A disk that has a journal is not written: of a settled one, a crash at any moment leaves just its bytes.
abbrev pub IsUnwritten : {D : Type 0} → Ghosts D → D → D → Type 0
IsUnwritten device old new = CrashLeaves device.seen device.is_image device.calls old new (λ bytes image. is_unbegun bytes ≡ false → image ≡ bytes)

-- so it is where the journal has the version that is written
abbrev pub KeepsWritten : {D : Type 0} → Ghosts D → D → D → Type 0
KeepsWritten device old new =
    CrashLeaves device.seen device.is_image device.calls old new (λ bytes image. is_unbegun bytes ≡ false → version_of bytes ≡ Some written_version → image ≡ bytes)

-- the disk was read and no more: it has its bytes, with a beginning where it had none
pub record IsJustRead {D : Type 0} (device : Ghosts D) (old new : D) : Type 0 where
  pub bytes : ForSome (device.seen old) (λ bytes. device.seen new ≡ Some (after_mount bytes))
  pub unwritten : IsUnwritten device old new

-- ---- what is mounted

-- the journal is at rest, and its frames lead to these tables, whichever version they have
pub record HoldsTables {D : Type 0} (seen : D → Option (List ℕ)) (images : D → ℕ → List ℕ → Type 0) (calls : D → ℕ) (t : Tables) (j : Journaled D) : Type 0 where
  pub m : Mounted
  pub rests : Rests seen images calls j m
  pub leads : after_bodies m.version empty_tables (bodies_in m.frames) ≡ Some t

-- The journal was read of the disk, whichever version it has, and these tables, to which its commits lead. Nothing is lost by that.
pub record IsRead {D : Type 0} (device : Ghosts D) (disk : D) (t : Tables) (j : Journaled D) : Type 0 where
  pub recovers : RecoversTo device.seen disk t
  pub sound : IsSound t
  pub reads : ForSome (device.seen disk) (λ bytes. (frames : List FrameAt) × (journal bytes ≡ Ok (mounted_as j frames)))
  pub holds : IsDiskSettled device.seen device.is_image device.calls disk → HoldsTables device.seen device.is_image device.calls t j
  pub just : IsJustRead device disk j.disk
  pub empty : j.queued ≡ []
  pub unfailed : j.failed_at ≡ None
  pub crash : KeepsRecovered device.seen device.is_image device.calls disk j.disk
  pub earlier : KeepsEarlier (device.calls disk) (device.is_image disk) (device.is_image j.disk)
  pub later : device.calls disk ≤ device.calls j.disk
  pub fine : device.faults j.disk ≡ device.faults disk

-- nothing is queued in the journal, no call has failed, and these tables are sound: so it is of each journal that was read
pub record IsRenewable {D : Type 0} (t : Tables) (j : Journaled D) : Type 0 where
  pub sound : IsSound t
  pub empty : j.queued ≡ []
  pub unfailed : j.failed_at ≡ None

-- The log of the disk was mounted, and these tables, which are recovered of it. The log has no commits on them yet. Nothing is lost by that,
-- and a disk whose journal has the version that is written was not written.
pub record IsMounted {D : Type 0} (device : Ghosts D) (disk : D) (t : Tables) (j : Journaled D) : Type 0 where
  pub recovers : RecoversTo device.seen disk t
  pub sound : IsSound t
  pub logs : IsDiskSettled device.seen device.is_image device.calls disk → ForSome (device.seen disk) (λ _. Logs device.seen device.is_image device.calls t [] 0 j)
  pub bytes : ForSome (device.seen disk) (λ bytes. device.seen j.disk ≡ Some (mounted_bytes bytes))
  pub written : KeepsWritten device disk j.disk
  pub empty : j.queued ≡ []
  pub unfailed : j.failed_at ≡ None
  pub crash : KeepsRecovered device.seen device.is_image device.calls disk j.disk
  pub earlier : KeepsEarlier (device.calls disk) (device.is_image disk) (device.is_image j.disk)
  pub later : device.calls disk ≤ device.calls j.disk
  pub fine : device.faults j.disk ≡ device.faults disk

-- The log was not mounted, for this cause: damage is told where it is, and a fault where one came. Nothing is lost by that either.
pub record IsRefused {D : Type 0} (device : Ghosts D) (disk : D) (e : LogFault D) : Type 0 where
  pub damaged : ForSome (device.seen disk) (λ bytes. IsDamageOf (recovered bytes) e)
  pub written : KeepsWritten device disk (disk_in e)
  pub crash : KeepsRecovered device.seen device.is_image device.calls disk (disk_in e)
  pub earlier : KeepsEarlier (device.calls disk) (device.is_image disk) (device.is_image (disk_in e))
  pub later : device.calls disk ≤ device.calls (disk_in e)
  pub fault : IsFault e → Rose (device.faults disk) (device.faults (disk_in e))
  pub no_fault : (IsFault e → ⊥) → device.faults (disk_in e) ≡ device.faults disk
