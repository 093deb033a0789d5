-- What a log becomes that is compacted: one commit, which leads to its tables.
use Rattle.std.specs.Prelude.{◌≡◌, ◌≤◌, ℕ, List, [], length, option_map, Result, Ok, Err}
use Rattle.std.specs.Option.{ForSome}
use Rattle.aq_disk.specs.Disk.{EachImage, KeepsEarlier}
use Rattle.aq_disk.specs.declared.device.Disk.{Ghosts}
use Rattle.checkpoint.specs.declared.compacting.CompactFault.{CompactFault}
use Rattle.checkpoint.specs.Answer.{disk_in}
use Rattle.checkpoint_commit.specs.Anew.{with_checkpoint}
use Rattle.crash_laws.specs.Crash.{Recovers}
use Rattle.queue_rows.specs.declared.tables.Tables.{Tables}
use Rattle.redo_journal.specs.Journal.{frames_of}
use Rattle.redo_journal.specs.Journaled.{Journaled}
use Rattle.redo_journal.specs.Runs.{IsDiskSettled}
use Rattle.commit_log.specs.Logged.{Logs}
use Rattle.commit_log.specs.Recovery.{RecoversTo}

-- the disk after a log was compacted
abbrev pub disk_compacted : {D : Type 0} → Result D (CompactFault D) → D
disk_compacted (Ok disk) = disk
disk_compacted (Err e) = disk_in e

module _ {D : Type 0} (device : Ghosts D) where
  -- The log of these tables, on which it has no commits, was compacted. Its disk has one frame then, which leads to them, and a crash leaves
  -- just that.
  pub record IsCompacted (t : Tables) (j : Journaled D) (new : D) : Type 0 where
    pub bytes : device.seen new ≡ option_map (with_checkpoint j.active t) (device.seen j.disk)
    pub frame : Logs device.seen device.is_image device.calls t [] 0 j → ForSome (device.seen new) (λ bytes. length (frames_of bytes) ≡ 1)
    pub recovers : Logs device.seen device.is_image device.calls t [] 0 j → RecoversTo device.seen new t
    pub settled : Logs device.seen device.is_image device.calls t [] 0 j → IsDiskSettled device.seen device.is_image device.calls new
    pub fine : device.faults new ≡ device.faults j.disk

  -- of a log of these tables, on which it has no commits, a crash at any moment since then leaves a disk that recovers them
  pub record KeepsTables (t : Tables) (j : Journaled D) (new : D) : Type 0 where
    pub crash : Logs device.seen device.is_image device.calls t [] 0 j → EachImage (device.calls j.disk) (device.calls new) (device.is_image new) (Recovers t)
    pub earlier : KeepsEarlier (device.calls j.disk) (device.is_image j.disk) (device.is_image new)
    pub later : device.calls j.disk ≤ device.calls new
