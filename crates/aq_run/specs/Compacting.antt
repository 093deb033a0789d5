-- What `compact` answers.
use Rattle.std.specs.Prelude.{◌≡◌, ◌⊎◌, ℕ, ◌++◌, List, length, codes, decimal}
use Rattle.std.specs.Option.{ForSome}
use Rattle.aq_disk.specs.declared.device.Disk.{Ghosts}
use Rattle.aq_base.specs.declared.stream.Sink.{Ghosts as SinkGhosts}
use Rattle.queue_rows.specs.declared.tables.Tables.{Tables}
use Rattle.redo_journal.specs.Journal.{frames_of}
use Rattle.redo_journal.specs.Runs.{IsDiskSettled}
use Rattle.aq_world.specs.Anew.{mounted_bytes}
use Rattle.aq_world.specs.Recovery.{RecoversTo}
use Rattle.aq_world.specs.CompactCause.{CompactCause}
use Rattle.aq_world.specs.CompactCause.TheVariants.{Fault, Memory}
use Rattle.aq_run.specs.Disks.{Keeps}
use Rattle.aq_run.specs.Histories.{empty_history}
use Rattle.aq_run.specs.Outcomes.{IsNotMounted, IsRun}
use Rattle.aq_run.specs.Written.{Writes}
use Rattle.aq_run.specs.declared.outcome.Outcome.{Outcome}

-- how many frames both journals had before they were compacted
abbrev pub compacted_text : ℕ → ℕ → List ℕ
compacted_text home away = (codes "compacted home " ++ decimal home) ++ (codes " away " ++ decimal away ++ codes "\n")

-- the status that a call has whose journals were not compacted for this cause
abbrev pub status_of_cause : CompactCause → ℕ
status_of_cause (Fault db) = 5
status_of_cause Memory = 4

-- ---- the disks

module _ {D : Type 0} (device : Ghosts D) where
  -- The disk is settled, its journal has one frame, and these tables are recovered of it.
  pub record HasOneFrame (t : Tables) (disk : D) : Type 0 where
    pub settled : IsDiskSettled device.seen device.is_image device.calls disk
    pub one : ForSome (device.seen disk) (λ bytes. length (frames_of bytes) ≡ 1)
    pub recovers : RecoversTo device.seen disk t

  -- These tables are recovered of the disk; its journal, which had so many frames as it was mounted, is left with one, which leads to them.
  pub record IsCompactedOf (t : Tables) (frames : ℕ) (old new : D) : Type 0 where
    pub recovers : RecoversTo device.seen old t
    pub had : IsDiskSettled device.seen device.is_image device.calls old → ForSome (device.seen old) (λ bytes. length (frames_of (mounted_bytes bytes)) ≡ frames)
    pub left : IsDiskSettled device.seen device.is_image device.calls old → ForSome (device.seen old) (λ _. HasOneFrame t new)

-- ---- the answer

module _ {S D C : Type 0} (sink : SinkGhosts S) (device : Ghosts D) (old new : S) (home away : D) (o : Outcome D C) where
  -- Both databases were mounted, and one was not compacted: a disk failed, at 5, or memory ran out, at 4.
  pub record IsUncompacted : Type 0 where
    pub status : (o.status ≡ 4) ⊎ (o.status ≡ 5)
    pub nothing : sink.taken new ≡ sink.taken old

  -- Both journals were compacted.
  pub record IsCompacted : Type 0 where
    -- all was done, the sink failed, or memory ran out for the text
    pub status : IsRun o.status ⊎ (o.status ≡ 4)
    pub home_tables : Tables
    pub away_tables : Tables
    pub home_frames : ℕ
    pub away_frames : ℕ
    pub home_is : IsCompactedOf device home_tables home_frames home o.home
    pub away_is : IsCompactedOf device away_tables away_frames away o.away
    -- how many frames they had is told: whole at 0, a prefix at 7, and at 4 nothing
    pub written : Writes sink.taken sink.faults old new (compacted_text home_frames away_frames) o.status
    pub nothing : o.status ≡ 4 → sink.taken new ≡ sink.taken old

  -- Whatever became of it, nothing was run, and a crash at any moment of the call leaves what each disk recovers as it was.
  pub record KeepsTables : Type 0 where
    pub no_history : o.history ≡ empty_history
    pub home_kept : Keeps device home o.home
    pub away_kept : Keeps device away o.away

  -- the databases are not mounted, or not both compacted, or both are
  abbrev pub Compacts : Type 0
  Compacts = IsNotMounted sink device old new home away o ⊎ (KeepsTables × (IsUncompacted ⊎ IsCompacted))
