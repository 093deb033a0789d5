-- A log that is compacted.
use Rattle.std.proofs.Common.{◌≡◌, ◌≤◌, ◌∷◌, ℕ, List, [], length, Some, Result, refl, ap, ◌∙◌, arith}
use Rattle.std.specs.Prelude.{Ok, Err, IfOk, OnOk, option_map}
use Rattle.std.specs.Option.{ForSome}
use Rattle.aq_disk.specs.Disk.{EachImage, KeepsEarlier}
use Rattle.aq_disk.specs.declared.device.Disk.{Ghosts}
use Rattle.redo_journal.specs.Journal.{Mounted, Outline, area, bodies_in, frames_in, frames_of, journal, mounted_at, mounted_of, outline, written_version}
use Rattle.redo_journal.specs.Journaled.{Journaled, Rests}
use Rattle.redo_journal.specs.Runs.{HasJournal}
use Rattle.redo_journal.specs.declared.frame.FrameAt.{FrameAt}
use Rattle.redo_journal.proofs.Moments.{some_told}
use Rattle.redo_records.specs.Recovered.{after_bodies}
use Rattle.redo_records.specs.Spelling.{encode}
use Rattle.queue_rows.specs.Tables.{empty_tables}
use Rattle.queue_rows.specs.declared.tables.Tables.{Tables}
use Rattle.history_laws.specs.Made.{after_commits}
use Rattle.crash_laws.specs.Crash.{Recovers}
use Rattle.checkpoint.specs.Compaction.{compacted_journal, turned_bytes}
use Rattle.checkpoint.specs.declared.compacting.CompactFault.{CompactFault}
use Rattle.checkpoint_commit.specs.Checkpoint.{checkpoint_of}
use Rattle.checkpoint_commit.specs.Laws.{CheckpointRestores}
use Rattle.database_recovery.specs.Recovering.{ContentsRecover}
use Rattle.database_recovery.specs.Sound.{IsSound}
use Rattle.commit_log.specs.Compacting.{IsCompacted, KeepsTables, disk_compacted}
use Rattle.commit_log.specs.LogLaws.{LogRecovers}
use Rattle.commit_log.specs.Logged.{Logs}
use Rattle.commit_log.proofs.Bytes.{anew_recovered}

frames_at_end : (o : Outline) (end : Result ℕ ℕ) (m : Mounted) → mounted_at o end ≡ Ok m → o.chain.frames ≡ m.frames
frames_at_end o (Ok gate) m is =
    let same : record { version = o.version; active = record { side = o.side; root = o.root; gate = gate }; frames = o.chain.frames } ≡ m = cc in
    ap (λ (n : Mounted). n.frames) same
frames_at_end o (Err at) m is = absurd (cc)

frames_mounted : (r : Result Outline ℕ) (m : Mounted) → mounted_of r ≡ Ok m → frames_in r ≡ m.frames
frames_mounted (Ok o) m is = frames_at_end o o.chain.end m is
frames_mounted (Err at) m is = absurd (cc)

-- a journal has its frames
frames_read : (bytes : List ℕ) (m : Mounted) → journal bytes ≡ Ok m → frames_of bytes ≡ m.frames
unfolding journal frames_of
frames_read bytes m is = frames_mounted (outline bytes) m is

module _ {D : Type 0} (device : Ghosts D) (t : Tables) (j : Journaled D) where
  -- the frames on the disk of a log without commits lead to its tables
  leads : (logs : Logs device.seen device.is_image device.calls t [] 0 j) → after_bodies logs.m.version empty_tables (bodies_in logs.m.frames) ≡ Some t
  unfolding after_commits
  leads logs = ap (λ (v : ℕ). after_bodies v empty_tables (bodies_in logs.m.frames)) logs.version ∙ logs.frames (record { fit = refl; spellable = tt })

  pub keeps_tables : (new : D)
      → ForSome (device.seen j.disk) (λ _. (m : Mounted) → Rests device.seen device.is_image device.calls j m → after_bodies m.version empty_tables (bodies_in m.frames) ≡ Some t
      → EachImage (device.calls j.disk) (device.calls new) (device.is_image new) (Recovers t))
      → KeepsEarlier (device.calls j.disk) (device.is_image j.disk) (device.is_image new) → device.calls j.disk ≤ device.calls new → KeepsTables device t j new
  keeps_tables new crash earlier later = record {
    crash = λ logs. let told = some_told (device.seen j.disk) logs.told in crash told.0 told.1 logs.m logs.rests (leads logs);
    earlier = earlier;
    later = later;
  }

  -- nothing is done with it
  pub keeps_self : LogRecovers device.seen device.is_image device.calls → KeepsTables device t j j.disk
  unfolding after_commits
  keeps_self law = record {
    crash = λ logs. law t [] 0 j logs (record { fit = refl; spellable = tt });
    earlier = λ call le image. (λ is. is, λ is. is);
    later = omega arith;
  }

  pub compacted : ContentsRecover → CheckpointRestores → IsSound t → (new : D) → device.seen new ≡ option_map (turned_bytes j.active (area (encode (checkpoint_of t) ∷ []))) (device.seen j.disk)
      → ((m : Mounted) → Rests device.seen device.is_image device.calls j m → HasJournal device.seen device.is_image device.calls new (compacted_journal j.active (encode (checkpoint_of t))))
      → device.faults new ≡ device.faults j.disk → IsCompacted device t j new
  compacted contents restores sound new bytes rests fine = record {
    bytes = bytes;
    frame = λ logs told is. ap length (frames_read told (compacted_journal j.active (encode (checkpoint_of t))) (rests logs.m logs.rests told is).reads);
    recovers = λ logs told is. anew_recovered contents restores j.active t told sound (rests logs.m logs.rests told is).reads;
    settled = λ logs told is. (rests logs.m logs.rests told is).settled;
    fine = fine;
  }

  pub if_compacted : ContentsRecover → CheckpointRestores → IsSound t → (r : Result D (CompactFault D))
      → IfOk r (λ new. device.seen new ≡ option_map (turned_bytes j.active (area (encode (checkpoint_of t) ∷ []))) (device.seen j.disk))
      → IfOk r (λ new. (m : Mounted) → Rests device.seen device.is_image device.calls j m → HasJournal device.seen device.is_image device.calls new (compacted_journal j.active (encode (checkpoint_of t))))
      → OnOk r (device.faults (disk_compacted r) ≡ device.faults j.disk) → IfOk r (IsCompacted device t j)
  if_compacted contents restores sound (Ok new) bytes rests fine = compacted contents restores sound new bytes rests fine
  if_compacted contents restores sound (Err e) bytes rests fine = tt
