-- A disk whose journal is read.
use Rattle.std.proofs.Common.{◌≡◌, ◌≤◌, ℕ, List, [], Option, Some, None, Result, refl, sym, ap, ◌∙◌, subst}
use Rattle.std.specs.Prelude.{◌↔◌, Ok, option_map}
use Rattle.std.specs.Option.{ForSome}
use Rattle.aq_disk.specs.Causes.{Rose}
use Rattle.aq_disk.specs.Disk.{KeepsEarlier}
use Rattle.aq_disk.specs.declared.device.Disk.{Ghosts}
use Rattle.redo_journal.specs.Begun.{after_mount}
use Rattle.redo_journal.specs.Journal.{journal}
use Rattle.redo_journal.specs.Journaled.{Journaled, Rests}
use Rattle.redo_journal.specs.Mount.{IsDamage, IsFault as IsMountFault, disk_in as disk_in_mount, mounted_as}
use Rattle.redo_journal.specs.Runs.{IsDiskSettled, MountRuns}
use Rattle.redo_journal.specs.declared.frame.FrameAt.{FrameAt}
use Rattle.redo_journal.specs.declared.mount.MountFault.{MountFault}
use Rattle.redo_records.specs.Recovered.{after_frames, recovered}
use Rattle.queue_rows.specs.declared.tables.Tables.{Tables}
use Rattle.database_recovery.specs.Recovering.{FramesLead, JournalRecovers, MountRecovers}
use Rattle.database_recovery.specs.Sound.{IsSound}
use Rattle.commit_log.specs.Mounting.{IsDamageOf, IsFault, IsRead, IsRefused, IsUnwritten, disk_in}
use Rattle.commit_log.specs.Recovery.{KeepsRecovered}
use Rattle.commit_log.specs.declared.fault.LogFault.{LogFault}
use Rattle.commit_log.proofs.Mounting.{holds, mount_keeps, recovers}

module _ {D : Type 0} (device : Ghosts D) where
  pub unwritten : (old new : D) → MountRuns device.seen device.is_image device.calls old new → IsUnwritten device old new
  unwritten old new runs settled bytes told call lo hi image left begun = (runs settled bytes told).begun begun call lo hi image left

  -- the journal was read, and the tables that its frames lead to
  pub read_by : JournalRecovers → FramesLead → MountRecovers → (disk : D) (j : Journaled D) (frames : List FrameAt) (version : ℕ) (t : Tables) → j.version ≡ version
      → after_frames version frames ≡ Ok t → IsSound t → ForSome (device.seen disk) (λ bytes. journal bytes ≡ Ok (mounted_as j frames))
      → (IsDiskSettled device.seen device.is_image device.calls disk → Rests device.seen device.is_image device.calls j (mounted_as j frames))
      → device.seen j.disk ≡ option_map after_mount (device.seen disk) → j.queued ≡ [] → j.failed_at ≡ None → MountRuns device.seen device.is_image device.calls disk j.disk
      → KeepsEarlier (device.calls disk) (device.is_image disk) (device.is_image j.disk) → device.calls disk ≤ device.calls j.disk → device.faults j.disk ≡ device.faults disk → IsRead device disk t j
  read_by law lead mount disk j frames version t is led sound reads rests bytes empty unfailed runs earlier later fine = record {
    recovers = λ told seen. recovers law told version (mounted_as j frames) (Ok t) (reads told seen) is led;
    sound = sound;
    reads = λ told seen. (frames, reads told seen);
    holds = λ settled. holds device.seen device.is_image device.calls lead j frames version t (rests settled) is led;
    just = record {
      bytes = λ told seen. bytes ∙ ap (option_map after_mount) seen;
      unwritten = unwritten disk j.disk runs;
    };
    empty = empty;
    unfailed = unfailed;
    crash = mount_keeps device.seen device.is_image device.calls mount disk j.disk runs;
    earlier = earlier;
    later = later;
    fine = fine;
  }

  -- the journal was not read
  pub refused_mount : MountRecovers → (disk : D) (e : LogFault D) (f : MountFault D) → ((bytes : List ℕ) → IsDamage f bytes → IsDamageOf (recovered bytes) e) → disk_in e ≡ disk_in_mount f
      → (IsFault e ↔ IsMountFault f) → ForSome (device.seen disk) (IsDamage f) → MountRuns device.seen device.is_image device.calls disk (disk_in_mount f)
      → KeepsEarlier (device.calls disk) (device.is_image disk) (device.is_image (disk_in_mount f)) → device.calls disk ≤ device.calls (disk_in_mount f)
      → (IsMountFault f → Rose (device.faults disk) (device.faults (disk_in_mount f))) → ((IsMountFault f → ⊥) → device.faults (disk_in_mount f) ≡ device.faults disk) → IsRefused device disk e
  refused_mount mount disk e f same back means damaged runs earlier later fault no_fault = record {
    damaged = λ bytes told. same bytes (damaged bytes told);
    written = let u = subst (λ (d : D). IsUnwritten device disk d) (sym back) (unwritten disk (disk_in_mount f) runs) in λ settled bytes told call lo hi image left begun _. u settled bytes told call lo hi image left begun;
    crash = subst (λ (d : D). KeepsRecovered device.seen device.is_image device.calls disk d) (sym back) (mount_keeps device.seen device.is_image device.calls mount disk (disk_in_mount f) runs);
    earlier = subst (λ (d : D). KeepsEarlier (device.calls disk) (device.is_image disk) (device.is_image d)) (sym back) earlier;
    later = subst (λ (d : D). device.calls disk ≤ device.calls d) (sym back) later;
    fault = λ is. subst (λ (d : D). Rose (device.faults disk) (device.faults d)) (sym back) (fault (means.0 is));
    no_fault = λ none. ap device.faults back ∙ no_fault (λ is. none (means.1 is));
  }

  -- it was, but its frames lead to no tables, or there was no memory for them
  pub refused_read : MountRecovers → (disk : D) (e : LogFault D) (j : Journaled D) → disk_in e ≡ j.disk → (IsFault e → ⊥) → ForSome (device.seen disk) (λ bytes. IsDamageOf (recovered bytes) e)
      → MountRuns device.seen device.is_image device.calls disk j.disk → KeepsEarlier (device.calls disk) (device.is_image disk) (device.is_image j.disk) → device.calls disk ≤ device.calls j.disk
      → device.faults j.disk ≡ device.faults disk → IsRefused device disk e
  refused_read mount disk e j back none damaged runs earlier later fine = record {
    damaged = damaged;
    written = let u = subst (λ (d : D). IsUnwritten device disk d) (sym back) (unwritten disk j.disk runs) in λ settled bytes told call lo hi image left begun _. u settled bytes told call lo hi image left begun;
    crash = subst (λ (d : D). KeepsRecovered device.seen device.is_image device.calls disk d) (sym back) (mount_keeps device.seen device.is_image device.calls mount disk j.disk runs);
    earlier = subst (λ (d : D). KeepsEarlier (device.calls disk) (device.is_image disk) (device.is_image d)) (sym back) earlier;
    later = subst (λ (d : D). device.calls disk ≤ device.calls d) (sym back) later;
    fault = λ is. absurd (none is);
    no_fault = λ _. ap device.faults back ∙ fine;
  }
