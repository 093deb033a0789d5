-- A journal that was read is the log, or is written anew and read once more.
use Rattle.std.proofs.Common.{◌≡◌, ◌≤◌, ◌^◌, ℕ, false, List, [], ◌∷◌, length, Option, Some, Result, refl, sym, ap, ◌∙◌, subst, arith}
use Rattle.std.specs.Prelude.{◌↔◌, Ok, Err, IsSome, option_map}
use Rattle.std.specs.Option.{ForSome}
use Rattle.aq_disk.specs.Causes.{Rose}
use Rattle.aq_disk.specs.Disk.{EachImage, KeepsEarlier}
use Rattle.aq_disk.specs.declared.device.Disk.{Ghosts}
use Rattle.aq_disk.proofs.Moments.{earlier_on}
use Rattle.redo_journal.specs.Crash.{IsAtRest}
use Rattle.redo_journal.specs.Journal.{Mounted, area, bodies_in, is_unbegun, journal, version_of, written_version}
use Rattle.redo_journal.specs.Journaled.{Journaled, Rests}
use Rattle.redo_journal.specs.Mount.{mounted_as}
use Rattle.redo_journal.specs.Begun.{after_mount}
use Rattle.redo_journal.specs.Runs.{HasJournal, IsDiskSettled}
use Rattle.redo_journal.proofs.Moments.{each_both, each_more, settled_told}
use Rattle.redo_records.specs.Recovered.{after_bodies, recovered}
use Rattle.redo_records.specs.Spelling.{encode}
use Rattle.queue_rows.specs.Tables.{empty_tables}
use Rattle.queue_rows.specs.declared.tables.Tables.{Tables}
use Rattle.crash_laws.specs.Crash.{Recovers}
use Rattle.database_recovery.specs.Recovering.{ContentsRecover}
use Rattle.checkpoint.specs.Answer.{IsFault as IsCompactFault, disk_in as disk_in_compact}
use Rattle.checkpoint.specs.Compaction.{compacted_journal}
use Rattle.checkpoint.specs.declared.compacting.CompactFault.{CompactFault}
use Rattle.checkpoint_commit.specs.Anew.{with_checkpoint}
use Rattle.checkpoint_commit.specs.Checkpoint.{checkpoint_of}
use Rattle.checkpoint_commit.specs.Laws.{CheckpointRestores}
use Rattle.commit_log.specs.Logged.{Logs, RecoversSame}
use Rattle.commit_log.specs.Mounting.{HoldsTables, IsDamageOf, IsFault, IsMounted, IsRead, IsRefused, disk_in}
use Rattle.commit_log.specs.Recovery.{KeepsRecovered}
use Rattle.commit_log.specs.declared.fault.LogFault.{LogFault}
use Rattle.commit_log.specs.declared.fault.LogFault.TheVariants.{Damaged}
use Rattle.commit_log.proofs.Bytes.{anew_bytes, anew_recovered, anew_rests, begun_after, mounted_old, mounted_written, old_begun, version_read}
use Rattle.commit_log.proofs.Mounting.{compact_recovers, holds_logs, is_told, recovers_same, same_ok}

same_some : (told : Option ℕ) (x y : ℕ) → told ≡ Some x → told ≡ Some y → x ≡ y
same_some told x y d e = cc

-- a journal was compacted into the checkpoint of these tables
pub record IsPut {D : Type 0} (device : Ghosts D) (t : Tables) (j : Journaled D) (put : D) : Type 0 where
  pub bytes : device.seen put ≡ option_map (with_checkpoint j.active t) (device.seen j.disk)
  pub rests : (m : Mounted) → Rests device.seen device.is_image device.calls j m → HasJournal device.seen device.is_image device.calls put (compacted_journal j.active (encode (checkpoint_of t)))
  pub crash : ForSome (device.seen j.disk) (λ _. (m : Mounted) → Rests device.seen device.is_image device.calls j m → after_bodies m.version empty_tables (bodies_in m.frames) ≡ Some t
      → EachImage (device.calls j.disk) (device.calls put) (device.is_image put) (Recovers t))
  pub earlier : KeepsEarlier (device.calls j.disk) (device.is_image j.disk) (device.is_image put)
  pub later : device.calls j.disk ≤ device.calls put
  pub fine : device.faults put ≡ device.faults j.disk

module _ {D : Type 0} (device : Ghosts D) (disk : D) (t : Tables) (j : Journaled D) (read : IsRead device disk t j) where
  version : (bytes : List ℕ) → device.seen disk ≡ Some bytes → version_of bytes ≡ Some j.version
  version bytes told = let r = read.reads bytes told in version_read bytes (mounted_as j r.0) r.1

  -- ---- the log is the journal as it was read

  pub mounted_same : j.version ≡ written_version → IsMounted device disk t j
  mounted_same is = record {
    recovers = read.recovers;
    sound = read.sound;
    logs = λ settled bytes told. holds_logs device.seen device.is_image device.calls t j (read.holds settled) (is_told (device.seen j.disk) (after_mount bytes) (read.just.bytes bytes told)) is read.empty;
    bytes = λ bytes told. read.just.bytes bytes told ∙ ap Some (sym (mounted_written bytes (version bytes told ∙ ap Some is)));
    written = λ settled bytes told call lo hi image left begun _. read.just.unwritten settled bytes told call lo hi image left begun;
    empty = read.empty;
    unfailed = read.unfailed;
    crash = read.crash;
    earlier = read.earlier;
    later = read.later;
    fine = read.fine;
  }

  -- ---- it is written anew

  -- what leaves the tables at each call behind the reading loses nothing
  kept : (new : D) → (IsSome (device.seen j.disk) → HoldsTables device.seen device.is_image device.calls t j → EachImage (device.calls j.disk) (device.calls new) (device.is_image new) (Recovers t))
      → KeepsEarlier (device.calls j.disk) (device.is_image j.disk) (device.is_image new) → KeepsRecovered device.seen device.is_image device.calls disk new
  kept new each earlier settled bytes told =
      recovers_same device.seen device.is_image device.calls (device.calls disk) (device.calls j.disk) (device.calls new) (device.is_image j.disk) (device.is_image new) t bytes (read.recovers bytes told)
      (read.crash settled bytes told) earlier (each (is_told (device.seen j.disk) (after_mount bytes) (read.just.bytes bytes told)) (read.holds settled))

  module _ (old : j.version ≡ written_version → ⊥) where
    never_written : {P : Type 0} (bytes : List ℕ) → device.seen disk ≡ Some bytes → version_of bytes ≡ Some written_version → P
    never_written bytes told is = absurd (old (same_some (version_of bytes) j.version written_version (version bytes told) is))

    begun : (bytes : List ℕ) → device.seen disk ≡ Some bytes → is_unbegun bytes ≡ false
    begun bytes told = let r = read.reads bytes told in old_begun bytes (mounted_as j r.0) r.1 old

    same_bytes : (bytes : List ℕ) → device.seen disk ≡ Some bytes → device.seen j.disk ≡ Some bytes
    same_bytes bytes told = read.just.bytes bytes told ∙ ap Some (begun_after bytes (begun bytes told))

    -- it was not compacted
    pub refused_compact : (e : LogFault D) (f : CompactFault D) → ((led : Result Tables ℕ) → IsDamageOf led e) → disk_in e ≡ disk_in_compact f → (IsFault e ↔ IsCompactFault f)
        → ForSome (device.seen j.disk) (λ _. (m : Mounted) → Rests device.seen device.is_image device.calls j m → after_bodies m.version empty_tables (bodies_in m.frames) ≡ Some t
        → EachImage (device.calls j.disk) (device.calls (disk_in_compact f)) (device.is_image (disk_in_compact f)) (Recovers t))
        → KeepsEarlier (device.calls j.disk) (device.is_image j.disk) (device.is_image (disk_in_compact f)) → device.calls j.disk ≤ device.calls (disk_in_compact f)
        → (IsCompactFault f → Rose (device.faults j.disk) (device.faults (disk_in_compact f))) → ((IsCompactFault f → ⊥) → disk_in_compact f ≡ j.disk) → IsRefused device disk e
    refused_compact e f undamaged same means crash earlier later fault memory = record {
      damaged = λ bytes told. undamaged (recovered bytes);
      written = λ settled bytes told call lo hi image left _ is. never_written bytes told is;
      crash = subst (λ d. KeepsRecovered device.seen device.is_image device.calls disk d) (sym same)
          (kept (disk_in_compact f) (λ is held. compact_recovers device.seen device.is_image device.calls t j (disk_in_compact f) is held crash) earlier);
      earlier = subst (λ d. KeepsEarlier (device.calls disk) (device.is_image disk) (device.is_image d)) (sym same)
          (earlier_on (device.calls disk) (device.calls j.disk) (device.is_image disk) (device.is_image j.disk) (device.is_image (disk_in_compact f)) read.earlier read.later earlier);
      later = let first = read.later in let same_calls = ap device.calls same in omega (arith, first, later, same_calls);
      fault = λ is. subst (λ (n : ℕ). Rose n (device.faults (disk_in e))) read.fine (subst (λ d. Rose (device.faults j.disk) (device.faults d)) (sym same) (fault (means.0 is)));
      no_fault = λ none. ap device.faults (same ∙ memory (λ is. none (means.1 is))) ∙ read.fine;
    }

    module _ (contents : ContentsRecover) (restores : CheckpointRestores) (limit : (d : D) (bytes : List ℕ) → device.seen d ≡ Some bytes → length bytes ≤ 2 ^ 62) (put : D) (is_put : IsPut device t j put) where
      put_told : (bytes : List ℕ) → device.seen disk ≡ Some bytes → device.seen put ≡ Some (with_checkpoint j.active t bytes)
      put_told bytes told = is_put.bytes ∙ ap (option_map (with_checkpoint j.active t)) (same_bytes bytes told)

      -- it reads as it was written
      at_rest : (bytes : List ℕ) → device.seen disk ≡ Some bytes
          → IsAtRest (compacted_journal j.active (encode (checkpoint_of t))) (with_checkpoint j.active t bytes) (λ image. image ≡ with_checkpoint j.active t bytes)
      at_rest bytes told =
          let r = read.reads bytes told in
          anew_rests (mounted_as j r.0) (encode (checkpoint_of t)) bytes r.1 (begun bytes told) (limit disk bytes told) (limit put (with_checkpoint j.active t bytes) (put_told bytes told))

      put_recovers : (bytes : List ℕ) → device.seen disk ≡ Some bytes → recovered (with_checkpoint j.active t bytes) ≡ Ok t
      put_recovers bytes told = anew_recovered contents restores j.active t (with_checkpoint j.active t bytes) read.sound (at_rest bytes told).reads

      put_settled : (bytes : List ℕ) → device.seen disk ≡ Some bytes → IsDiskSettled device.seen device.is_image device.calls disk → IsDiskSettled device.seen device.is_image device.calls put
      put_settled bytes told settled =
          let h = read.holds settled in
          settled_told (device.seen put) (with_checkpoint j.active t bytes) (device.is_image put (device.calls put)) (put_told bytes told)
          (is_put.rests h.m h.rests (with_checkpoint j.active t bytes) (put_told bytes told)).settled

      -- what is lost by no reading of it is lost by all that was done
      kept_behind : (new : D) → KeepsRecovered device.seen device.is_image device.calls put new → KeepsEarlier (device.calls put) (device.is_image put) (device.is_image new)
          → KeepsRecovered device.seen device.is_image device.calls disk new
      kept_behind new keeps earlier settled bytes told =
          let again : EachImage (device.calls put) (device.calls new) (device.is_image new) (Recovers t) =
          each_more (device.calls put) (device.calls new) (device.is_image new) (RecoversSame (with_checkpoint j.active t bytes)) (Recovers t) (λ image same. same ∙ put_recovers bytes told)
          (keeps (put_settled bytes told settled) (with_checkpoint j.active t bytes) (put_told bytes told)) in
          kept new
          (λ is held. each_both (device.calls j.disk) (device.calls put) (device.calls new) (device.is_image put) (device.is_image new) (Recovers t)
          (compact_recovers device.seen device.is_image device.calls t j put is held is_put.crash) earlier again)
          (earlier_on (device.calls j.disk) (device.calls put) (device.is_image j.disk) (device.is_image put) (device.is_image new) is_put.earlier is_put.later earlier) settled bytes told

      earlier_behind : (new : D) → KeepsEarlier (device.calls put) (device.is_image put) (device.is_image new) → KeepsEarlier (device.calls disk) (device.is_image disk) (device.is_image new)
      earlier_behind new earlier =
          earlier_on (device.calls disk) (device.calls j.disk) (device.is_image disk) (device.is_image j.disk) (device.is_image new) read.earlier read.later
          (earlier_on (device.calls j.disk) (device.calls put) (device.is_image j.disk) (device.is_image put) (device.is_image new) is_put.earlier is_put.later earlier)

      -- it was read once more
      pub mounted_anew : (u : Tables) (new : Journaled D) → IsRead device put u new → new.version ≡ written_version → IsMounted device disk u new
      mounted_anew u new again is =
          let same : (bytes : List ℕ) → device.seen disk ≡ Some bytes → t ≡ u =
          λ bytes told. same_ok (recovered (with_checkpoint j.active t bytes)) t u (put_recovers bytes told) (again.recovers (with_checkpoint j.active t bytes) (put_told bytes told)) in
          record {
            recovers = λ bytes told. read.recovers bytes told ∙ ap Ok (same bytes told);
            sound = again.sound;
            logs = λ settled bytes told.
                holds_logs device.seen device.is_image device.calls u new (again.holds (put_settled bytes told settled))
                (is_told (device.seen new.disk) (after_mount (with_checkpoint j.active t bytes)) (again.just.bytes (with_checkpoint j.active t bytes) (put_told bytes told))) is again.empty;
            bytes = λ bytes told.
                let r = read.reads bytes told in
                again.just.bytes (with_checkpoint j.active t bytes) (put_told bytes told)
                ∙ ap Some (begun_after (with_checkpoint j.active t bytes) (at_rest bytes told).begun
                ∙ sym (mounted_old bytes j.version (version bytes told) old ∙ anew_bytes bytes (mounted_as j r.0) t r.1 (read.recovers bytes told)));
            written = λ settled bytes told call lo hi image left _ is. never_written bytes told is;
            empty = again.empty;
            unfailed = again.unfailed;
            crash = kept_behind new.disk again.crash again.earlier;
            earlier = earlier_behind new.disk again.earlier;
            later = let a = read.later in let b = is_put.later in let c = again.later in omega (arith, a, b, c);
            fine = again.fine ∙ is_put.fine ∙ read.fine;
          }

      -- it was not read
      pub refused_anew : (e : LogFault D) → IsRefused device put e → IsRefused device disk e
      refused_anew e again = record {
        damaged = λ bytes told. subst (λ (led : Result Tables ℕ). IsDamageOf led e) (put_recovers bytes told ∙ sym (read.recovers bytes told)) (again.damaged (with_checkpoint j.active t bytes) (put_told bytes told));
        written = λ settled bytes told call lo hi image left _ is. never_written bytes told is;
        crash = kept_behind (disk_in e) again.crash again.earlier;
        earlier = earlier_behind (disk_in e) again.earlier;
        later = let a = read.later in let b = is_put.later in let c = again.later in omega (arith, a, b, c);
        fault = λ is. subst (λ (n : ℕ). Rose n (device.faults (disk_in e))) (is_put.fine ∙ read.fine) (again.fault is);
        no_fault = λ none. again.no_fault none ∙ is_put.fine ∙ read.fine;
      }

      -- it was read in another version than it was written in
      pub refused_version : (u : Tables) (new : Journaled D) (root : ℕ) (d : D) → d ≡ new.disk → IsRead device put u new → (new.version ≡ written_version → ⊥) → IsRefused device disk (Damaged root d)
      refused_version u new root d back again other = record {
        damaged = λ bytes told.
            let r = again.reads (with_checkpoint j.active t bytes) (put_told bytes told) in
            absurd (other (ap (λ (m : Mounted). m.version)
            (same_ok (journal (with_checkpoint j.active t bytes)) (mounted_as new r.0) (compacted_journal j.active (encode (checkpoint_of t))) r.1 (at_rest bytes told).reads)));
        written = λ settled bytes told call lo hi image left _ is. never_written bytes told is;
        crash = subst (λ (x : D). KeepsRecovered device.seen device.is_image device.calls disk x) (sym back) (kept_behind new.disk again.crash again.earlier);
        earlier = subst (λ (x : D). KeepsEarlier (device.calls disk) (device.is_image disk) (device.is_image x)) (sym back) (earlier_behind new.disk again.earlier);
        later = let a = read.later in let b = is_put.later in let c = again.later in let same = ap device.calls back in omega (arith, a, b, c, same);
        fault = λ none. absurd none;
        no_fault = λ _. ap device.faults back ∙ again.fine ∙ is_put.fine ∙ read.fine;
      }
