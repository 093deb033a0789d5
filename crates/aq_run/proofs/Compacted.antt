-- What a call that compacts leaves of its disks.
use Rattle.std.proofs.Common.{◌≡◌, ◌≤◌, ◌<◌, ◌⊎◌, inl, inr, ℕ, List, [], length, Option, Some, Result, refl, sym, ap, subst, ◌∙◌, arith}
use Rattle.std.specs.Prelude.{Ok, Err}
use Rattle.std.specs.Option.{ForSome}
use Rattle.std.proofs.lemmas.Bool.{cases_lt}
use Rattle.aq_base.specs.declared.DbId.TheVariants.{Home, Away}
use Rattle.aq_disk.specs.Causes.{Rose}
use Rattle.aq_disk.specs.declared.device.Disk.{Ghosts}
use Rattle.queue_rows.specs.declared.tables.Tables.{Tables}
use Rattle.redo_journal.specs.Journal.{Mounted, Outline, frames_in, frames_of, journal, mounted_at, mounted_of, outline}
use Rattle.redo_journal.specs.Journaled.{Journaled}
use Rattle.redo_journal.specs.Runs.{IsDiskSettled}
use Rattle.redo_records.specs.Recovered.{recovered}
use Rattle.aq_world.specs.Anew.{mounted_bytes}
use Rattle.aq_world.specs.Compacting.{HasCompactCause, KeepBoth}
use Rattle.aq_world.specs.Held.{Held}
use Rattle.aq_world.specs.LogCompacting.{IsCompacted, KeepsTables}
use Rattle.aq_world.specs.LogMounting.{IsMounted}
use Rattle.aq_world.specs.Mounting.{AreMounted}
use Rattle.aq_world.specs.Recovery.{FailsEither, FailsNeither}
use Rattle.aq_world.specs.CompactCause.{CompactCause}
use Rattle.aq_world.specs.CompactCause.TheVariants.{Fault, Memory}
use Rattle.aq_run.specs.Compacting.{IsCompactedOf, status_of_cause}
use Rattle.aq_run.specs.Disks.{Keeps}
use Rattle.aq_run.specs.Outcomes.{IsRun}
use Rattle.aq_run.specs.Serve.{LeavesDisks}
use Rattle.aq_run.specs.declared.outcome.Outcome.{Outcome}

-- ---- a journal has its frames

frames_at_end : (o : Outline) (end : Result ℕ ℕ) (m : Mounted) → mounted_at o end ≡ Ok m → o.chain.frames ≡ m.frames
frames_at_end o (Ok gate) m is =
    let same : record { version = o.version; active = record { side = o.side; root = o.root; gate = gate }; frames = o.chain.frames } ≡ m = cc in
    ap (λ (n : Mounted). n.frames) same
frames_at_end o (Err at) m is = absurd (cc)

frames_mounted : (r : Result Outline ℕ) (m : Mounted) → mounted_of r ≡ Ok m → frames_in r ≡ m.frames
frames_mounted (Ok o) m is = frames_at_end o o.chain.end m is
frames_mounted (Err at) m is = absurd (cc)

frames_read : (bytes : List ℕ) (m : Mounted) → journal bytes ≡ Ok m → frames_of bytes ≡ m.frames
unfolding journal frames_of
frames_read bytes m is = frames_mounted (outline bytes) m is

-- ---- a disk

either_side : (a b : ℕ) → (a ≤ b) ⊎ (b ≤ a)
either_side a b = by (cases_lt a b)
  where
    by : (a < b) ⊎ (b ≤ a) → (a ≤ b) ⊎ (b ≤ a)
    by (inl h) = inl (omega (arith, h))
    by (inr h) = inr h

module _ {D : Type 0} (device : Ghosts D) (t : Tables) (j : Journaled D) (old new : D) (m : IsMounted device old t j) where
  -- a crash since it was handed in leaves what it recovers
  pub kept_compacted : KeepsTables device t j new → Keeps device old new
  kept_compacted k = λ settled bytes told call from to image left. by settled bytes told call from to image left (either_side call (device.calls j.disk))
    where
      by : (settled : IsDiskSettled device.seen device.is_image device.calls old) (bytes : List ℕ) (told : device.seen old ≡ Some bytes) (call : ℕ) (from : device.calls old ≤ call) (to : call ≤ device.calls new) (image : List ℕ)
          (left : device.is_image new call image) → (call ≤ device.calls j.disk) ⊎ (device.calls j.disk ≤ call) → recovered image ≡ recovered bytes
      by settled bytes told call from to image left (inl early) = m.crash settled bytes told call from early image ((k.earlier call early image).0 left)
      by settled bytes told call from to image left (inr late) = k.crash (m.logs settled bytes told) call late to image left ∙ sym (m.recovers bytes told)

  pub compacted_so : (frames : ℕ) → frames ≡ j.count → IsCompacted device t j new → IsCompactedOf device t frames old new
  compacted_so frames count c = record {
    recovers = m.recovers;
    had = λ settled bytes told.
        let logs = m.logs settled bytes told in
        ap length (frames_read (mounted_bytes bytes) logs.m (logs.rests.disk (mounted_bytes bytes) (m.bytes bytes told)).reads) ∙ sym logs.rests.count ∙ sym count;
    left = λ settled bytes told.
        let logs = m.logs settled bytes told in
        record { settled = c.settled logs; one = c.frame logs; recovers = c.recovers logs };
  }

-- ---- both disks

module _ {D C : Type 0} (device : Ghosts D) (home away : D) (w : Held D) (m : AreMounted device home away w) (new_home new_away : D) (k : KeepBoth device w new_home new_away) (o : Outcome D C) (home_is : o.home ≡ new_home) (away_is : o.away ≡ new_away) where
  pub home_keeps : Keeps device home o.home
  home_keeps = subst (λ x. Keeps device home x) (sym home_is) (kept_compacted device w.world.home.opening w.home home new_home m.home_log k.home_log)

  pub away_keeps : Keeps device away o.away
  away_keeps = subst (λ x. Keeps device away x) (sym away_is) (kept_compacted device w.world.away.opening w.away away new_away m.away_log k.away_log)

  as_given : (P : D → D → Type 0) → P new_home new_away → P o.home o.away
  as_given P p = subst (λ x. P x o.away) (sym home_is) (subst (λ x. P new_home x) (sym away_is) p)

  pub leaves_compacted : IsRun o.status ⊎ (o.status ≡ 4) → IsCompacted device w.world.home.opening w.home new_home → IsCompacted device w.world.away.opening w.away new_away → LeavesDisks device home away o
  leaves_compacted known h a = record {
    home_kept = λ _. home_keeps;
    away_kept = λ _. away_keeps;
    failed = λ five. absurd (omega (arith, known, five));
    fine = λ _. as_given (FailsNeither device.faults home away) (h.fine ∙ m.home_log.fine, a.fine ∙ m.away_log.fine);
  }

  fails : (cause : CompactCause) → HasCompactCause device cause w.home.disk w.away.disk new_home new_away → status_of_cause cause ≡ 5 → FailsEither device.faults home away new_home new_away
  fails (Fault Home) p five = inl (subst (λ n. Rose n (device.faults new_home)) m.home_log.fine p.0)
  fails (Fault Away) p five = inr (subst (λ n. Rose n (device.faults new_away)) m.away_log.fine p.1)
  fails Memory p five = absurd (omega (arith, five))

  none_fine : {P : Type 0} (cause : CompactCause) (s : ℕ) → s ≡ status_of_cause cause → (s ≡ 0) ⊎ ((s ≡ 6) ⊎ (s ≡ 7)) → P
  none_fine (Fault db) s e is = absurd (omega (arith, e, is))
  none_fine Memory s e is = absurd (omega (arith, e, is))

  pub leaves_uncompacted : (cause : CompactCause) → HasCompactCause device cause w.home.disk w.away.disk new_home new_away → o.status ≡ status_of_cause cause → LeavesDisks device home away o
  leaves_uncompacted cause p status = record {
    home_kept = λ _. home_keeps;
    away_kept = λ _. away_keeps;
    failed = λ five. as_given (FailsEither device.faults home away) (fails cause p (sym status ∙ five));
    fine = λ is. none_fine cause o.status status is;
  }

pub status_so : (cause : CompactCause) (s : ℕ) → s ≡ status_of_cause cause → (s ≡ 4) ⊎ (s ≡ 5)
status_so (Fault db) s e = inr e
status_so Memory s e = inl e
