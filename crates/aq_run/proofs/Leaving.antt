-- What a call that reached no run leaves of its disks.
use Rattle.std.proofs.Common.{◌≡◌, ◌⊎◌, inl, inr, ◌≤◌, ℕ, List, [], Option, sym, ap, subst, ◌∙◌, arith}
use Rattle.aq_base.specs.declared.DbId.TheVariants.{Home, Away}
use Rattle.aq_base.specs.declared.stream.Sink.{Ghosts as SinkGhosts}
use Rattle.aq_disk.specs.declared.device.Disk.{Ghosts}
use Rattle.queue_rows.specs.declared.tables.Tables.{Tables}
use Rattle.aq_world.specs.Held.{Held}
use Rattle.aq_world.specs.Mounting.{AreMounted, HasMountCause, IsBeforeAway, LosesNothing}
use Rattle.aq_world.specs.Recovery.{FailsEither, FailsNeither}
use Rattle.aq_world.specs.declared.mount.MountCause.{MountCause}
use Rattle.aq_world.specs.declared.mount.MountCause.TheVariants.{Fault, Damaged, Memory}
use Rattle.aq_world.specs.declared.mount.MountFault.{MountFault}
use Rattle.aq_run.specs.Disks.{IsUnmounted}
use Rattle.aq_run.specs.Histories.{empty_history}
use Rattle.aq_run.specs.Outcomes.{AnswersDamaged, IsNotMounted, IsStatusOf, TellsCause}
use Rattle.aq_run.specs.Serve.{LeavesDisks}
use Rattle.aq_run.specs.declared.outcome.Outcome.{Outcome}
use Rattle.aq_run.proofs.Surviving.{kept_same}

-- ---- causes

module _ {D : Type 0} (device : Ghosts D) where
  before_fine : (away away_after : D) → IsBeforeAway device away away_after → device.faults away_after ≡ device.faults away
  before_fine away away_after (inl same) = ap device.faults same
  before_fine away away_after (inr read) = read.read.fine

  -- 5 is the status of a fault
  fault_fails : (cause : MountCause) (s : ℕ) (home away home_after away_after : D) → HasMountCause device cause home away home_after away_after → IsStatusOf cause s → s ≡ 5
      → FailsEither device.faults home away home_after away_after
  fault_fails (Fault Home) s home away home_after away_after p is five = inl p.0
  fault_fails (Fault Away) s home away home_after away_after p is five = inr p.1
  fault_fails (Damaged db offset) s home away home_after away_after p is five = absurd (omega (arith, is, five))
  fault_fails Memory s home away home_after away_after p is five = absurd (omega (arith, is, five))

  module _ {S : Type 0} (sink : SinkGhosts S) (old new : S) where
    damage_fine : (cause : MountCause) (home away home_after away_after : D) → HasMountCause device cause home away home_after away_after
        → TellsCause sink old new cause → FailsNeither device.faults home away home_after away_after
    damage_fine (Fault db) home away home_after away_after p told = absurd told
    damage_fine (Damaged Home offset) home away home_after away_after p told = (p.1, before_fine away away_after p.2)
    damage_fine (Damaged Away offset) home away home_after away_after p told = (p.0.fine, p.3)
    damage_fine Memory home away home_after away_after p told = absurd told

    -- the cause that is told is the damage that comes first
    damage_told : (cause : MountCause) (home away home_after away_after : D) → HasMountCause device cause home away home_after away_after
        → TellsCause sink old new cause → AnswersDamaged sink device old new home away
    damage_told (Fault db) home away home_after away_after p told = absurd told
    damage_told (Damaged Home offset) home away home_after away_after p told = record { db = Home; offset = offset; damaged = p.0; told = told }
    damage_told (Damaged Away offset) home away home_after away_after p told = record { db = Away; offset = offset; damaged = (p.0.recovered, p.2); told = told }
    damage_told Memory home away home_after away_after p told = absurd told

-- ---- statuses

none_fine : {P : Type 0} (s : ℕ) → 1 ≤ s → s ≤ 4 → (s ≡ 0) ⊎ ((s ≡ 6) ⊎ (s ≡ 7)) → P
none_fine s some few is = absurd (omega (arith, some, few, is))

damaged_fine : {P : Type 0} (cause : MountCause) (s : ℕ) → IsStatusOf cause s → (s ≡ 6 → P) → (s ≡ 0) ⊎ ((s ≡ 6) ⊎ (s ≡ 7)) → P
damaged_fine cause s known f (inr (inl e)) = f e
damaged_fine (Fault db) s known f (inl e) = absurd (omega (arith, known, e))
damaged_fine (Damaged db offset) s known f (inl e) = absurd (omega (arith, known, e))
damaged_fine Memory s known f (inl e) = absurd (omega (arith, known, e))
damaged_fine (Fault db) s known f (inr (inr e)) = absurd (omega (arith, known, e))
damaged_fine (Damaged db offset) s known f (inr (inr e)) = absurd (omega (arith, known, e))
damaged_fine Memory s known f (inr (inr e)) = absurd (omega (arith, known, e))

module _ {D C : Type 0} (device : Ghosts D) (home away : D) where
  -- the disks were not called
  pub leaves_uncalled : (o : Outcome D C) → 1 ≤ o.status → o.status ≤ 4 → o.home ≡ home → o.away ≡ away → LeavesDisks device home away o
  leaves_uncalled o some few home_is away_is = record {
    home_kept = λ _. kept_same device home o.home home_is;
    away_kept = λ _. kept_same device away o.away away_is;
    failed = λ is. absurd (omega (arith, few, is));
    fine = λ is. none_fine o.status some few is;
  }

  -- the databases were not mounted
  module _ {B S : Type 0} (fault : MountFault D B) (o : Outcome D C) (u : IsUnmounted device home away fault) (status : IsStatusOf fault.cause o.status) (home_is : o.home ≡ fault.home) (away_is : o.away ≡ fault.away)
      (sink : SinkGhosts S) (old new : S) (tells : o.status ≡ 6 → TellsCause sink old new fault.cause) where
    -- what is said of the disks in the fault is said of those that are given back
    as_given : (P : D → D → Type 0) → P fault.home fault.away → P o.home o.away
    as_given P p = subst (λ x. P x o.away) (sym home_is) (subst (λ x. P fault.home x) (sym away_is) p)

    pub leaves_unmounted : LeavesDisks device home away o
    leaves_unmounted = record {
      home_kept = λ _. (subst (λ x. LosesNothing device home x) (sym home_is) u.home_disk).kept;
      away_kept = λ _. (subst (λ x. LosesNothing device away x) (sym away_is) u.away_disk).kept;
      failed = λ is. as_given (FailsEither device.faults home away) (fault_fails device fault.cause o.status home away fault.home fault.away u.cause_is status is);
      fine = λ is. as_given (FailsNeither device.faults home away) (damaged_fine fault.cause o.status status (λ six. damage_fine device sink old new fault.cause home away fault.home fault.away u.cause_is (tells six)) is);
    }

    pub answers_unmounted : ((o.status ≡ 4) ⊎ (o.status ≡ 5) → sink.taken new ≡ sink.taken old) → o.history ≡ empty_history → IsNotMounted sink device old new home away o
    answers_unmounted nothing empty = record {
      cause = fault.cause;
      cause_is = as_given (HasMountCause device fault.cause home away) u.cause_is;
      status = status;
      damaged = λ six. damage_told device sink old new fault.cause home away fault.home fault.away u.cause_is (tells six);
      nothing = nothing;
      no_history = empty;
      home_disk = subst (λ x. LosesNothing device home x) (sym home_is) u.home_disk;
      away_disk = subst (λ x. LosesNothing device away x) (sym away_is) u.away_disk;
    }

  -- they were mounted, and nothing was done then
  module _ (w : Held D) (m : AreMounted device home away w) (o : Outcome D C) (home_is : o.home ≡ w.home.disk) (away_is : o.away ≡ w.away.disk) where
    pub mounted_home : LosesNothing device home o.home
    mounted_home = subst (λ x. LosesNothing device home x) (sym home_is) (record { kept = m.home_log.crash; written = m.home_log.written })

    pub mounted_away : LosesNothing device away o.away
    mounted_away = subst (λ x. LosesNothing device away x) (sym away_is) (record { kept = m.away_log.crash; written = m.away_log.written })

    pub leaves_mounted : (o.status ≡ 5 → ⊥) → LeavesDisks device home away o
    leaves_mounted not_five = record {
      home_kept = λ _. mounted_home.kept;
      away_kept = λ _. mounted_away.kept;
      failed = λ is. absurd (not_five is);
      fine = λ _. (ap device.faults home_is ∙ m.home_log.fine, ap device.faults away_is ∙ m.away_log.fine);
    }
