-- How a call ends: its statuses, and calls that reach no run.
use Rattle.std.specs.Prelude.{◌≡◌, ◌≤◌, ◌⊎◌, ℕ, List}
use Rattle.aq_base.specs.declared.DbId.{DbId}
use Rattle.aq_run.specs.Written.{Tells}
use Rattle.aq_base.specs.declared.stream.Sink.{Ghosts as SinkGhosts}
use Rattle.aq_disk.specs.declared.device.Disk.{Ghosts}
use Rattle.aq_run.specs.Faults.{damaged_text}
use Rattle.aq_world.specs.declared.mount.MountCause.{MountCause}
use Rattle.aq_world.specs.declared.mount.MountCause.TheVariants as causes
use Rattle.aq_world.specs.Mounting.{HasMountCause, LosesNothing}
use Rattle.aq_world.specs.Recovery.{IsFirstDamaged}
use Rattle.aq_run.specs.Histories.{empty_history, HoldsOf}
use Rattle.aq_run.specs.declared.outcome.Outcome.{Outcome}

-- ---- statuses

-- all was done, or: the words are no command, the input is no script, it could not be read, memory ran out, a disk failed, a disk is damaged,
-- a write failed
abbrev pub IsStatus : ℕ → Type 0
IsStatus status = status ≤ 7

-- all was done, or the sink failed as it was written
abbrev pub IsRun : ℕ → Type 0
IsRun status = (status ≡ 0) ⊎ (status ≡ 7)

-- memory ran out, a disk failed, or a disk is damaged
abbrev pub IsStopped : ℕ → Type 0
IsStopped status = (status ≡ 4) ⊎ ((status ≡ 5) ⊎ (status ≡ 6))

-- the status that a call has where its databases are not mounted for this cause; a damage is not told where there is no memory for its text
abbrev pub IsStatusOf : MountCause → ℕ → Type 0
IsStatusOf (causes.Fault db) status = status ≡ 5
IsStatusOf (causes.Damaged db offset) status = (status ≡ 6) ⊎ (status ≡ 4)
IsStatusOf causes.Memory status = status ≡ 4

-- ---- calls that reach no run

-- the call reached no run, and gives back these disks and this clock
pub record ReachesNoRun {D C : Type 0} (home away : D) (clock : C) (o : Outcome D C) : Type 0 where
  pub history : o.history ≡ empty_history
  pub holds : HoldsOf o.history
  pub home_is : o.home ≡ home
  pub away_is : o.away ≡ away
  pub clock_is : o.clock ≡ clock

module _ {S D : Type 0} (sink : SinkGhosts S) (device : Ghosts D) (old new : S) (home away : D) where
  -- the disk that is damaged first is named, with the offset
  pub record AnswersDamaged : Type 0 where
    pub db : DbId
    pub offset : ℕ
    pub damaged : IsFirstDamaged device.seen home away db offset
    pub told : Tells sink.taken sink.faults old new (damaged_text db offset)

  -- The databases could not be mounted, which ended the call, and why.
  pub record IsNotMounted {C : Type 0} (o : Outcome D C) : Type 0 where
    -- in the order in which it is looked for: home's disk, then away's, as they are read, and as they are written anew
    pub cause : MountCause
    pub cause_is : HasMountCause device cause home away o.home o.away
    -- 5 for a disk that failed, 6 for one that is damaged, and 4 where memory ran out
    pub status : IsStatusOf cause o.status
    -- at 6 the disk that is damaged first is named
    pub damaged : o.status ≡ 6 → AnswersDamaged
    -- else nothing is written
    pub nothing : (o.status ≡ 4) ⊎ (o.status ≡ 5) → sink.taken new ≡ sink.taken old
    -- no run began
    pub no_history : o.history ≡ empty_history
    -- neither disk lost anything, at any moment, and neither was written where its journal has the version that is written
    pub home_disk : LosesNothing device home o.home
    pub away_disk : LosesNothing device away o.away

-- what is told of the cause: where a disk is damaged
abbrev pub TellsCause : {S : Type 0} → SinkGhosts S → S → S → MountCause → Type 0
TellsCause sink old new (causes.Damaged db offset) = Tells sink.taken sink.faults old new (damaged_text db offset)
TellsCause sink old new (causes.Fault db) = ⊥
TellsCause sink old new causes.Memory = ⊥
