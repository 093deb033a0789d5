-- What a part of a turn leaves of the disks.
use Rattle.std.specs.Prelude.{◌≡◌, ℕ, List, Option, Result, Err}
use Rattle.durable_state.specs.Going.{AddsEntries, Goes}
use Rattle.durable_state.specs.Held.{Held, HasFailed}
use Rattle.durable_state.specs.declared.broken.Broken.{Broken}
use Rattle.durable_state.specs.declared.broken.Broken.TheVariants.{Halted}

-- a crash leaves what it left, the entries that came are that actor's, and no call on a disk failed
pub record GoesQuietly {D : Type 0} (actor : ℕ) (seen : D → Option (List ℕ)) (images : D → ℕ → List ℕ → Type 0) (calls faults : D → ℕ) (old new : Held D) : Type 0 where
  pub goes : Goes seen images calls faults old new
  pub adds : AddsEntries actor old new
  pub fine : HasFailed new → HasFailed old

-- the same where calls on disks are made: where one failed, now or before, it is told just where that stood in the way
pub record GoesAs {D T : Type 0} (actor : ℕ) (seen : D → Option (List ℕ)) (images : D → ℕ → List ℕ → Type 0) (calls faults : D → ℕ) (result : Result T Broken) (old new : Held D) : Type 0 where
  pub goes : Goes seen images calls faults old new
  pub adds : AddsEntries actor old new
  pub halted : result ≡ Err Halted → HasFailed new
  pub fine : (result ≡ Err Halted → ⊥) → HasFailed new → HasFailed old

-- where a call on a disk had failed before, the turn is halted, and no further entry is made
abbrev pub Stops : {D : Type 0} → Type 0 → Held D → Held D → Type 0
Stops halted old new = HasFailed old → halted × (new.entries ≡ old.entries)
