-- A disk in memory by what it keeps.
use Rattle.std.specs.Prelude.{◌≡◌, ◌⊎◌, ◌↔◌, ◌<◌, ◌+◌, ◌-◌, ◌^◌, ◌++◌, ◌∷◌, [], ℕ, List, length, Bool, true, false, Option}
use Rattle.aq_disk.specs.Disk.{next_call}
use Rattle.aq_disk.specs.Held.{SameHeld}
use Rattle.aq_disk.specs.Kept.{up_to, image_after, AddsWrite}
use Rattle.aq_disk.specs.Plan.{IsSetToFail}
use Rattle.aq_disk.specs.declared.kept.Fill.{Fill}
use Rattle.aq_disk.specs.declared.kept.Kept.{Kept}
use Rattle.aq_disk.specs.declared.kept.Step.TheVariants.{Sync}
use Rattle.aq_disk.specs.declared.memory.MemoryDisk.{MemoryDisk}

-- its bytes at first
abbrev pub start_of : MemoryDisk → List ℕ
start_of disk = disk.held.start.items

-- the writes and syncs that it keeps
abbrev pub kept_of : MemoryDisk → List Kept
kept_of disk = disk.held.kept.items

-- the bytes at the last sync up to the call number, with each range that was written since as the fill says
abbrev pub image_of : MemoryDisk → ℕ → Fill → List ℕ
image_of disk call fill = image_after fill (start_of disk) (up_to call (kept_of disk))

-- a call is set to fail
abbrev pub FailsAt : MemoryDisk → ℕ → Type 0
FailsAt disk call = IsSetToFail disk.failing.items disk.fuse call

-- its calls of these numbers fail, and those past the fuse, and no other
abbrev pub IsSetTo : MemoryDisk → List ℕ → Option ℕ → Type 0
IsSetTo disk failing fuse = (call : ℕ) → FailsAt disk call ↔ IsSetToFail failing fuse call

abbrev pub next_number : MemoryDisk → ℕ
next_number disk = next_call disk.counts.calls

-- the next call is set to fail, or there is no number for it
abbrev pub FailsNext : MemoryDisk → Type 0
FailsNext disk = (disk.counts.calls ≡ 2 ^ 64 - 1) ⊎ FailsAt disk (next_number disk)

-- the calls that are set to fail stay the same
pub record SamePlan (old new : MemoryDisk) : Type 0 where
  pub failing : new.failing.items ≡ old.failing.items
  pub fuse : new.fuse ≡ old.fuse

-- a look changes nothing that is held, and fails where it is set to, and nowhere else
pub record Looks (old new : MemoryDisk) (failed : Bool) : Type 0 where
  pub plan : SamePlan old new
  pub held : SameHeld old.held new.held
  pub set : (failed ≡ true) ↔ FailsNext old

-- the kept calls with one more, a write under the next number
abbrev pub KeepsWrite : MemoryDisk → MemoryDisk → ℕ → List ℕ → Type 0
KeepsWrite old new at from = AddsWrite (kept_of old) (kept_of new) (next_number old) at from

-- A write is kept, also one that is set to fail. One past the limit fails, and one that finds no memory; nothing is
-- kept of these.
pub record Writes (old new : MemoryDisk) (at : ℕ) (from : List ℕ) (failed : Bool) : Type 0 where
  pub plan : SamePlan old new
  pub start : start_of new ≡ start_of old
  pub set : FailsNext old → failed ≡ true
  pub limit : 2 ^ 62 < at + length from → failed ≡ true
  pub kept : failed ≡ false → KeepsWrite old new at from
  pub torn : failed ≡ true → (FailsAt old (next_number old) × KeepsWrite old new at from) ⊎ SameHeld old.held new.held

-- A sync that works is kept. It fails where it is set to, and where it finds no memory; nothing is kept then.
pub record Syncs (old new : MemoryDisk) (failed : Bool) : Type 0 where
  pub plan : SamePlan old new
  pub start : start_of new ≡ start_of old
  pub set : FailsNext old → failed ≡ true
  pub kept : failed ≡ false → kept_of new ≡ kept_of old ++ record { call = next_number old; step = Sync } ∷ []
  pub quiet : failed ≡ true → SameHeld old.held new.held
