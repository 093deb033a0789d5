-- What contracts over any disk say of a run of calls: of the meanings of a disk, and the disks before and after it.
use Rattle.std.specs.Prelude.{ℕ, List, Option}
use Rattle.std.specs.Option.{ForSome}
use Rattle.aq_disk.specs.Disk.{IsSettled, SameImages, EachImage}
use Rattle.redo_journal.specs.Journal.{Mounted}
use Rattle.redo_journal.specs.Crash.{IsAtRest, MountLeaves}

-- a crash leaves just what the disk reads
abbrev pub IsDiskSettled : {D : Type 0} → (D → Option (List ℕ)) → (D → ℕ → List ℕ → Type 0) → (D → ℕ) → D → Type 0
IsDiskSettled seen images calls disk = IsSettled (seen disk) (images disk (calls disk))

-- the images of the last call number are those from before
abbrev pub SameNow : {D : Type 0} → (D → ℕ → List ℕ → Type 0) → (D → ℕ) → D → D → Type 0
SameNow images calls old new = SameImages (images old (calls old)) (images new (calls new))

-- of a settled disk, whatever a crash leaves at any moment of the run stands so to the bytes before it
abbrev pub CrashLeaves : {D : Type 0} → (D → Option (List ℕ)) → (D → ℕ → List ℕ → Type 0) → (D → ℕ) → D → D → (List ℕ → List ℕ → Type 0) → Type 0
CrashLeaves seen images calls old new P = IsDiskSettled seen images calls old → ForSome (seen old) (λ bytes. EachImage (calls old) (calls new) (images new) (P bytes))

-- the disk has this journal, which is at rest
abbrev pub HasJournal : {D : Type 0} → (D → Option (List ℕ)) → (D → ℕ → List ℕ → Type 0) → (D → ℕ) → D → Mounted → Type 0
HasJournal seen images calls disk m = ForSome (seen disk) (λ bytes. IsAtRest m bytes (images disk (calls disk)))

-- a settled disk is mounted: a crash leaves at any moment of it what was read, or, where it was not begun, no commit
abbrev pub MountRuns : {D : Type 0} → (D → Option (List ℕ)) → (D → ℕ → List ℕ → Type 0) → (D → ℕ) → D → D → Type 0
MountRuns seen images calls old new = IsDiskSettled seen images calls old → ForSome (seen old) (λ bytes. MountLeaves bytes (calls old) (calls new) (images new))
