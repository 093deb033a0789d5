-- What a mount answers.
use Rattle.std.specs.Prelude.{ℕ, List, Result, Ok, Err}
use Rattle.redo_journal.specs.Broken.{IsDamaged, IsOfKnownVersion}
use Rattle.redo_journal.specs.Journal.{Mounted}
use Rattle.redo_journal.specs.Journaled.{Journaled}
use Rattle.redo_journal.specs.declared.frame.FrameAt.{FrameAt}
use Rattle.redo_journal.specs.declared.mount.MountFault.{MountFault}
use Rattle.redo_journal.specs.declared.mount.MountFault.TheVariants.{Fault, Damaged, Memory}

-- the journal with these frames
abbrev pub mounted_as : {D : Type 0} → Journaled D → List FrameAt → Mounted
mounted_as j frames = record { version = j.version; active = j.active; frames = frames }

-- damage is told with its offset, the area's version and the frames in front of it; a fault and want of memory say nothing of the bytes
abbrev pub IsDamage : {D : Type 0} → MountFault D → List ℕ → Type 0
IsDamage (Fault disk) bytes = Unit {0}
IsDamage (Damaged damage disk) bytes = IsDamaged damage bytes
IsDamage (Memory disk) bytes = Unit {0}

-- the version that damage is told with, where there is one, is 1 or 2
abbrev pub HasKnownVersion : {D : Type 0} → MountFault D → Type 0
HasKnownVersion (Fault disk) = Unit {0}
HasKnownVersion (Damaged damage disk) = IsOfKnownVersion damage
HasKnownVersion (Memory disk) = Unit {0}

abbrev pub IsFault : {D : Type 0} → MountFault D → Type 0
IsFault (Fault disk) = Unit {0}
IsFault (Damaged damage disk) = ⊥
IsFault (Memory disk) = ⊥

-- the disk that is given back
abbrev pub disk_in : {D : Type 0} → MountFault D → D
disk_in (Fault disk) = disk
disk_in (Damaged damage disk) = disk
disk_in (Memory disk) = disk

-- the disk after a mount
abbrev pub disk_after : {D : Type 0} → Result (Journaled D × List FrameAt) (MountFault D) → D
disk_after (Ok r) = r.0.disk
disk_after (Err e) = disk_in e
