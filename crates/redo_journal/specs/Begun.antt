-- A journal that is begun.
use Rattle.std.specs.Prelude.{◌≡◌, ℕ, ◌≤◌, List, [], ◌∷◌, ◌++◌, length, drop, slice_index, if◌then◌else◌}
use Rattle.redo_journal.specs.Journal.{Mounted, written_version, first_root, beginning, is_unbegun}
use Rattle.redo_journal.specs.Broken.{IsDamaged, IsOfKnownVersion}
use Rattle.redo_journal.specs.declared.area.Found.{Found}
use Rattle.redo_journal.specs.declared.mount.MountCause.{MountCause}
use Rattle.redo_journal.specs.declared.mount.MountCause.TheVariants.{Fault, Damaged, Memory}
use Rattle.redo_journal.specs.declared.frame.Side.TheVariants.{A}

-- side A with an area without frames
abbrev pub begun_journal : Mounted
begun_journal = record { version = written_version; active = record { side = A; root = first_root; gate = 28 }; frames = [] }

-- the first byte is there, and says that no journal is
pub record IsShut (bytes : List ℕ) : Type 0 where
  pub some : 1 ≤ length bytes
  pub zero_first : slice_index bytes 0 ≡ 0

-- the journal that is found
abbrev pub mounted_by : Found → Mounted
mounted_by f = record { version = f.version; active = f.active; frames = f.frames }

-- damage is told where it is; a fault and want of memory say nothing of the bytes
abbrev pub IsMountCause : MountCause → List ℕ → Type 0
IsMountCause Fault bytes = Unit {0}
IsMountCause (Damaged damage) bytes = IsDamaged damage bytes
IsMountCause Memory bytes = Unit {0}

abbrev pub IsCauseOfKnownVersion : MountCause → Type 0
IsCauseOfKnownVersion Fault = Unit {0}
IsCauseOfKnownVersion (Damaged damage) = IsOfKnownVersion damage
IsCauseOfKnownVersion Memory = Unit {0}

-- what a beginning makes of bytes: an open header, an area without frames, and what stood behind these
abbrev pub begun_bytes : List ℕ → List ℕ
begun_bytes bytes = 1 ∷ (beginning written_version ++ drop 29 bytes)

-- what a disk with these bytes reads as once it is mounted
abbrev pub after_mount : List ℕ → List ℕ
after_mount bytes = if is_unbegun bytes then begun_bytes bytes else bytes
