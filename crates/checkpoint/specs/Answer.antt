-- What a compaction answers.
use Rattle.std.specs.Prelude.{Result, Ok, Err}
use Rattle.checkpoint.specs.declared.compacting.CompactFault.{CompactFault}
use Rattle.checkpoint.specs.declared.compacting.CompactFault.TheVariants.{Fault, Memory}

abbrev pub IsFault : {D : Type 0} → CompactFault D → Type 0
IsFault (Fault disk) = Unit {0}
IsFault (Memory disk) = ⊥

-- the disk that is given back
abbrev pub disk_in : {D : Type 0} → CompactFault D → D
disk_in (Fault disk) = disk
disk_in (Memory disk) = disk

-- the disk after a compaction
abbrev pub disk_after : {D : Type 0} → Result D (CompactFault D) → D
disk_after (Ok disk) = disk
disk_after (Err e) = disk_in e
