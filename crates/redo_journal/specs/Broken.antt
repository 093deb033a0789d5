-- When a chain of frames is broken, and when a journal is damaged.
use Rattle.std.specs.Prelude.{◌≡◌, ℕ, List, Some, Result, Err}
use Rattle.std.specs.Option.{ForSome}
use Rattle.redo_journal.specs.Journal.{Chain, Outline, IsKnownVersion, mounted_of, frames_in, version_in, journal, frames_of, version_of}
use Rattle.redo_journal.specs.declared.frame.Damage.{Damage}
use Rattle.redo_journal.specs.declared.read.ChainFault.{ChainFault}
use Rattle.redo_journal.specs.declared.read.ChainFault.TheVariants.{Broken, Memory}

-- the open gate is told behind which no frame stands, and the frames in front of it; want of memory says nothing
abbrev pub IsBrokenAt : ChainFault → Chain → Type 0
IsBrokenAt (Broken damage) chain = chain ≡ record { frames = damage.frames; end = Err damage.offset }
IsBrokenAt Memory chain = Unit {0}

-- what is broken in the area of a version
abbrev pub in_version : ℕ → ChainFault → ChainFault
in_version version (Broken damage) = Broken (record { offset = damage.offset; version = Some version; frames = damage.frames })
in_version version Memory = Memory

-- the version that is told, where one is, is 1 or 2
abbrev pub IsOfKnownVersion : Damage → Type 0
IsOfKnownVersion damage = ForSome damage.version IsKnownVersion

abbrev pub IsFaultOfKnownVersion : ChainFault → Type 0
IsFaultOfKnownVersion (Broken damage) = IsOfKnownVersion damage
IsFaultOfKnownVersion Memory = Unit {0}

-- what is outlined so is damaged at this offset, behind these frames of an area of this version
pub record IsOutlineDamaged (damage : Damage) (outlined : Result Outline ℕ) : Type 0 where
  pub offset : mounted_of outlined ≡ Err damage.offset
  pub version : version_in outlined ≡ damage.version
  pub frames : frames_in outlined ≡ damage.frames

-- the offset is told at which it is damaged, the version, and the frames in front of it; want of memory says nothing
abbrev pub IsDamagedAt : ChainFault → Result Outline ℕ → Type 0
IsDamagedAt (Broken damage) outlined = IsOutlineDamaged damage outlined
IsDamagedAt Memory outlined = Unit {0}

-- the bytes are damaged at this offset, behind these frames of an area of this version
pub record IsDamaged (damage : Damage) (bytes : List ℕ) : Type 0 where
  pub offset : journal bytes ≡ Err damage.offset
  pub version : version_of bytes ≡ damage.version
  pub frames : frames_of bytes ≡ damage.frames
