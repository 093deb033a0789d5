-- What stands on a disk whatever a crash leaves: the frames so far, or these and what is being written.
use Rattle.std.specs.Prelude.{◌≡◌, ◌⊎◌, ℕ, ◌+◌, List, [], ◌∷◌, ◌++◌, length, true, false, Result, Ok, Err}
use Rattle.aq_disk.specs.Disk.{Only, EachImage}
use Rattle.redo_journal.specs.Journal.{Mounted, written_version, frame, is_unbegun, journal, bodies_in}

-- ---- what an image stands for

-- what counts of a journal: its version and the bodies behind open gates, in order
pub record Contents : Type 0 where
  pub version : ℕ
  pub bodies : List (List ℕ)

abbrev pub contents_in : Mounted → Contents
contents_in m = record { version = m.version; bodies = bodies_in m.frames }

abbrev pub contents_of : Result Mounted ℕ → Result Contents ℕ
contents_of (Ok m) = Ok (contents_in m)
contents_of (Err at) = Err at

-- what the bytes of a disk stand for
abbrev pub contents : List ℕ → Result Contents ℕ
contents bytes = contents_of (journal bytes)

abbrev pub StandsFor : Contents → List ℕ → Type 0
StandsFor c image = contents image ≡ Ok c

-- no commit stands in it, whichever version its area has
abbrev pub StandsForNone : List ℕ → Type 0
StandsForNone image = (version : ℕ) × StandsFor (record { version = version; bodies = [] }) image

abbrev pub StandsForEither : Contents → Contents → List ℕ → Type 0
StandsForEither before after image = StandsFor before image ⊎ StandsFor after image

-- ---- a journal at rest

-- the disk reads as this journal, which was begun, and a crash leaves just what it reads
pub record IsAtRest (m : Mounted) (bytes : List ℕ) (images : List ℕ → Type 0) : Type 0 where
  pub reads : journal bytes ≡ Ok m
  pub begun : is_unbegun bytes ≡ false
  pub settled : Only bytes images

-- the journal with one frame more, which begins at its last gate
abbrev pub with_frame : List (List ℕ) → Mounted → Mounted
with_frame bodies m = record m {
  active = record { side = m.active.side; root = m.active.root; gate = m.active.gate + length (frame bodies) };
  frames = m.frames ++ record { offset = m.active.gate; bodies = bodies } ∷ [];
}

-- with these bodies as a frame, where there are any
abbrev pub with_bodies : List (List ℕ) → Contents → Contents
with_bodies bodies c = record c { bodies = c.bodies ++ bodies }

-- one body alone, in the version that is written
abbrev pub compacted : List ℕ → Contents
compacted body = record { version = written_version; bodies = body ∷ [] }

-- ---- every call number of a disk

-- mounting a disk that was settled with these bytes leaves at each call number what it read, or, where it was not begun, no
-- commit
pub record MountLeaves (bytes : List ℕ) (from to : ℕ) (images : ℕ → List ℕ → Type 0) : Type 0 where
  pub begun : is_unbegun bytes ≡ false → EachImage from to images (λ image. image ≡ bytes)
  pub unbegun : is_unbegun bytes ≡ true → EachImage from to images StandsForNone

-- growing leaves at each call number the frames so far, with the new one or without
abbrev pub AppendLeaves : Mounted → List (List ℕ) → ℕ → ℕ → (ℕ → List ℕ → Type 0) → Type 0
AppendLeaves m bodies from to images = EachImage from to images (StandsForEither (contents_in m) (with_bodies bodies (contents_in m)))
