-- The journal that the bytes of a disk are, or the offset at which they are damaged.
use Rattle.std.specs.Prelude.{◌≡◌, ◌⊎◌, ℕ, zero, suc, ◌+◌, ◌-◌, ◌==◌, ◌||◌, ◌&&◌, nat_le, List, [], ◌∷◌, ◌++◌, length, drop, codes, slice_index, slice_range, Bool, not, Option, Some, None, Result, Ok, Err, if◌then◌else◌}
use Rattle.std.specs.Int.{w32, w64, to_be_bytes, from_be_bytes}
use Rattle.std.specs.List.{flat_map}
use Rattle.std.specs.Str.{bytes_eq}
use Rattle.redo_journal.specs.Num.{◌>>=◌, run, run_at, listed, listed_at, split_at}
use Rattle.redo_journal.specs.declared.frame.Active.{Active}
use Rattle.redo_journal.specs.declared.frame.FrameAt.{FrameAt}
use Rattle.redo_journal.specs.declared.frame.Side.{Side}
use Rattle.redo_journal.specs.declared.frame.Side.TheVariants.{A, B}

-- ---- the parts of a journal, as bytes

-- AQJRNL
abbrev pub magic : List ℕ
magic = codes "AQJRNL"

-- where the first area begins
abbrev pub first_root : ℕ
first_root = 24

-- a version, as an area begins with it
abbrev pub version_bytes : ℕ → List ℕ
version_bytes version = to_be_bytes w32 version

-- the version that is written
abbrev pub written_version : ℕ
written_version = 2

abbrev pub is_known_version : ℕ → Bool
is_known_version version = version == 1 || version == 2

-- so it is 1 or 2
abbrev pub IsKnownVersion : ℕ → Type 0
IsKnownVersion version = (version ≡ 1) ⊎ (version ≡ 2)

-- the bodies of a frame, at least one
abbrev pub body_list : List (List ℕ) → List ℕ
body_list bodies = listed run bodies

-- what stands behind a frame's gate: the length, the bodies, and a closed gate
unfoldable pub frame : List (List ℕ) → List ℕ
frame bodies = to_be_bytes w64 (length (body_list bodies)) ++ body_list bodies ++ 0 ∷ []

-- what a beginning writes from offset 1 on: side A with an area that has no frames, and no area B
abbrev pub beginning : ℕ → List ℕ
beginning version = magic ++ 0 ∷ [] ++ to_be_bytes w64 first_root ++ to_be_bytes w64 0 ++ version_bytes version ++ 0 ∷ []

-- an area with one frame behind an open gate
abbrev pub area : List (List ℕ) → List ℕ
area bodies = version_bytes written_version ++ 1 ∷ frame bodies

-- ---- frames

abbrev pub unless_no_body : List (List ℕ) → Option (List (List ℕ))
unless_no_body [] = None
unless_no_body (first ∷ others) = Some (first ∷ others)

-- all of the bytes are a list of at least one body
unfoldable pub bodies_of : List ℕ → Option (List (List ℕ))
bodies_of bytes = do
  read ← listed_at run_at bytes
  if length read.1 == 0 then unless_no_body read.0 else None

-- the bytes of a frame, and what stands behind them from the next gate on
abbrev pub frame_bytes_at : List ℕ → Option (List ℕ × List ℕ)
frame_bytes_at bytes = do
  length_and_rest ← split_at 8 bytes
  frame_and_rest ← split_at (from_be_bytes w64 length_and_rest.0) length_and_rest.1
  if length frame_and_rest.1 == 0 then None else Some frame_and_rest

-- what stands behind an open gate: the bodies of its frame, and what follows from the next gate on
unfoldable pub frame_at : List ℕ → Option (List (List ℕ) × List ℕ)
frame_at bytes = do
  frame_and_rest ← frame_bytes_at bytes
  bodies ← bodies_of frame_and_rest.0
  Some (bodies, frame_and_rest.1)

-- the frames behind open gates from some gate on; and the closed gate that ends them, or the open gate behind which no
-- frame stands
pub record Chain : Type 0 where
  pub frames : List FrameAt
  pub end : Result ℕ ℕ

abbrev pub ends_at : ℕ → Chain
ends_at gate = record { frames = []; end = Ok gate }

abbrev pub breaks_at : ℕ → Chain
breaks_at gate = record { frames = []; end = Err gate }

abbrev pub onto_chain : ℕ → List (List ℕ) → Chain → Chain
onto_chain gate bodies chain = record chain { frames = record { offset = gate; bodies = bodies } ∷ chain.frames }

-- the offset of the next gate, where this is left from it on of the bytes behind a gate
abbrev pub next_gate : ℕ → List ℕ → List ℕ → ℕ
next_gate gate behind left = gate + 1 + (length behind - length left)

-- what is read behind an open gate, and the chain from the next gate on
abbrev pub chain_behind : (ℕ → List ℕ → Chain) → ℕ → List ℕ → Option (List (List ℕ) × List ℕ) → Chain
chain_behind go_on gate behind None = breaks_at gate
chain_behind go_on gate behind (Some read) = onto_chain gate read.0 (go_on (next_gate gate behind read.1) read.1)

-- the chain from the gate at this offset on, which is the first of the bytes; it has no more frames than there are bytes
abbrev pub chain_from : ℕ → ℕ → List ℕ → Chain
chain_from room gate [] = breaks_at gate
chain_from zero gate (b ∷ behind) = breaks_at gate
chain_from (suc room) gate (b ∷ behind) = if b == 1 then chain_behind (λ next rest. chain_from room next rest) gate behind (frame_at behind) else ends_at gate

-- ---- the header

-- byte 0 is 01, the magic stands behind it, and the side and both roots are there
abbrev pub is_header : List ℕ → Bool
is_header bytes = nat_le 24 (length bytes) && slice_index bytes 0 == 1 && bytes_eq (slice_range bytes 1 7) magic

-- 01 is area B, and any other value area A
abbrev pub side_of : List ℕ → Side
side_of bytes = if slice_index bytes 7 == 1 then B else A

-- where a side's root stands
abbrev pub pointer_of : Side → ℕ
pointer_of A = 8
pointer_of B = 16

abbrev pub root_of : Side → List ℕ → ℕ
root_of side bytes = from_be_bytes w64 (slice_range bytes (pointer_of side) (pointer_of side + 8))

abbrev pub version_at : ℕ → List ℕ → ℕ
version_at root bytes = from_be_bytes w32 (slice_range bytes root (root + 4))

-- an area may begin there: past the header, and its version and its first gate lie in the disk
abbrev pub is_root : ℕ → List ℕ → Bool
is_root root bytes = nat_le first_root root && nat_le (root + 5) (length bytes)

-- ---- what a disk reads as

-- the version of the active area, the area with the closed gate that ends it, and its frames
pub record Mounted : Type 0 where
  pub version : ℕ
  pub active : Active
  pub frames : List FrameAt

-- what a disk says before any commit is judged: the active area's version, side and root, and its chain
pub record Outline : Type 0 where
  pub version : ℕ
  pub side : Side
  pub root : ℕ
  pub chain : Chain

abbrev pub outline_at : Side → ℕ → List ℕ → Result Outline ℕ
outline_at side root bytes =
    if not (is_root root bytes) then Err (pointer_of side)
    else (if not (is_known_version (version_at root bytes)) then Err root
    else Ok (record { version = version_at root bytes; side = side; root = root; chain = chain_from (length bytes) (root + 4) (drop (root + 4) bytes) }))

abbrev pub outline_of : List ℕ → Result Outline ℕ
outline_of bytes = if is_header bytes then outline_at (side_of bytes) (root_of (side_of bytes) bytes) bytes else Err 0

-- the 28 bytes from offset 1 are those of a beginning
abbrev pub has_beginning : ℕ → List ℕ → Bool
has_beginning version bytes = bytes_eq (slice_range bytes 1 29) (beginning version)

-- nothing but a beginning was ever written: no journal is there yet, or its first byte was not written for good
abbrev pub is_unbegun : List ℕ → Bool
is_unbegun bytes =
    nat_le (length bytes) 1 || slice_index bytes 0 == 0
    || (not (slice_index bytes 0 == 1) && (has_beginning 1 bytes || has_beginning 2 bytes))

-- the journal that a beginning makes
abbrev pub begun : Outline
begun = record { version = written_version; side = A; root = first_root; chain = ends_at 28 }

-- where a disk is not begun, it is what a beginning makes of it
unfoldable pub outline : List ℕ → Result Outline ℕ
outline bytes = if is_unbegun bytes then Ok begun else outline_of bytes

abbrev pub mounted_at : Outline → Result ℕ ℕ → Result Mounted ℕ
mounted_at o (Ok gate) = Ok (record { version = o.version; active = record { side = o.side; root = o.root; gate = gate }; frames = o.chain.frames })
mounted_at o (Err gate) = Err gate

abbrev pub mounted_of : Result Outline ℕ → Result Mounted ℕ
mounted_of (Ok o) = mounted_at o o.chain.end
mounted_of (Err at) = Err at

-- the journal on a disk, or the offset at which it is damaged, commits aside
unfoldable pub journal : List ℕ → Result Mounted ℕ
journal bytes = mounted_of (outline bytes)

abbrev pub frames_in : Result Outline ℕ → List FrameAt
frames_in (Ok o) = o.chain.frames
frames_in (Err at) = []

-- the version of the active area, where there is one
abbrev pub version_in : Result Outline ℕ → Option ℕ
version_in (Ok o) = Some o.version
version_in (Err at) = None

unfoldable pub version_of : List ℕ → Option ℕ
version_of bytes = version_in (outline bytes)

-- the frames behind open gates, up to the closed gate that ends them or to the damage
unfoldable pub frames_of : List ℕ → List FrameAt
frames_of bytes = frames_in (outline bytes)

-- the bodies behind open gates, in order
abbrev pub bodies_in : List FrameAt → List (List ℕ)
bodies_in frames = flat_map (λ f. f.bodies) frames
