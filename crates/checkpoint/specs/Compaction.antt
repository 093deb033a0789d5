-- How a journal is compacted: a new area with one frame, beside the active one, takes its place.
use Rattle.std.specs.Prelude.{◌⊎◌, ℕ, ◌+◌, ◌^◌, ◌≤◌, nat_le, List, [], ◌∷◌, length, if◌then◌else◌}
use Rattle.std.specs.Int.{w64, to_be_bytes}
use Rattle.aq_disk.specs.Disk.{after_write, Torn, EachImage}
use Rattle.redo_journal.specs.Journal.{Mounted, first_root, written_version, frame, area, pointer_of}
use Rattle.redo_journal.specs.Crash.{contents_in, compacted, StandsForEither}
use Rattle.redo_journal.specs.declared.frame.Active.{Active}
use Rattle.redo_journal.specs.declared.frame.Side.{Side}
use Rattle.redo_journal.specs.declared.frame.Side.TheVariants.{A, B}

abbrev pub other_side : Side → Side
other_side A = B
other_side B = A

abbrev pub side_byte : Side → ℕ
side_byte A = 0
side_byte B = 1

-- the new area begins behind the active one, or in front of area B where there is room
abbrev pub root_behind : Side → ℕ → ℕ → ℕ → ℕ
root_behind A root gate size = gate + 1
root_behind B root gate size = if nat_le (first_root + size) root then first_root else gate + 1

abbrev pub new_root : Active → ℕ → ℕ
new_root active size = root_behind active.side active.root active.gate size

-- the journal that a compaction leaves: one frame, which holds the body
abbrev pub compacted_at : Side → ℕ → List ℕ → Mounted
compacted_at side root body = record {
  version = written_version;
  active = record { side = side; root = root; gate = root + 4 + length (frame (body ∷ [])) };
  frames = record { offset = root + 4; bodies = body ∷ [] } ∷ [];
}

abbrev pub compacted_journal : Active → List ℕ → Mounted
compacted_journal active body = compacted_at (other_side active.side) (new_root active (length (area (body ∷ [])))) body

-- ---- what is written

-- the new area, and its root
abbrev pub staged_bytes : Active → List ℕ → List ℕ → List ℕ
staged_bytes active new bytes =
    after_write (pointer_of (other_side active.side)) (to_be_bytes w64 (new_root active (length new))) (after_write (new_root active (length new)) new bytes)

-- and then the side
abbrev pub turned_bytes : Active → List ℕ → List ℕ → List ℕ
turned_bytes active new bytes = after_write 7 (side_byte (other_side active.side) ∷ []) (staged_bytes active new bytes)

-- ---- what a crash may leave

-- two writes are torn
abbrev pub TornTwice : ℕ → ℕ → ℕ → ℕ → List ℕ → List ℕ → Type 0
TornTwice at n at' n' bytes image = (mid : List ℕ) × Torn at n bytes mid × Torn at' n' mid image

-- the new area and its root are torn, or they are whole, within the limit, and the side is torn
abbrev pub TornTurn : Active → List ℕ → List ℕ → List ℕ → Type 0
TornTurn active new bytes image =
    TornTwice (new_root active (length new)) (length new) (pointer_of (other_side active.side)) 8 bytes image
    ⊎ ((new_root active (length new) + length new ≤ 2 ^ 62) × Torn 7 1 (staged_bytes active new bytes) image)

-- a compaction leaves at each call number the old journal or the new one
abbrev pub CompactLeaves : Mounted → List ℕ → ℕ → ℕ → (ℕ → List ℕ → Type 0) → Type 0
CompactLeaves m body from to images = EachImage from to images (StandsForEither (contents_in m) (compacted body))
