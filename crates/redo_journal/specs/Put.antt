-- What is written while a frame is put behind a closed gate, and what a crash may leave.
use Rattle.std.specs.Prelude.{◌⊎◌, ℕ, ◌+◌, ◌^◌, ◌≤◌, List, [], ◌∷◌, length}
use Rattle.aq_disk.specs.Disk.{after_write, Torn}

-- the frame stands behind the gate, which is open
abbrev pub framed_bytes : ℕ → List ℕ → List ℕ → List ℕ
framed_bytes gate frame bytes = after_write gate (1 ∷ []) (after_write (gate + 1) frame bytes)

-- the frame is torn, or it is whole, within the limit, and its gate is torn
abbrev pub TornFrame : ℕ → List ℕ → List ℕ → List ℕ → Type 0
TornFrame gate frame bytes image =
    Torn (gate + 1) (length frame) bytes image
    ⊎ ((gate + 1 + length frame ≤ 2 ^ 62) × Torn gate 1 (after_write (gate + 1) frame bytes) image)
