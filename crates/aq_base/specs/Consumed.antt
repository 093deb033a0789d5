-- What is gone of a source that tells what it has left.
use Rattle.std.specs.Prelude.{ℕ, ◌≤◌, List, length, Option}
use Rattle.std.specs.Io.KnownBytes.{Consumes}

-- some first bytes are gone, at most so many; of a source that does not tell it says nothing
abbrev pub ConsumesAtMost : ℕ → Option (List ℕ) → Option (List ℕ) → Type 0
ConsumesAtMost most before after = (bytes : List ℕ) × (length bytes ≤ most) × Consumes before after bytes
