-- What the hasher of numbers computes.
use Rattle.std.specs.Prelude.{ℕ, ◌*◌, ◌%◌, ◌^◌, List, bit_xor}
use Rattle.std.specs.Int.{w64, from_le_bytes}
use Rattle.row_locks.specs.declared.hashing.NumberHasher.{NumberHasher}

-- the state after a number
abbrev pub mixed : ℕ → ℕ → ℕ
mixed state number = (bit_xor state number * 0x9e37_79b9_7f4a_7c15) % 2 ^ 64

-- the state after bytes, the lowest first
abbrev pub written : NumberHasher → List ℕ → NumberHasher
written hasher bytes = record { state = mixed hasher.state (from_le_bytes w64 bytes) }
