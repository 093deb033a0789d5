-- What the hasher of numbers makes of the bytes of a number.
use Rattle.std.proofs.Common.{◌≡◌, ℕ, ◌<◌, ◌^◌, sym, ◌∙◌, ap, arith}
use Rattle.std.specs.Hash.{le_bytes}
use Rattle.std.specs.Int.{w64, from_le_bytes}
use Rattle.std.proofs.lemmas.Nat.{from_le_bytes-to_le_bytes_4, from_le_bytes-to_le_bytes_8}
use Rattle.row_locks.specs.Hashing.{mixed, written}
use Rattle.row_locks.specs.declared.hashing.NumberHasher.{NumberHasher}

abbrev pub as_hasher : ℕ → NumberHasher
as_hasher state = record { state = state }

wide_4 : (n : ℕ) → n < 2 ^ 32 → from_le_bytes w64 (le_bytes 4 n) ≡ n
unfolding le_bytes
wide_4 n fits = let e = from_le_bytes-to_le_bytes_4 n fits in omega (arith, e)

-- four bytes
pub wrote_4 : (hasher : NumberHasher) (n state : ℕ) → n < 2 ^ 32 → state ≡ mixed hasher.state n → as_hasher state ≡ written hasher (le_bytes 4 n)
wrote_4 hasher n state fits is = ap as_hasher (is ∙ ap (mixed hasher.state) (sym (wide_4 n fits)))

-- and eight
pub wrote_8 : (hasher : NumberHasher) (n state : ℕ) → n < 2 ^ 64 → state ≡ mixed hasher.state n → as_hasher state ≡ written hasher (le_bytes 8 n)
unfolding le_bytes
wrote_8 hasher n state fits is = ap as_hasher (is ∙ ap (mixed hasher.state) (sym (from_le_bytes-to_le_bytes_8 n fits)))
