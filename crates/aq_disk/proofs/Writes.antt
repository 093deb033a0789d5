-- What a write leaves at each place. For callers over any disk.
use Rattle.std.proofs.Common.{◌≡◌, ℕ, ◌+◌, ◌≤◌, List, ◌++◌, length, take, drop, refl, sym, ◌∙◌, ap, arith, append_assoc, length-take}
use Rattle.std.proofs.lemmas.List.{take_at, drop_at, drop-take}
use Rattle.aq_disk.specs.Disk.{after_write}
use Rattle.aq_disk.specs.Left.{torn_by}
use Rattle.aq_disk.proofs.Moments.{torn_front, torn_back}

module _ (at : ℕ) (new bytes : List ℕ) (within : at ≤ length bytes) where
  -- the range has what was written
  pub written_here : take (length new) (drop at (after_write at new bytes)) ≡ new
  written_here =
      let front : length (take at bytes) ≡ at = length-take at bytes ∙ omega arith in
      ap (λ (l : List ℕ). take (length new) (drop at l)) (append_assoc (take at bytes) new (drop (at + length new) bytes))
      ∙ ap (take (length new)) (drop_at (take at bytes) (new ++ drop (at + length new) bytes) at front)
      ∙ take_at new (drop (at + length new) bytes) (length new) refl

  -- what lies before it stays, and what lies behind it
  pub written_before : (k : ℕ) → k ≤ at → take k (after_write at new bytes) ≡ take k bytes
  written_before k le = torn_front k at (length new) bytes (after_write at new bytes) le (torn_by at (length new) new bytes within refl)

  pub written_behind : (k : ℕ) → at + length new ≤ k → drop k (after_write at new bytes) ≡ drop k bytes
  written_behind k le = torn_back k at (length new) bytes (after_write at new bytes) le (torn_by at (length new) new bytes within refl)

  -- so does a range before it
  pub range_before : (k n : ℕ) → k + n ≤ at → take n (drop k (after_write at new bytes)) ≡ take n (drop k bytes)
  range_before k n le = sym (drop-take k n (after_write at new bytes)) ∙ ap (drop k) (written_before (k + n) le) ∙ drop-take k n bytes
