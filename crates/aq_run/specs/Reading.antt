-- What was read of an input, of a source that says what it has left.
use Rattle.std.specs.Prelude.{◌≡◌, ℕ, ◌≤◌, ◌<◌, List, length, take, Option, IfSome, Result, Ok}
use Rattle.std.specs.Io.KnownBytes.{Consumes}
use Rattle.aq_base.specs.Causes.{LastRead}
use Rattle.aq_base.specs.Consumed.{ConsumesAtMost}
use Rattle.aq_base.specs.declared.stream.Failed.{Failed}

-- Of a source that says what is left a prefix is gone, at most one byte past the limit of an input. So it is whatever is answered.
abbrev pub ConsumesInput : {I : Type 0} → (I → Option (List ℕ)) → I → I → Type 0
ConsumesInput left old new = ConsumesAtMost 67108865 (left old) (left new)

-- These bytes were read: of a source that says what is left, its first ones, and they are gone; fewer than one past the limit of an input
-- only where a read answered that the end was reached.
pub record ReadsBytes {I : Type 0} (left : I → Option (List ℕ)) (gives : I → List ℕ → Result ℕ Failed → I → Type 0) (old new : I) (bytes : List ℕ) : Type 0 where
  pub few : length bytes ≤ 67108865
  pub front : IfSome (left old) (λ xs. bytes ≡ take 67108865 xs)
  pub rest : Consumes (left old) (left new) bytes
  pub whole : length bytes < 67108865 → LastRead gives new (λ answer. answer ≡ Ok 0)
