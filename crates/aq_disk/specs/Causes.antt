-- When a fault may be answered: a count of faults that never falls, and has risen where one is told.
use Rattle.std.specs.Prelude.{◌≡◌, ℕ, ◌+◌, ◌-◌, ◌^◌, ◌≤◌, min, Result, OnOk, OnErr}

-- the count has risen, or stands at its type's end
abbrev pub Rose : ℕ → ℕ → Type 0
Rose before now = min (before + 1) (2 ^ 64 - 1) ≤ now

-- a call that answers Ok leaves the count, and one that fails has raised it
pub record HasCause {T E : Type 0} (before now : ℕ) (result : Result T E) : Type 0 where
  pub later : before ≤ now
  pub fine : OnOk result (now ≡ before)
  pub failed : OnErr result (Rose before now)
