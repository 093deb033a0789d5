-- A change of one row of a list.
use Rattle.std.specs.Prelude.{ℕ, List, slice_get, slice_set}
use Rattle.std.specs.Option.{option_map_or}

-- the rows with what the change makes of the row at the index in its place
abbrev pub edit_at : {T : Type 0} → List T → ℕ → (T → T) → List T
edit_at rows at change = option_map_or (λ row. slice_set rows at (change row)) (slice_get rows at) rows
