-- Recipients that are named twice.
use Rattle.std.specs.Prelude.{ℕ, List, Bool, false, slice_get, take}
use Rattle.std.specs.List.{list_any}
use Rattle.std.specs.Option.{option_map_or}
use Rattle.queue_rows.specs.Valid.{is_same_recipient}
use Rattle.queue_rows.specs.declared.rows.SlotRow.{SlotRow}

-- the recipient of the slot at that index is that of a slot before it
abbrev pub is_repeated_at : List SlotRow → ℕ → Bool
is_repeated_at slots at = option_map_or (λ slot. list_any (λ s. is_same_recipient s slot) (take at slots)) (slice_get slots at) false
