-- The items of a list that mostly has one.
use Rattle.std.specs.Prelude.{List, [], ◌∷◌}
use Rattle.payload_records.specs.declared.small_list.Items.{Items}
use Rattle.payload_records.specs.declared.small_list.Items.TheVariants.{One, Many}

-- the one in place, or those on the heap
abbrev pub stored_items : {T : Type 0} → Items T → List T
stored_items (One item) = item ∷ []
stored_items (Many items) = items.items
