-- Changes of the row at a place.
use Rattle.std.specs.Prelude.{◌≡◌, Bool, List, cond, filter, map, not, Option, Some}
use Rattle.std.specs.Option.{option_map}
use Rattle.std.specs.Ordering.{is_eq}
use Rattle.std.specs.declared.cmp.Ordering.{Ordering}
use Rattle.row_tree.specs.Order.{put_in_order}

-- the rows with those that pass changed
abbrev pub change_where : {T : Type 0} → (T → Bool) → (T → T) → List T → List T
change_where p change rows = map (λ row. cond (p row) (change row) row) rows

-- there is a row, and this is what is told of it
abbrev pub IsToldOf : {T : Type 0} → {U : Type 0} → (T → U) → U → Option T → Type 0
IsToldOf tells told found = option_map tells found ≡ Some told

-- the rows with that one in place of those that stand where it stands
abbrev pub set_in_order : {T : Type 0} → (T → T → Ordering) → T → List T → List T
set_in_order order row rows = put_in_order order row (filter (λ other. not (is_eq (order other row))) rows)
