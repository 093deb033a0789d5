-- The laws of going over rows one by one, each of them found behind the one before it.
use Rattle.std.specs.Prelude.{◌≡◌, ℤ, List, [], ◌∷◌, Option, Some, None, filter, find, slice_get}
use Rattle.std.specs.Ordering.{is_gt}
use Rattle.row_tree.specs.Order.{IsRising}
use Rattle.place_keys.specs.Place.{place_cmp}
use Rattle.choice_laws.specs.Entries.{Row, row_cmp, rows_past}

-- the rows behind a row
abbrev pub rows_behind : Row → List Row → List Row
rows_behind row rows = filter (λ r. is_gt (row_cmp r row)) rows

-- the row that was found with those behind it, or none
abbrev pub from_row : Option Row → List Row → List Row
from_row None rows = []
from_row (Some row) rows = row ∷ rows_behind row rows

-- all rows are the first one with those behind it; so are those past a place, from the first past it; and so are those behind
-- a row, from the next one
pub record RowsGoOn : Type 0 where
  pub first : (rows : List Row) → IsRising row_cmp rows → rows ≡ from_row (slice_get rows 0) rows
  pub past : (place : List ℤ) (rows : List Row) → IsRising row_cmp rows → rows_past place rows ≡ from_row (find (λ r. is_gt (place_cmp r.place place)) rows) rows
  pub behind : (row : Row) (rows : List Row) → IsRising row_cmp rows → rows_behind row rows ≡ from_row (find (λ r. is_gt (row_cmp r row)) rows) rows
