-- Rows that lose some, and rows that get some.
use Rattle.std.specs.Prelude.{List, fold, filter}
use Rattle.row_tree.specs.Order.{put_in_order}
use Rattle.due_index.specs.Due.{due_cmp, is_other}
use Rattle.due_index.specs.declared.row.DueRow.{DueRow}

-- the rows without these
abbrev pub without : List DueRow → List DueRow → List DueRow
without rows taken = fold (λ left row. filter (is_other row) left) rows taken

-- the rows with these, each once, in their order
abbrev pub joined : List DueRow → List DueRow → List DueRow
joined rows more = fold (λ all row. put_in_order due_cmp row (filter (is_other row) all)) rows more
