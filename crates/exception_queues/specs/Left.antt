-- A message as one change leaves it.
use Rattle.std.specs.Prelude.{Option, option_and_then}
use Rattle.queue_rows.specs.Settling.{left_by}
use Rattle.queue_rows.specs.declared.rows.MsgRow.{MsgRow}
use Rattle.queue_rows.specs.declared.change.Change.{Change}

-- what was gone before is gone
abbrev pub left_some : Option MsgRow → Change → Option MsgRow
left_some m c = option_and_then (λ row. left_by row c) m
