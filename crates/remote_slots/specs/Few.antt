-- How many slots a message may have, so that the number of each fits 32 bits.
use Rattle.std.specs.Prelude.{◌+◌, ◌^◌, ◌<◌}
use Rattle.queue_rows.specs.Rows.{recipient_count}
use Rattle.queue_rows.specs.declared.rows.MsgRow.{MsgRow}

abbrev pub HasFewSlots : MsgRow → Type 0
HasFewSlots m = recipient_count m + 1 < 2 ^ 32
