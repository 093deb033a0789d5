-- Which changes put rows of a kind.
use Rattle.std.specs.Prelude.{Bool}
use Rattle.queue_rows.specs.declared.change.Change.{Change}
use Rattle.message_store.specs.Room.{is_table_put, is_queue_put, is_sub_put, is_schedule_put, is_message_put, is_seen_put}
use Rattle.message_store.specs.declared.room.RowKind.{RowKind}
use Rattle.message_store.specs.declared.room.RowKind.TheVariants as kinds

abbrev pub is_put : RowKind → Change → Bool
is_put kinds.Table c = is_table_put c
is_put kinds.Queue c = is_queue_put c
is_put kinds.Sub c = is_sub_put c
is_put kinds.Schedule c = is_schedule_put c
is_put kinds.Message c = is_message_put c
is_put kinds.Seen c = is_seen_put c
