-- Changes that take the only slot of a message, and do nothing else.
use Rattle.std.specs.Prelude.{ℕ, ◌==◌, ◌&&◌, List, [], ◌∷◌, Bool, not, Option, Some, None, length, option_and_then, slice_get, if◌then◌else◌}
use Rattle.queue_rows.specs.Rows.{find_message}
use Rattle.queue_rows.specs.Settling.{retention_of}
use Rattle.queue_rows.specs.declared.tables.Tables.{Tables}
use Rattle.queue_rows.specs.declared.rows.MsgRow.{MsgRow}
use Rattle.queue_rows.specs.declared.change.Change.{Change}
use Rattle.queue_rows.specs.declared.change.Change.TheVariants as changes

-- the message whose first slot a change takes
abbrev pub taken_by : Change → Option ℕ
taken_by (changes.Done id slot at) = if slot == 1 then Some id else None
taken_by _ = None

-- the message whose first slot the changes take, where they are one change
abbrev pub taken_alone : List Change → Option ℕ
taken_alone cs = if length cs == 1 then option_and_then (λ c. taken_by c) (slice_get cs 0) else None

-- it has one slot, and that is for a recipient
abbrev pub has_one_slot : MsgRow → Bool
has_one_slot m = not m.moved && (length m.slots == 1)

abbrev pub if_one_slot : MsgRow → Option MsgRow
if_one_slot m = if has_one_slot m then Some m else None

-- the message whose only slot the changes take, where they are one change
abbrev pub taken_whole : Tables → List Change → Option MsgRow
taken_whole t cs = option_and_then (λ m. if_one_slot m) (option_and_then (λ id. find_message t id) (taken_alone cs))

-- what is settled of a message that all have taken
abbrev pub purge_of : Tables → MsgRow → List Change
purge_of t m = if retention_of t m == 0 then changes.Purged m.id ∷ [] else []
