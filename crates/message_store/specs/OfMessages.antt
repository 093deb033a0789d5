-- Changes of messages that stay in their queues.
use Rattle.std.specs.Prelude.{Bool, true, false}
use Rattle.queue_rows.specs.declared.change.Change.{Change}
use Rattle.queue_rows.specs.declared.change.Change.TheVariants as changes

-- the change is of one message, which comes, goes, or has a slot changed
abbrev pub is_of_message : Change → Bool
is_of_message (changes.Enqueued row) = true
is_of_message (changes.Retried id slot retries until at) = true
is_of_message (changes.Ready id slot at) = true
is_of_message (changes.Done id slot at) = true
is_of_message (changes.Expired id slot at) = true
is_of_message (changes.Dropped id slot at) = true
is_of_message (changes.Purged id) = true
is_of_message _ = false
