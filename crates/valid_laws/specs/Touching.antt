-- What changes say of slots and messages: which slots they name, which messages they put in or take away, and which of them are
-- proper, so that no slot is named after it is final.
use Rattle.std.specs.Prelude.{ℕ, ◌==◌, ◌&&◌, List, [], ◌∷◌, Bool, true, false, not, nat_lt, is_some, is_none}
use Rattle.std.specs.List.{list_any}
use Rattle.std.specs.Option.{option_map_or}
use Rattle.std.specs.Str.{bytes_eq}
use Rattle.queue_rows.specs.Rows.{find_message, find_queue, exception_name}
use Rattle.queue_rows.specs.Tables.{after_change}
use Rattle.queue_rows.specs.declared.tables.Tables.{Tables}
use Rattle.queue_rows.specs.declared.change.Change.{Change}
use Rattle.queue_rows.specs.declared.change.Change.TheVariants as changes
use Rattle.valid_laws.specs.Openness.{is_open_at, is_finished_at, may_move}

-- ---- what is named

-- it says what becomes of that slot
abbrev pub is_of_slot : ℕ → ℕ → Change → Bool
is_of_slot id slot (changes.Retried named at_slot retries until at) = (named == id) && (at_slot == slot)
is_of_slot id slot (changes.Ready named at_slot at) = (named == id) && (at_slot == slot)
is_of_slot id slot (changes.Done named at_slot at) = (named == id) && (at_slot == slot)
is_of_slot id slot (changes.Expired named at_slot at) = (named == id) && (at_slot == slot)
is_of_slot id slot (changes.Dropped named at_slot at) = (named == id) && (at_slot == slot)
is_of_slot id slot _ = false

-- it puts the message of that id in
abbrev pub puts_in : ℕ → Change → Bool
puts_in id (changes.Enqueued row) = row.id == id
puts_in id _ = false

-- it puts a message in
abbrev pub is_put_in : Change → Bool
is_put_in (changes.Enqueued row) = true
is_put_in _ = false

-- a message that it puts in has an id below that one
abbrev pub puts_below : ℕ → Change → Bool
puts_below next (changes.Enqueued row) = nat_lt row.id next
puts_below next _ = true

-- it moves the message of that id, or takes it away
abbrev pub takes_off : ℕ → Change → Bool
takes_off id (changes.Moved named queue at) = named == id
takes_off id (changes.Purged named) = named == id
takes_off id _ = false

-- ---- what is proper

-- a message that it takes away has no slot that can still be taken
abbrev pub closes : Tables → Change → Bool
closes t (changes.Purged id) = is_finished_at t id
closes t _ = true

-- The change says nothing of a slot that is final, and leaves no message without a fate; a queue that it drops, or to which it
-- moves a message, is there. Of changes of numbers nothing is said: no commit has one.
abbrev pub is_proper : Tables → Change → Bool
is_proper t (changes.Enqueued row) = is_none (find_message t row.id) && not row.moved
is_proper t (changes.Retried id slot retries until at) = is_open_at t id slot
is_proper t (changes.Ready id slot at) = is_open_at t id slot
is_proper t (changes.Done id slot at) = is_open_at t id slot
is_proper t (changes.Expired id slot at) = is_open_at t id slot
is_proper t (changes.Dropped id slot at) = is_open_at t id slot
is_proper t (changes.Moved id queue at) = option_map_or may_move (find_message t id) false && is_some (find_queue t queue)
is_proper t (changes.Purged id) = is_finished_at t id
is_proper t (changes.DropQueue name) = is_some (find_queue t name)
is_proper t (changes.DropTable name) = not (list_any (λ m. bytes_eq m.queue (exception_name name)) t.messages)
is_proper t (changes.Counters next transaction latest) = false
is_proper t _ = true

-- each change is, in the tables that those before it leave
unfoldable pub are_proper : Tables → List Change → Bool
are_proper t [] = true
are_proper t (c ∷ cs) = is_proper t c && are_proper (after_change t c) cs
