-- Messages with their stamps, and the rows by which each queue and consumer finds those that it may be given.
use Rattle.std.specs.Prelude.{ℕ, ℤ, ◌<◌, ◌==◌, ◌&&◌, ◌||◌, Bool, not, List, [], ◌∷◌, Option, Some, None, option_map, find, filter, map, slice_set, if◌then◌else◌}
use Rattle.std.specs.List.{AllByRecursion, list_any}
use Rattle.std.specs.Ordering.{is_eq, nat_cmp, ordering_then}
use Rattle.std.specs.Str.{bytes_eq}
use Rattle.std.specs.declared.cmp.Ordering.{Ordering}
use Rattle.row_tree.specs.Order.{put_in_order}
use Rattle.place_keys.specs.Place.{place_cmp, stands_before}
use Rattle.queue_rows.specs.Rows.{slot_of}
use Rattle.queue_rows.specs.Settling.{is_ready}
use Rattle.queue_rows.specs.Dequeueing.{is_local_for, is_ready_slot}
use Rattle.queue_rows.specs.declared.rows.MsgRow.{MsgRow}

-- ---- messages with stamps

-- a message, and the stamp by which it is kept
pub record Entry : Type 0 where
  pub stamp : ℕ
  pub message : MsgRow

abbrev pub messages_of : List Entry → List MsgRow
messages_of entries = map (λ e. e.message) entries

-- all stamps are above the number
abbrev pub AreAbove : ℕ → List Entry → Type 0
AreAbove n entries = AllByRecursion (λ e. n < e.stamp) entries

-- all stamps are below the number
abbrev pub AreBelow : ℕ → List Entry → Type 0
AreBelow n entries = AllByRecursion (λ e. e.stamp < n) entries

-- stamps rise in the order of the list
abbrev pub AreRising : List Entry → Type 0
AreRising [] = Unit {0}
AreRising (e ∷ es) = AreAbove e.stamp es × AreRising es

-- the message with the stamp
abbrev pub message_at : List Entry → ℕ → Option MsgRow
message_at entries stamp = option_map (λ e. e.message) (find (λ e. e.stamp == stamp) entries)

-- ---- rows

-- where a message stands among those of its queue: at its place, and of equal places by its stamp
pub record Row : Type 0 where
  pub place : List ℤ
  pub stamp : ℕ

abbrev pub row_of : Entry → Row
row_of e = record { place = e.message.place; stamp = e.stamp }

abbrev pub row_cmp : Row → Row → Ordering
row_cmp a b = ordering_then (place_cmp a.place b.place) (nat_cmp a.stamp b.stamp)

-- the message has a ready slot for the consumer: without a name slot 1 or slot 0, with a name one that is local for it
abbrev pub shows : MsgRow → Option (List ℕ) → Bool
shows m None = is_ready_slot (slot_of m 1) || is_ready_slot (slot_of m 0)
shows m (Some consumer) = list_any (λ s. is_local_for consumer s && is_ready s.state) m.slots

-- it stands in the queue and has a ready slot for the consumer
abbrev pub stands_for : List ℕ → Option (List ℕ) → MsgRow → Bool
stands_for queue consumer m = bytes_eq m.queue queue && shows m consumer

-- the rows with one more, where the flag says so
abbrev pub with_row : Bool → Row → List Row → List Row
with_row stands row rows = if stands then put_in_order row_cmp row rows else rows

-- the rows of the messages that stand in the queue and have a ready slot for the consumer, in their order
abbrev pub rows_for : List ℕ → Option (List ℕ) → List Entry → List Row
rows_for queue consumer [] = []
rows_for queue consumer (e ∷ es) = with_row (stands_for queue consumer e.message) (row_of e) (rows_for queue consumer es)

-- the rows past a place
abbrev pub rows_past : List ℤ → List Row → List Row
rows_past place rows = filter (λ r. stands_before place r.place) rows

-- ---- edits

-- the rows without that one
abbrev pub without_row : Row → List Row → List Row
without_row row rows = filter (λ r. not (is_eq (row_cmp r row))) rows

-- the row goes, comes or stays, by whether it stood there and whether it stands there now
abbrev pub moved_row : (before now : Bool) → Row → List Row → List Row
moved_row before now row rows = if before then (if now then rows else without_row row rows) else with_row now row rows

-- the entries with that message in place of the one at an index
abbrev pub with_message : List Entry → ℕ → Entry → MsgRow → List Entry
with_message entries at e m = slice_set entries at (record { stamp = e.stamp; message = m })

-- the entries without those of a queue
abbrev pub without_queue : List ℕ → List Entry → List Entry
without_queue queue entries = filter (λ e. not (bytes_eq e.message.queue queue)) entries
