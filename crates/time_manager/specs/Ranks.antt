-- Where messages stand, and what is due of those that rows name.
use Rattle.std.specs.Prelude.{◌≡◌, ◌==◌, ◌&&◌, ◌↔◌, ℕ, List, [], not, filter, filter_map, flat_map, position, slice_get, Contains, Option, Some, None}
use Rattle.std.specs.List.Sorted.{IsStrictlyIncreasing}
use Rattle.std.specs.Ordering.{is_lt}
use Rattle.due_index.specs.Due.{due_cmp, due_row, is_due}
use Rattle.due_index.specs.declared.row.DueRow.{DueRow}
use Rattle.queue_rows.specs.Due.{Watch, due_purge, due_slots}
use Rattle.queue_rows.specs.declared.rows.MsgRow.{MsgRow}
use Rattle.queue_rows.specs.declared.change.Change.{Change}
use Rattle.time_manager.specs.Own.{own_settling}

-- where the message of that number stands
abbrev pub rank_of : List MsgRow → ℕ → Option ℕ
rank_of messages id = position (λ m. m.id == id) messages

-- where the messages stand that the rows name, in the order of the rows
abbrev pub ranks_of : List MsgRow → List DueRow → List ℕ
ranks_of messages rows = filter_map (λ row. rank_of messages row.id) rows

-- the rows at or before the moment from this one on
abbrev pub rows_left : ℕ → List DueRow → Option (ℕ × ℕ × ℕ) → List DueRow
rows_left moment rows None = []
rows_left moment rows (Some next) = filter (λ row. is_due moment row && not (is_lt (due_cmp row (due_row next.0 next.1 next.2)))) rows

-- the numbers rise, and are those of the messages that rows at or before the moment name
pub record AreDueRanks (messages : List MsgRow) (rows : List DueRow) (moment : ℕ) (ranks : List ℕ) : Type 0 where
  pub rising : IsStrictlyIncreasing ranks
  pub each : (rank : ℕ) → Contains ranks rank ↔ Contains (ranks_of messages (filter (is_due moment) rows)) rank

-- what a message gives, where it is there
abbrev pub given : (MsgRow → List Change) → Option MsgRow → List Change
given f None = []
given f (Some m) = f m

-- what is due of the messages at these places, and what each settles, is that of all
pub record GiveAll (w : Watch) (ranks : List ℕ) : Type 0 where
  pub slots : flat_map (λ rank. given (due_slots w) (slice_get w.tables.messages rank)) ranks ≡ flat_map (due_slots w) w.tables.messages
  pub purges : flat_map (λ rank. given (due_purge w) (slice_get w.tables.messages rank)) ranks ≡ flat_map (due_purge w) w.tables.messages
  pub settlings : flat_map (λ rank. given (own_settling w) (slice_get w.tables.messages rank)) ranks ≡ flat_map (own_settling w) w.tables.messages
