-- What holds of tables that are recovered, besides that they are those of their commits.
use Rattle.std.specs.Prelude.{◌≡◌, true}
use Rattle.std.specs.List.{AllByRecursion, list_all}
use Rattle.payload_records.specs.Order.{is_in_order}
use Rattle.redo_journal.specs.Journal.{written_version}
use Rattle.queue_rows.specs.Valid.{is_valid}
use Rattle.queue_rows.specs.declared.tables.Tables.{Tables}
use Rattle.redo_records.specs.Spellable.{HasFullCells, HasReadRule}
use Rattle.redo_records.specs.Spelled.{IsMsgRow, IsQueueRow, IsScheduleRow, IsSeenRow, IsSubRow, IsTableRow}

-- each of their rows has a spelling in the version that is written, so that it can be put again by a commit
pub record HasSpelledRows (t : Tables) : Type 0 where
  pub tables : AllByRecursion IsTableRow t.tables
  pub queues : AllByRecursion IsQueueRow t.queues
  pub subs : AllByRecursion IsSubRow t.subs
  pub schedules : AllByRecursion IsScheduleRow t.schedules
  pub messages : AllByRecursion (IsMsgRow written_version) t.messages
  pub seen : AllByRecursion IsSeenRow t.seen

-- the tables are valid, fields stand in the order of their names, rules are such as are read, no cell is an empty text, and each row has
-- a spelling
pub record IsSound (t : Tables) : Type 0 where
  pub valid : is_valid t ≡ true
  pub fields : list_all (λ row. is_in_order row.fields) t.tables ≡ true
  pub rules : AllByRecursion HasReadRule t.subs
  pub cells : AllByRecursion HasFullCells t.messages
  pub rows : HasSpelledRows t
