-- The memory that changes need for the rows that they put.
use Rattle.std.specs.Prelude.{ℕ, ◌-◌, ◌<◌, ◌≤◌, List, Bool, true, false, count_by, drop}
use Rattle.queue_rows.specs.declared.change.Change.{Change}
use Rattle.queue_rows.specs.declared.change.Change.TheVariants as changes

-- for how many more rows of each kind there is memory, and for how many slots of each message that is moved, in the order of moves
pub record Room : Type 0 where
  pub tables : ℕ
  pub queues : ℕ
  pub subs : ℕ
  pub schedules : ℕ
  pub messages : ℕ
  pub seen : ℕ
  pub slots : List ℕ

abbrev pub is_table_put : Change → Bool
is_table_put (changes.PutTable row) = true
is_table_put _ = false

abbrev pub is_queue_put : Change → Bool
is_queue_put (changes.PutQueue row) = true
is_queue_put _ = false

abbrev pub is_sub_put : Change → Bool
is_sub_put (changes.PutSub row) = true
is_sub_put _ = false

abbrev pub is_schedule_put : Change → Bool
is_schedule_put (changes.PutSchedule row) = true
is_schedule_put _ = false

abbrev pub is_message_put : Change → Bool
is_message_put (changes.Enqueued row) = true
is_message_put _ = false

abbrev pub is_seen_put : Change → Bool
is_seen_put (changes.Seen row) = true
is_seen_put _ = false

-- there is memory for each row that these changes may put
pub record HasRoom (r : Room) (cs : List Change) : Type 0 where
  pub tables : count_by is_table_put cs ≤ r.tables
  pub queues : count_by is_queue_put cs ≤ r.queues
  pub subs : count_by is_sub_put cs ≤ r.subs
  pub schedules : count_by is_schedule_put cs ≤ r.schedules
  pub messages : count_by is_message_put cs ≤ r.messages
  pub seen : count_by is_seen_put cs ≤ r.seen

-- there is memory for the row that a change puts
abbrev pub HasPlace : Room → Change → Type 0
HasPlace r (changes.PutTable row) = 0 < r.tables
HasPlace r (changes.PutQueue row) = 0 < r.queues
HasPlace r (changes.PutSub row) = 0 < r.subs
HasPlace r (changes.PutSchedule row) = 0 < r.schedules
HasPlace r (changes.Enqueued row) = 0 < r.messages
HasPlace r (changes.Seen row) = 0 < r.seen
HasPlace r _ = Unit {0}

-- what is left of it after the change
abbrev pub room_after : Room → Change → Room
room_after r (changes.PutTable row) = record r { tables = r.tables - 1 }
room_after r (changes.PutQueue row) = record r { queues = r.queues - 1 }
room_after r (changes.PutSub row) = record r { subs = r.subs - 1 }
room_after r (changes.PutSchedule row) = record r { schedules = r.schedules - 1 }
room_after r (changes.Enqueued row) = record r { messages = r.messages - 1 }
room_after r (changes.Seen row) = record r { seen = r.seen - 1 }
room_after r (changes.Moved id queue at) = record r { slots = drop 1 r.slots }
room_after r _ = r
