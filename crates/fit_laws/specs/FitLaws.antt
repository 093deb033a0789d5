-- What tells whether a commit fits, by what it names alone.
use Rattle.std.specs.Prelude.{◌≡◌, ℕ, ◌&&◌, nat_le, nat_lt, int_le, length, is_none, List, [], ◌∷◌, Bool, true, false, not, if◌then◌else◌}
use Rattle.std.specs.List.{list_all}
use Rattle.std.specs.Option.{option_map_or}
use Rattle.std.specs.Str.{bytes_eq}
use Rattle.aq_base.specs.declared.limits.TheConstants.{SUBSCRIBER_LIMIT}
use Rattle.queue_rows.specs.Rows.{find_table, find_queue, find_sub, find_schedule, find_message, exception_name}
use Rattle.queue_rows.specs.Tables.{after, after_change}
use Rattle.queue_rows.specs.Settling.{is_exception}
use Rattle.queue_rows.specs.Catalog.{is_table_used}
use Rattle.queue_rows.specs.Recipients.{subscribers_of}
use Rattle.queue_rows.specs.Valid.{is_valid, has_right_numbers, is_valid_table, is_valid_queue, is_valid_sub, is_valid_schedule, is_valid_message}
use Rattle.queue_rows.specs.Fits.{all_name_what_is_there}
use Rattle.queue_rows.specs.declared.tables.Tables.{Tables}
use Rattle.queue_rows.specs.declared.rows.QueueRow.{QueueRow}
use Rattle.queue_rows.specs.declared.rows.QueueKind.{QueueKind}
use Rattle.queue_rows.specs.declared.change.Change.{Change}
use Rattle.queue_rows.specs.declared.change.Change.TheVariants as changes
use Rattle.queue_rows.specs.declared.change.Commit.{Commit}

-- ---- changes that are local

abbrev pub is_same_kind : QueueKind → QueueKind → Bool
is_same_kind a b = if is_exception a then is_exception b else not (is_exception b)

-- a queue may stand where another stood: of its table and kind, for as many retries or more, and with a lowest lane that is no higher
abbrev pub stands_for : QueueRow → QueueRow → Bool
stands_for row q =
    bytes_eq row.table q.table && is_same_kind row.kind q.kind && nat_le q.max_retries row.max_retries && int_le row.lowest q.lowest

-- it is not the default exception queue of its table
abbrev pub is_further : QueueRow → Bool
is_further q = not (bytes_eq q.name (exception_name q.table))

-- the table takes nothing with it but an exception queue in which no message stands, and leaves no queue behind
abbrev pub goes_alone : Tables → List ℕ → Bool
goes_alone t table = option_map_or (λ q. is_exception q.kind) (find_queue t (exception_name table)) true && not (is_table_used t table)

-- What the change does not name stays as right as it was. A queue table that is put is new; so is a queue, or it may stand where one
-- stood. A queue that goes takes with it what stands in it, and is not the one without which its table would be wrong. Where numbers
-- are set, no row stays right for sure.
abbrev pub is_local : Tables → Change → Bool
is_local t (changes.PutTable row) = is_none (find_table t row.name)
is_local t (changes.DropTable name) = goes_alone t name
is_local t (changes.PutQueue row) = option_map_or (stands_for row) (find_queue t row.name) true
is_local t (changes.DropQueue name) = option_map_or is_further (find_queue t name) true
is_local t (changes.Counters next transaction latest) = false
is_local t _ = true

-- so it is for each change, when it comes
abbrev pub are_local : Tables → List Change → Bool
are_local t [] = true
are_local t (c ∷ cs) = is_local t c && are_local (after_change t c) cs

-- ---- a row that is valid, where it is there

abbrev pub holds_right_message : Tables → ℕ → Bool
holds_right_message t id = option_map_or (is_valid_message t) (find_message t id) true

abbrev pub holds_right_table : Tables → List ℕ → Bool
holds_right_table t name = option_map_or (is_valid_table t) (find_table t name) true

abbrev pub holds_right_queue : Tables → List ℕ → Bool
holds_right_queue t name = option_map_or (is_valid_queue t) (find_queue t name) true

abbrev pub holds_right_schedule : Tables → List ℕ → List ℕ → Bool
holds_right_schedule t queue to = option_map_or (is_valid_schedule t) (find_schedule t queue to) true

-- a subscriber, and no more of its queue than it may have
abbrev pub holds_right_sub : Tables → List ℕ → List ℕ → Bool
holds_right_sub t queue name =
    nat_le (length (subscribers_of t queue)) SUBSCRIBER_LIMIT && option_map_or (is_valid_sub t) (find_sub t queue name) true

-- ---- what a commit names

-- What the change puts or changes is right in the tables after the commit. What goes leaves nothing behind that could be wrong. Of
-- changes that are not local nothing is said.
abbrev pub leaves_right : Tables → Change → Bool
leaves_right t (changes.Enqueued row) = holds_right_message t row.id && holds_right_queue t row.queue
leaves_right t (changes.Retried id slot retries until at) = holds_right_message t id
leaves_right t (changes.Ready id slot at) = holds_right_message t id
leaves_right t (changes.Done id slot at) = holds_right_message t id
leaves_right t (changes.Expired id slot at) = holds_right_message t id
leaves_right t (changes.Dropped id slot at) = holds_right_message t id
leaves_right t (changes.Moved id queue at) = holds_right_message t id && holds_right_queue t queue
leaves_right t (changes.Seen row) = nat_lt row.copy t.next
leaves_right t (changes.PutTable row) = holds_right_table t row.name
leaves_right t (changes.PutQueue row) = holds_right_queue t row.name
leaves_right t (changes.PutSub row) = holds_right_sub t row.queue row.name
leaves_right t (changes.PutSchedule row) = holds_right_schedule t row.queue row.to
leaves_right t _ = true

-- so does each of the changes, and the numbers of the tables are within their limits
abbrev pub leaves_all_right : Tables → List Change → Bool
leaves_all_right t cs = has_right_numbers t && list_all (leaves_right t) cs

-- the law: on valid tables, where the changes name what is there and are local
abbrev pub FitIsLocal : Type 0
FitIsLocal = (t : Tables) (commit : Commit) → is_valid t ≡ true → all_name_what_is_there t commit.changes ≡ true
    → are_local t commit.changes ≡ true → leaves_all_right (after t commit) commit.changes ≡ is_valid (after t commit)
