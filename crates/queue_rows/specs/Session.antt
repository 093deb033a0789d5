-- Sessions, and what they hold.
use Rattle.std.specs.Prelude.{◌≡◌, ◌⊎◌, ℕ, ◌+◌, ◌==◌, ◌&&◌, ◌||◌, List, [], ◌∷◌, Bool, true, false, not, Option, Some, None, find, filter, fold, map, slice_get, if◌then◌else◌}
use Rattle.std.specs.List.{list_any}
use Rattle.std.specs.Option.{option_eq, option_or}
use Rattle.std.specs.Str.{bytes_eq}
use Rattle.aq_base.specs.declared.DbId.{DbId}
use Rattle.aq_base.specs.declared.DbId.TheVariants.{Home, Away}
use Rattle.slot_marks.specs.Marks.{SessionMarks, marks_of}
use Rattle.slot_marks.specs.declared.mark.Mark.{Mark}
use Rattle.slot_marks.specs.declared.mark.Group.{Group}
use Rattle.queue_rows.specs.Rows.{put_by, find_message, exception_name}
use Rattle.queue_rows.specs.declared.tables.Tables.{Tables}
use Rattle.queue_rows.specs.declared.rows.MsgRow.{MsgRow}
use Rattle.queue_rows.specs.declared.statement.MsgId.{MsgId}
use Rattle.queue_rows.specs.declared.session.Pending.{Pending}
use Rattle.queue_rows.specs.declared.session.Position.{Position}
use Rattle.queue_rows.specs.declared.change.Change.{Change}
use Rattle.queue_rows.specs.declared.change.Change.TheVariants.{DropTable, DropQueue}

-- a call whose reply was not told yet, with the numbers of commits made up to it
pub record Untold : Type 0 where
  pub number : ℕ
  pub home : ℕ
  pub away : ℕ

-- a session: its database, how many of its statements were called, what it has done and not committed, its marks in the
-- order taken, where it stands in queues, since when its next statement waits, what is to be told, and whether it goes on
pub record Session : Type 0 where
  pub at : DbId
  pub next : ℕ
  pub pending : List Pending
  pub marks : List Mark
  pub positions : List Position
  pub parked : Option ℕ
  pub untold : Option Untold
  pub live : Bool

abbrev pub fresh_at : DbId → Session
fresh_at at = record { at = at; next = 0; pending = []; marks = []; positions = []; parked = None; untold = None; live = true }

abbrev pub is_same_db : DbId → DbId → Bool
is_same_db Home Home = true
is_same_db Home Away = false
is_same_db Away Home = false
is_same_db Away Away = true

abbrev pub is_same_consumer : Option (List ℕ) → Option (List ℕ) → Bool
is_same_consumer a b = option_eq bytes_eq a b

-- the committed message of an id; an id of the other database names none of this one
abbrev pub message_named : Tables → DbId → MsgId → Option MsgRow
message_named t db id = if is_same_db id.db db then find_message t id.number else None

-- ---- marks

abbrev pub marks_slot : ℕ → ℕ → Mark → Bool
marks_slot id slot mark = (mark.id == id) && (mark.slot == slot)

abbrev pub is_same_group : Group → Group → Bool
is_same_group a b = bytes_eq a.queue b.queue && (a.number == b.number) && is_same_consumer a.consumer b.consumer

abbrev pub marks_group : Option Group → Mark → Bool
marks_group None mark = false
marks_group (Some group) mark = is_marked mark.group
  where
    is_marked : Option Group → Bool
    is_marked None = false
    is_marked (Some marked) = is_same_group group marked

-- a mark holds its slot, and in a grouped queue the slots of its group
abbrev pub holds : ℕ → ℕ → Option Group → Mark → Bool
holds id slot group mark = marks_slot id slot mark || marks_group group mark

-- some session but the asking one holds the slot; number is that of the first session of the list
abbrev pub is_held_from : ℕ → ℕ → DbId → ℕ → ℕ → Option Group → List Session → Bool
is_held_from number actor db id slot group [] = false
is_held_from number actor db id slot group (s ∷ more) =
    (not (number == actor) && is_same_db s.at db && list_any (holds id slot group) s.marks)
    || is_held_from (number + 1) actor db id slot group more

abbrev pub is_held : List Session → ℕ → DbId → ℕ → ℕ → Option Group → Bool
is_held sessions actor db id slot group = is_held_from 0 actor db id slot group sessions

-- the first session of that database, but the asking one, with such a mark; number is that of the first one of the list
abbrev pub marker_from : ℕ → ℕ → DbId → (Mark → Bool) → List Session → Option ℕ
marker_from number actor db is_it [] = None
marker_from number actor db is_it (s ∷ more) =
    if not (number == actor) && is_same_db s.at db && list_any is_it s.marks then Some number else marker_from (number + 1) actor db is_it more

-- who holds the slot: the session that has it marked, or, where no other has, the one that has its group
abbrev pub holder : List Session → ℕ → DbId → ℕ → ℕ → Option Group → Option ℕ
holder sessions actor db id slot group =
    option_or (marker_from 0 actor db (marks_slot id slot) sessions) (marker_from 0 actor db (marks_group group) sessions)

-- the session itself has removed the slot
abbrev pub has_removed : Session → ℕ → ℕ → Bool
has_removed s id slot = list_any (λ mark. mark.removed && marks_slot id slot mark) s.marks

abbrev pub without_mark : ℕ → ℕ → List Mark → List Mark
without_mark id slot marks = filter (λ mark. not (marks_slot id slot mark)) marks

-- ---- positions

abbrev pub is_position : List ℕ → Option (List ℕ) → Position → Bool
is_position queue consumer p = bytes_eq p.queue queue && is_same_consumer p.consumer consumer

abbrev pub position_in : Session → List ℕ → Option (List ℕ) → Option Position
position_in s queue consumer = find (is_position queue consumer) s.positions

abbrev pub is_same_position : Position → Position → Bool
is_same_position a b = is_position b.queue b.consumer a

-- the session stands at that message
abbrev pub positioned : Position → List Position → List Position
positioned p positions = put_by is_same_position p positions

-- ---- queues that go

abbrev pub not_standing_in : DbId → List ℕ → Session → Session
not_standing_in db queue s = if is_same_db s.at db then record s { positions = filter (λ p. not (bytes_eq p.queue queue)) s.positions } else s

-- the sessions of the database no longer stand in the queue
abbrev pub without_positions : DbId → List ℕ → List Session → List Session
without_positions db queue sessions = map (not_standing_in db queue) sessions

-- with a table its default exception queue goes
abbrev pub after_drop : DbId → List Session → Change → List Session
after_drop db sessions (DropQueue name) = without_positions db name sessions
after_drop db sessions (DropTable name) = without_positions db (exception_name name) sessions
after_drop db sessions _ = sessions

-- where these changes of the database drop queues, its sessions no longer stand in them
unfoldable pub standing_after : DbId → List Change → List Session → List Session
standing_after db cs sessions = fold (after_drop db) sessions cs

-- the locks of a database keep the marks of its sessions under their numbers, and no others
pub record AreMarks (db : DbId) (sessions : List Session) (locks : List SessionMarks) : Type 0 where
  pub own : (i : ℕ) (s : Session) → slice_get sessions i ≡ Some s → s.at ≡ db → s.marks ≡ marks_of locks i
  pub only : (i : ℕ) → (marks_of locks i ≡ []) ⊎ ((s : Session) × (slice_get sessions i ≡ Some s) × (s.at ≡ db))
