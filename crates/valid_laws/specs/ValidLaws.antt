-- The laws of valid tables and of due work.
use Rattle.std.specs.Prelude.{◌≡◌, ◌≤◌, ◌<◌, ◌+◌, ℕ, pos, neg_ℤ, int_le, max, length, List, [], ◌∷◌, Bool, true, false, Option, Some, None, is_some}
use Rattle.std.specs.List.{list_any, list_all}
use Rattle.std.specs.Str.{bytes_eq}
use Rattle.aq_base.specs.declared.DbId.{DbId}
use Rattle.aq_base.specs.declared.limits.TheConstants.{MOMENT_LIMIT, NEXT_LIMIT, SUBSCRIBER_LIMIT}
use Rattle.queue_rows.specs.Rows.{find_message, find_queue, find_table, find_sub, find_schedule, table_of, exception_name, slot_of}
use Rattle.queue_rows.specs.Tables.{after_change, changed_slot, is_grouped, lane_of}
use Rattle.queue_rows.specs.Session.{Session}
use Rattle.queue_rows.specs.World.{committed_tables}
use Rattle.queue_rows.specs.Due.{due}
use Rattle.queue_rows.specs.Valid.{is_valid, has_right_retries, has_allowed_retries, has_begun, is_right_slot_zero, has_right_cells, has_right_place, has_right_props, has_right_slots, is_same_seen, takes_subscribers, is_right_rule, is_valid_queue, is_valid_schedule}
use Rattle.queue_rows.specs.Catalog.{is_table_used}
use Rattle.queue_rows.specs.Recipients.{subscribers_of}
use Rattle.queue_rows.specs.Within.{if_some}
use Rattle.queue_rows.specs.Fits.{fits, is_unmoved_at, names_what_is_there}
use Rattle.queue_rows.specs.Settling.{is_exception, settled}
use Rattle.queue_rows.specs.declared.tables.Tables.{Tables}
use Rattle.queue_rows.specs.declared.rows.MsgRow.{MsgRow}
use Rattle.queue_rows.specs.declared.rows.SlotRow.{SlotRow}
use Rattle.queue_rows.specs.declared.rows.QueueRow.{QueueRow}
use Rattle.queue_rows.specs.declared.rows.TableRow.{TableRow}
use Rattle.queue_rows.specs.declared.rows.SubRow.{SubRow}
use Rattle.queue_rows.specs.declared.rows.SeenRow.{SeenRow}
use Rattle.queue_rows.specs.declared.change.Change.{Change}
use Rattle.queue_rows.specs.declared.change.Change.TheVariants as changes
use Rattle.queue_rows.specs.declared.history.SlotRef.{SlotRef}
use Rattle.valid_laws.specs.Openness.{is_open_at, may_move}

-- ---- due work

-- after a commit of what is due at a database nothing is due there at that moment; its tables need but be valid
abbrev pub NothingDueAt : Type 0
NothingDueAt = (t : Tables) (sessions : List Session) (db : DbId) (sent : Option SlotRef) (moment : ℕ) → is_valid t ≡ true
    → due (committed_tables t (due t sessions db sent moment) moment) sessions db sent moment ≡ []

-- ---- valid tables

-- what a message's slot becomes is as it may be in its queue; of a moved message it is slot 0
pub record MayBeChanged (latest : ℕ) (queue : QueueRow) (m : MsgRow) (slot : ℕ) (f : SlotRow → SlotRow) : Type 0 where
  pub name : (s : SlotRow) → (f s).name ≡ s.name
  pub address : (s : SlotRow) → (f s).address ≡ s.address
  pub retries : (s : SlotRow) → slot_of m slot ≡ Some s → has_right_retries (f s) ≡ true
  pub allowed : m.moved ≡ false → (s : SlotRow) → slot_of m slot ≡ Some s → has_allowed_retries queue (f s) ≡ true
  pub begun : (s : SlotRow) → slot_of m slot ≡ Some s → has_begun latest (f s) ≡ true
  pub zero : m.moved ≡ true → (slot ≡ 0) × ((s : SlotRow) → slot_of m slot ≡ Some s → is_right_slot_zero (Some (f s)) ≡ true)

-- a slot that is changed as it may be keeps valid tables valid
abbrev pub SlotKeepsValid : Type 0
SlotKeepsValid = (t : Tables) (id slot : ℕ) (f : SlotRow → SlotRow) → is_valid t ≡ true
    → ((m : MsgRow) (queue : QueueRow) → find_message t id ≡ Some m → find_queue t m.queue ≡ Some queue → MayBeChanged t.latest queue m slot f)
    → is_valid (changed_slot t id slot f) ≡ true

-- valid tables stay valid at a later moment, as a commit's
abbrev pub LaterIsValid : Type 0
LaterIsValid = (t : Tables) (latest : ℕ) → is_valid t ≡ true → t.latest ≤ latest → latest ≤ MOMENT_LIMIT
    → is_valid (record t { latest = latest }) ≡ true

-- ---- changes that keep tables valid

-- the slot is open, and what becomes of it does so at a moment up to the latest
pub record ChangesOpen (t : Tables) (id slot at : ℕ) : Type 0 where
  pub is_open_there : is_open_at t id slot ≡ true
  pub in_time : at ≤ t.latest

-- its message was never moved
pub record ChangesUnmoved (t : Tables) (id slot at : ℕ) : Type 0 where
  pub changes_open : ChangesOpen t id slot at
  pub unmoved : is_unmoved_at t id ≡ true

-- its queue allows so many retries
pub record Retries (t : Tables) (id slot retries at : ℕ) : Type 0 where
  pub changes_unmoved : ChangesUnmoved t id slot at
  pub few : (m : MsgRow) (queue : QueueRow) → find_message t id ≡ Some m → find_queue t m.queue ≡ Some queue → retries ≤ queue.max_retries

-- the message was never moved and no slot of it is open, and the queue is an exception queue of its table
pub record MovesRight (t : Tables) (id : ℕ) (queue : List ℕ) (at : ℕ) : Type 0 where
  pub message : MsgRow
  pub from : QueueRow
  pub to : QueueRow
  pub found : find_message t id ≡ Some message
  pub may : may_move message ≡ true
  pub from_is : find_queue t message.queue ≡ Some from
  pub to_is : find_queue t queue ≡ Some to
  pub exception : is_exception to.kind ≡ true
  pub table_is : to.table ≡ from.table
  pub in_time : at ≤ t.latest

-- the pair was not seen before, and its copy is no message still to come
pub record Sees (t : Tables) (row : SeenRow) : Type 0 where
  pub unseen : list_any (is_same_seen row) t.seen ≡ false
  pub behind : list_any (λ s. is_same_seen s row) t.seen ≡ false
  pub copy : row.copy < t.next

-- The message that is put in is new and was never moved, and it is right for its queue and its table; its slots are as those of a
-- valid message are. Its id may be the next one or one behind it, and so may its group, where the next group stays at most the next
-- id. Where the table is not grouped, its lane is not below the negated next id.
pub record PutsRight (t : Tables) (row : MsgRow) : Type 0 where
  pub queue : QueueRow
  pub table : TableRow
  pub new : find_message t row.id ≡ None
  pub queue_is : find_queue t row.queue ≡ Some queue
  pub table_is : find_table t queue.table ≡ Some table
  pub normal : is_exception queue.kind ≡ false
  pub unmoved : row.moved ≡ false
  pub typed : has_right_cells table row ≡ true
  pub place : has_right_place table row ≡ true
  pub lane : is_grouped t.tables queue ≡ false → int_le (neg_ℤ (pos (max t.next (row.id + 1)))) (lane_of row.place) ≡ true
  pub props : has_right_props row ≡ true
  pub slots : has_right_slots t table queue row ≡ true
  pub entered : row.enq ≤ t.latest
  pub id : 1 ≤ row.id
  pub id_within : row.id < NEXT_LIMIT
  pub group : 1 ≤ row.group
  pub groups : max t.transaction (row.group + 1) ≤ max t.next (row.id + 1)

-- the subscriber's queue takes subscribers and has room for one more, and its rule is right for the queue's table
pub record SubscribesRight (t : Tables) (row : SubRow) : Type 0 where
  pub takes : takes_subscribers t row.queue ≡ true
  pub room : length (subscribers_of t row.queue) < SUBSCRIBER_LIMIT
  pub rule : if_some (is_right_rule (table_of t row.queue)) row.rule ≡ true

-- the row is a valid queue's, and where the queue is there, its table, kind, most retries and lowest lane stay
pub record QueuePutsRight (t : Tables) (row : QueueRow) : Type 0 where
  pub valid : is_valid_queue t row ≡ true
  pub table : (old : QueueRow) → find_queue t row.name ≡ Some old → row.table ≡ old.table
  pub kind : (old : QueueRow) → find_queue t row.name ≡ Some old → row.kind ≡ old.kind
  pub retries : (old : QueueRow) → find_queue t row.name ≡ Some old → row.max_retries ≡ old.max_retries
  pub lowest : (old : QueueRow) → find_queue t row.name ≡ Some old → row.lowest ≡ old.lowest

-- the queue is there, and not the default exception queue of its table
pub record QueueGoes (t : Tables) (name : List ℕ) : Type 0 where
  pub queue : QueueRow
  pub found : find_queue t name ≡ Some queue
  pub further : bytes_eq name (exception_name queue.table) ≡ false

-- the table is there, no queue but its default exception queue belongs to it, and no message stands in that one
pub record TableGoes (t : Tables) (name : List ℕ) : Type 0 where
  pub table : TableRow
  pub found : find_table t name ≡ Some table
  pub unused : is_table_used t name ≡ false

-- What a change needs so that it keeps tables valid. A table that is put needs its exception queue with it (`NewTableFits`), and no
-- commit sets the numbers: of these two nothing is said here.
abbrev pub Keeps : Tables → Change → Type 0
Keeps t (changes.Enqueued row) = PutsRight t row
Keeps t (changes.Done id slot at) = ChangesOpen t id slot at
Keeps t (changes.Ready id slot at) = ChangesOpen t id slot at
Keeps t (changes.Expired id slot at) = ChangesUnmoved t id slot at
Keeps t (changes.Dropped id slot at) = ChangesUnmoved t id slot at
Keeps t (changes.Retried id slot retries until at) = Retries t id slot retries at
Keeps t (changes.Moved id queue at) = MovesRight t id queue at
Keeps t (changes.Purged id) = is_some (find_message t id) ≡ true
Keeps t (changes.Seen row) = Sees t row
Keeps t (changes.DropTable name) = TableGoes t name
Keeps t (changes.PutQueue row) = QueuePutsRight t row
Keeps t (changes.DropQueue name) = QueueGoes t name
Keeps t (changes.PutSub row) = SubscribesRight t row
Keeps t (changes.DropSub queue name) = is_some (find_sub t queue name) ≡ true
Keeps t (changes.PutSchedule row) = is_valid_schedule t row ≡ true
Keeps t (changes.DropSchedule queue to) = is_some (find_schedule t queue to) ≡ true
Keeps t _ = ⊥

-- each change does, in the tables that those before it leave
abbrev pub AllKeep : Tables → List Change → Type 0
AllKeep t [] = Unit {0}
AllKeep t (c ∷ cs) = Keeps t c × AllKeep (after_change t c) cs

-- such a change keeps valid tables valid, and names what is there
abbrev pub ChangeKeepsValid : Type 0
ChangeKeepsValid = (t : Tables) (c : Change) → is_valid t ≡ true → Keeps t c
    → (is_valid (after_change t c) ≡ true) × (names_what_is_there t c ≡ true)

-- a commit of such changes, at a moment no earlier than the latest, fits
abbrev pub CommitFits : Type 0
CommitFits = (t : Tables) (moment : ℕ) (cs : List Change) → is_valid t ≡ true → t.latest ≤ moment → moment ≤ MOMENT_LIMIT
    → AllKeep (record t { latest = moment }) cs → fits t (record { moment = moment; changes = cs }) ≡ true

-- ---- what is settled

-- it changes no queue but its lowest lane, takes none away, and sets no numbers
abbrev pub keeps_queues : Change → Bool
keeps_queues (changes.PutTable row) = false
keeps_queues (changes.DropTable name) = false
keeps_queues (changes.PutQueue row) = false
keeps_queues (changes.DropQueue name) = false
keeps_queues (changes.Counters next transaction latest) = false
keeps_queues _ = true

-- a commit of such changes fits with what they settle, where they leave queues as they are
abbrev pub SettledFits : Type 0
SettledFits = (t : Tables) (moment : ℕ) (cs : List Change) → is_valid t ≡ true → t.latest ≤ moment → moment ≤ MOMENT_LIMIT
    → AllKeep (record t { latest = moment }) cs → list_all keeps_queues cs ≡ true
    → fits t (record { moment = moment; changes = settled t cs }) ≡ true
