-- The rows of tables have a spelling, and so have those after a commit that has one and leaves the tables valid.
use Rattle.std.proofs.Common.{◌≡◌, ℕ, ◌-◌, ℤ, Bool, true, false, not, max, length, List, [], ◌∷◌, ◌++◌, Option, Some, None, refl, arith}
use Rattle.std.specs.Prelude.{◌==◌, ◌&&◌, fold, int_lt, is_some, nat_le, if◌then◌else◌}
use Rattle.std.specs.List.{AllByRecursion, list_all}
use Rattle.std.specs.Option.{IfSome}
use Rattle.std.specs.Str.{bytes_eq}
use Rattle.std.proofs.lemmas.Bool.{and_parts, false≢true, leb-true}
use Rattle.aq_base.specs.declared.limits.TheConstants.{RECIPIENT_LIMIT}
use Rattle.queue_rows.specs.Rows.{changed_first, changed_nth, exception_name, find_message, find_queue, find_table, has_slot, is_same_queue, is_same_schedule, is_same_sub, is_same_table, put_by, recipient_count, removed_first, slot_index, with_slot}
use Rattle.queue_rows.specs.Tables.{after, after_all, after_change, changed_message, drop_queue, drop_table, in_state, is_grouped, lane_of, lowered, lowered_by, move_in, move_some, moved_to, retried, slot_zero, with_message}
use Rattle.queue_rows.specs.Valid.{is_valid, is_valid_message, is_valid_message_at, is_valid_message_in}
use Rattle.queue_rows.specs.declared.rows.MsgRow.{MsgRow}
use Rattle.queue_rows.specs.declared.rows.QueueRow.{QueueRow}
use Rattle.queue_rows.specs.declared.rows.ScheduleRow.{ScheduleRow}
use Rattle.queue_rows.specs.declared.rows.SeenRow.{SeenRow}
use Rattle.queue_rows.specs.declared.rows.SlotRow.{SlotRow}
use Rattle.queue_rows.specs.declared.rows.SlotState.{SlotState}
use Rattle.queue_rows.specs.declared.rows.SlotState.TheVariants as states
use Rattle.queue_rows.specs.declared.rows.SubRow.{SubRow}
use Rattle.queue_rows.specs.declared.rows.TableRow.{TableRow}
use Rattle.queue_rows.specs.declared.tables.Tables.{Tables}
use Rattle.queue_rows.specs.declared.change.Change.{Change}
use Rattle.queue_rows.specs.declared.change.Change.TheVariants as changes
use Rattle.queue_rows.specs.declared.change.Commit.{Commit}
use Rattle.redo_journal.specs.Journal.{written_version}
use Rattle.redo_records.specs.Spelled.{HasSpelling, IsMsgRow, IsName, IsNumber, IsQueueRow, IsScheduleRow, IsSeenRow, IsSlotRow, IsSpelled, IsSubRow, IsTableRow}
use Rattle.redo_records.specs.Spelling.{zigzag}
use Rattle.valid_laws.proofs.Parts.{and_l, and_r, valid_messages}
use Rattle.database_recovery.specs.Sound.{HasSpelledRows}
use Rattle.database_recovery.proofs.Each.{all_changed, all_changed_nth, all_found, all_kept, all_last, all_put, all_weaker, all_without_first}

-- ---- messages

-- all of a message but how many slots it has: within a commit a move may add one to any number of them
record IsKeptMessage (m : MsgRow) : Type 0 where
  without_slots : IsMsgRow written_version (record m { slots = [] })
  slots : AllByRecursion IsSlotRow m.slots

not_first : {A : Type 0} → written_version ≡ 1 → A
not_first e = absurd (omega arith)

read_message : (version : ℕ) (m : MsgRow) → IsMsgRow version m → IsKeptMessage m
read_message version m h = record {
  without_slots = record {
    id = h.id;
    queue = h.queue;
    place = h.place;
    priority = h.priority;
    corr = h.corr;
    exception = h.exception;
    cells = h.cells;
    enq = h.enq;
    group = h.group;
    slots = (omega arith, tt);
    props = (λ e. not_first e, h.props.1);
  };
  slots = h.slots.1;
}

few_part : (t : Tables) (queue : QueueRow) (table : TableRow) (m : MsgRow) → is_valid_message_in t queue (Some table) m ≡ true → nat_le (recipient_count m) RECIPIENT_LIMIT ≡ true
few_part t queue table m h = search (and_l, and_r) depth 12

few_in : (t : Tables) (queue : QueueRow) (m : MsgRow) (table : Option TableRow) → is_valid_message_in t queue table m ≡ true → nat_le (recipient_count m) RECIPIENT_LIMIT ≡ true
few_in t queue m None h = absurd (false≢true h)
few_in t queue m (Some table) h = few_part t queue table m h

few_at : (t : Tables) (m : MsgRow) (queue : Option QueueRow) → is_valid_message_at t queue m ≡ true → nat_le (recipient_count m) RECIPIENT_LIMIT ≡ true
few_at t m None h = absurd (false≢true h)
few_at t m (Some queue) h = few_in t queue m (find_table t queue.table) h

few_slots : (n : ℕ) (moved : Bool) → nat_le (if moved then n - 1 else n) RECIPIENT_LIMIT ≡ true → IsNumber n
few_slots n true h = let le = leb-true (n - 1) RECIPIENT_LIMIT h in omega (arith, le)
few_slots n false h = let le = leb-true n RECIPIENT_LIMIT h in omega (arith, le)

-- a number counts the slots of a message in valid tables
whole_message : (t : Tables) (m : MsgRow) → is_valid_message t m ≡ true → IsKeptMessage m → IsMsgRow written_version m
whole_message t m v k =
    let w = k.without_slots in
    record {
      id = w.id;
      queue = w.queue;
      place = w.place;
      priority = w.priority;
      corr = w.corr;
      exception = w.exception;
      cells = w.cells;
      enq = w.enq;
      group = w.group;
      slots = (few_slots (length m.slots) m.moved (few_at t m (find_queue t m.queue) v), k.slots);
      props = w.props;
    }

whole_messages : (t : Tables) (ms : List MsgRow) → list_all (is_valid_message t) ms ≡ true → AllByRecursion IsKeptMessage ms → AllByRecursion (IsMsgRow written_version) ms
whole_messages t [] v k = tt
whole_messages t (m ∷ ms) v k =
    let e = and_parts (is_valid_message t m) (list_all (is_valid_message t) ms) v in (whole_message t m e.0 k.0, whole_messages t ms e.1 k.1)

-- ---- slots

retried_slot : (retries : ℕ) (until : Option ℕ) (at : ℕ) → IsNumber retries → IfSome until IsNumber → IsNumber at → (s : SlotRow) → IsSlotRow s → IsSlotRow (retried retries until at s)
retried_slot retries None at r u a s h = record { name = h.name; address = h.address; retries = r; at = a; expires = h.expires }
retried_slot retries (Some until) at r u a s h = record { name = h.name; address = h.address; retries = r; at = u; expires = h.expires }

in_state_slot : (state : SlotState) (at : ℕ) → IsNumber at → (s : SlotRow) → IsSlotRow s → IsSlotRow (in_state state at s)
in_state_slot state at a s h = record { name = h.name; address = h.address; retries = h.retries; at = a; expires = h.expires }

slots_by : (f : SlotRow → SlotRow) → ((s : SlotRow) → IsSlotRow s → IsSlotRow (f s)) → (i : ℕ) (slots : List SlotRow) → AllByRecursion IsSlotRow slots → (there : Bool)
    → AllByRecursion IsSlotRow (if there then changed_nth f i slots else slots)
slots_by f keeps i slots h true = all_changed_nth IsSlotRow f keeps slots i h
slots_by f keeps i slots h false = h

with_slot_kept : (slot : ℕ) (f : SlotRow → SlotRow) → ((s : SlotRow) → IsSlotRow s → IsSlotRow (f s)) → (m : MsgRow) → IsKeptMessage m → IsKeptMessage (with_slot slot f m)
with_slot_kept slot f keeps m k = record {
  without_slots = k.without_slots;
  slots = slots_by f keeps (slot_index m slot) m.slots k.slots (has_slot m slot);
}

greater : (a b : ℕ) → IsNumber a → IsNumber b → IsNumber (max a b)
greater a b h k = omega arith

most_number : (slots : List SlotRow) (most : ℕ) → IsNumber most → AllByRecursion IsSlotRow slots → IsNumber (fold (λ most s. max most s.retries) most slots)
most_number [] most h k = h
most_number (s ∷ slots) most h k = most_number slots (max most s.retries) (greater most s.retries h k.0.retries) k.1

zero_is_number : IsNumber 0
zero_is_number = omega arith

moved_kept : (queue : List ℕ) (at : ℕ) (m : MsgRow) → IsName queue → IsNumber at → IsKeptMessage m → IsKeptMessage (moved_to queue at m)
moved_kept queue at m name moment k =
    let w = k.without_slots in
    let zero_row : IsSlotRow (slot_zero m.slots at) = record {
      name = tt;
      address = tt;
      retries = most_number m.slots 0 zero_is_number k.slots;
      at = moment;
      expires = tt;
    } in
    record {
      without_slots = record {
        id = w.id;
        queue = name;
        place = w.place;
        priority = w.priority;
        corr = w.corr;
        exception = w.exception;
        cells = w.cells;
        enq = w.enq;
        group = w.group;
        slots = w.slots;
        props = w.props;
      };
      slots = all_last IsSlotRow m.slots (slot_zero m.slots at) k.slots zero_row;
    }

-- ---- lanes

lane_number : (place : List ℤ) → AllByRecursion (λ z. IsNumber (zigzag z)) place → IsNumber (zigzag (lane_of place))
lane_number [] h = zero_is_number
lane_number (z ∷ place) h = h.0

lesser : (a b : ℤ) (less : Bool) → IsNumber (zigzag a) → IsNumber (zigzag b) → IsNumber (zigzag (if less then a else b))
lesser a b true h k = h
lesser a b false h k = k

lowered_queue : (grouped : Bool) (place : List ℤ) (q : QueueRow) → IsNumber (zigzag (lane_of place)) → IsQueueRow q → IsQueueRow (lowered_by grouped place q)
lowered_queue true place q lane h = h
lowered_queue false place q lane h = record {
  name = h.name;
  table = h.table;
  max_retries = h.max_retries;
  retry_delay = h.retry_delay;
  retention = h.retention;
  lowest = lesser q.lowest (lane_of place) (int_lt q.lowest (lane_of place)) h.lowest lane;
}

lowered_queues : (t : Tables) (m : MsgRow) (name : List ℕ) → IsKeptMessage m → AllByRecursion IsQueueRow t.queues
    → AllByRecursion IsQueueRow (changed_first (λ q. bytes_eq q.name name) (lowered t m) t.queues)
lowered_queues t m name h k =
    all_changed IsQueueRow (λ q. bytes_eq q.name name) (lowered t m)
    (λ q is. lowered_queue (is_grouped t.tables q) m.place q (lane_number m.place h.without_slots.place.1) is) t.queues k

-- ---- tables

-- what is kept from change to change
record AreKept (t : Tables) : Type 0 where
  tables : AllByRecursion IsTableRow t.tables
  queues : AllByRecursion IsQueueRow t.queues
  subs : AllByRecursion IsSubRow t.subs
  schedules : AllByRecursion IsScheduleRow t.schedules
  messages : AllByRecursion IsKeptMessage t.messages
  seen : AllByRecursion IsSeenRow t.seen

other_tables : (t : Tables) (rows : List TableRow) → AllByRecursion IsTableRow rows → AreKept t → AreKept (record t { tables = rows })
other_tables t rows h k = record { tables = h; queues = k.queues; subs = k.subs; schedules = k.schedules; messages = k.messages; seen = k.seen }

other_queues : (t : Tables) (rows : List QueueRow) → AllByRecursion IsQueueRow rows → AreKept t → AreKept (record t { queues = rows })
other_queues t rows h k = record { tables = k.tables; queues = h; subs = k.subs; schedules = k.schedules; messages = k.messages; seen = k.seen }

other_subs : (t : Tables) (rows : List SubRow) → AllByRecursion IsSubRow rows → AreKept t → AreKept (record t { subs = rows })
other_subs t rows h k = record { tables = k.tables; queues = k.queues; subs = h; schedules = k.schedules; messages = k.messages; seen = k.seen }

other_schedules : (t : Tables) (rows : List ScheduleRow) → AllByRecursion IsScheduleRow rows → AreKept t → AreKept (record t { schedules = rows })
other_schedules t rows h k = record { tables = k.tables; queues = k.queues; subs = k.subs; schedules = h; messages = k.messages; seen = k.seen }

other_messages : (t : Tables) (rows : List MsgRow) → AllByRecursion IsKeptMessage rows → AreKept t → AreKept (record t { messages = rows })
other_messages t rows h k = record { tables = k.tables; queues = k.queues; subs = k.subs; schedules = k.schedules; messages = h; seen = k.seen }

other_seen : (t : Tables) (rows : List SeenRow) → AllByRecursion IsSeenRow rows → AreKept t → AreKept (record t { seen = rows })
other_seen t rows h k = record { tables = k.tables; queues = k.queues; subs = k.subs; schedules = k.schedules; messages = k.messages; seen = h }

-- ---- parts of changes

with_change : (t : Tables) (id : ℕ) (f : MsgRow → MsgRow) → ((m : MsgRow) → IsKeptMessage m → IsKeptMessage (f m)) → AreKept t → AreKept (changed_message t id f)
with_change t id f keeps k =
    other_messages t (changed_first (λ m. m.id == id) f t.messages) (all_changed IsKeptMessage (λ m. m.id == id) f keeps t.messages k.messages) k

with_slot_change : (t : Tables) (id slot : ℕ) (f : SlotRow → SlotRow) → ((s : SlotRow) → IsSlotRow s → IsSlotRow (f s)) → AreKept t → AreKept (changed_message t id (with_slot slot f))
with_slot_change t id slot f keeps k = with_change t id (with_slot slot f) (λ m h. with_slot_kept slot f keeps m h) k

with_new : (t : Tables) (m : MsgRow) → IsKeptMessage m → AreKept t → AreKept (with_message t m)
with_new t m h k = record {
  tables = k.tables;
  queues = lowered_queues t m m.queue h k.queues;
  subs = k.subs;
  schedules = k.schedules;
  messages = all_last IsKeptMessage t.messages m k.messages h;
  seen = k.seen;
}

without_a_queue : (t : Tables) (name : List ℕ) (there : Bool) → AreKept t → AreKept (if there then drop_queue t name else t)
without_a_queue t name true k = record {
  tables = k.tables;
  queues = all_without_first IsQueueRow (λ q. bytes_eq q.name name) t.queues k.queues;
  subs = all_kept IsSubRow (λ s. not (bytes_eq s.queue name)) t.subs k.subs;
  schedules = all_kept IsScheduleRow (λ s. not (bytes_eq s.queue name)) t.schedules k.schedules;
  messages = all_kept IsKeptMessage (λ m. not (bytes_eq m.queue name)) t.messages k.messages;
  seen = k.seen;
}
without_a_queue t name false k = k

without_a_table : (t : Tables) (name : List ℕ) (there : Bool) → AreKept t → AreKept (if there then drop_table t name else t)
without_a_table t name true k = record {
  tables = all_without_first IsTableRow (λ r. bytes_eq r.name name) t.tables k.tables;
  queues = all_without_first IsQueueRow (λ q. bytes_eq q.name (exception_name name)) t.queues k.queues;
  subs = k.subs;
  schedules = k.schedules;
  messages = k.messages;
  seen = k.seen;
}
without_a_table t name false k = k

moves : (t : Tables) (m : MsgRow) (queue : List ℕ) (at : ℕ) → IsName queue → IsNumber at → IsKeptMessage m → AreKept t → (there : Bool) → AreKept (if there then move_in t m queue at else t)
moves t m queue at name moment h k true = record {
  tables = k.tables;
  queues = lowered_queues t (moved_to queue at m) queue (moved_kept queue at m name moment h) k.queues;
  subs = k.subs;
  schedules = k.schedules;
  messages = all_changed IsKeptMessage (λ r. r.id == m.id) (moved_to queue at) (λ r is. moved_kept queue at r name moment is) t.messages k.messages;
  seen = k.seen;
}
moves t m queue at name moment h k false = k

with_move : (t : Tables) (found : Option MsgRow) (queue : List ℕ) (at : ℕ) → ((m : MsgRow) → found ≡ Some m → IsKeptMessage m) → IsName queue → IsNumber at → AreKept t → AreKept (move_some t found queue at)
with_move t None queue at has name moment k = k
with_move t (Some m) queue at has name moment k = moves t m queue at name moment (has m refl) k (is_some (find_queue t queue))

-- ---- changes

keeps : (version : ℕ) (t : Tables) (c : Change) → IsSpelled version c → AreKept t → AreKept (after_change t c)
keeps version t (changes.PutTable row) h k = other_tables t (put_by is_same_table row t.tables) (all_put IsTableRow is_same_table row t.tables k.tables h) k
keeps version t (changes.DropTable name) h k = without_a_table t name (is_some (find_table t name)) k
keeps version t (changes.PutQueue row) h k = other_queues t (put_by is_same_queue row t.queues) (all_put IsQueueRow is_same_queue row t.queues k.queues h) k
keeps version t (changes.DropQueue name) h k = without_a_queue t name (is_some (find_queue t name)) k
keeps version t (changes.PutSub row) h k = other_subs t (put_by is_same_sub row t.subs) (all_put IsSubRow is_same_sub row t.subs k.subs h) k
keeps version t (changes.DropSub queue name) h k =
    let is_it : SubRow → Bool = λ s. bytes_eq s.queue queue && bytes_eq s.name name in other_subs t (removed_first is_it t.subs) (all_without_first IsSubRow is_it t.subs k.subs) k
keeps version t (changes.PutSchedule row) h k = other_schedules t (put_by is_same_schedule row t.schedules) (all_put IsScheduleRow is_same_schedule row t.schedules k.schedules h) k
keeps version t (changes.DropSchedule queue to) h k =
    let is_it : ScheduleRow → Bool = λ s. bytes_eq s.queue queue && bytes_eq s.to to in
    other_schedules t (removed_first is_it t.schedules) (all_without_first IsScheduleRow is_it t.schedules k.schedules) k
keeps version t (changes.Enqueued row) h k = with_new t row (read_message version row h) k
keeps version t (changes.Retried id slot retries until at) h k = with_slot_change t id slot (retried retries until at) (retried_slot retries until at h.1.1.0 h.1.1.1.0 h.1.1.1.1) k
keeps version t (changes.Ready id slot at) h k = with_slot_change t id slot (in_state states.Ready at) (in_state_slot states.Ready at h.1.1) k
keeps version t (changes.Done id slot at) h k = with_slot_change t id slot (in_state states.Processed at) (in_state_slot states.Processed at h.1.1) k
keeps version t (changes.Expired id slot at) h k = with_slot_change t id slot (in_state states.Expired at) (in_state_slot states.Expired at h.1.1) k
keeps version t (changes.Dropped id slot at) h k = with_slot_change t id slot (in_state states.Dropped at) (in_state_slot states.Dropped at h.1.1) k
keeps version t (changes.Moved id queue at) h k =
    with_move t (find_message t id) queue at (λ m e. all_found IsKeptMessage (λ r. r.id == id) t.messages m k.messages e) h.1.0 h.1.1 k
keeps version t (changes.Purged id) h k = other_messages t (removed_first (λ m. m.id == id) t.messages) (all_without_first IsKeptMessage (λ m. m.id == id) t.messages k.messages) k
keeps version t (changes.Seen row) h k = other_seen t (t.seen ++ row ∷ []) (all_last IsSeenRow t.seen row k.seen h) k
keeps version t (changes.Counters next transaction latest) h k = record { tables = k.tables; queues = k.queues; subs = k.subs; schedules = k.schedules; messages = k.messages; seen = k.seen }

keeps_all : (version : ℕ) (t : Tables) (cs : List Change) → AllByRecursion (IsSpelled version) cs → AreKept t → AreKept (after_all t cs)
keeps_all version t [] h k = k
keeps_all version t (c ∷ cs) h k = keeps_all version (after_change t c) cs h.1 (keeps version t c h.0 k)

-- ---- commits

pub rows_after : (version : ℕ) (t : Tables) (c : Commit) → HasSpelling version c → is_valid (after t c) ≡ true → HasSpelledRows t → HasSpelledRows (after t c)
unfolding after
rows_after version t c spelled valid rows =
    let k : AreKept t = record {
      tables = rows.tables;
      queues = rows.queues;
      subs = rows.subs;
      schedules = rows.schedules;
      messages = all_weaker (IsMsgRow written_version) IsKeptMessage (read_message written_version) t.messages rows.messages;
      seen = rows.seen;
    } in
    let u = keeps_all version t c.changes spelled.changes k in
    record {
      tables = u.tables;
      queues = u.queues;
      subs = u.subs;
      schedules = u.schedules;
      messages = whole_messages (after t c) (after t c).messages (valid_messages (after t c) valid) u.messages;
      seen = u.seen;
    }
