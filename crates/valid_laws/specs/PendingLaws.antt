-- The laws of what a session commits: what it has added and removed, and one removal at once.
use Rattle.std.specs.Prelude.{◌≡◌, ◌≤◌, ◌<◌, ◌+◌, ◌==◌, ◌&&◌, ℕ, ℤ, pos, negsuc, nat_lt, int_le, List, [], ◌∷◌, Bool, true, false, Some, None, All, AllPairs, if◌then◌else◌}
use Rattle.std.specs.List.{list_all}
use Rattle.aq_base.specs.declared.limits.TheConstants.{MOMENT_LIMIT, NEXT_LIMIT}
use Rattle.queue_rows.specs.Rows.{find_message, find_queue, find_table}
use Rattle.queue_rows.specs.Tables.{lane_of}
use Rattle.queue_rows.specs.Settling.{is_exception}
use Rattle.queue_rows.specs.Commits.{has_before, commit_of}
use Rattle.queue_rows.specs.Valid.{is_valid, is_waiting, has_right_cells, has_right_place, has_right_props, has_right_recipients, has_right_names}
use Rattle.queue_rows.specs.Fits.{fits}
use Rattle.queue_rows.specs.declared.tables.Tables.{Tables}
use Rattle.queue_rows.specs.declared.rows.TableRow.{TableRow}
use Rattle.queue_rows.specs.declared.rows.QueueRow.{QueueRow}
use Rattle.queue_rows.specs.declared.rows.MsgRow.{MsgRow}
use Rattle.queue_rows.specs.declared.rows.SlotRow.{SlotRow}
use Rattle.queue_rows.specs.declared.session.Pending.{Pending}
use Rattle.queue_rows.specs.declared.session.Pending.TheVariants.{Add, Remove}
use Rattle.valid_laws.specs.Openness.{is_open_at}

-- ---- one addition, one removal

-- nobody has had the slot: it waits, and was never rolled back
abbrev pub is_untried : SlotRow → Bool
is_untried s = is_waiting s.state && (s.retries == 0)

-- A message that a commit at that moment may put in: it is new, and right for a normal queue that is there and for its table, but
-- for its lane and its slots, which its commit makes right. Where it is to stand before another one, its lane is none below the
-- queue's lowest.
pub record IsAdditionRight (t : Tables) (moment : ℕ) (m : MsgRow) : Type 0 where
  pub queue : QueueRow
  pub table : TableRow
  pub new : find_message t m.id ≡ None
  pub queue_is : find_queue t m.queue ≡ Some queue
  pub table_is : find_table t queue.table ≡ Some table
  pub normal : is_exception queue.kind ≡ false
  pub unmoved : m.moved ≡ false
  pub typed : has_right_cells table m ≡ true
  pub place : has_right_place table m ≡ true
  pub lane : has_before table.columns m.place ≡ true → int_le queue.lowest (lane_of m.place) ≡ true
  pub props : has_right_props m ≡ true
  pub recipients : has_right_recipients m ≡ true
  pub names : has_right_names table m ≡ true
  pub untried : list_all is_untried m.slots ≡ true
  pub entered : m.enq ≤ moment
  pub id : 1 ≤ m.id
  pub id_within : m.id < NEXT_LIMIT

-- an addition is such a message; a removal is of a slot that can still be taken
abbrev pub IsPendingRight : Tables → ℕ → Pending → Type 0
IsPendingRight t moment (Add m) = IsAdditionRight t moment m
IsPendingRight t moment (Remove id slot) = is_open_at t id slot ≡ true

-- ---- all of them

-- ids were given in the order of the additions, and no slot is removed twice
abbrev pub AreApart : Pending → Pending → Type 0
AreApart (Add a) (Add b) = a.id < b.id
AreApart (Remove id slot) (Remove other behind) = ((id == other) && (slot == behind)) ≡ false
AreApart (Add a) (Remove id slot) = Unit {0}
AreApart (Remove id slot) (Add a) = Unit {0}

-- how many of the additions have ids that the tables have passed
abbrev pub count_passed : ℕ → List Pending → ℕ
count_passed next [] = 0
count_passed next (Add m ∷ more) = (if nat_lt m.id next then 1 else 0) + count_passed next more
count_passed next (Remove id slot ∷ more) = count_passed next more

-- how far below 0 a lane is
abbrev pub depth_of : ℤ → ℕ
depth_of (pos n) = 0
depth_of (negsuc n) = n + 1

-- Room for messages that are still to be put in, where held says how many of them have ids below a number: for each a lane below each
-- queue's lowest and a group, now and when further ids have been passed.
pub record HasRoom (t : Tables) (held : ℕ → ℕ) : Type 0 where
  pub lanes : (next : ℕ) → t.next ≤ next → (name : List ℕ) (queue : QueueRow) → find_queue t name ≡ Some queue → held next + depth_of queue.lowest ≤ next
  pub groups : (next : ℕ) → t.next ≤ next → held next + t.transaction ≤ next

-- What is pending may be committed at that moment. Of ids that the tables have passed, those that no commit has used leave room: a
-- lane for each of them below each queue's lowest, and a group where there is one of them.
pub record MayCommit (t : Tables) (moment : ℕ) (pending : List Pending) : Type 0 where
  pub right : All (IsPendingRight t moment) pending
  pub apart : AllPairs AreApart pending
  pub lanes : (name : List ℕ) (queue : QueueRow) → find_queue t name ≡ Some queue → count_passed t.next pending + depth_of queue.lowest ≤ t.next
  pub groups : 0 < count_passed t.next pending → t.transaction < t.next

-- ---- the laws

-- what may be committed fits, with what it settles
abbrev pub PendingFits : Type 0
PendingFits = (t : Tables) (moment : ℕ) (pending : List Pending) → is_valid t ≡ true → t.latest ≤ moment → moment ≤ MOMENT_LIMIT
    → MayCommit t moment pending → fits t (record { moment = moment; changes = commit_of t moment pending }) ≡ true

-- so does one removal of an open slot, as a transaction of its own
abbrev pub RemovalFits : Type 0
RemovalFits = (t : Tables) (moment id slot : ℕ) → is_valid t ≡ true → t.latest ≤ moment → moment ≤ MOMENT_LIMIT
    → is_open_at t id slot ≡ true → fits t (record { moment = moment; changes = commit_of t moment (Remove id slot ∷ []) }) ≡ true
