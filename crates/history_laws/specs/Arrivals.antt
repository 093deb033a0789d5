-- What arrives from the other database: each slot once at most, as a copy of its message.
use Rattle.std.specs.Prelude.{◌≡◌, ◌≤◌, ◌==◌, ◌&&◌, ◌++◌, ℕ, List, [], ◌∷◌, Bool, true, false, count_by, Option, Some, None, is_some, if◌then◌else◌}
use Rattle.aq_base.specs.declared.DbId.{DbId}
use Rattle.queue_rows.specs.Rows.{find_message, slot_of}
use Rattle.queue_rows.specs.Tables.{after_change}
use Rattle.queue_rows.specs.Session.{is_same_db}
use Rattle.queue_rows.specs.World.{other_db}
use Rattle.queue_rows.specs.Propagating.{Dispatch, dispatch, arriving, is_pair, has_seen}
use Rattle.queue_rows.specs.Valid.{is_valid}
use Rattle.queue_rows.specs.declared.tables.Tables.{Tables}
use Rattle.queue_rows.specs.declared.rows.MsgRow.{MsgRow}
use Rattle.queue_rows.specs.declared.rows.SlotRow.{SlotRow}
use Rattle.queue_rows.specs.declared.change.Change.{Change}
use Rattle.queue_rows.specs.declared.change.Change.TheVariants as changes
use Rattle.queue_rows.specs.declared.change.Commit.{Commit}
use Rattle.queue_rows.specs.declared.history.SlotRef.{SlotRef}
use Rattle.queue_rows.specs.declared.history.Arrival.TheVariants.{Copied}
use Rattle.queue_rows.specs.declared.history.Step.{Step}
use Rattle.queue_rows.specs.declared.history.Step.TheVariants.{Arrive}
use Rattle.queue_rows.specs.declared.history.Entry.{Entry}
use Rattle.queue_rows.specs.declared.history.History.{History}
use Rattle.valid_laws.specs.ArrivalLaws.{MayTakeIn}
use Rattle.history_laws.specs.Made.{changes_at, commits_of, changes_of, after_commits, opening_of}
use Rattle.history_laws.specs.LegalFates.{all_fit}

-- ---- what was seen

-- the change says of that slot of the other database that it was seen
abbrev pub is_seen_of : ℕ → ℕ → Change → Bool
is_seen_of id slot (changes.Seen row) = is_pair id slot row
is_seen_of id slot _ = false

-- what was seen stays so
abbrev pub SeenStays : Type 0
SeenStays = (t : Tables) (c : Change) (at : SlotRef) → has_seen t at ≡ true → has_seen (after_change t c) at ≡ true

-- the commits say of the slot once at most that it was seen, and not where it was seen before them
pub record IsSeenOnce (t : Tables) (commits : List Commit) (at : SlotRef) : Type 0 where
  pub once : count_by (is_seen_of at.id at.slot) (changes_of commits) ≤ 1
  pub before : has_seen t at ≡ true → count_by (is_seen_of at.id at.slot) (changes_of commits) ≡ 0

-- so it is where each commit fits
abbrev pub FittingSeesOnce : Type 0
FittingSeesOnce = (t : Tables) (commits : List Commit) (at : SlotRef) → all_fit t commits ≡ true → IsSeenOnce t commits at

-- ---- a copy

-- The changes put in, with that number, a message with all facts of the slot's message (its priority, correlation, payload and
-- properties), which expires when the slot does; and they say of the slot that it was seen, which it was not.
pub record IsCopy (t there : Tables) (at : SlotRef) (id : ℕ) (cs : List Change) : Type 0 where
  pub message : MsgRow
  pub slot : SlotRow
  pub copy : MsgRow
  pub copied : SlotRow
  pub message_is : find_message t at.id ≡ Some message
  pub slot_is : slot_of message at.slot ≡ Some slot
  pub commits : cs ≡ changes.Enqueued copy ∷ changes.Seen (record { id = at.id; slot = at.slot; copy = id }) ∷ []
  pub number : copy.id ≡ id
  pub facts : copy.facts ≡ message.facts
  pub slots : copy.slots ≡ copied ∷ []
  pub expiry : copied.expires ≡ slot.expires
  pub unseen : has_seen there at ≡ false

-- what an arrival that ends with a copy commits at the destination
abbrev pub ArrivingCopies : Type 0
ArrivingCopies = (t there : Tables) (at : SlotRef) (d : Dispatch) (next moment id : ℕ) → dispatch t at ≡ Some d
    → (arriving there at d next moment).outcome ≡ Copied id → IsCopy t there at id (arriving there at d next moment).there

-- and the copy may be taken in, where the slot is sent of valid tables and the id is one that the destination has not passed
abbrev pub CopyMayBeTakenIn : Type 0
CopyMayBeTakenIn = (t there : Tables) (at : SlotRef) (d : Dispatch) (next moment id : ℕ) → is_valid t ≡ true → there.next ≤ next → dispatch t at ≡ Some d
    → (arriving there at d next moment).outcome ≡ Copied id → MayTakeIn there at d.parcel next moment

-- ---- arrivals in a history

abbrev pub is_same_slot : SlotRef → SlotRef → Bool
is_same_slot a b = is_same_db a.db b.db && (a.id == b.id) && (a.slot == b.slot)

-- the number of the copy that the step makes of the slot
abbrev pub copy_by : SlotRef → Step → Option ℕ
copy_by at (Arrive slot (Copied id)) = if is_same_slot at slot then Some id else None
copy_by at _ = None

abbrev pub is_copied : SlotRef → Entry → Bool
is_copied at e = is_some (copy_by at e.step)

-- the tables of a database after these entries of a history
abbrev pub tables_at : DbId → History → List Entry → Tables
tables_at db h entries = after_commits (opening_of db h) (commits_of db entries)

-- The entry commits what the arrival of the slot does, from its database to the other one, which ends with this copy.
pub record ArrivesSo (t there : Tables) (at : SlotRef) (id : ℕ) (e : Entry) : Type 0 where
  pub dispatched : Dispatch
  pub next : ℕ
  pub dispatch_is : dispatch t at ≡ Some dispatched
  pub outcome : (arriving there at dispatched next e.moment).outcome ≡ Copied id
  pub commits : changes_at (other_db at.db) e ≡ (arriving there at dispatched next e.moment).there

-- whatever the history says to have been copied has arrived so
abbrev pub AreArrivals : History → Type 0
AreArrivals h = (at : SlotRef) (id : ℕ) (before : List Entry) (e : Entry) (rest : List Entry) → h.entries ≡ before ++ e ∷ rest
    → copy_by at e.step ≡ Some id → ArrivesSo (tables_at at.db h before) (tables_at (other_db at.db) h before) at id e

-- each slot arrives as a copy at most once, and never where it was seen before
pub record IsCopiedOnce (h : History) (at : SlotRef) : Type 0 where
  pub once : count_by (is_copied at) h.entries ≤ 1
  pub unseen : has_seen (opening_of (other_db at.db) h) at ≡ true → count_by (is_copied at) h.entries ≡ 0

-- and each entry that says so puts a copy of its message in
pub record HasArrivals (h : History) : Type 0 where
  pub once : (at : SlotRef) → IsCopiedOnce h at
  pub alike : (at : SlotRef) (id : ℕ) (before : List Entry) (e : Entry) (rest : List Entry) → h.entries ≡ before ++ e ∷ rest
      → copy_by at e.step ≡ Some id → IsCopy (tables_at at.db h before) (tables_at (other_db at.db) h before) at id (changes_at (other_db at.db) e)

-- arrivals have these facts where all commits fit
abbrev pub FittingHasArrivals : Type 0
FittingHasArrivals = (h : History) → ((db : DbId) → all_fit (opening_of db h) (commits_of db h.entries) ≡ true) → AreArrivals h → HasArrivals h
