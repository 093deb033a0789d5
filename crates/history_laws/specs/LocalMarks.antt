-- Which slots sessions mark: none that goes to the other database.
use Rattle.std.specs.Prelude.{◌≡◌, ◌≤◌, ◌⊎◌, ◌==◌, ◌&&◌, ℕ, List, Bool, true, false, not, is_some, Some, slice_get}
use Rattle.std.specs.List.{list_any}
use Rattle.std.specs.Option.{option_map_or}
use Rattle.aq_base.specs.declared.DbId.{DbId}
use Rattle.aq_base.specs.declared.limits.TheConstants.{MOMENT_LIMIT}
use Rattle.queue_rows.specs.Rows.{find_message, slot_of}
use Rattle.queue_rows.specs.Tables.{after_all}
use Rattle.queue_rows.specs.Session.{Session, is_same_db, marks_slot}
use Rattle.queue_rows.specs.Meaning.{answers}
use Rattle.queue_rows.specs.Dequeueing.{dequeue}
use Rattle.queue_rows.specs.Propagating.{Dispatch, dispatch, confirming}
use Rattle.queue_rows.specs.World.{committed_tables}
use Rattle.queue_rows.specs.Valid.{is_valid, is_valid_schedule}
use Rattle.queue_rows.specs.declared.tables.Tables.{Tables}
use Rattle.queue_rows.specs.declared.rows.MsgRow.{MsgRow}
use Rattle.queue_rows.specs.declared.rows.ScheduleRow.{ScheduleRow}
use Rattle.queue_rows.specs.declared.change.Change.{Change}
use Rattle.queue_rows.specs.declared.history.SlotRef.{SlotRef}
use Rattle.queue_rows.specs.declared.reply.Reply.{Reply}
use Rattle.queue_rows.specs.declared.statement.Dequeue.{Dequeue}
use Rattle.valid_laws.specs.Openness.{is_open_at}
use Rattle.valid_laws.specs.Touching.{puts_in, are_proper}
use Rattle.statement_laws.specs.StandingLaws.{AreStanding}

-- it has that slot for a recipient, and it goes to the other database
abbrev pub is_remote_slot : ℕ → MsgRow → Bool
is_remote_slot slot m = not (slot == 0) && option_map_or (λ s. is_some s.address) (slot_of m slot) false

-- the slot is there, and goes to the other database
abbrev pub is_remote_at : Tables → ℕ → ℕ → Bool
is_remote_at t id slot = option_map_or (is_remote_slot slot) (find_message t id) false

-- no session of the database has marked such a slot
abbrev pub MarksAreLocal : Tables → DbId → List Session → Type 0
MarksAreLocal t db sessions = (i : ℕ) (s : Session) → slice_get sessions i ≡ Some s → is_same_db s.at db ≡ true → (id slot : ℕ)
    → list_any (marks_slot id slot) s.marks ≡ true → is_remote_at t id slot ≡ false

-- proper changes send no slot elsewhere, unless they put its message in
abbrev pub LocalStays : Type 0
LocalStays = (t : Tables) (cs : List Change) (id slot : ℕ) → is_valid t ≡ true → are_proper t cs ≡ true → list_any (puts_in id) cs ≡ false
    → is_remote_at t id slot ≡ false → is_remote_at (after_all t cs) id slot ≡ false

-- a dequeue marks no slot that goes to the other database
abbrev pub DequeueMarksLocal : Type 0
DequeueMarksLocal = (t : Tables) (sessions : List Session) (actor : ℕ) (s : Session) (ask : Dequeue) (moment : ℕ) (reply : Reply) (cs : List Change) (after : Session)
    → is_valid t ≡ true → dequeue t sessions actor s ask moment ≡ answers reply cs after → (id slot : ℕ)
    → list_any (marks_slot id slot) after.marks ≡ true → (list_any (marks_slot id slot) s.marks ≡ true) ⊎ (is_remote_at t id slot ≡ false)

-- what is sent of valid tables is such a slot
abbrev pub SentIsRemote : Type 0
SentIsRemote = (t : Tables) (at : SlotRef) (d : Dispatch) → is_valid t ≡ true → dispatch t at ≡ Some d → is_remote_at t at.id at.slot ≡ true

-- so what sessions hold stands behind the confirmation of a slot that was sent
abbrev pub SentConfirmationKeepsStanding : Type 0
SentConfirmationKeepsStanding = (t : Tables) (db : DbId) (at : SlotRef) (d : Dispatch) (schedule : ScheduleRow) (next moment : ℕ) (sessions : List Session) → is_valid t ≡ true
    → t.latest ≤ moment → moment ≤ MOMENT_LIMIT → dispatch t at ≡ Some d → is_open_at t at.id at.slot ≡ true → is_valid_schedule t schedule ≡ true
    → MarksAreLocal t db sessions → AreStanding t db next moment sessions
    → AreStanding (committed_tables t (confirming t at schedule moment) moment) db next moment sessions
