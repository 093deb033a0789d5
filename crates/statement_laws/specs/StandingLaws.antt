-- What the sessions of a database hold in its tables, and that each step leaves it so.
use Rattle.std.specs.Prelude.{◌≡◌, ◌≤◌, ◌+◌, ◌==◌, ℕ, List, [], ◌∷◌, true, false, Option, Some, slice_get, slice_set, All, AllPairs, if◌then◌else◌}
use Rattle.std.specs.List.{list_any}
use Rattle.aq_base.specs.declared.DbId.{DbId}
use Rattle.aq_base.specs.declared.limits.TheConstants.{MOMENT_LIMIT}
use Rattle.queue_rows.specs.Session.{Session, is_same_db, marks_slot}
use Rattle.queue_rows.specs.Meaning.{answers}
use Rattle.queue_rows.specs.Administration.{administer}
use Rattle.queue_rows.specs.Enqueueing.{enqueue}
use Rattle.queue_rows.specs.Dequeueing.{dequeue}
use Rattle.queue_rows.specs.Listening.{listen}
use Rattle.queue_rows.specs.Transactions.{commit, rollback}
use Rattle.queue_rows.specs.Turns.{ids_taken}
use Rattle.queue_rows.specs.Within.{is_within}
use Rattle.queue_rows.specs.Due.{due}
use Rattle.queue_rows.specs.Propagating.{Parcel, taken_in, confirming}
use Rattle.queue_rows.specs.World.{committed_tables}
use Rattle.queue_rows.specs.Valid.{is_valid, is_valid_schedule}
use Rattle.queue_rows.specs.declared.tables.Tables.{Tables}
use Rattle.queue_rows.specs.declared.rows.ScheduleRow.{ScheduleRow}
use Rattle.queue_rows.specs.declared.change.Change.{Change}
use Rattle.queue_rows.specs.declared.history.SlotRef.{SlotRef}
use Rattle.queue_rows.specs.declared.reply.Reply.{Reply}
use Rattle.queue_rows.specs.declared.statement.Admin.{Admin}
use Rattle.queue_rows.specs.declared.statement.Enqueue.{Enqueue}
use Rattle.queue_rows.specs.declared.statement.Dequeue.{Dequeue}
use Rattle.queue_rows.specs.declared.statement.Listen.{Listen}
use Rattle.queue_rows.specs.declared.statement.Statement.TheVariants as statements
use Rattle.valid_laws.specs.Openness.{is_open_at}
use Rattle.valid_laws.specs.ArrivalLaws.{MayTakeIn}
use Rattle.valid_laws.specs.PendingLaws.{IsPendingRight, AreApart, count_passed, HasRoom}
use Rattle.statement_laws.specs.Sessions.{is_addition_of, MarksAgree}
use Rattle.statement_laws.specs.SessionLaws.{IsGiven, MayEnd}
use Rattle.statement_laws.specs.EnqueueLaws.{has_ordered_fields}

-- ---- what sessions hold

-- What a session has done and not committed is right for the tables, and apart from one another; its additions have ids that were
-- given; it has marked as removed just the slots whose removals are pending; and each slot that it has marked can be taken, now or
-- later.
pub record StandsIn (t : Tables) (next moment : ℕ) (s : Session) : Type 0 where
  pub right : All (IsPendingRight t moment) s.pending
  pub apart : AllPairs AreApart s.pending
  pub given : All (IsGiven next) s.pending
  pub agree : MarksAgree s
  pub marked : (id slot : ℕ) → list_any (marks_slot id slot) s.marks ≡ true → is_open_at t id slot ≡ true

-- two sessions have no mark on one slot, and no addition with one id
pub record AreTwo (a b : Session) : Type 0 where
  pub slots : (id slot : ℕ) → list_any (marks_slot id slot) a.marks ≡ true → list_any (marks_slot id slot) b.marks ≡ false
  pub ids : (id : ℕ) → list_any (is_addition_of id) a.pending ≡ true → list_any (is_addition_of id) b.pending ≡ false

-- how many additions of all sessions of the database have ids below a number
abbrev pub count_held : DbId → List Session → ℕ → ℕ
count_held db [] next = 0
count_held db (s ∷ more) next = (if is_same_db s.at db then count_passed next s.pending else 0) + count_held db more next

-- Each session of the database holds what is right in its tables, no two of them hold the same, the tables have room for all that
-- they add, and have not passed the id that comes next.
pub record AreStanding (t : Tables) (db : DbId) (next moment : ℕ) (sessions : List Session) : Type 0 where
  pub each : (i : ℕ) (s : Session) → slice_get sessions i ≡ Some s → is_same_db s.at db ≡ true → StandsIn t next moment s
  pub two : (i j : ℕ) (a b : Session) → slice_get sessions i ≡ Some a → slice_get sessions j ≡ Some b → is_same_db a.at db ≡ true → is_same_db b.at db ≡ true → (i == j) ≡ false → AreTwo a b
  pub room : HasRoom t (count_held db sessions)
  pub up : t.next ≤ next

-- it is of the same database, and holds what the other one does
pub record HoldsAs (behind s held : Session) : Type 0 where
  pub at : behind.at ≡ s.at
  pub pending : behind.pending ≡ held.pending
  pub marks : behind.marks ≡ held.marks

-- ---- what it gives

-- each of them may end its transaction
abbrev pub StandingMayEnd : Type 0
StandingMayEnd = (t : Tables) (db : DbId) (next moment i : ℕ) (s : Session) (sessions : List Session) → AreStanding t db next moment sessions
    → slice_get sessions i ≡ Some s → is_same_db s.at db ≡ true → MayEnd t next moment s

-- ---- when it holds

-- sessions that hold nothing stand in valid tables
abbrev pub EmptyAreStanding : Type 0
EmptyAreStanding = (t : Tables) (db : DbId) (next moment : ℕ) (sessions : List Session) → is_valid t ≡ true → t.next ≤ next
    → ((i : ℕ) (s : Session) → slice_get sessions i ≡ Some s → (s.pending ≡ []) × (s.marks ≡ [])) → AreStanding t db next moment sessions

-- they stand later, and when further ids were given
abbrev pub StandingLater : Type 0
StandingLater = (t : Tables) (db : DbId) (next moment behind later : ℕ) (sessions : List Session) → next ≤ behind → moment ≤ later
    → AreStanding t db next moment sessions → AreStanding t db behind later sessions

-- behind the commit of one of them they all stand, it with nothing
abbrev pub CommitKeepsStanding : Type 0
CommitKeepsStanding = (t : Tables) (db : DbId) (next moment i : ℕ) (s : Session) (sessions : List Session) (reply : Reply) (cs : List Change) (after behind : Session)
    → is_valid t ≡ true → t.latest ≤ moment → moment ≤ MOMENT_LIMIT → AreStanding t db next moment sessions
    → slice_get sessions i ≡ Some s → is_same_db s.at db ≡ true → commit t s moment ≡ answers reply cs after → HoldsAs behind s after
    → AreStanding (committed_tables t cs moment) db next moment (slice_set sessions i behind)

-- and so behind a rollback
abbrev pub RollbackKeepsStanding : Type 0
RollbackKeepsStanding = (t : Tables) (db : DbId) (next moment i : ℕ) (s : Session) (sessions : List Session) (reply : Reply) (cs : List Change) (after behind : Session)
    → is_valid t ≡ true → t.latest ≤ moment → moment ≤ MOMENT_LIMIT → AreStanding t db next moment sessions
    → slice_get sessions i ≡ Some s → is_same_db s.at db ≡ true → rollback t s moment ≡ answers reply cs after → HoldsAs behind s after
    → AreStanding (committed_tables t cs moment) db next moment (slice_set sessions i behind)

-- behind due work, which leaves what they have marked
abbrev pub DueKeepsStanding : Type 0
DueKeepsStanding = (t : Tables) (db : DbId) (sent : Option SlotRef) (next moment : ℕ) (sessions : List Session) → is_valid t ≡ true
    → t.latest ≤ moment → moment ≤ MOMENT_LIMIT → AreStanding t db next moment sessions
    → AreStanding (committed_tables t (due t sessions db sent moment) moment) db next moment sessions

-- behind an arrival, which takes the next id
abbrev pub ArrivalKeepsStanding : Type 0
ArrivalKeepsStanding = (there : Tables) (db : DbId) (at : SlotRef) (p : Parcel) (next moment : ℕ) (sessions : List Session) → is_valid there ≡ true
    → there.latest ≤ moment → moment ≤ MOMENT_LIMIT → MayTakeIn there at p next moment → AreStanding there db next moment sessions
    → AreStanding (committed_tables there (taken_in there at p next moment) moment) db (next + 1) moment sessions

-- behind a confirmation, of a slot that none of them has marked
abbrev pub ConfirmationKeepsStanding : Type 0
ConfirmationKeepsStanding = (t : Tables) (db : DbId) (at : SlotRef) (schedule : ScheduleRow) (next moment : ℕ) (sessions : List Session) → is_valid t ≡ true
    → t.latest ≤ moment → moment ≤ MOMENT_LIMIT → is_open_at t at.id at.slot ≡ true → is_valid_schedule t schedule ≡ true
    → ((i : ℕ) (s : Session) → slice_get sessions i ≡ Some s → is_same_db s.at db ≡ true → list_any (marks_slot at.id at.slot) s.marks ≡ false)
    → AreStanding t db next moment sessions → AreStanding (committed_tables t (confirming t at schedule moment) moment) db next moment sessions

-- ---- behind statements that do not end a transaction

-- behind an enqueue, with the id that it takes
abbrev pub EnqueueKeepsStanding : Type 0
EnqueueKeepsStanding = (t : Tables) (db : DbId) (next moment i : ℕ) (s : Session) (sessions : List Session) (ask : Enqueue) (reply : Reply) (cs : List Change) (after behind : Session)
    → is_valid t ≡ true → has_ordered_fields t ≡ true → t.latest ≤ moment → moment ≤ MOMENT_LIMIT → is_within (statements.Enqueue ask) ≡ true
    → AreStanding t db next moment sessions → slice_get sessions i ≡ Some s → is_same_db s.at db ≡ true
    → enqueue t s ask next moment ≡ answers reply cs after → HoldsAs behind s after
    → AreStanding (committed_tables t cs moment) db (next + ids_taken reply) moment (slice_set sessions i behind)

-- behind a dequeue, which marks and takes what no other session has marked
abbrev pub DequeueKeepsStanding : Type 0
DequeueKeepsStanding = (t : Tables) (db : DbId) (next moment i : ℕ) (s : Session) (sessions : List Session) (ask : Dequeue) (reply : Reply) (cs : List Change) (after behind : Session)
    → is_valid t ≡ true → t.latest ≤ moment → moment ≤ MOMENT_LIMIT → AreStanding t db next moment sessions
    → slice_get sessions i ≡ Some s → is_same_db s.at db ≡ true → dequeue t sessions i s ask moment ≡ answers reply cs after → HoldsAs behind s after
    → AreStanding (committed_tables t cs moment) db next moment (slice_set sessions i behind)

-- and behind a listen
abbrev pub ListenKeepsStanding : Type 0
ListenKeepsStanding = (t : Tables) (db : DbId) (next moment i : ℕ) (s : Session) (sessions : List Session) (ask : Listen) (reply : Reply) (cs : List Change) (after behind : Session)
    → AreStanding t db next moment sessions → slice_get sessions i ≡ Some s → is_same_db s.at db ≡ true
    → listen t sessions i s ask moment ≡ answers reply cs after → HoldsAs behind s after
    → AreStanding (committed_tables t cs moment) db next moment (slice_set sessions i behind)

-- ---- behind administrative statements

-- behind an administrative statement, which is refused where work on what it takes away is outstanding
abbrev pub AdministrationKeepsStanding : Type 0
AdministrationKeepsStanding = (t : Tables) (db : DbId) (next moment i : ℕ) (s : Session) (sessions : List Session) (sent : Option SlotRef) (ask : Admin) (reply : Reply) (cs : List Change) (after behind : Session)
    → is_valid t ≡ true → t.latest ≤ moment → moment ≤ MOMENT_LIMIT → is_within (statements.Admin ask) ≡ true → AreStanding t db next moment sessions
    → slice_get sessions i ≡ Some s → is_same_db s.at db ≡ true → administer t sessions sent s ask moment ≡ answers reply cs after → HoldsAs behind s after
    → AreStanding (committed_tables t cs moment) db next moment (slice_set sessions i behind)
