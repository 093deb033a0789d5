-- The laws of proper changes: each kind of commit has them, and a further commit may stand behind those of a history.
use Rattle.std.specs.Prelude.{◌≡◌, ◌≤◌, ◌==◌, ◌++◌, ℕ, List, [], ◌∷◌, true, false, filter_map, All, AllPairs, Option, Some, None, Ok}
use Rattle.aq_base.specs.declared.DbId.{DbId}
use Rattle.aq_base.specs.declared.limits.TheConstants.{MOMENT_LIMIT}
use Rattle.queue_rows.specs.Rows.{find_sub}
use Rattle.queue_rows.specs.Tables.{after_all}
use Rattle.queue_rows.specs.Settling.{settled}
use Rattle.queue_rows.specs.Commits.{commit_of}
use Rattle.queue_rows.specs.Transactions.{rollback_of}
use Rattle.queue_rows.specs.Session.{Session}
use Rattle.queue_rows.specs.Due.{due}
use Rattle.queue_rows.specs.Propagating.{Parcel, taken_in, confirming}
use Rattle.queue_rows.specs.Catalog.{dropped_in, judged}
use Rattle.queue_rows.specs.Valid.{is_valid, is_valid_schedule}
use Rattle.queue_rows.specs.declared.tables.Tables.{Tables}
use Rattle.queue_rows.specs.declared.rows.SubRow.{SubRow}
use Rattle.queue_rows.specs.declared.rows.ScheduleRow.{ScheduleRow}
use Rattle.queue_rows.specs.declared.session.Pending.{Pending}
use Rattle.queue_rows.specs.declared.session.Pending.TheVariants.{Add, Remove}
use Rattle.queue_rows.specs.declared.change.Change.{Change}
use Rattle.queue_rows.specs.declared.change.Change.TheVariants.{DropSub}
use Rattle.queue_rows.specs.declared.history.SlotRef.{SlotRef}
use Rattle.queue_rows.specs.declared.statement.Admin.{Admin}
use Rattle.valid_laws.specs.Openness.{is_open_at}
use Rattle.valid_laws.specs.Touching.{are_proper}
use Rattle.valid_laws.specs.PendingLaws.{MayCommit}
use Rattle.valid_laws.specs.RollbackLaws.{MayRollBack}
use Rattle.valid_laws.specs.ArrivalLaws.{MayTakeIn}
use Rattle.history_laws.specs.Proper.{ids_put_in, AreProper}

-- the commit's changes are proper in the tables before it, and put in messages with just these ids
pub record IsProperCommit (t : Tables) (cs : List Change) (ids : List ℕ) : Type 0 where
  pub proper : are_proper t cs ≡ true
  pub ids_are : ids_put_in cs ≡ ids

abbrev pub id_added : Pending → Option ℕ
id_added (Add m) = Some m.id
id_added (Remove id slot) = None

-- the ids of the messages that a session adds, in their order
abbrev pub ids_added : List Pending → List ℕ
ids_added pending = filter_map id_added pending

-- ---- each kind of commit

-- what may be committed is proper, and puts in what is added
abbrev pub CommitIsProper : Type 0
CommitIsProper = (t : Tables) (moment : ℕ) (pending : List Pending) → is_valid t ≡ true → t.latest ≤ moment → moment ≤ MOMENT_LIMIT
    → MayCommit t moment pending → IsProperCommit t (commit_of t moment pending) (ids_added pending)

-- what may be rolled back is proper
abbrev pub RollbackIsProper : Type 0
RollbackIsProper = (t : Tables) (moment : ℕ) (pending : List Pending) → is_valid t ≡ true → t.latest ≤ moment → moment ≤ MOMENT_LIMIT
    → MayRollBack t pending → IsProperCommit t (rollback_of t moment pending) []

-- what is due is proper
abbrev pub DueIsProper : Type 0
DueIsProper = (t : Tables) (sessions : List Session) (db : DbId) (sent : Option SlotRef) (moment : ℕ) → is_valid t ≡ true → t.latest ≤ moment
    → moment ≤ MOMENT_LIMIT → IsProperCommit t (due t sessions db sent moment) []

-- what may be taken in is proper, and puts in the copy
abbrev pub ArrivalIsProper : Type 0
ArrivalIsProper = (there : Tables) (at : SlotRef) (p : Parcel) (next moment : ℕ) → is_valid there ≡ true → there.latest ≤ moment → moment ≤ MOMENT_LIMIT
    → MayTakeIn there at p next moment → IsProperCommit there (taken_in there at p next moment) (next ∷ [])

-- the confirmation of an open slot is proper
abbrev pub ConfirmationIsProper : Type 0
ConfirmationIsProper = (t : Tables) (at : SlotRef) (schedule : ScheduleRow) (moment : ℕ) → is_valid t ≡ true → t.latest ≤ moment → moment ≤ MOMENT_LIMIT
    → is_open_at t at.id at.slot ≡ true → is_valid_schedule t schedule ≡ true → IsProperCommit t (confirming t at schedule moment) []

-- so is the removal of a subscriber that is there
abbrev pub SubscriberRemovalIsProper : Type 0
SubscriberRemovalIsProper = (t : Tables) (sub : SubRow) (moment : ℕ) → is_valid t ≡ true → t.latest ≤ moment → moment ≤ MOMENT_LIMIT
    → find_sub t sub.queue sub.name ≡ Some sub → IsProperCommit t (settled t (DropSub sub.queue sub.name ∷ dropped_in t sub moment)) []

-- and so is whatever an administrative statement changes that is not refused
abbrev pub AdministrationIsProper : Type 0
AdministrationIsProper = (t : Tables) (ask : Admin) (moment : ℕ) (cs : List Change) → is_valid t ≡ true → t.latest ≤ moment → moment ≤ MOMENT_LIMIT
    → judged t ask moment ≡ Ok cs → IsProperCommit t (settled t cs) []

-- ---- one commit behind others

-- what was committed since an opening stays proper with a commit in the tables that it left, whose ids are new
abbrev pub ProperGrows : Type 0
ProperGrows = (opening : Tables) (before cs : List Change) (ids : List ℕ) (latest : ℕ) → AreProper opening before
    → IsProperCommit (record (after_all opening before) { latest = latest }) cs ids → AllPairs (λ a b. (a == b) ≡ false) ids
    → All (λ id. opening.next ≤ id) ids → All (λ a. All (λ b. (a == b) ≡ false) ids) (ids_put_in before)
    → AreProper opening (before ++ cs)
