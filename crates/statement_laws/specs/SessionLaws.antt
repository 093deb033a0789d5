-- The laws of sessions whose transactions may end: what statements add to them keeps them so, and their ends fit.
use Rattle.std.specs.Prelude.{◌≡◌, ◌≤◌, ◌<◌, ◌+◌, ℕ, List, [], true, All}
use Rattle.aq_base.specs.declared.limits.TheConstants.{MOMENT_LIMIT}
use Rattle.queue_rows.specs.Session.{Session}
use Rattle.queue_rows.specs.Meaning.{answers}
use Rattle.queue_rows.specs.Enqueueing.{enqueue}
use Rattle.queue_rows.specs.Dequeueing.{dequeue}
use Rattle.queue_rows.specs.Transactions.{commit, rollback}
use Rattle.queue_rows.specs.Turns.{ids_taken}
use Rattle.queue_rows.specs.Valid.{is_valid}
use Rattle.queue_rows.specs.Within.{is_within}
use Rattle.queue_rows.specs.Fits.{fits}
use Rattle.queue_rows.specs.declared.tables.Tables.{Tables}
use Rattle.queue_rows.specs.declared.session.Pending.{Pending}
use Rattle.queue_rows.specs.declared.session.Pending.TheVariants.{Add, Remove}
use Rattle.queue_rows.specs.declared.change.Change.{Change}
use Rattle.queue_rows.specs.declared.reply.Reply.{Reply}
use Rattle.queue_rows.specs.declared.statement.Enqueue.{Enqueue}
use Rattle.queue_rows.specs.declared.statement.Dequeue.{Dequeue}
use Rattle.queue_rows.specs.declared.statement.Statement.TheVariants as statements
use Rattle.valid_laws.specs.PendingLaws.{MayCommit}
use Rattle.statement_laws.specs.Sessions.{MarksAgree}
use Rattle.statement_laws.specs.EnqueueLaws.{has_ordered_fields}

-- ---- what a session holds

-- an addition has an id that was given before
abbrev pub IsGiven : ℕ → Pending → Type 0
IsGiven next (Add m) = m.id < next
IsGiven next (Remove id slot) = Unit {0}

-- What the session has done may be committed at that moment, its marks and removals agree, and its additions have ids below the
-- one that comes next.
pub record MayEnd (t : Tables) (next moment : ℕ) (s : Session) : Type 0 where
  pub commits : MayCommit t moment s.pending
  pub marks : MarksAgree s
  pub given : All (IsGiven next) s.pending

-- so it is of a session that has nothing pending and nothing marked, as when it begins and behind the end of a transaction
abbrev pub EmptyMayEnd : Type 0
EmptyMayEnd = (t : Tables) (s : Session) (next moment : ℕ) → is_valid t ≡ true → s.pending ≡ [] → s.marks ≡ [] → MayEnd t next moment s

-- it stays so when time passes, and ids are given
abbrev pub MayEndLater : Type 0
MayEndLater = (t : Tables) (s : Session) (next moment behind later : ℕ) → next ≤ behind → moment ≤ later → MayEnd t next moment s
    → MayEnd t behind later s

-- ---- what statements make of it

-- in the tables on which an enqueue is called, its session may end after it as it might before, with the id that is taken
abbrev pub EnqueueKeepsEnd : Type 0
EnqueueKeepsEnd = (t : Tables) (s : Session) (ask : Enqueue) (next moment : ℕ) (reply : Reply) (cs : List Change) (after : Session)
    → is_valid t ≡ true → has_ordered_fields t ≡ true → t.latest ≤ moment → moment ≤ MOMENT_LIMIT → t.next ≤ next
    → is_within (statements.Enqueue ask) ≡ true → MayEnd t next moment s → enqueue t s ask next moment ≡ answers reply cs after
    → MayEnd t (next + ids_taken reply) moment after

-- and so after a dequeue
abbrev pub DequeueKeepsEnd : Type 0
DequeueKeepsEnd = (t : Tables) (sessions : List Session) (actor : ℕ) (s : Session) (ask : Dequeue) (next moment : ℕ)
    (reply : Reply) (cs : List Change) (after : Session) → is_valid t ≡ true → t.latest ≤ moment → moment ≤ MOMENT_LIMIT
    → MayEnd t next moment s → dequeue t sessions actor s ask moment ≡ answers reply cs after → MayEnd t next moment after

-- ---- the ends of its transaction

-- what a commit of such a session commits fits
abbrev pub CommitFitsForSessions : Type 0
CommitFitsForSessions = (t : Tables) (s : Session) (next moment : ℕ) (reply : Reply) (cs : List Change) (after : Session)
    → is_valid t ≡ true → t.latest ≤ moment → moment ≤ MOMENT_LIMIT → MayEnd t next moment s
    → commit t s moment ≡ answers reply cs after → fits t (record { moment = moment; changes = cs }) ≡ true

-- and so does what a rollback commits
abbrev pub RollbackFitsForSessions : Type 0
RollbackFitsForSessions = (t : Tables) (s : Session) (next moment : ℕ) (reply : Reply) (cs : List Change) (after : Session)
    → is_valid t ≡ true → t.latest ≤ moment → moment ≤ MOMENT_LIMIT → MayEnd t next moment s
    → rollback t s moment ≡ answers reply cs after → fits t (record { moment = moment; changes = cs }) ≡ true
