-- The law of what a dequeue takes.
use Rattle.std.specs.Prelude.{◌≡◌, ◌≤◌, ℕ, List, [], ◌∷◌, ◌++◌, true, false}
use Rattle.aq_base.specs.declared.limits.TheConstants.{MOMENT_LIMIT}
use Rattle.queue_rows.specs.Session.{Session, has_removed}
use Rattle.queue_rows.specs.Meaning.{answers}
use Rattle.queue_rows.specs.Commits.{commit_of}
use Rattle.queue_rows.specs.Dequeueing.{dequeue}
use Rattle.queue_rows.specs.Valid.{is_valid}
use Rattle.queue_rows.specs.Fits.{fits}
use Rattle.queue_rows.specs.declared.tables.Tables.{Tables}
use Rattle.queue_rows.specs.declared.session.Pending.TheVariants.{Remove}
use Rattle.queue_rows.specs.declared.change.Change.{Change}
use Rattle.queue_rows.specs.declared.reply.Reply.{Reply}
use Rattle.queue_rows.specs.declared.reply.Reply.TheVariants as replies
use Rattle.queue_rows.specs.declared.statement.Dequeue.{Dequeue}
use Rattle.queue_rows.specs.declared.statement.Mode.{Mode}
use Rattle.queue_rows.specs.declared.statement.Mode.TheVariants as modes
use Rattle.queue_rows.specs.declared.statement.Visibility.{Visibility}
use Rattle.queue_rows.specs.declared.statement.Visibility.TheVariants as visibilities
use Rattle.valid_laws.specs.Openness.{is_open_at}
use Rattle.statement_laws.specs.Sessions.{MarksAgree}

-- the slot can be taken, and the session has not removed it
pub record MayTake (t : Tables) (s : Session) (id slot : ℕ) : Type 0 where
  pub open_there : is_open_at t id slot ≡ true
  pub first : has_removed s id slot ≡ false

-- nothing is taken: nothing is committed, and what was pending is
pub record TakesNothing (s : Session) (cs : List Change) (after : Session) : Type 0 where
  pub none : cs ≡ []
  pub pending : after.pending ≡ s.pending

-- a slot is taken when the session commits: its removal is pending behind what was pending before
pub record TakesLater (t : Tables) (s : Session) (cs : List Change) (after : Session) : Type 0 where
  pub id : ℕ
  pub slot : ℕ
  pub may : MayTake t s id slot
  pub none : cs ≡ []
  pub pending : after.pending ≡ s.pending ++ Remove id slot ∷ []

-- a slot is taken as a transaction of its own, which fits
pub record TakesAtOnce (t : Tables) (s : Session) (moment : ℕ) (cs : List Change) (after : Session) : Type 0 where
  pub id : ℕ
  pub slot : ℕ
  pub may : MayTake t s id slot
  pub commits : cs ≡ commit_of t moment (Remove id slot ∷ [])
  pub fit : fits t (record { moment = moment; changes = cs }) ≡ true
  pub pending : after.pending ≡ s.pending

-- what a dequeue that gives a message takes
abbrev pub TakesIn : Mode → Visibility → Tables → Session → ℕ → List Change → Session → Type 0
TakesIn modes.Remove visibilities.OnCommit t s moment cs after = TakesLater t s cs after
TakesIn modes.Remove visibilities.Immediate t s moment cs after = TakesAtOnce t s moment cs after
TakesIn modes.RemoveNodata visibilities.OnCommit t s moment cs after = TakesLater t s cs after
TakesIn modes.RemoveNodata visibilities.Immediate t s moment cs after = TakesAtOnce t s moment cs after
TakesIn modes.Browse visibility t s moment cs after = TakesNothing s cs after
TakesIn modes.Locked visibility t s moment cs after = TakesNothing s cs after

-- a dequeue that is answered otherwise takes nothing
abbrev pub Takes : Reply → Dequeue → Tables → Session → ℕ → List Change → Session → Type 0
Takes (replies.Message message) ask t s moment cs after = TakesIn ask.mode ask.visibility t s moment cs after
Takes _ ask t s moment cs after = TakesNothing s cs after

-- it takes what it may, and the session's marks and removals agree after it as they did before
abbrev pub DequeueRemovesOpen : Type 0
DequeueRemovesOpen = (t : Tables) (sessions : List Session) (actor : ℕ) (s : Session) (ask : Dequeue) (moment : ℕ)
    (reply : Reply) (cs : List Change) (after : Session) → is_valid t ≡ true → t.latest ≤ moment → moment ≤ MOMENT_LIMIT
    → MarksAgree s → dequeue t sessions actor s ask moment ≡ answers reply cs after
    → Takes reply ask t s moment cs after × MarksAgree after
