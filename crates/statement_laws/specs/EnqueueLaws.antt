-- The law of what an enqueue adds.
use Rattle.std.specs.Prelude.{◌≡◌, ◌≤◌, ℕ, List, [], ◌∷◌, ◌++◌, Bool, true}
use Rattle.std.specs.List.{list_all}
use Rattle.aq_base.specs.declared.limits.TheConstants.{MOMENT_LIMIT}
use Rattle.payload_records.specs.Order.{is_in_order}
use Rattle.queue_rows.specs.Session.{Session}
use Rattle.queue_rows.specs.Meaning.{answers}
use Rattle.queue_rows.specs.Commits.{commit_of}
use Rattle.queue_rows.specs.Enqueueing.{enqueue}
use Rattle.queue_rows.specs.Within.{is_within}
use Rattle.queue_rows.specs.Valid.{is_valid}
use Rattle.queue_rows.specs.Fits.{fits}
use Rattle.queue_rows.specs.declared.tables.Tables.{Tables}
use Rattle.queue_rows.specs.declared.rows.MsgRow.{MsgRow}
use Rattle.queue_rows.specs.declared.session.Pending.TheVariants.{Add}
use Rattle.queue_rows.specs.declared.change.Change.{Change}
use Rattle.queue_rows.specs.declared.reply.Reply.{Reply}
use Rattle.queue_rows.specs.declared.reply.Reply.TheVariants as replies
use Rattle.queue_rows.specs.declared.statement.Enqueue.{Enqueue}
use Rattle.queue_rows.specs.declared.statement.MsgId.{MsgId}
use Rattle.queue_rows.specs.declared.statement.Statement.TheVariants as statements
use Rattle.queue_rows.specs.declared.statement.Visibility.{Visibility}
use Rattle.queue_rows.specs.declared.statement.Visibility.TheVariants.{OnCommit, Immediate}
use Rattle.valid_laws.specs.PendingLaws.{IsAdditionRight}

-- the fields of each table stand in the order of their names, each name once, as those of a record type do
abbrev pub has_ordered_fields : Tables → Bool
has_ordered_fields t = list_all (λ table. is_in_order table.fields) t.tables

-- nothing is added: nothing is committed, and what was pending is
pub record AddsNothing (s : Session) (cs : List Change) (after : Session) : Type 0 where
  pub none : cs ≡ []
  pub pending : after.pending ≡ s.pending
  pub marks : after.marks ≡ s.marks

-- the message is added when the session commits: its addition is pending behind what was pending before
pub record AddsLater (s : Session) (m : MsgRow) (cs : List Change) (after : Session) : Type 0 where
  pub none : cs ≡ []
  pub pending : after.pending ≡ s.pending ++ Add m ∷ []
  pub marks : after.marks ≡ s.marks

-- the message is added as a transaction of its own, which fits
pub record AddsAtOnce (t : Tables) (s : Session) (m : MsgRow) (moment : ℕ) (cs : List Change) (after : Session) : Type 0 where
  pub commits : cs ≡ commit_of t moment (Add m ∷ [])
  pub fit : fits t (record { moment = moment; changes = cs }) ≡ true
  pub pending : after.pending ≡ s.pending
  pub marks : after.marks ≡ s.marks

abbrev pub AddsIn : Visibility → Tables → Session → MsgRow → ℕ → List Change → Session → Type 0
AddsIn OnCommit t s m moment cs after = AddsLater s m cs after
AddsIn Immediate t s m moment cs after = AddsAtOnce t s m moment cs after

-- a message is added that is right for its queue and table, with the id that it was given
pub record AddsRight (id : MsgId) (ask : Enqueue) (t : Tables) (s : Session) (next moment : ℕ) (cs : List Change) (after : Session) : Type 0 where
  pub message : MsgRow
  pub id_is : id ≡ record { db = s.at; number = next }
  pub number_is : message.id ≡ next
  pub queue_is : message.queue ≡ ask.queue
  pub right : IsAdditionRight t moment message
  pub adds : AddsIn ask.visibility t s message moment cs after

-- an enqueue that is answered otherwise adds nothing
abbrev pub Adds : Reply → Enqueue → Tables → Session → ℕ → ℕ → List Change → Session → Type 0
Adds (replies.Enqueued id) ask t s next moment cs after = AddsRight id ask t s next moment cs after
Adds _ ask t s next moment cs after = AddsNothing s cs after

-- it adds what is right, where the id that it would get is one that the tables have not passed
abbrev pub EnqueueAddsRight : Type 0
EnqueueAddsRight = (t : Tables) (s : Session) (ask : Enqueue) (next moment : ℕ) (reply : Reply) (cs : List Change) (after : Session)
    → is_valid t ≡ true → has_ordered_fields t ≡ true → t.latest ≤ moment → moment ≤ MOMENT_LIMIT → t.next ≤ next
    → is_within (statements.Enqueue ask) ≡ true → enqueue t s ask next moment ≡ answers reply cs after
    → Adds reply ask t s next moment cs after
