-- The law of what statements leave of what was pending.
use Rattle.std.specs.Prelude.{◌≡◌, ◌⊎◌, ℕ, List, [], ◌∷◌, ◌++◌}
use Rattle.queue_rows.specs.Session.{Session}
use Rattle.queue_rows.specs.Meaning.{answers}
use Rattle.queue_rows.specs.Statements.{meaning}
use Rattle.queue_rows.specs.World.{World}
use Rattle.queue_rows.specs.declared.rows.MsgRow.{MsgRow}
use Rattle.queue_rows.specs.declared.session.Pending.TheVariants.{Add, Remove}
use Rattle.queue_rows.specs.declared.change.Change.{Change}
use Rattle.queue_rows.specs.declared.reply.Reply.{Reply}
use Rattle.queue_rows.specs.declared.statement.Statement.{Statement}
use Rattle.queue_rows.specs.declared.statement.Statement.TheVariants as statements

-- what was pending is, and nothing else
abbrev pub KeepsPending : Session → Session → Type 0
KeepsPending s after = after.pending ≡ s.pending

-- an addition is pending behind what was pending before
pub record AddsOne (s after : Session) : Type 0 where
  pub message : MsgRow
  pub pending : after.pending ≡ s.pending ++ Add message ∷ []

-- a removal is
pub record RemovesOne (s after : Session) : Type 0 where
  pub id : ℕ
  pub slot : ℕ
  pub pending : after.pending ≡ s.pending ++ Remove id slot ∷ []

-- nothing is pending, and no slot marked
pub record Empties (after : Session) : Type 0 where
  pub pending : after.pending ≡ []
  pub marks : after.marks ≡ []

-- what a statement that is answered leaves pending
abbrev pub LeavesPending : Statement → Session → Session → Type 0
LeavesPending (statements.Admin ask) s after = KeepsPending s after
LeavesPending (statements.Enqueue ask) s after = KeepsPending s after ⊎ AddsOne s after
LeavesPending (statements.Dequeue ask) s after = KeepsPending s after ⊎ RemovesOne s after
LeavesPending (statements.Listen ask) s after = KeepsPending s after
LeavesPending statements.Commit s after = Empties after
LeavesPending statements.Rollback s after = Empties after

-- any world, any statement of any session
abbrev pub StatementsKeepPending : Type 0
StatementsKeepPending = (w : World) (i : ℕ) (s : Session) (statement : Statement) (reply : Reply) (cs : List Change) (after : Session)
    → meaning w i s statement ≡ answers reply cs after → LeavesPending statement s after
