-- What a session does next.
use Rattle.std.specs.Prelude.{◌≡◌, ◌<◌, ◌+◌, ◌^◌, ℕ, Option, Some, None}
use Rattle.queue_rows.specs.Session.{Session}
use Rattle.queue_rows.specs.declared.statement.Statement.{Statement}
use Rattle.queue_rows.specs.Statements.{meaning, next_statement}
use Rattle.queue_rows.specs.World.{World}
use Rattle.run_state.specs.CallEffects.{IsCallable}
use Rattle.next_steps.specs.Calling.{doing_meant}
use Rattle.next_steps.specs.declared.respond.Doing.{Doing}
use Rattle.next_steps.specs.declared.respond.Doing.TheVariants.{Call, Wait}

-- it can be done: a call is one that the session can make, and a wait can be noted
abbrev pub CanDo : World → ℕ → Session → Doing → Type 0
CanDo w i s (Call call) = IsCallable w i s call
CanDo w i s (Wait since) = s.next + 1 < 2 ^ 32

-- the session's next statement means this
pub record Means (w : World) (i : ℕ) (s : Session) (doing : Doing) : Type 0 where
  pub statement : Statement
  pub next : next_statement w i s ≡ Some statement
  pub means : meaning w i s statement ≡ doing_meant doing s
  pub can : CanDo w i s doing

-- what the session does next, or nothing where it has called all
abbrev pub IsNext : World → ℕ → Session → Option Doing → Type 0
IsNext w i s None = next_statement w i s ≡ None
IsNext w i s (Some doing) = Means w i s doing
