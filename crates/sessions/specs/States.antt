-- What a session keeps, beside the sessions of the definitions.
use Rattle.std.specs.Prelude.{◌≡◌}
use Rattle.queue_rows.specs.Session.{Session}
use Rattle.sessions.specs.declared.state.SessionState.{SessionState}

-- the state is that of the session
pub record IsStateOf (state : SessionState) (s : Session) : Type 0 where
  pub at : s.at ≡ state.at
  pub next : s.next ≡ state.next
  pub pending : s.pending ≡ state.pending
  pub positions : s.positions ≡ state.positions
  pub parked : s.parked ≡ state.parked
