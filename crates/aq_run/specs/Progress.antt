-- How far the sessions of a run have come.
use Rattle.std.specs.Prelude.{◌≡◌, ◌≤◌, ℕ, true, length, Option, Some, None, slice_get}
use Rattle.queue_rows.specs.Session.{Session}
use Rattle.queue_rows.specs.World.{World}
use Rattle.queue_rows.specs.declared.history.SessionScript.{SessionScript}

abbrev pub asked_by : Option SessionScript → ℕ
asked_by None = 0
asked_by (Some script) = length script.statements

-- how many statements a session asks
abbrev pub asked : World → ℕ → ℕ
asked w i = asked_by (slice_get w.scripts i)

-- a session that goes on has called so many of its statements, and none has called more than it asks
pub record IsAt (k most : ℕ) (s : Session) : Type 0 where
  pub called : s.live ≡ true → k ≤ s.next
  pub within : s.next ≤ most

-- each session is so far
abbrev pub AreAt : ℕ → World → Type 0
AreAt k w = (i : ℕ) (s : Session) → slice_get w.sessions i ≡ Some s → IsAt k (asked w i) s

-- the sessions were told what they called
abbrev pub AreTold : World → Type 0
AreTold w = (i : ℕ) (s : Session) → slice_get w.sessions i ≡ Some s → s.untold ≡ None
