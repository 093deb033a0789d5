-- The entries that a run has to make without memory: places are kept for them.
use Rattle.std.specs.Prelude.{◌+◌, ◌&&◌, ℕ, if◌then◌else◌, List, [], ◌∷◌, Option, Some, None}
use Rattle.queue_rows.specs.Session.{Session, Untold}
use Rattle.queue_rows.specs.World.{World, Database}
use Rattle.run_state.specs.Commits.{is_durable_database}

-- a flush, where a commit is not durable
abbrev pub flushes_owed : Database → Database → ℕ
flushes_owed home away = if is_durable_database home && is_durable_database away then 0 else 1

abbrev pub reply_owed : Option Untold → ℕ
reply_owed None = 0
reply_owed (Some untold) = 1

-- a telling for each session that called and was not told yet
abbrev pub replies_owed : List Session → ℕ
replies_owed [] = 0
replies_owed (s ∷ more) = reply_owed s.untold + replies_owed more

abbrev pub promised_by : Database → Database → List Session → ℕ
promised_by home away sessions = flushes_owed home away + replies_owed sessions

abbrev pub promised : World → ℕ
promised w = promised_by w.home w.away w.sessions
