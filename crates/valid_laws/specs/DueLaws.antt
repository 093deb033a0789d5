-- The law of what is due.
use Rattle.std.specs.Prelude.{◌≡◌, ◌≤◌, ℕ, List, true, Option}
use Rattle.aq_base.specs.declared.DbId.{DbId}
use Rattle.aq_base.specs.declared.limits.TheConstants.{MOMENT_LIMIT}
use Rattle.queue_rows.specs.Session.{Session}
use Rattle.queue_rows.specs.Due.{due}
use Rattle.queue_rows.specs.Valid.{is_valid}
use Rattle.queue_rows.specs.Fits.{fits}
use Rattle.queue_rows.specs.declared.tables.Tables.{Tables}
use Rattle.queue_rows.specs.declared.history.SlotRef.{SlotRef}

-- what is due at a database fits, for any sessions and any slot that is being sent; its tables need but be valid
abbrev pub DueFits : Type 0
DueFits = (t : Tables) (sessions : List Session) (db : DbId) (sent : Option SlotRef) (moment : ℕ) → is_valid t ≡ true
    → t.latest ≤ moment → moment ≤ MOMENT_LIMIT
    → fits t (record { moment = moment; changes = due t sessions db sent moment }) ≡ true
