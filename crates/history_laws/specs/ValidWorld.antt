-- What scripts may ask, and what holds of a database at each moment of a legal history.
use Rattle.std.specs.Prelude.{◌≡◌, ◌≤◌, ℕ, List, true, None}
use Rattle.aq_base.specs.declared.DbId.{DbId}
use Rattle.aq_base.specs.declared.limits.TheConstants.{NEXT_LIMIT}
use Rattle.queue_rows.specs.Session.{Session}
use Rattle.queue_rows.specs.Within.{are_within}
use Rattle.queue_rows.specs.Valid.{is_valid}
use Rattle.queue_rows.specs.declared.tables.Tables.{Tables}
use Rattle.queue_rows.specs.declared.history.SessionScript.{SessionScript}
use Rattle.history_laws.specs.Ordered.{are_ordered}
use Rattle.statement_laws.specs.EnqueueLaws.{has_ordered_fields}
use Rattle.statement_laws.specs.StandingLaws.{AreStanding}

-- ---- scripts

-- the scripts keep the limits, and so do the types of the tables that they create
pub record AreScripts (scripts : List SessionScript) : Type 0 where
  pub within : are_within scripts ≡ true
  pub ordered : are_ordered scripts ≡ true

-- ---- a database

-- Its tables are valid, with the fields of each table in order, and no later than the moment; the sessions stand in them, with the next
-- id that is to be given; and that id is none past its limit.
pub record IsRight (t : Tables) (db : DbId) (next moment : ℕ) (sessions : List Session) : Type 0 where
  pub valid : is_valid t ≡ true
  pub fields : has_ordered_fields t ≡ true
  pub latest : t.latest ≤ moment
  pub standing : AreStanding t db next moment sessions
  pub most : next ≤ NEXT_LIMIT
