-- What a history may begin with.
use Rattle.std.specs.Prelude.{◌≡◌, List, true}
use Rattle.queue_rows.specs.Valid.{is_valid}
use Rattle.queue_rows.specs.declared.tables.Tables.{Tables}
use Rattle.queue_rows.specs.declared.history.SessionScript.{SessionScript}
use Rattle.statement_laws.specs.EnqueueLaws.{has_ordered_fields}
use Rattle.history_laws.specs.ValidWorld.{AreScripts}

-- a history may begin with these tables and scripts
pub record MayBegin (home away : Tables) (scripts : List SessionScript) : Type 0 where
  pub home_valid : is_valid home ≡ true
  pub away_valid : is_valid away ≡ true
  pub home_fields : has_ordered_fields home ≡ true
  pub away_fields : has_ordered_fields away ≡ true
  pub may_ask : AreScripts scripts
