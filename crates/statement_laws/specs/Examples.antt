-- An example of what sessions hold: one has taken the message of the example tables and not committed, the other one nothing.
use Rattle.std.specs.Prelude.{[], ◌∷◌, true, None}
use Rattle.aq_base.specs.declared.DbId.TheVariants.{Home}
use Rattle.queue_rows.specs.Session.{Session, fresh_at}
use Rattle.queue_rows.specs.declared.session.Pending.TheVariants.{Remove}
use Rattle.valid_laws.specs.Examples.{example_tables}
use Rattle.statement_laws.specs.StandingLaws.{AreStanding}

abbrev pub example_taker : Session
example_taker = record { at = Home; next = 1; pending = Remove 1 1 ∷ []; marks = record { id = 1; slot = 1; removed = true; group = None } ∷ []; positions = []; parked = None; untold = None; live = true }

-- they stand, where 2 is the next id, at moment 5
abbrev pub ExampleStands : Type 0
ExampleStands = AreStanding example_tables Home 2 5 (example_taker ∷ fresh_at Home ∷ [])
