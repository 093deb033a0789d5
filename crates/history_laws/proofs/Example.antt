-- The beginning of the example is as it may be.
use Rattle.std.proofs.Common.{refl}
use Rattle.queue_rows.specs.Within.{is_within, are_within}
use Rattle.queue_rows.specs.Valid.{is_valid}
use Rattle.valid_laws.specs.Examples.{example_tables, example_left}
use Rattle.history_laws.specs.WorldLaws.{MayBegin}
use Rattle.history_laws.specs.Beginning.{example_scripts}

pub example_begins : MayBegin example_tables example_left example_scripts
unfolding is_valid are_within is_within
example_begins = record { home_valid = refl; away_valid = refl; home_fields = refl; away_fields = refl; may_ask = record { within = refl; ordered = refl } }
