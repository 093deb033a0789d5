use Rattle.std.proofs.Common.{refl}
use Rattle.queue_rows.specs.Catalog.{judged}
use Rattle.queue_rows.specs.Fits.{fits}
use Rattle.queue_rows.specs.Tables.{after}
use Rattle.queue_rows.specs.Valid.{is_valid}
use Rattle.valid_laws.proofs.laws.example_drops.Goals as goal

pub returns-clause-changes : goal.returns-clause-changes
unfolding judged
returns-clause-changes c = refl

pub returns-clause-fit : goal.returns-clause-fit
unfolding fits after is_valid
returns-clause-fit c = refl
