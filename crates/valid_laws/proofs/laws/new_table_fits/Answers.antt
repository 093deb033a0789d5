use Rattle.valid_laws.proofs.Making.{new_table_fits}
use Rattle.valid_laws.proofs.laws.new_table_fits.Goals as goal

pub returns : goal.returns
returns c = new_table_fits
