use Rattle.std.proofs.Common.{false}
use Rattle.valid_laws.proofs.Going.{all_go, settled_fits}
use Rattle.valid_laws.proofs.Keeping.{later_is_valid}
use Rattle.valid_laws.proofs.laws.settled_fits.Goals as goal

pub returns : goal.returns
returns c = λ t moment cs v le top k e. settled_fits false t moment cs le (all_go cs (record t { latest = moment }) (later_is_valid t moment le v top) k e)
