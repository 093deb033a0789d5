use Rattle.run_fates.proofs.Throughout.{legal_entries_are_own}
use Rattle.run_fates.proofs.laws.legal_entries_are_own.Goals as goal

pub returns : goal.returns
returns c = legal_entries_are_own
