use Rattle.checkpoint_commit.proofs.Whole.{checkpoint_leads}
use Rattle.checkpoint_commit.proofs.laws.checkpoint_leads.Goals as goal

pub returns : goal.returns
returns c = checkpoint_leads
