use Rattle.std.proofs.Common.{inl, inr}
use Rattle.aq_run.proofs.serial_run.run_bytes.Goals as goal

pub returns-in-Ok-clause-answers : goal.returns-in-Ok-clause-answers
returns-in-Ok-clause-answers g c = inr (c.in-Ok.scripts, c.in-Ok.ensures.ok, c.run_scripts.ensures.answers)
