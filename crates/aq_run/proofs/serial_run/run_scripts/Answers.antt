use Rattle.std.proofs.Common.{inl, inr, sym, subst}
use Rattle.aq_run.specs.Histories.{HoldsOf}
use Rattle.aq_run.proofs.serial_run.run_scripts.Goals as goal

pub returns-in-Ok-clause-answers : goal.returns-in-Ok-clause-answers
returns-in-Ok-clause-answers g c = inr (c.printed.ensures.answers c.args.home c.args.away c.args.scripts c.in-Ok.ensures.played)

pub returns-in-Ok-clause-disks : goal.returns-in-Ok-clause-disks
returns-in-Ok-clause-disks g c = c.printed.ensures.disks c.args.home c.args.away c.args.scripts c.in-Ok.ensures.played

pub returns-in-Ok-clause-holds : goal.returns-in-Ok-clause-holds
returns-in-Ok-clause-holds g c = subst HoldsOf (sym c.printed.ensures.history) c.in-Ok.ensures.played.holds

pub returns-in-Err-clause-answers : goal.returns-in-Err-clause-answers
returns-in-Err-clause-answers g c = inl (c.unmounted.ensures.answers c.args.home c.args.away c.in-Err.ensures.unmounted)

pub returns-in-Err-clause-disks : goal.returns-in-Err-clause-disks
returns-in-Err-clause-disks g c = c.unmounted.ensures.disks c.args.home c.args.away c.in-Err.ensures.unmounted
