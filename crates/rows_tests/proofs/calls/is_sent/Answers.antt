use Rattle.std.proofs.lemmas.Bool.{leb-true}
use Rattle.queue_rows.specs.Propagating.{dispatch}
use Rattle.rows_tests.proofs.Found.{is_there, has_failed}
use Rattle.rows_tests.proofs.calls.is_sent.Goals as goal

pub returns-in-Some-clause-sent : goal.returns-in-Some-clause-sent
returns-in-Some-clause-sent c = λ h. is_there (dispatch c.args.origin.now.tables c.args.at.now) c.in-Some.schedule.now c.in-Some.ensures

pub returns-in-Some-clause-failures : goal.returns-in-Some-clause-failures
returns-in-Some-clause-failures c = λ h. has_failed (dispatch c.args.origin.now.tables c.args.at.now) c.in-Some.schedule.now c.in-Some.ensures (leb-true c.in-Some.schedule.now.failures 15 h)
