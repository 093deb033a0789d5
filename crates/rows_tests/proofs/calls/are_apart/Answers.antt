use Rattle.std.proofs.Common.{sym, ◌∙◌}
use Rattle.rows_tests.proofs.Apart.{apart}
use Rattle.rows_tests.proofs.calls.are_apart.Goals as goal

pub returns : goal.returns
returns c = λ yes. apart c.args.messages.now (sym c.are_few.ensures ∙ yes)
