use Rattle.std.proofs.Common.{List, All, sym, subst}
use Rattle.queue_rows.specs.declared.rows.MsgRow.{MsgRow}
use Rattle.remote_slots.specs.Few.{HasFewSlots}
use Rattle.rows_tests.proofs.Numbering.{all_rise, messages_are}
use Rattle.rows_tests.proofs.remote.sends_alike.Goals as goal

pub least_by_rows-by_rows-requires-clause-rising : goal.least_by_rows-by_rows-requires-clause-rising
least_by_rows-by_rows-requires-clause-rising c = all_rise 0 c.args.kept.now.messages.now

pub least_by_rows-by_rows-requires-clause-few : goal.least_by_rows-by_rows-requires-clause-few
least_by_rows-by_rows-requires-clause-few c =
    subst (λ (ms : List MsgRow). All HasFewSlots ms) (sym (messages_are 0 c.args.kept.now.messages.now)) c.requires.few
