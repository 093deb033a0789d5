use Rattle.std.proofs.Common.{List, sym, subst}
use Rattle.slot_marks.specs.Marks.{marks_of}
use Rattle.queue_rows.specs.declared.rows.MsgRow.{MsgRow}
use Rattle.message_choice.specs.Asking.{AreSound}
use Rattle.rows_tests.proofs.Numbering.{all_rise, messages_are}
use Rattle.rows_tests.proofs.kept.choose_alike.Goals as goal

pub choose-by_index-requires-clause-rising : goal.choose-by_index-requires-clause-rising
choose-by_index-requires-clause-rising g c = all_rise 0 c.args.kept.now.messages.now

pub choose-by_index-requires-clause-sound : goal.choose-by_index-requires-clause-sound
choose-by_index-requires-clause-sound g c =
    let pick = c.args.pick.now in
    subst (λ (ms : List MsgRow). AreSound (marks_of c.args.locks.now c.args.actor) pick.queue.now pick.table.now ms) (sym (messages_are 0 c.args.kept.now.messages.now)) c.requires.sound
