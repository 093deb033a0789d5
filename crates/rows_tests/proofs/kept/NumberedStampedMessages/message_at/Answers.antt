use Rattle.std.proofs.Common.{◌≡◌, ◌+◌, sym, ◌∙◌, arith}
use Rattle.rows_tests.proofs.Numbering.{found_from}
use Rattle.rows_tests.proofs.kept.NumberedStampedMessages.message_at.Goals as goal

pub returns : goal.returns
returns c =
    let same : c.args.stamp ≡ 0 + c.args.stamp = omega arith in
    c.get.ensures ∙ sym (found_from 0 c.args.stamp c.args.stamp c.args.self.now.messages.now same)
