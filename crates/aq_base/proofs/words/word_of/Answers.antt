use Rattle.std.proofs.Common.{◌∙◌}
use Rattle.aq_base.proofs.Texts.{word_of_text, word_of_no_text}
use Rattle.aq_base.proofs.words.word_of.Goals as goal

pub returns-in-Ok : goal.returns-in-Ok
returns-in-Ok c = c.in-Ok.ensures.cases.0 ∙ word_of_text c.args.argument.now c.in-Ok.ensures.cases.1

pub returns-in-Err : goal.returns-in-Err
returns-in-Err c = word_of_no_text c.args.argument.now c.in-Err.ensures.cases.0
