use Rattle.std.proofs.Common.{◌∙◌}
use Rattle.message_index.proofs.MessageLemmas.{moved_first}
use Rattle.message_index.proofs.open_messages.OpenMessages.move_to.Goals as goal

pub returns : goal.returns
returns c = c.edit.ensures ∙ moved_first c.args.room c.args.queue c.args.at c.args.id c.args.self.now c.requires
