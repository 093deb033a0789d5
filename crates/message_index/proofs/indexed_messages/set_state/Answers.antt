use Rattle.std.proofs.Common.{refl}
use Rattle.queue_rows.specs.Tables.{in_state}
use Rattle.choice_laws.proofs.Shown.{states_keep_recipient}
use Rattle.message_index.proofs.indexed_messages.set_state.Goals as goal

pub edit_slot-requires-clause-slot : goal.edit_slot-requires-clause-slot
edit_slot-requires-clause-slot c = record {
  change = in_state c.args.state c.args.at;
  keeps = states_keep_recipient.state c.args.state c.args.at;
  is = λ m. refl;
}
