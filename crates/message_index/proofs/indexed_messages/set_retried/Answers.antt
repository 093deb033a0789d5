use Rattle.std.proofs.Common.{refl}
use Rattle.queue_rows.specs.Tables.{retried}
use Rattle.choice_laws.proofs.Shown.{states_keep_recipient}
use Rattle.message_index.proofs.indexed_messages.set_retried.Goals as goal

pub edit_slot-requires-clause-slot : goal.edit_slot-requires-clause-slot
edit_slot-requires-clause-slot c = record {
  change = retried c.args.retries c.args.until c.args.at;
  keeps = states_keep_recipient.retry c.args.retries c.args.until c.args.at;
  is = λ m. refl;
}
