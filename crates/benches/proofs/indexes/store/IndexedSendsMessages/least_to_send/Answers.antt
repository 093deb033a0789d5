use Rattle.std.proofs.Common.{List, All, ap, sym, subst, ◌∙◌}
use Rattle.queue_rows.specs.declared.rows.MsgRow.{MsgRow}
use Rattle.remote_slots.specs.Few.{HasFewSlots}
use Rattle.remote_slots.specs.Searched.{sent_first}
use Rattle.benches.proofs.Stamped.{all_rise, messages_are}
use Rattle.benches.proofs.indexes.store.IndexedSendsMessages.least_to_send.Goals as goal

pub least_by_rows-requires-clause-rising : goal.least_by_rows-requires-clause-rising
least_by_rows-requires-clause-rising c = all_rise 0 c.args.self.now.tables.messages

pub least_by_rows-requires-clause-few : goal.least_by_rows-requires-clause-few
least_by_rows-requires-clause-few c =
    subst (λ (ms : List MsgRow). All HasFewSlots ms) (sym (messages_are 0 c.args.self.now.tables.messages)) c.requires

pub returns : goal.returns
returns c = c.least_by_rows.ensures ∙ ap (sent_first c.args.schedule.now c.args.moment) (messages_are 0 c.args.self.now.tables.messages)
