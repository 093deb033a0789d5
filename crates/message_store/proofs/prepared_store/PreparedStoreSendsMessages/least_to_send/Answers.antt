use Rattle.std.proofs.Common.{All, List, ap, sym, subst, ◌∙◌}
use Rattle.queue_rows.specs.declared.rows.MsgRow.{MsgRow}
use Rattle.message_index.specs.Few.{HasFewSlots}
use Rattle.message_index.specs.Searched.{sent_first}
use Rattle.message_store.specs.Stored.{Stored}
use Rattle.message_index.proofs.EntryLemmas.{entries_rise, messages_are}
use Rattle.message_store.proofs.prepared_store.PreparedStoreSendsMessages.least_to_send.Goals as goal

pub least_by_rows-requires-clause-rising : goal.least_by_rows-requires-clause-rising
least_by_rows-requires-clause-rising c =
    let k = c.self.inside.kept in
    entries_rise k.stamps k.tables.messages c.tables.ensures.stamped.rise

pub least_by_rows-requires-clause-few : goal.least_by_rows-requires-clause-few
least_by_rows-requires-clause-few c =
    let k = c.self.inside.kept in
    let own = ap (λ (s : Stored). s.tables.messages) c.self.view_is in
    subst (λ (ms : List MsgRow). All HasFewSlots ms) (sym own ∙ sym (messages_are k.stamps k.tables.messages c.tables.ensures.stamped.long)) c.requires

pub returns-in-Some : goal.returns-in-Some
returns-in-Some c =
    let k = c.self.inside.kept in
    let own = ap (λ (s : Stored). s.tables.messages) c.self.view_is in
    c.least_by_rows.ensures ∙ ap (sent_first c.args.schedule.now c.args.moment) (messages_are k.stamps k.tables.messages c.tables.ensures.stamped.long ∙ own)
