use Rattle.std.proofs.Common.{sym}
use Rattle.message_index.specs.DueKept.{keeps_in}
use Rattle.message_index.proofs.IndexLemmas.{due_taken}
use Rattle.message_index.proofs.indexed_messages.take_beside.Goals as goal

pub returns-in-Some-clause-due : goal.returns-in-Some-clause-due
returns-in-Some-clause-due c =
    due_taken c.args.index.now.ids c.args.rows.now c.args.at c.in-Some.message.now c.is_alone.result (keeps_in c.args.caches.now.due.keeps) c.args.caches.now.due.slots c.take_rest.new.caches.due.slots
    c.requires (sym c.in-Some.ensures) c.is_alone.ensures c.take_rest.ensures.due
