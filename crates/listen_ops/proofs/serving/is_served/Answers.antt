use Rattle.std.proofs.Common.{◌≡◌, ◌∙◌, Some, ap, sym}
use Rattle.slot_marks.specs.Marks.{marks_of}
use Rattle.queue_rows.specs.Rows.{find_queue, find_table}
use Rattle.queue_rows.specs.Listening.{has_message_at, has_message_in}
use Rattle.queue_rows.specs.declared.tables.Tables.{Tables}
use Rattle.message_choice.proofs.Sounding.{are_sound}
use Rattle.listen_ops.proofs.Served.{has-found}
use Rattle.listen_ops.proofs.serving.is_served.Goals as goal

pub has_message-requires : goal.has_message-requires
has_message-requires g c =
    let t = g.T.MessageTables.tables c.args.store.now in
    let queue = c.in-Some.queue.now in
    let table = c.in-Some-find_table.table.now in
    let queue_is : find_queue t c.args.agent.now.queue ≡ Some queue = sym (c.in-Some.ensures ∙ ap (λ (x : Tables). find_queue x c.args.agent.now.queue) c.tables.ensures) in
    let table_is : find_table t queue.table ≡ Some table = sym (c.in-Some-find_table.ensures ∙ ap (λ (x : Tables). find_table x queue.table) c.tables-2.ensures) in
    rw (c.pick_of.ensures.queue_is, c.pick_of.ensures.table_is)
    (are_sound t (marks_of c.args.locks.now c.args.actor) c.args.agent.now.queue queue table queue_is table_is c.requires.valid c.requires.groups)

pub returns : goal.returns
returns g c =
    let t = g.T.MessageTables.tables c.args.store.now in
    let agent = c.args.agent.now in
    let queue = c.in-Some.queue.now in
    let table = c.in-Some-find_table.table.now in
    let queue_is : find_queue t agent.queue ≡ Some queue = sym (c.in-Some.ensures ∙ ap (λ (x : Tables). find_queue x agent.queue) c.tables.ensures) in
    let table_is : find_table t queue.table ≡ Some table = sym (c.in-Some-find_table.ensures ∙ ap (λ (x : Tables). find_table x queue.table) c.tables-2.ensures) in
    λ sessions s is.
    ap (has_message_at t sessions c.args.actor s agent) queue_is
    ∙ ap (has_message_in t sessions c.args.actor s agent queue) table_is
    ∙ has-found t c.args.locks.now c.args.actor sessions s is agent queue table c.pick_of.result c.has_message.result c.pick_of.ensures c.has_message.ensures
