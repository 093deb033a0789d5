use Rattle.std.proofs.Common.{None, Some, sym, ◌∙◌}
use Rattle.message_index.proofs.EntryLemmas.{as_long, message_is}
use Rattle.message_store.proofs.kept_tables.KeptTablesStampedMessages.message_at.Goals as goal

pub returns-in-None : goal.returns-in-None
returns-in-None c =
    let k = c.self.inside in
    let ms = k.tables.messages in
    let ss = k.beside.index.stamps in
    let long = as_long k.beside.index.ids ss ms c.self.invariant.0 c.self.invariant.1 in
    rw (← c.self.view_is) (message_is ss ms c.args.stamp long None (sym c.in-None.is ∙ c.rank.ensures))

pub returns-in-Some : goal.returns-in-Some
returns-in-Some c =
    let k = c.self.inside in
    let ms = k.tables.messages in
    let ss = k.beside.index.stamps in
    let long = as_long k.beside.index.ids ss ms c.self.invariant.0 c.self.invariant.1 in
    c.get.ensures ∙ rw (← c.self.view_is) (message_is ss ms c.args.stamp long (Some c.in-Some.at) (sym c.in-Some.is ∙ c.rank.ensures))
