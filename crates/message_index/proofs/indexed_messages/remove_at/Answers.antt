use Rattle.std.proofs.Common.{List, ap, ◌∙◌, sym, subst}
use Rattle.std.specs.Prelude.{remove}
use Rattle.remote_slots.specs.Indexed.{IndexesReady}
use Rattle.remote_slots.specs.Remote.{IndexesRemote}
use Rattle.message_index.specs.DueKept.{IfDue, keeps_in}
use Rattle.message_index.specs.declared.due_cache.KeepRow.{KeepRow}
use Rattle.message_index.proofs.MessageLemmas.{ids_removed}
use Rattle.message_index.proofs.IndexLemmas.{taken}
use Rattle.message_index.proofs.indexed_messages.remove_at.Goals as goal

pub returns-clause-indexed : goal.returns-clause-indexed
returns-clause-indexed c =
    let at = c.args.at in
    let i = c.args.index.now in
    let ms = c.args.rows.now in
    let caches = c.args.caches.now in
    let own = c.requires.indexed in
    let ready = taken IndexesReady i.ids i.stamps ms at c.stamp_at-stamp.result caches.ready.slots c.take_from.new.caches.ready.slots
    own.ids own.stamped c.requires.within c.stamp_at-stamp.ensures c.take_from.ensures.ready own.caches.ready in
    let remote = taken IndexesRemote i.ids i.stamps ms at c.stamp_at-stamp.result caches.remote.slots c.take_from.new.caches.remote.slots
    own.ids own.stamped c.requires.within c.stamp_at-stamp.ensures c.take_from.ensures.remote own.caches.remote in
    let due = subst (λ (k : List KeepRow). IfDue (keeps_in k) (remove ms at) c.take_from.new.caches.due.slots) (sym c.take_from.ensures.keeps) (c.take_from.ensures.due own.caches.due) in
    rw c.keep.ensures (record {
      ids = rw c.take_out-place.ensures (c.remove.ensures.ids ∙ ap (λ ids. remove ids at) own.ids ∙ ids_removed ms at);
      stamped = c.remove.ensures.stamped;
      caches = record { ready = rw (c.take_out-place.ensures, c.remove.ensures.stamps) ready; remote = rw (c.take_out-place.ensures, c.remove.ensures.stamps) remote; due = rw c.take_out-place.ensures due };
    })
