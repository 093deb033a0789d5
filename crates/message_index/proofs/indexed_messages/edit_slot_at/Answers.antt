use Rattle.std.proofs.Common.{sym, subst, ◌∙◌, ap, List, Option}
use Rattle.queue_rows.specs.declared.rows.MsgRow.{MsgRow}
use Rattle.sort_index.specs.declared.group.Group.{Group}
use Rattle.remote_slots.specs.Remote.{IndexesRemote}
use Rattle.message_index.specs.Stamped.{IfReady, entries_of}
use Rattle.message_index.proofs.MessageLemmas.{ids_edited}
use Rattle.message_index.proofs.IndexLemmas.{due_edited, edited, slot_edited}
use Rattle.message_index.proofs.indexed_messages.edit_slot_at.Goals as goal

pub returns-clause-indexed : goal.returns-clause-indexed
returns-clause-indexed g c =
    let change : MsgRow → MsgRow = g.E.Edit.edited c.args.edit in
    let at = c.args.at in
    let i = c.args.index.now in
    let ms = c.args.rows.now in
    let caches = c.args.caches.now in
    let own = c.requires.indexed in
    let of = c.requires.slot in
    let within = c.requires.within in
    let kept = subst (λ (o : Option (List Group)). IfReady (entries_of i.stamps ms) o) (sym (c.put_beside.ensures.ready ∙ c.take_beside.ensures.ready)) own.caches.ready in
    record {
      ids = rw c.edit.ensures (own.ids ∙ sym (ids_edited ms at change (λ x. ap (λ (y : MsgRow). y.id) (of.is x))));
      stamped = own.stamped;
      caches = record {
        ready = slot_edited i.ids i.stamps ms c.edit.new.self at c.stamp_at-stamp.result c.args.slot change c.put_beside.new.caches.ready.slots c.turn_slot.new.ready.slots
            own.stamped within c.stamp_at-stamp.ensures c.edit.ensures of c.turn_slot.ensures kept;
        remote = edited IndexesRemote i.ids i.stamps ms c.edit.new.self at c.stamp_at-stamp.result change caches.remote.slots c.take_beside.new.caches.remote.slots c.put_beside.new.caches.remote.slots
            own.stamped within c.stamp_at-stamp.ensures c.edit.ensures c.take_beside.ensures.remote c.put_beside.ensures.remote own.caches.remote;
        due = due_edited ms c.edit.new.self at change caches.due.keeps c.take_beside.new.caches.due.keeps c.put_beside.new.caches.due.keeps caches.due.slots c.take_beside.new.caches.due.slots c.put_beside.new.caches.due.slots
            c.take_beside.ensures.keeps c.put_beside.ensures.keeps within c.edit.ensures c.take_beside.ensures.due c.put_beside.ensures.due own.caches.due;
      };
    }
