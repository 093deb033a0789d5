use Rattle.std.proofs.Common.{ℕ, ◌<◌, sym, subst, ◌∙◌, ap, length}
use Rattle.queue_rows.specs.declared.rows.MsgRow.{MsgRow}
use Rattle.remote_slots.specs.Indexed.{IndexesReady}
use Rattle.remote_slots.specs.Remote.{IndexesRemote}
use Rattle.open_rows.specs.Rows.{Rows}
use Rattle.message_index.proofs.MessageLemmas.{ids_edited}
use Rattle.message_index.proofs.IndexLemmas.{due_edited, edited}
use Rattle.message_index.proofs.open_messages.OpenMessages.edit_at.Goals as goal

pub invariant_of-self : goal.invariant_of-self
invariant_of-self g c =
    let change : MsgRow → MsgRow = g.E.Edit.edited c.args.edit in
    let m = c.self.inside in
    let within = subst (λ (n : ℕ). c.args.at < n) (sym (ap (λ (r : Rows MsgRow). length r.items) c.self.view_is)) c.requires.within in
    record {
      ids = rw c.edit.ensures (c.self.invariant.ids ∙ sym (ids_edited m.rows c.args.at change c.requires.id));
      stamped = c.self.invariant.stamped;
      caches = record {
        ready = edited IndexesReady m.index.ids m.index.stamps m.rows c.edit.new.self c.args.at c.stamp_at-stamp.result change m.caches.ready.slots c.take_from.new.caches.ready.slots c.put_into.new.caches.ready.slots
            c.self.invariant.stamped within c.stamp_at-stamp.ensures c.edit.ensures c.take_from.ensures.ready c.put_into.ensures.ready c.self.invariant.caches.ready;
        remote = edited IndexesRemote m.index.ids m.index.stamps m.rows c.edit.new.self c.args.at c.stamp_at-stamp.result change m.caches.remote.slots c.take_from.new.caches.remote.slots c.put_into.new.caches.remote.slots
            c.self.invariant.stamped within c.stamp_at-stamp.ensures c.edit.ensures c.take_from.ensures.remote c.put_into.ensures.remote c.self.invariant.caches.remote;
        due = due_edited m.rows c.edit.new.self c.args.at change m.caches.due.keeps c.take_from.new.caches.due.keeps c.put_into.new.caches.due.keeps m.caches.due.slots c.take_from.new.caches.due.slots c.put_into.new.caches.due.slots
            c.take_from.ensures.keeps c.put_into.ensures.keeps within c.edit.ensures c.take_from.ensures.due c.put_into.ensures.due c.self.invariant.caches.due;
      };
    }
