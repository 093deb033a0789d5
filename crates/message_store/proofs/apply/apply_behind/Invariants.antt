use Rattle.std.proofs.Common.{◌≡◌, drop}
use Rattle.std.specs.Vec.Iter.{drain_items}
use Rattle.queue_rows.specs.Tables.{after_all}
use Rattle.message_store.specs.Open.{held, room_of}
use Rattle.message_store.specs.Prepared.{AreReady}
use Rattle.message_store.proofs.apply.apply_behind.Given as goal

abbrev pub invariant-loop-change : goal.invariant-loop-change
invariant-loop-change l = record {
  ready : AreReady (held l.opened) (room_of l.opened) (drain_items l.change-iterator);
  held : after_all (held l.opened) (drain_items l.change-iterator) ≡ after_all (held l.fn.opened) (drop l.fn.first l.fn.changes.items);
}
