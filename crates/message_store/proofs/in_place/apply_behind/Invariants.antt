use Rattle.std.proofs.Common.{◌≡◌, true, drop}
use Rattle.std.specs.List.{AllByRecursion}
use Rattle.std.specs.Vec.Iter.{drain_items}
use Rattle.queue_rows.specs.Tables.{after_all}
use Rattle.message_index.specs.Caches.{AreIndexed}
use Rattle.message_store.specs.Beside.{room_beside}
use Rattle.message_store.specs.OfMessages.{is_of_message}
use Rattle.message_store.specs.Prepared.{AreReady}
use Rattle.message_store.proofs.in_place.apply_behind.Given as goal

abbrev pub invariant-loop-change : goal.invariant-loop-change
invariant-loop-change l = record {
  of : AllByRecursion (λ c. is_of_message c ≡ true) (drain_items l.change-iterator);
  ready : AreReady l.tables (room_beside l.tables l.beside) (drain_items l.change-iterator);
  indexed : AreIndexed l.tables.messages l.beside.index l.caches;
  tables : after_all l.tables (drain_items l.change-iterator) ≡ after_all l.fn.tables (drop l.fn.first l.fn.changes.items);
}
