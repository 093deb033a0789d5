use Rattle.std.proofs.Common.{◌≡◌, ◌+◌, ◌++◌, drop}
use Rattle.std.specs.List.{filter_map, enumerate_from}
use Rattle.queue_rows.specs.Catalog.{dropped_slot, dropped_of}
use Rattle.queue_catalog.proofs.removal.drop_slots.Given as goal

abbrev pub invariant-loop-index : goal.invariant-loop-index
invariant-loop-index l =
    l.changes ++ filter_map (dropped_slot l.sub l.moment l.message.id) (enumerate_from (l.index + 1) (drop l.index l.message.slots))
    ≡ l.fn.changes ++ dropped_of l.sub l.moment l.message
