use Rattle.std.proofs.Common.{◌≡◌, take}
use Rattle.payload_records.proofs.list.copied_items.Given as goal

abbrev pub invariant-loop-item : goal.invariant-loop-item
invariant-loop-item g l = l.items.items ≡ take l.item-index l.item-items
