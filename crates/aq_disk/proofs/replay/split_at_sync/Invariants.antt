use Rattle.std.proofs.Common.{◌≡◌, ◌≤◌, take, drop}
use Rattle.aq_disk.specs.Kept.{since_sync}
use Rattle.aq_disk.proofs.replay.split_at_sync.Given as goal

abbrev pub invariant-loop-at : goal.invariant-loop-at
invariant-loop-at l = (l.from ≤ l.at) × (since_sync (take l.at l.kept) ≡ drop l.from (take l.at l.kept))
