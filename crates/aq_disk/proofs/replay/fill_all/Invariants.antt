use Rattle.std.proofs.Common.{◌≡◌, take}
use Rattle.aq_disk.specs.Kept.{all_filled}
use Rattle.aq_disk.proofs.replay.fill_all.Given as goal

abbrev pub invariant-loop-k : goal.invariant-loop-k
invariant-loop-k l = l.bytes.items ≡ all_filled l.fill l.initial.bytes.items (take l.k-index l.kept)
