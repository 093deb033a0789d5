use Rattle.std.proofs.Common.{◌≡◌, ◌+◌, drop}
use Rattle.std.specs.Prelude.{nat_lt}
use Rattle.std.specs.List.{position_or_len}
use Rattle.aq_disk.proofs.replay.up_to.Given as goal

abbrev pub invariant-loop-at : goal.invariant-loop-at
invariant-loop-at l =
    position_or_len (λ x. nat_lt l.call x.call) l.kept ≡ l.at + position_or_len (λ x. nat_lt l.call x.call) (drop l.at l.kept)
