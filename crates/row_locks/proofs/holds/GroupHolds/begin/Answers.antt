use Rattle.std.proofs.Common.{◌/◌, ◌%◌, rules}
use Rattle.std.specs.HashMap.{get}
use Rattle.row_locks.specs.Groups.{hold_at}
use Rattle.row_locks.specs.Entries.{is_same_slot}
use Rattle.row_locks.proofs.BlockLemmas.{begun}
use Rattle.row_locks.proofs.holds.GroupHolds.begin.Goals as goal

pub returns-clause-holds : goal.returns-clause-holds
returns-clause-holds c = λ n h.
    begun hold_at (get is_same_slot c.args.self.now.blocks) (get is_same_slot c.insert.new.self) (c.args.key.number / 16, c.args.key.names) (n / 16, h) (n % 16) _ (c.in-Ok.ensures.updates.0 (n / 16, h)) c.requires.absent (search rules)
