use Rattle.std.proofs.Common.{rules, ◌≤◌}
use Rattle.aq_disk.proofs.Calls.{numbered_more}
use Rattle.aq_disk.proofs.memory.MemoryDisk.count.Goals as goal

pub invariant_of-self : goal.invariant_of-self
invariant_of-self c =
    let old = c.args.self.now in
    let le : old.counts.calls ≤ c.next.new.self.calls = search rules in
    record { numbered = numbered_more old.counts.calls c.next.new.self.calls old.held.kept.items old.numbered le }
