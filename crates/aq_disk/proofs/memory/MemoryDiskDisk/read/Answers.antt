use Rattle.std.proofs.Common.{rules, ◌≡◌, ◌≤◌}
use Rattle.aq_disk.proofs.Calls.{same_images, stays_same}
use Rattle.aq_disk.proofs.memory.MemoryDiskDisk.read.Goals as goal

pub returns-in_err-work-clause-crash : goal.returns-in_err-work-clause-crash
returns-in_err-work-clause-crash c =
    let old = c.args.self.now in
    let is : c.work.new.self.held ≡ old.held = search rules in
    let le : old.counts.calls ≤ c.work.new.self.counts.calls = search rules in
    same_images old.held c.work.new.self.held (stays_same old.held c.work.new.self.held is) old.counts.calls c.work.new.self.counts.calls old.numbered le

pub returns-clause-crash : goal.returns-clause-crash
returns-clause-crash c =
    let old = c.args.self.now in
    let is : c.work.new.self.held ≡ old.held = search rules in
    let le : old.counts.calls ≤ c.work.new.self.counts.calls = search rules in
    same_images old.held c.work.new.self.held (stays_same old.held c.work.new.self.held is) old.counts.calls c.work.new.self.counts.calls old.numbered le
