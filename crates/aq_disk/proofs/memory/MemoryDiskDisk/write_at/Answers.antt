use Rattle.std.proofs.Common.{rules, ◌≡◌, ◌≤◌, ◌<◌, length, Some, ap}
use Rattle.aq_disk.specs.Disk.{Torn, Allows, SameImages}
use Rattle.aq_disk.specs.Kept.{AddsWrite}
use Rattle.aq_disk.specs.Held.{SameHeld}
use Rattle.aq_disk.specs.Left.{torn_none}
use Rattle.aq_disk.proofs.Calls.{on_ok, images, same_images, same_follows, same_keeps, stays_with, write_follows, write_allows, write_keeps, write_earlier}
use Rattle.aq_disk.proofs.memory.MemoryDiskDisk.write_at.Goals as goal

quiet : (c : goal.After-from_residual-in_err-write) → SameImages (images c.args.self.now.held c.args.self.now.counts.calls) (images c.write.new.self.held c.write.new.self.counts.calls)
quiet c =
    let old = c.args.self.now in
    let stays : SameHeld old.held c.write.new.self.held = stays_with old.held c.count.new.self.held c.write.new.self.held c.count.ensures.held c.in_err-write.ensures.err in
    let le : old.counts.calls ≤ c.write.new.self.counts.calls = search rules in
    same_images old.held c.write.new.self.held stays old.counts.calls c.write.new.self.counts.calls old.numbered le

pub returns-in_err-write-clause-crash : goal.returns-in_err-write-clause-crash
returns-in_err-write-clause-crash c =
    same_follows (Torn c.args.at (length c.args.from.now)) (torn_none c.args.at (length c.args.from.now)) (images c.args.self.now.held c.args.self.now.counts.calls) (images c.write.new.self.held c.write.new.self.counts.calls) (quiet c)

pub returns-in_err-write-clause-lost : goal.returns-in_err-write-clause-lost
returns-in_err-write-clause-lost c = same_keeps (images c.args.self.now.held c.args.self.now.counts.calls) (images c.write.new.self.held c.write.new.self.counts.calls) (quiet c)

pub returns-in_err-write-clause-refused : goal.returns-in_err-write-clause-refused
returns-in_err-write-clause-refused c refused =
    let stays : SameHeld c.args.self.now.held c.write.new.self.held = stays_with c.args.self.now.held c.count.new.self.held c.write.new.self.held c.count.ensures.held c.in_err-write.ensures.err in
    (c.from_residual-in_err-write.ensures.0, ap Some stays.bytes, quiet c)

pub returns-clause-crash : goal.returns-clause-crash
returns-clause-crash c =
    let old = c.args.self.now in
    let adds : AddsWrite old.held.kept.items c.work.new.self.held.kept.items c.work.new.self.counts.calls c.args.at c.args.from.now = search rules in
    let later : old.counts.calls < c.work.new.self.counts.calls = search rules in
    let begins : c.work.new.self.held.start.items ≡ old.held.start.items = search rules in
    write_follows old.held c.work.new.self.held old.counts.calls c.work.new.self.counts.calls old.numbered later begins c.args.at c.args.from.now adds

pub returns-clause-any_bytes : goal.returns-clause-any_bytes
returns-clause-any_bytes c =
    let old = c.args.self.now in
    let adds : AddsWrite old.held.kept.items c.work.new.self.held.kept.items c.work.new.self.counts.calls c.args.at c.args.from.now = search rules in
    let later : old.counts.calls < c.work.new.self.counts.calls = search rules in
    let begins : c.work.new.self.held.start.items ≡ old.held.start.items = search rules in
    on_ok c.work.result (Allows (Torn c.args.at (length c.args.from.now)) (images old.held old.counts.calls) (images c.work.new.self.held c.work.new.self.counts.calls))
    (write_allows old.held c.work.new.self.held old.counts.calls c.work.new.self.counts.calls old.numbered later begins c.args.at c.args.from.now adds)

pub returns-clause-lost : goal.returns-clause-lost
returns-clause-lost c =
    let old = c.args.self.now in
    let adds : AddsWrite old.held.kept.items c.work.new.self.held.kept.items c.work.new.self.counts.calls c.args.at c.args.from.now = search rules in
    let later : old.counts.calls < c.work.new.self.counts.calls = search rules in
    let begins : c.work.new.self.held.start.items ≡ old.held.start.items = search rules in
    write_keeps old.held c.work.new.self.held old.counts.calls c.work.new.self.counts.calls old.numbered later begins c.args.at c.args.from.now adds

pub returns-clause-earlier : goal.returns-clause-earlier
returns-clause-earlier c =
    let old = c.args.self.now in
    let adds : AddsWrite old.held.kept.items c.work.new.self.held.kept.items c.work.new.self.counts.calls c.args.at c.args.from.now = search rules in
    let later : old.counts.calls < c.work.new.self.counts.calls = search rules in
    let begins : c.work.new.self.held.start.items ≡ old.held.start.items = search rules in
    write_earlier old.held c.work.new.self.held old.counts.calls c.work.new.self.counts.calls old.numbered later begins c.args.at c.args.from.now adds
