use Rattle.std.proofs.Common.{rules, subst, List, ℕ, ◌≡◌, ◌≤◌, ◌<◌, ◌∷◌, [], ◌++◌}
use Rattle.aq_disk.specs.Disk.{SameImages, Only}
use Rattle.aq_disk.specs.Held.{SameHeld}
use Rattle.aq_disk.specs.declared.kept.Step.TheVariants.{Sync}
use Rattle.aq_disk.proofs.Calls.{on_err, images, same_images, stays_same, stays_with, sync_only, sync_earlier}
use Rattle.aq_disk.proofs.memory.MemoryDiskDisk.sync.Goals as goal

pub returns-in_err-work-clause-crash : goal.returns-in_err-work-clause-crash
returns-in_err-work-clause-crash c =
    let old = c.args.self.now in
    let is : c.work.new.self.held ≡ old.held = search rules in
    let le : old.counts.calls ≤ c.work.new.self.counts.calls = search rules in
    on_err c.from_residual-in_err-work.result (SameImages (images old.held old.counts.calls) (images c.work.new.self.held c.work.new.self.counts.calls))
    (same_images old.held c.work.new.self.held (stays_same old.held c.work.new.self.held is) old.counts.calls c.work.new.self.counts.calls old.numbered le)

pub returns-in-Ok-clause-durable : goal.returns-in-Ok-clause-durable
returns-in-Ok-clause-durable c told same =
    let old = c.args.self.now in
    let adds : c.sync.new.self.kept.items ≡ old.held.kept.items ++ record { call = c.work.new.self.counts.calls; step = Sync } ∷ [] = search rules in
    let later : old.counts.calls < c.work.new.self.counts.calls = search rules in
    let begins : c.sync.new.self.start.items ≡ old.held.start.items = search rules in
    let is : old.held.bytes.items ≡ told = cc in
    subst (λ (b : List ℕ). Only b (images c.sync.new.self c.work.new.self.counts.calls)) is
    (sync_only old.held c.sync.new.self old.counts.calls c.work.new.self.counts.calls old.numbered later begins adds)

pub returns-in-Err-clause-crash : goal.returns-in-Err-clause-crash
returns-in-Err-clause-crash c =
    let old = c.args.self.now in
    let is : c.work.new.self.held ≡ old.held = search rules in
    let le : old.counts.calls ≤ c.fail.new.self.calls = search rules in
    let stays : SameHeld old.held c.sync.new.self = stays_with old.held c.work.new.self.held c.sync.new.self is c.in-Err.ensures.err in
    same_images old.held c.sync.new.self stays old.counts.calls c.fail.new.self.calls old.numbered le

pub returns-in-Ok-clause-earlier : goal.returns-in-Ok-clause-earlier
returns-in-Ok-clause-earlier c =
    let old = c.args.self.now in
    let adds : c.sync.new.self.kept.items ≡ old.held.kept.items ++ record { call = c.work.new.self.counts.calls; step = Sync } ∷ [] = search rules in
    let later : old.counts.calls < c.work.new.self.counts.calls = search rules in
    let begins : c.sync.new.self.start.items ≡ old.held.start.items = search rules in
    sync_earlier old.held c.sync.new.self old.counts.calls c.work.new.self.counts.calls old.numbered later begins adds
