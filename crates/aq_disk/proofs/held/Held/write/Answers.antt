use Rattle.std.proofs.Common.{rules, ◌≡◌, ◌∷◌, [], ◌++◌}
use Rattle.aq_disk.specs.Disk.{after_write}
use Rattle.aq_disk.specs.declared.kept.Step.TheVariants.{Write}
use Rattle.aq_disk.proofs.HeldSteps.{write_as_kept, write_in_place, write_in_limit}
use Rattle.aq_disk.proofs.held.Held.write.Goals as goal

pub invariant_of-self-2-clause-as_kept : goal.invariant_of-self-2-clause-as_kept
invariant_of-self-2-clause-as_kept c =
    let held = c.args.self.now in
    let adds : c.push.new.self.items ≡ held.kept.items ++ record { call = c.args.call; step = Write c.args.at c.in_ok-bytes.bytes } ∷ [] = search rules in
    let is : c.overwrite.new.bytes.items ≡ after_write c.args.at c.in_ok-bytes.bytes.items held.bytes.items = search rules in
    write_as_kept held.start.items held.bytes.items held.kept.items c.push.new.self.items held.as_kept held.placed c.args.call c.args.at c.in_ok-bytes.bytes adds c.overwrite.new.bytes.items is

pub invariant_of-self-2-clause-placed : goal.invariant_of-self-2-clause-placed
invariant_of-self-2-clause-placed c =
    let held = c.args.self.now in
    let adds : c.push.new.self.items ≡ held.kept.items ++ record { call = c.args.call; step = Write c.args.at c.in_ok-bytes.bytes } ∷ [] = search rules in
    write_in_place held.start.items held.bytes.items held.kept.items c.push.new.self.items held.as_kept held.placed c.args.call c.args.at c.in_ok-bytes.bytes adds c.requires.place

pub invariant_of-self-2-clause-in_limit : goal.invariant_of-self-2-clause-in_limit
invariant_of-self-2-clause-in_limit c =
    let held = c.args.self.now in
    let is : c.overwrite.new.bytes.items ≡ after_write c.args.at c.args.from.now held.bytes.items = search rules in
    write_in_limit c.args.at c.args.from.now held.bytes.items c.overwrite.new.bytes.items is c.requires.place c.requires.limit held.in_limit

pub returns-clause-kept : goal.returns-clause-kept
returns-clause-kept c =
    let same : c.in_ok-bytes.bytes.items ≡ c.args.from.now = search rules in
    record { bytes = c.in_ok-bytes.bytes; as_written = same; kept = search rules }
