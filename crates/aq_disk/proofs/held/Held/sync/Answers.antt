use Rattle.std.proofs.Common.{rules, ◌≡◌, ◌∷◌, [], ◌++◌}
use Rattle.std.specs.Prelude.{cond, is_ok}
use Rattle.aq_disk.specs.declared.kept.Step.TheVariants.{Sync}
use Rattle.aq_disk.proofs.HeldSteps.{sync_as_kept, sync_in_place}
use Rattle.aq_disk.proofs.held.Held.sync.Goals as goal

pub invariant_of-self-clause-as_kept : goal.invariant_of-self-clause-as_kept
invariant_of-self-clause-as_kept c =
    let held = c.args.self.now in
    let is : c.push.new.self.items ≡ cond (is_ok c.push.result) (held.kept.items ++ record { call = c.args.call; step = Sync } ∷ []) held.kept.items = search rules in
    sync_as_kept held.start.items held.bytes.items held.kept.items c.push.new.self.items held.as_kept c.args.call (is_ok c.push.result) is

pub invariant_of-self-clause-placed : goal.invariant_of-self-clause-placed
invariant_of-self-clause-placed c =
    let held = c.args.self.now in
    let is : c.push.new.self.items ≡ cond (is_ok c.push.result) (held.kept.items ++ record { call = c.args.call; step = Sync } ∷ []) held.kept.items = search rules in
    sync_in_place held.start.items held.kept.items c.push.new.self.items held.placed c.args.call (is_ok c.push.result) is
