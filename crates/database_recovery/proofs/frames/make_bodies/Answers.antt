use Rattle.std.proofs.Common.{◌≡◌, false, ◌∙◌, arith}
use Rattle.std.proofs.lemmas.Grind.{common_steps}
use Rattle.std.specs.Vec.Iter.{drain_items}
use Rattle.database_recovery.proofs.Folding.{stops_at}
use Rattle.database_recovery.proofs.frames.make_bodies.Goals as goal

pub returns-then-not-branch-clause-made : goal.returns-then-not-branch-clause-made
returns-then-not-branch-clause-made c =
    let l = c.loop-body in
    let refused : c.in_ok-make_body.field-0 ≡ false = grind (arith, common_steps) in
    stops_at c.args.version l.store.tables c.make_body.new.store.tables (drain_items l.body-iterator) (drain_items c.next.new.self) c.in-Some.body c.deref.result.now
    _ c.in_ok-make_body.field-0 c.in-Some.ensures.steps.0 (c.deref.ensures.value ∙ c.into_vec-bytes.ensures) l.invariant.led refused c.in_ok-make_body.ensures.made
