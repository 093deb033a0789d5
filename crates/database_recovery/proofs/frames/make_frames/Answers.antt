use Rattle.std.proofs.Common.{◌≡◌, false, arith}
use Rattle.std.proofs.lemmas.Grind.{common_steps}
use Rattle.std.specs.Vec.Iter.{drain_items}
use Rattle.database_recovery.proofs.Folding.{frame_stops_at}
use Rattle.database_recovery.proofs.frames.make_frames.Goals as goal

pub returns-then-not-branch-clause-damaged : goal.returns-then-not-branch-clause-damaged
returns-then-not-branch-clause-damaged c =
    let l = c.loop-frame in
    let refused : c.in_ok-make_bodies.field-0 ≡ false = grind (arith, common_steps) in
    frame_stops_at c.args.version l.store.tables c.make_bodies.new.store.tables (drain_items l.frame-iterator) (drain_items c.next.new.self) c.in-Some.frame
    _ c.in_ok-make_bodies.field-0 c.in-Some.ensures.steps.0 l.invariant.led refused c.in_ok-make_bodies.ensures.made
