use Rattle.std.proofs.Common.{◌≡◌}
use Rattle.std.specs.Vec.Iter.{drain_items}
use Rattle.redo_records.specs.Recovered.{after_bodies}
use Rattle.database_recovery.specs.Sound.{IsSound}
use Rattle.database_recovery.proofs.frames.make_bodies.Given as goal

abbrev pub invariant-loop-body : goal.invariant-loop-body
invariant-loop-body l = record {
  led : after_bodies l.version l.store.tables (drain_items l.body-iterator) ≡ after_bodies l.version l.fn.store.tables l.fn.bodies;
  sound : IsSound l.store.tables;
}
