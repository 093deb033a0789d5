use Rattle.std.proofs.Common.{◌≡◌}
use Rattle.std.specs.Vec.Iter.{drain_items}
use Rattle.database_recovery.specs.Recovering.{frames_from}
use Rattle.database_recovery.specs.Sound.{IsSound}
use Rattle.database_recovery.proofs.frames.make_frames.Given as goal

abbrev pub invariant-loop-frame : goal.invariant-loop-frame
invariant-loop-frame l = record {
  led : frames_from l.version l.store.tables (drain_items l.frame-iterator) ≡ frames_from l.version l.fn.store.tables l.fn.frames;
  sound : IsSound l.store.tables;
}
