use Rattle.std.proofs.Common.{◌≡◌, ◌&&◌}
use Rattle.std.specs.Vec.Iter.{drain_items}
use Rattle.queue_rows.specs.Fits.{all_name_what_is_there}
use Rattle.queue_rows.specs.Tables.{after_all}
use Rattle.fit_laws.specs.FitLaws.{are_local}
use Rattle.database_recovery.proofs.judge.make_changes.Given as goal

abbrev pub invariant-loop-change : goal.invariant-loop-change
invariant-loop-change l = record {
  named : all_name_what_is_there l.store.tables (drain_items l.change-iterator) ≡ all_name_what_is_there l.fn.store.tables l.fn.changes;
  made : after_all l.store.tables (drain_items l.change-iterator) ≡ after_all l.fn.store.tables l.fn.changes;
  local : (l.local && are_local l.store.tables (drain_items l.change-iterator)) ≡ are_local l.fn.store.tables l.fn.changes;
}
