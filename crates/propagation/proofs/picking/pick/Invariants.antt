use Rattle.std.proofs.Common.{◌≡◌}
use Rattle.std.specs.Prelude.{filter_map, slice_get}
use Rattle.queue_rows.specs.Propagating.{pick_by}
use Rattle.propagation.proofs.picking.pick.Given as goal

abbrev pub invariant-loop-schedule : goal.invariant-loop-schedule
invariant-loop-schedule g l =
    let tables = g.T.MessageTables.tables l.tables in
    slice_get (filter_map (pick_by tables l.moment) l.schedule-iterator) 0 ≡ slice_get (filter_map (pick_by tables l.moment) tables.schedules) 0
