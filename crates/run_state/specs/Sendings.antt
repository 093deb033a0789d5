-- The slot that is being sent, as a run keeps it.
use Rattle.std.specs.Prelude.{◌+◌}
use Rattle.queue_rows.specs.World as world
use Rattle.queue_rows.specs.World.{on_its_way, came}
use Rattle.run_state.specs.declared.transit.Stage.{Stage}
use Rattle.run_state.specs.declared.transit.Stage.TheVariants.{OnItsWay, Came}
use Rattle.run_state.specs.declared.transit.Transit.{Transit}

-- pairs are numbered from 1
abbrev pub stage_of : Stage → world.Stage
stage_of OnItsWay = on_its_way
stage_of (Came place) = came (place + 1)

abbrev pub transit_of : Transit → world.Transit
transit_of t = record { slot = t.slot; stage = stage_of t.stage }
