-- Which slots a statement touches, as the definitions say it.
use Rattle.std.specs.Prelude.{List, ℕ, Bool, false, Option, Some, option_copied}
use Rattle.std.specs.Option.{option_map_or}
use Rattle.queue_rows.specs.Session.{is_same_consumer}
use Rattle.queue_rows.specs.Catalog.{is_slot_of}
use Rattle.queue_rows.specs.Administration as asked
use Rattle.queue_rows.specs.Administration.{in_queue, of_subscriber, to_destination}
use Rattle.queue_rows.specs.declared.rows.SubRow.{SubRow}
use Rattle.queue_rows.specs.declared.rows.SlotRow.{SlotRow}
use Rattle.admin_ops.specs.declared.affected.Affected.{Affected}
use Rattle.admin_ops.specs.declared.affected.Affected.TheVariants.{InQueue, OfSubscriber, ToDestination}

-- there is a slot, and it is the subscriber's
abbrev pub is_of : SubRow → Option SlotRow → Bool
is_of sub slot = option_map_or (is_slot_of sub) slot false

-- there is a slot, and it goes to the destination
abbrev pub goes_to : List ℕ → Option SlotRow → Bool
goes_to to slot = option_map_or (λ s. is_same_consumer s.address (Some to)) slot false

-- what is asked of a message and one of its slots
abbrev pub affecting : Affected → asked.Affected
affecting (InQueue queue) = in_queue queue.now
affecting (OfSubscriber queue sub) = of_subscriber queue.now (option_copied sub)
affecting (ToDestination queue to) = to_destination queue.now to.now
