-- The steps of propagation, as a run makes them.
use Rattle.std.specs.Prelude.{ℕ, ◌+◌, ◌<◌, ◌^◌, if◌then◌else◌}
use Rattle.aq_base.specs.declared.DbId.{DbId}
use Rattle.propagation.specs.Outcomes.{meant}
use Rattle.queue_rows.specs.Sending as steps
use Rattle.queue_rows.specs.Sending.{offers, arrives, confirms, may_follow}
use Rattle.queue_rows.specs.Turns.{flushed}
use Rattle.queue_rows.specs.World.{World, database_at}
use Rattle.next_steps.specs.declared.sending.Sending.{Sending}
use Rattle.next_steps.specs.declared.sending.Sending.TheVariants.{Offer, Arrive, Confirm}

abbrev pub sending_meant : Sending → steps.Sending
sending_meant (Offer at to) = offers at to
sending_meant (Arrive at arriving) = arrives at (meant arriving)
sending_meant (Confirm at place changes) = confirms at (place + 1) changes

-- before the step every commit is durable, where it needs that
abbrev pub made_ready : ℕ → steps.Sending → World → World
made_ready actor sending w = if may_follow w sending then w else flushed actor w

-- both databases have ids to give
abbrev pub HasIds : World → Type 0
HasIds w = (db : DbId) → (database_at db w).next + 1 < 2 ^ 64
