-- The steps of propagation, as what they do to a world.
use Rattle.std.specs.Prelude.{ℕ, ◌+◌, List, [], Bool, true, nat_le, nat_lt, not, Option, Some, None, option_map, option_and_then}
use Rattle.std.specs.List.{position_or_len}
use Rattle.std.specs.Option.{option_or}
use Rattle.aq_base.specs.declared.DbId.{DbId}
use Rattle.aq_base.specs.declared.DbId.TheVariants.{Home, Away}
use Rattle.queue_rows.specs.Propagating.{Dispatch, dispatch, Arriving, arriving, confirming, pick, is_pair}
use Rattle.queue_rows.specs.World.{World, Database, Stage, on_its_way, came, Transit, database_at, other_db, at_home, at_away, stepped}
use Rattle.queue_rows.specs.declared.tables.Tables.{Tables}
use Rattle.queue_rows.specs.declared.change.Change.{Change}
use Rattle.queue_rows.specs.declared.history.SlotRef.{SlotRef}
use Rattle.queue_rows.specs.declared.history.Arrival.{Arrival}
use Rattle.queue_rows.specs.declared.history.Arrival.TheVariants.{Copied, Seen, Failed}
use Rattle.queue_rows.specs.declared.history.Step.TheVariants.{Offer, Arrive, Confirm}

-- ---- ids

abbrev pub with_ids : ℕ → Database → Database
with_ids taken d = record d { next = d.next + taken }

abbrev pub taking_ids : DbId → ℕ → World → World
taking_ids Home taken w = record w { home = with_ids taken w.home }
taking_ids Away taken w = record w { away = with_ids taken w.away }

-- ---- which step comes next

-- a step of propagation: a slot is offered to a queue; it arrives, with what that does; or it is confirmed, its pair being
-- the destination's of that number, with what this commits
pub data Sending : Type 0 where
  offers : SlotRef → List ℕ → Sending
  arrives : SlotRef → Arriving → Sending
  confirms : SlotRef → ℕ → List Change → Sending

abbrev pub dispatch_at : World → SlotRef → Option Dispatch
dispatch_at w at = dispatch (database_at at.db w).tables at

abbrev pub slot_at : DbId → ℕ × ℕ → SlotRef
slot_at db pair = record { db = db; id = pair.0; slot = pair.1 }

abbrev pub picked_at : DbId → World → Option SlotRef
picked_at db w = option_map (slot_at db) (pick (database_at db w).tables w.moment)

-- home's pick, or where there is none, away's
abbrev pub picked : World → Option SlotRef
picked w = option_or (picked_at Home w) (picked_at Away w)

abbrev pub offer_of : World → SlotRef → Option Sending
offer_of w at = option_map (λ d. offers at d.parcel.to) (dispatch_at w at)

abbrev pub arrival_of : World → SlotRef → Dispatch → Sending
arrival_of w at d = arrives at (arriving (database_at (other_db at.db) w).tables at d (database_at (other_db at.db) w).next w.moment)

abbrev pub confirmation_of : World → SlotRef → ℕ → Dispatch → Sending
confirmation_of w at number d = confirms at number (confirming (database_at at.db w).tables at d.schedule w.moment)

abbrev pub sending_on : World → SlotRef → Stage → Option Sending
sending_on w at on_its_way = option_map (arrival_of w at) (dispatch_at w at)
sending_on w at (came number) = option_map (confirmation_of w at number) (dispatch_at w at)

abbrev pub sending_of : World → Option Transit → Option Sending
sending_of w None = option_and_then (offer_of w) (picked w)
sending_of w (Some t) = sending_on w t.slot t.stage

-- the step that comes next, if there is one: one slot is sent at a time
unfoldable pub next_sending : World → Option Sending
next_sending w = sending_of w w.transit

-- ---- what must be durable before it

abbrev pub is_durable_at : DbId → World → Bool
is_durable_at db w = not (nat_lt (database_at db w).durable (database_at db w).made)

-- an offer needs all commits of its database, and a confirmation the destination's pair
abbrev pub may_follow : World → Sending → Bool
may_follow w (offers at to) = is_durable_at at.db w
may_follow w (arrives at a) = true
may_follow w (confirms at number cs) = nat_le number (database_at (other_db at.db) w).durable_seen

-- ---- the steps

abbrev pub with_transit : Option Transit → World → World
with_transit t w = record w { transit = t }

-- of what an origin and its destination have, home's and away's
abbrev pub home_of : {A : Type 0} → DbId → A → A → A
home_of Home origin there = origin
home_of Away origin there = there

abbrev pub away_of : {A : Type 0} → DbId → A → A → A
away_of Home origin there = there
away_of Away origin there = origin

-- a copy takes the next id
abbrev pub ids_copied : Arrival → ℕ
ids_copied (Copied id) = 1
ids_copied Seen = 0
ids_copied (Failed cause disabled) = 0

-- the number of the slot's pair among those that the destination has seen
abbrev pub pair_number : Tables → SlotRef → ℕ
pair_number there at = position_or_len (is_pair at.id at.slot) there.seen + 1

abbrev pub came_to : World → SlotRef → Option Transit
came_to w at = Some (record { slot = at; stage = came (pair_number (database_at (other_db at.db) w).tables at) })

-- a failure ends the sending
abbrev pub transit_after : World → SlotRef → Arrival → Option Transit
transit_after w at (Copied id) = came_to w at
transit_after w at Seen = came_to w at
transit_after w at (Failed cause disabled) = None

abbrev pub come : SlotRef → Arrival → World → World
come at outcome w = with_transit (transit_after w at outcome) (taking_ids (other_db at.db) (ids_copied outcome) w)

-- the world after the step
unfoldable pub sent : ℕ → Sending → World → World
sent actor (offers at to) w = with_transit (Some (record { slot = at; stage = on_its_way })) (stepped actor w [] [] (Offer at to))
sent actor (arrives at a) w = come at a.outcome (stepped actor w (home_of at.db a.origin a.there) (away_of at.db a.origin a.there) (Arrive at a.outcome))
sent actor (confirms at number cs) w = with_transit None (stepped actor w (at_home at.db cs) (at_away at.db cs) (Confirm at))
