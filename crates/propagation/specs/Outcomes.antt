-- What an arrival and a confirmation commit, by the tables alone.
use Rattle.std.specs.Prelude.{◌≡◌, ℕ, List, Option, Some, option_map}
use Rattle.queue_rows.specs.Propagating.{Parcel, dispatch, Arriving, arriving_by, arriving, confirming}
use Rattle.queue_rows.specs.declared.tables.Tables.{Tables}
use Rattle.queue_rows.specs.declared.rows.ScheduleRow.{ScheduleRow}
use Rattle.queue_rows.specs.declared.history.SlotRef.{SlotRef}
use Rattle.queue_rows.specs.declared.history.Cause.{Cause}
use Rattle.queue_rows.specs.declared.change.Change.{Change}
use Rattle.propagation.specs.declared.arrival.Arriving.{Arriving as Answer}

-- what is answered, as the definitions have it
abbrev pub meant : Answer → Arriving
meant a = record { outcome = a.outcome; origin = a.origin; there = a.there }

-- what the arrival of a slot does at its destination, where next is the id that a copy would get; none where what is sent
-- is not there
abbrev pub arrival_of : Tables → SlotRef → Tables → ℕ → ℕ → Option Arriving
arrival_of origin at there next moment = option_map (λ d. arriving there at d next moment) (dispatch origin at)

-- what is committed at the origin when a slot has come to its destination; none where what was sent is not there
abbrev pub confirmation_of : Tables → SlotRef → ℕ → Option (List Change)
confirmation_of origin at moment = option_map (λ d. confirming origin at d.schedule moment) (dispatch origin at)

-- an arrival ends so where it fails for that cause, whatever was sent by that schedule
abbrev pub IsFailure : ScheduleRow → Cause → ℕ → Answer → Type 0
IsFailure schedule cause moment a = (there : Tables) (at : SlotRef) (p : Parcel) (next : ℕ)
    → arriving_by there at (record { parcel = p; schedule = schedule }) next moment (Some cause) ≡ meant a
