-- How a destination takes a parcel in, whatever the origin is.
use Rattle.std.specs.Prelude.{ℕ, List, Option, Some, None, if◌then◌else◌}
use Rattle.queue_rows.specs.Propagating.{Parcel, cause_of, has_seen, taken_in}
use Rattle.queue_rows.specs.declared.tables.Tables.{Tables}
use Rattle.queue_rows.specs.declared.history.Cause.{Cause}
use Rattle.queue_rows.specs.declared.history.SlotRef.{SlotRef}
use Rattle.queue_rows.specs.declared.change.Change.{Change}
use Rattle.propagation.specs.declared.taking.TakenIn.{TakenIn}
use Rattle.propagation.specs.declared.taking.TakenIn.TheVariants as answers

-- its pair was seen; or it is refused; or these changes put it in, with its pair
pub data Taking : Type 0 where
  known : Taking
  refused : Cause → Taking
  takes : List Change → Taking

abbrev pub taking_by : Tables → SlotRef → Parcel → ℕ → ℕ → Option Cause → Taking
taking_by there at p next moment (Some cause) = refused cause
taking_by there at p next moment None = takes (taken_in there at p next moment)

-- where next is the id that a copy would get
unfoldable pub taking_in : Tables → SlotRef → Parcel → ℕ → ℕ → Taking
taking_in there at p next moment = if has_seen there at then known else taking_by there at p next moment (cause_of there p next)

-- what is answered, as the definitions have it
abbrev pub meant : TakenIn → Taking
meant answers.Known = known
meant (answers.Refused cause) = refused cause
meant (answers.Takes changes) = takes changes
