-- What goes in at a destination, and how an arrival ends by what its destination answers.
use Rattle.std.proofs.Common.{◌≡◌, ℕ, List, [], ◌∷◌, Bool, true, false, Option, Some, None, Result, Ok, Err, IfOk, refl, ap, sym, ◌∙◌, if◌then◌else◌}
use Rattle.queue_rows.specs.Rows.{table_of}
use Rattle.queue_rows.specs.Propagating.{Parcel, Dispatch, Arriving, arriving_by, arriving, cause_of, has_seen, taken_in, taken_in_by, delayed, is_last_failure}
use Rattle.queue_rows.specs.declared.tables.Tables.{Tables}
use Rattle.queue_rows.specs.declared.rows.TableRow.{TableRow}
use Rattle.queue_rows.specs.declared.history.SlotRef.{SlotRef}
use Rattle.queue_rows.specs.declared.history.Cause.{Cause}
use Rattle.queue_rows.specs.declared.history.Arrival.TheVariants.{Copied, Seen, Failed}
use Rattle.queue_rows.specs.declared.change.Change.{Change}
use Rattle.queue_rows.specs.declared.change.Change.TheVariants as changes
use Rattle.propagation.specs.Copies.{taken_in_at}
use Rattle.propagation.specs.Outcomes.{meant, IsFailure}
use Rattle.propagation.specs.Taking.{Taking, known, refused, takes, taking_by, taking_in}
use Rattle.propagation.specs.declared.arrival.Arriving.{Arriving as Answer}

pub taken_is : {E : Type 0} (there : Tables) (table : TableRow) (at : SlotRef) (p : Parcel) (next moment : ℕ) (made : Result (List Change) E) → table_of there p.to ≡ Some table
    → IfOk made (λ cs. cs ≡ taken_in_at table at p (record { id = next; group = there.transaction; moment = moment })) → IfOk made (λ cs. cs ≡ taken_in there at p next moment)
unfolding taken_in
taken_is there table at p next moment (Ok cs) is made_is = made_is ∙ ap (taken_in_by there at p next moment) (sym is)
taken_is there table at p next moment (Err e) is made_is = tt

-- the arrival of what is sent, by that answer
abbrev pub arriving_as : Dispatch → ℕ → ℕ → Taking → Arriving
arriving_as d next moment known = record { outcome = Seen; origin = []; there = [] }
arriving_as d next moment (refused cause) = record { outcome = Failed cause (is_last_failure d.schedule); origin = changes.PutSchedule (delayed d.schedule moment) ∷ []; there = [] }
arriving_as d next moment (takes made) = record { outcome = Copied next; origin = []; there = made }

by_cause : (there : Tables) (at : SlotRef) (d : Dispatch) (next moment : ℕ) (cause : Option Cause) → arriving_by there at d next moment cause ≡ arriving_as d next moment (taking_by there at d.parcel next moment cause)
by_cause there at d next moment None = refl
by_cause there at d next moment (Some cause) = refl

by_seen : (there : Tables) (at : SlotRef) (d : Dispatch) (next moment : ℕ) (cause : Option Cause) (seen : Bool)
    → (if seen then record { outcome = Seen; origin = []; there = [] } else arriving_by there at d next moment cause)
    ≡ arriving_as d next moment (if seen then known else taking_by there at d.parcel next moment cause)
by_seen there at d next moment cause true = refl
by_seen there at d next moment cause false = by_cause there at d next moment cause

arriving_by_taking : (there : Tables) (at : SlotRef) (d : Dispatch) (next moment : ℕ) → arriving there at d next moment ≡ arriving_as d next moment (taking_in there at d.parcel next moment)
unfolding arriving taking_in
arriving_by_taking there at d next moment = by_seen there at d next moment (cause_of there d.parcel next) (has_seen there at)

pub arrives_as : (there : Tables) (at : SlotRef) (d : Dispatch) (p : Parcel) (next moment : ℕ) (t : Taking) → p ≡ d.parcel → t ≡ taking_in there at p next moment
    → arriving there at d next moment ≡ arriving_as d next moment t
arrives_as there at d p next moment t sent is =
    arriving_by_taking there at d next moment ∙ ap (arriving_as d next moment) (ap (λ q. taking_in there at q next moment) (sym sent) ∙ sym is)

pub failed_is : {E : Type 0} (there : Tables) (at : SlotRef) (d : Dispatch) (next moment : ℕ) (cause : Cause) (made : Result Answer E)
    → arriving there at d next moment ≡ arriving_as d next moment (refused cause) → IfOk made (IsFailure d.schedule cause moment)
    → IfOk made (λ a. arriving there at d next moment ≡ meant a)
failed_is there at d next moment cause (Ok a) is fails = is ∙ fails there at d.parcel next
failed_is there at d next moment cause (Err e) is fails = tt
