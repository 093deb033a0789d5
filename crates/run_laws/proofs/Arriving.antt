-- The ways in which an arrival ends.
use Rattle.std.proofs.Common.{◌≡◌, ◌≤◌, ℕ, [], ◌∷◌, Bool, true, false, refl, sym, ap, subst, Option, Some, None}
use Rattle.std.specs.Prelude.{if◌then◌else◌}
use Rattle.queue_rows.specs.Propagating.{Dispatch, Arriving, cause_of, is_last_failure, delayed, taken_in, has_seen, arriving, arriving_by}
use Rattle.queue_rows.specs.Valid.{is_valid}
use Rattle.queue_rows.specs.Propagating.{dispatch}
use Rattle.queue_rows.specs.declared.tables.Tables.{Tables}
use Rattle.queue_rows.specs.declared.change.Change.TheVariants as changes
use Rattle.queue_rows.specs.declared.history.SlotRef.{SlotRef}
use Rattle.queue_rows.specs.declared.history.Cause.{Cause}
use Rattle.queue_rows.specs.declared.history.Arrival.TheVariants.{Copied, Seen, Failed}
use Rattle.valid_laws.specs.ArrivalLaws.{MayTakeIn}
use Rattle.history_laws.proofs.Admitting.{copy_may_be_taken_in}

-- the slot was seen, or it fails, or a copy is taken in
pub data ArrivesAs (there : Tables) (at : SlotRef) (d : Dispatch) (next moment : ℕ) (a : Arriving) : Type 0 where
  as_seen : has_seen there at ≡ true → a ≡ record { outcome = Seen; origin = []; there = [] } → ArrivesAs there at d next moment a
  as_failed : (cause : Cause) → a ≡ record { outcome = Failed cause (is_last_failure d.schedule); origin = changes.PutSchedule (delayed d.schedule moment) ∷ []; there = [] } → ArrivesAs there at d next moment a
  as_copied : has_seen there at ≡ false → MayTakeIn there at d.parcel next moment → a ≡ record { outcome = Copied next; origin = []; there = taken_in there at d.parcel next moment } → ArrivesAs there at d next moment a

module _ (t there : Tables) (at : SlotRef) (d : Dispatch) (next moment : ℕ) (v : is_valid t ≡ true) (up : there.next ≤ next) (e : dispatch t at ≡ Some d) where
  by_cause : (o : Option Cause) → has_seen there at ≡ false → (arriving_by there at d next moment o).outcome ≡ (arriving there at d next moment).outcome → ArrivesAs there at d next moment (arriving_by there at d next moment o)
  by_cause (Some cause) new same = as_failed cause refl
  by_cause None new same = as_copied new (copy_may_be_taken_in t there at d next moment next v up e (sym same)) refl

  unfolded : arriving there at d next moment ≡ (if has_seen there at then record { outcome = Seen; origin = []; there = [] } else arriving_by there at d next moment (cause_of there d.parcel next))
  unfolding arriving
  unfolded = refl

  by_seen : (b : Bool) → has_seen there at ≡ b → arriving there at d next moment ≡ (if b then record { outcome = Seen; origin = []; there = [] } else arriving_by there at d next moment (cause_of there d.parcel next)) → ArrivesAs there at d next moment (arriving there at d next moment)
  by_seen true f k = as_seen f k
  by_seen false f k = subst (ArrivesAs there at d next moment) (sym k) (by_cause (cause_of there d.parcel next) f (ap (λ x. x.outcome) (sym k)))

  pub arrives_as : ArrivesAs there at d next moment (arriving there at d next moment)
  arrives_as = by_seen (has_seen there at) refl unfolded
