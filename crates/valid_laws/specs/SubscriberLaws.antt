-- The law of what is committed when a subscriber is removed.
use Rattle.std.specs.Prelude.{◌≡◌, ◌≤◌, ℕ, ◌∷◌, true, Some}
use Rattle.aq_base.specs.declared.limits.TheConstants.{MOMENT_LIMIT}
use Rattle.queue_rows.specs.Rows.{find_sub}
use Rattle.queue_rows.specs.Settling.{settled}
use Rattle.queue_rows.specs.Catalog.{dropped_in}
use Rattle.queue_rows.specs.Valid.{is_valid}
use Rattle.queue_rows.specs.Fits.{fits}
use Rattle.queue_rows.specs.declared.tables.Tables.{Tables}
use Rattle.queue_rows.specs.declared.rows.SubRow.{SubRow}
use Rattle.queue_rows.specs.declared.change.Change.TheVariants.{DropSub}

-- a subscriber that is there may go: with the slots of its that are dropped, and what this settles, it fits
abbrev pub SubscriberRemovalFits : Type 0
SubscriberRemovalFits = (t : Tables) (sub : SubRow) (moment : ℕ) → is_valid t ≡ true → t.latest ≤ moment → moment ≤ MOMENT_LIMIT
    → find_sub t sub.queue sub.name ≡ Some sub
    → fits t (record { moment = moment; changes = settled t (DropSub sub.queue sub.name ∷ dropped_in t sub moment) }) ≡ true
