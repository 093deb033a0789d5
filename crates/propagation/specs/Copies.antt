-- The copy, and what is committed with it, by the copy's numbers as one value.
use Rattle.std.specs.Prelude.{List, [], ◌∷◌}
use Rattle.queue_rows.specs.Propagating.{Parcel, copy_of}
use Rattle.queue_rows.specs.declared.rows.TableRow.{TableRow}
use Rattle.queue_rows.specs.declared.rows.MsgRow.{MsgRow}
use Rattle.queue_rows.specs.declared.history.SlotRef.{SlotRef}
use Rattle.queue_rows.specs.declared.change.Change.{Change}
use Rattle.queue_rows.specs.declared.change.Change.TheVariants as changes
use Rattle.propagation.specs.declared.copy.Stamp.{Stamp}

abbrev pub copy_at : TableRow → Parcel → Stamp → MsgRow
copy_at table p stamp = copy_of table p stamp.id stamp.group stamp.moment

abbrev pub taken_in_at : TableRow → SlotRef → Parcel → Stamp → List Change
taken_in_at table at p stamp = changes.Enqueued (copy_at table p stamp) ∷ changes.Seen (record { id = at.id; slot = at.slot; copy = stamp.id }) ∷ []
