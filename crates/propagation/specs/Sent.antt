-- What is sent of a slot, by the rows that it is read from.
use Rattle.std.specs.Option.{option_copied}
use Rattle.rule_conditions.specs.declared.facts.Facts.{Facts}
use Rattle.queue_rows.specs.Propagating.{Parcel, parcel_by, Dispatch}
use Rattle.propagation.specs.declared.parcel.ParcelRef.{ParcelRef}
use Rattle.propagation.specs.declared.sent.Sent.{Sent}

-- what a condition may ask of the copy
abbrev pub facts_of : ParcelRef → Facts
facts_of p = record { priority = p.priority; corr = option_copied p.corr; cells = p.payload.now; props = p.props.now }

-- a parcel, as the definitions have it
abbrev pub parcel_meant : ParcelRef → Parcel
parcel_meant p = record { to = p.to.now; name = option_copied p.name; fields = p.fields.now; facts = facts_of p; expires = p.expires }

-- what is sent
abbrev pub parcel_of : Sent → Parcel
parcel_of s = parcel_by s.message.now s.slot.now s.schedule.now.to s.table.now

-- and the schedule by which it is
abbrev pub dispatch_by : Sent → Dispatch
dispatch_by s = record { parcel = parcel_of s; schedule = s.schedule.now }
