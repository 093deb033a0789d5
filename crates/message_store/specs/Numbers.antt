-- The numbers that a message may have that is put into tables.
use Rattle.std.specs.Prelude.{◌<◌, ◌^◌}
use Rattle.queue_rows.specs.declared.change.Change.{Change}
use Rattle.queue_rows.specs.declared.change.Change.TheVariants as changes

-- one more can be counted
abbrev pub HasNumbers : Change → Type 0
HasNumbers (changes.Enqueued row) = (row.id < 2 ^ 63) × (row.group < 2 ^ 63)
HasNumbers _ = Unit {0}
