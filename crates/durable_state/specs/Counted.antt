-- Entries with the call numbers of the disks behind them.
use Rattle.std.specs.Prelude.{ℕ, List, [], ◌∷◌, Option, Some, None, slice_get, slice_set}
use Rattle.queue_rows.specs.declared.history.Entry.{Entry}
use Rattle.durable_state.specs.declared.disk_calls.DiskCalls.{DiskCalls}

abbrev pub with_calls : DiskCalls → Entry → Entry
with_calls c e = record e { home_calls = c.home; away_calls = c.away }

-- each entry with its call numbers; there are as many of both
abbrev pub counted : List Entry → List DiskCalls → List Entry
counted [] calls = []
counted (e ∷ rest) [] = e ∷ rest
counted (e ∷ rest) (c ∷ calls) = with_calls c e ∷ counted rest calls

abbrev pub counted_as : ℕ → DiskCalls → List Entry → Option Entry → List Entry
counted_as at c entries None = entries
counted_as at c entries (Some e) = slice_set entries at (with_calls c e)

-- the entries, that of this number from 0 with these call numbers
abbrev pub counted_at : ℕ → DiskCalls → List Entry → List Entry
counted_at at c entries = counted_as at c entries (slice_get entries at)
