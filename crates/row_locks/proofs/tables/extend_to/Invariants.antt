use Rattle.std.proofs.Common.{◌≡◌, ℕ, ◌≤◌, ◌+◌, ◌-◌, ◌^◌, length, slice_index_or}
use Rattle.row_locks.specs.Entries.{no_entries, all_spare}
use Rattle.row_locks.proofs.tables.extend_to.Given as goal

abbrev pub invariant-loop-alloc : goal.invariant-loop-alloc
invariant-loop-alloc l = record {
  same : (s : ℕ) → slice_index_or l.tables.items s no_entries ≡ slice_index_or l.initial.tables.items s no_entries;
  spare : all_spare l.tables.items ≡ all_spare l.initial.tables.items;
  bound : length l.initial.tables.items ≤ 2 ^ 32 → length l.tables.items ≤ 2 ^ 32;
}

abbrev pub decreases-loop-alloc : goal.decreases-loop-alloc
decreases-loop-alloc l = l.session + 1 - length l.tables.items
