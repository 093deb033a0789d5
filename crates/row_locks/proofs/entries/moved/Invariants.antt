use Rattle.std.proofs.Common.{◌≡◌, ◌≤◌, ◌+◌, length, vec_len, vec_capacity}
use Rattle.std.specs.Vec.Iter.{into_iter_len}
use Rattle.row_locks.specs.Entries.{present}
use Rattle.row_locks.proofs.entries.moved.Given as goal

abbrev pub invariant-loop-entry : goal.invariant-loop-entry
invariant-loop-entry l = record {
  built : l.room.items ≡ present l.yielded;
  short : vec_len l.room ≤ length l.yielded;
  fits : length l.yielded + into_iter_len l.entry-iterator ≤ vec_capacity l.room;
}
