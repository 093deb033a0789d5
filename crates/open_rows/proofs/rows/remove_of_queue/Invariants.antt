use Rattle.std.proofs.Common.{◌≡◌, length, not, filter}
use Rattle.std.specs.Str.{bytes_eq}
use Rattle.open_rows.proofs.rows.remove_of_queue.Given as goal

abbrev pub invariant-loop-at : goal.invariant-loop-at
invariant-loop-at g l = record {
  room : l.rows.room ≡ l.fn.rows.room;
  left : filter (λ r. not (bytes_eq (g.R.Named.name_of r) l.queue)) l.rows.items ≡ filter (λ r. not (bytes_eq (g.R.Named.name_of r) l.queue)) l.fn.rows.items;
}

abbrev pub decreases-loop-at : goal.decreases-loop-at
decreases-loop-at g l = length l.rows.items
