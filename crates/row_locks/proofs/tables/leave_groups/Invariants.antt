use Rattle.std.proofs.Common.{◌≡◌, ◌≢◌, ℕ, ◌<◌, ◌≤◌, map, None, is_some}
use Rattle.row_locks.specs.Entries.{unranked}
use Rattle.row_locks.specs.Groups.{rank_at, group_room, IsGroupIndexOf}
use Rattle.row_locks.specs.declared.classes.Place.{Place}
use Rattle.row_locks.proofs.tables.leave_groups.Given as goal

abbrev pub invariant-loop-at : goal.invariant-loop-at
invariant-loop-at l = record {
  same : map unranked l.tables.items ≡ map unranked l.initial.tables.items;
  grouped : IsGroupIndexOf l.tables.items l.groups;
  out : (k : ℕ) → k < l.at → rank_at l.tables.items (record { session = l.session; at = k }) ≡ None;
  others : (other : Place) → other.session ≢ l.session → is_some (rank_at l.tables.items other) ≡ is_some (rank_at l.initial.tables.items other);
  room : group_room l.initial.groups ≤ group_room l.groups;
}
