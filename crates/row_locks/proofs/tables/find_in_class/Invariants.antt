use Rattle.std.proofs.Common.{◌≡◌, ℕ, ◌<◌, Some, false}
use Rattle.row_locks.specs.Groups.{group_meant, place_of, is_in_group_at}
use Rattle.row_locks.specs.declared.classes.Place.{Place}
use Rattle.row_locks.proofs.tables.find_in_class.Given as goal

abbrev pub invariant-loop-rank : goal.invariant-loop-rank
invariant-loop-rank l =
    (r : ℕ) (p : Place) → r < l.rank → place_of l.groups.classes l.key.names r ≡ Some p → is_in_group_at l.tables.items (group_meant l.group) p ≡ false
