-- The order of entries by their stamps.
use Rattle.std.specs.Prelude.{ℕ}
use Rattle.std.specs.declared.cmp.Ordering.{Ordering}
use Rattle.std.specs.Cmp.{IsTotalOrder, on_total, nat_cmp_total}
use Rattle.std.specs.Ordering.{nat_cmp}
use Rattle.row_tree.specs.Bounds.{Falls}
use Rattle.row_tree.specs.Order.{less_by}
use Rattle.message_index.specs.declared.entry.Entry.{Entry}

abbrev pub stamp_cmp : Entry → Entry → Ordering
stamp_cmp a b = nat_cmp a.stamp b.stamp

pub stamp_cmp_total : IsTotalOrder stamp_cmp
stamp_cmp_total = on_total (λ (e : Entry). e.stamp) nat_cmp_total

-- how an entry stands to a stamp
abbrev pub to_stamp : ℕ → Entry → Ordering
to_stamp stamp e = nat_cmp e.stamp stamp

-- what stands before an entry that is not behind a stamp stands before the stamp
pub stamps_fall : (stamp : ℕ) → Falls stamp_cmp (to_stamp stamp)
stamps_fall stamp x y = less_by stamp_cmp_total x y (record { id = 0; stamp = stamp })
