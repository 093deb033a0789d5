-- The orders of entries, of stamps and of groups.
use Rattle.std.specs.Prelude.{ℕ, List, []}
use Rattle.std.specs.declared.cmp.Ordering.{Ordering}
use Rattle.std.specs.Cmp.{IsTotalOrder, on_total, nat_cmp_total}
use Rattle.std.specs.Cmp.Lexicographic.{nat_list_cmp_total, slice_cmp}
use Rattle.std.specs.Ordering.{nat_cmp}
use Rattle.row_tree.specs.Bounds.{Falls}
use Rattle.row_tree.specs.Order.{less_by}
use Rattle.named_list.specs.declared.entry.Entry.{Entry}
use Rattle.named_list.specs.declared.entry.Stamp.{Stamp}
use Rattle.named_list.specs.declared.group.Group.{Group}

abbrev pub entry_cmp : Entry → Entry → Ordering
entry_cmp a b = nat_cmp a.stamp b.stamp

pub entry_cmp_total : IsTotalOrder entry_cmp
entry_cmp_total = on_total (λ (e : Entry). e.stamp) nat_cmp_total

-- what stands before an entry that is not behind a stamp stands before the stamp
pub entries_fall : (stamp : ℕ) → Falls entry_cmp (λ e. nat_cmp e.stamp stamp)
entries_fall stamp x y = less_by entry_cmp_total x y (record { name = []; stamp = stamp })

abbrev pub stamp_cmp : Stamp → Stamp → Ordering
stamp_cmp a b = nat_cmp a.number b.number

pub stamp_cmp_total : IsTotalOrder stamp_cmp
stamp_cmp_total = on_total (λ (s : Stamp). s.number) nat_cmp_total

pub stamps_fall : (stamp : ℕ) → Falls stamp_cmp (λ s. nat_cmp s.number stamp)
stamps_fall stamp x y = less_by stamp_cmp_total x y (record { number = stamp })

-- by their names
abbrev pub group_cmp : Group → Group → Ordering
group_cmp left right = slice_cmp nat_cmp left.name right.name

pub group_cmp_total : IsTotalOrder group_cmp
group_cmp_total = on_total (λ (g : Group). g.name) nat_list_cmp_total

-- a group of that name
abbrev pub key : List ℕ → Group
key name = record { name = name; stamps = [] }
