-- How an index finds where a name stands: each name in the list has a stamp, and of each name it is kept which stamps it has.
use Rattle.std.specs.Prelude.{◌≡◌, ℕ, ◌<◌, Bool, cond, not, List, [], ◌∷◌, filter, map}
use Rattle.std.specs.List.{AllByRecursion, find}
use Rattle.std.specs.Option.{option_map_or}
use Rattle.std.specs.Ordering.{nat_cmp, is_eq}
use Rattle.std.specs.declared.cmp.Ordering.TheVariants.{Equal}
use Rattle.std.specs.Str.{bytes_eq}
use Rattle.row_tree.specs.Order.{put_in_order}
use Rattle.named_list.specs.Order.{group_cmp, key, stamp_cmp}
use Rattle.named_list.specs.declared.entry.Entry.{Entry}
use Rattle.named_list.specs.declared.entry.Stamp.{Stamp}
use Rattle.named_list.specs.declared.group.Group.{Group}

-- the names in the order of the list
abbrev pub names_in : List Entry → List (List ℕ)
names_in entries = map (λ e. e.name) entries

-- the stamp is told
abbrev pub stamp_of : Entry → Stamp
stamp_of e = record { number = e.stamp }

-- the stamps of those entries that have the name
abbrev pub stamps_of : List ℕ → List Entry → List Stamp
stamps_of name entries = map stamp_of (filter (λ e. bytes_eq e.name name) entries)

-- later entries have greater stamps
abbrev pub AreRising : List Entry → Type 0
AreRising [] = Unit {0}
AreRising (e ∷ es) = AllByRecursion (λ later. e.stamp < later.stamp) es × AreRising es

-- all stamps are below that number
abbrev pub AreBelow : ℕ → List Entry → Type 0
AreBelow next entries = AllByRecursion (λ e. e.stamp < next) entries

-- the group is of that name
abbrev pub is_of : List ℕ → Group → Bool
is_of name group = is_eq (group_cmp group (key name))

abbrev pub IsNamed : List ℕ → Group → Type 0
IsNamed name group = group_cmp group (key name) ≡ Equal

-- the groups of other names
abbrev pub without_group : List ℕ → List Group → List Group
without_group name groups = filter (λ group. not (is_of name group)) groups

-- the stamps that are kept of a name
abbrev pub stamps_in : List ℕ → List Group → List Stamp
stamps_in name groups = option_map_or (λ group. group.stamps) (find (is_of name) groups) []

-- of each name the stamps are kept that it has
abbrev pub TellsStamps : List Group → List Entry → Type 0
TellsStamps groups entries = (name : List ℕ) → stamps_in name groups ≡ stamps_of name entries

-- the stamps with one more
abbrev pub with_stamp : ℕ → List Stamp → List Stamp
with_stamp stamp = λ stamps. put_in_order stamp_cmp (record { number = stamp }) stamps

-- the stamps without that one
abbrev pub without_stamp : ℕ → List Stamp → List Stamp
without_stamp stamp = λ stamps. filter (λ s. not (is_eq (nat_cmp s.number stamp))) stamps

-- the name has its stamps with the edit made, and each other name has those that it had
abbrev pub EditsStamps : List ℕ → (List Stamp → List Stamp) → (before after : List Group) → Type 0
EditsStamps name edit before after =
    (n : List ℕ) → stamps_in n after ≡ cond (is_of n (key name)) (edit (stamps_in name before)) (stamps_in n before)
