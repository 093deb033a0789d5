-- What the index of groups tells.
use Rattle.std.specs.Prelude.{◌≡◌, ◌≢◌, ◌<◌, ◌≤◌, ◌+◌, ◌-◌, ◌/◌, ◌%◌, ◌==◌, ◌&&◌, ◌||◌, ℕ, zero, suc, min, List, Bool, if◌then◌else◌, Option, Some, None, IsSome, is_some, IsTrue, nat_eq, slice_index_or, slice_set, false}
use Rattle.std.specs.Option.{option_copied, option_eq, option_map, option_map_or}
use Rattle.std.specs.Str.{bytes_eq}
use Rattle.std.specs.HashMap.{get, spare as spare_in}
use Rattle.std.specs.Hash.FoldHasher.{initial, write, finish}
use Rattle.std.specs.declared.hash.FoldHasher.{FoldHasher}
use Rattle.row_locks.specs.Changes.{SetsValue, SetsAt}
use Rattle.row_locks.specs.Entries.{SessionEntries, is_entry_in, is_same_slot, mark_at, table_of, with_rank}
use Rattle.slot_marks.specs.Marks.{group_of}
use Rattle.slot_marks.specs.declared.mark.Group.{Group}
use Rattle.slot_marks.specs.declared.mark.Mark.{Mark}
use Rattle.row_locks.specs.declared.classes.ClassCell.{ClassCell}
use Rattle.row_locks.specs.declared.classes.ClassIndex.{ClassIndex}
use Rattle.row_locks.specs.declared.classes.Place.{Place}
use Rattle.row_locks.specs.declared.groups.GroupIndex.{GroupIndex}
use Rattle.row_locks.specs.declared.groups.GroupKey.{GroupKey}
use Rattle.row_locks.specs.declared.groups.GroupRef.{GroupRef}
use Rattle.row_locks.specs.declared.holds.GroupBlock.{GroupBlock}
use Rattle.row_locks.specs.declared.holds.GroupHold.{GroupHold}
use Rattle.row_locks.specs.declared.holds.GroupHolds.{GroupHolds}

-- the group that is meant
abbrev pub group_meant : GroupRef → Group
group_meant group = group_of group.queue.now group.number (option_copied group.consumer)

-- the group that is asked for, where a number is given
abbrev pub group_asked : List ℕ → Option ℕ → Option (List ℕ) → Option Group
group_asked queue number consumer = option_map (λ n. group_of queue n consumer) number

-- what std's hasher makes of the queue's name and, where there is one, the consumer's
abbrev pub names_hashed : List ℕ → Option (List ℕ) → FoldHasher
names_hashed queue None = write initial queue
names_hashed queue (Some consumer) = write (write initial queue) consumer

-- the class of a group: the hash of its names
abbrev pub class_of : Group → ℕ
class_of group = finish (names_hashed group.queue group.consumer)

-- a group's number and its class
abbrev pub key_of : Group → GroupKey
key_of group = record { number = group.number; names = class_of group }

-- the two are one rank of one class
abbrev pub is_same_rank : ℕ → ℕ → ℕ → ℕ → Bool
is_same_rank names rank k r = is_same_slot (names, rank) (k, r)

abbrev pub is_same_class : ℕ → ℕ → Bool
is_same_class names k = nat_eq names k

abbrev pub cell_of : ClassIndex → ℕ → ℕ → Option ClassCell
cell_of index names rank = get is_same_slot index.cells (names, rank)

-- where the mark with a rank stands
abbrev pub place_of : ClassIndex → ℕ → ℕ → Option Place
place_of index names rank = option_map (λ it. it.place) (cell_of index names rank)

-- how many marks are of a class
abbrev pub count_of : ClassIndex → ℕ → ℕ
count_of index names = option_map_or (λ it. it.count) (cell_of index names 0) 0

-- marks of a class may have different names
abbrev pub mixed_of : ClassIndex → ℕ → Bool
mixed_of index names = option_map_or (λ it. it.mixed) (cell_of index names 0) false

-- the last rank of a class
abbrev pub last_rank : ClassIndex → ℕ → ℕ
last_rank index names = count_of index names - 1

-- a mark that stands at a place gets the next rank of a class
abbrev pub PutsPlace : ClassIndex → ClassIndex → ℕ → Place → Type 0
PutsPlace old new names place = SetsValue (place_of old) (place_of new) names (count_of old names) (Some place)

-- the mark with a rank goes, and the last one of its class takes the rank over
abbrev pub TakesRank : ClassIndex → ClassIndex → ℕ → ℕ → Type 0
TakesRank old new names rank = (k r : ℕ) → place_of new k r ≡
    (if is_same_rank names (last_rank old names) k r then None
    else (if is_same_rank names rank k r then place_of old names (last_rank old names) else place_of old k r))

-- where the mark stands that takes a rank over, if it is another one
abbrev pub taking_over : ClassIndex → ℕ → ℕ → Option Place
taking_over index names rank = if rank == last_rank index names then None else place_of index names (last_rank index names)

-- the class has one mark more
abbrev pub CountsOneMore : ClassIndex → ClassIndex → ℕ → Type 0
CountsOneMore old new names = SetsAt (count_of old) (count_of new) names (count_of old names + 1)

-- the class has one mark less
abbrev pub CountsOneLess : ClassIndex → ClassIndex → ℕ → Type 0
CountsOneLess old new names = SetsAt (count_of old) (count_of new) names (last_rank old names)

-- the class is mixed where it was, or where another name comes
abbrev pub Mixes : ClassIndex → ClassIndex → ℕ → Bool → Type 0
Mixes old new names differs = SetsAt (mixed_of old) (mixed_of new) names (mixed_of old names || differs)

-- a class that still has marks is mixed where it was
abbrev pub KeepsMixed : ClassIndex → ClassIndex → Type 0
KeepsMixed old new = (k : ℕ) → 0 < count_of new k → mixed_of new k ≡ mixed_of old k

-- for how many more marks there is room
abbrev pub class_room : ClassIndex → ℕ
class_room index = spare_in index.cells

-- what a block has at a place
abbrev pub hold_at : GroupBlock → ℕ → Option GroupHold
hold_at block at = option_map (λ s. record { session = s; count = slice_index_or block.counts at 0 }) (slice_index_or block.sessions at None)

-- and what it has where there is one
abbrev pub block_hold : Option GroupBlock → ℕ → Option GroupHold
block_hold block at = option_map_or (λ it. hold_at it at) block None

-- the block in which the marks with a key are counted
abbrev pub block_of : GroupHolds → GroupKey → Option GroupBlock
block_of holds key = get is_same_slot holds.blocks (key.number / 16, key.names)

-- the marks with a number and a class
abbrev pub hold_in : GroupHolds → ℕ → ℕ → Option GroupHold
hold_in holds number names = block_hold (get is_same_slot holds.blocks (number / 16, names)) (number % 16)

-- the marks with a key
abbrev pub key_hold : GroupHolds → GroupKey → Option GroupHold
key_hold holds key = hold_in holds key.number key.names

-- how many they are
abbrev pub held_count : Option GroupHold → ℕ
held_count hold = option_map_or (λ it. it.count) hold 0

-- with one more, which the session takes
abbrev pub counted_in : ℕ → Option GroupHold → GroupHold
counted_in taker hold = record { session = taker; count = held_count hold + 1 }

-- with one less
abbrev pub counted_out : Option GroupHold → Option GroupHold
counted_out None = None
counted_out (Some it) = if it.count - 1 == 0 then None else Some (record { session = it.session; count = it.count - 1 })

-- of a key there is this, and of each other what there was
abbrev pub SetsHold : GroupHolds → GroupHolds → GroupKey → Option GroupHold → Type 0
SetsHold old new key hold = SetsValue (hold_in old) (hold_in new) key.number key.names hold

-- one more mark with a key is counted, which the session takes
abbrev pub CountsIn : GroupHolds → GroupHolds → GroupKey → ℕ → Type 0
CountsIn old new key session = SetsHold old new key (Some (counted_in session (key_hold old key)))

-- one mark with a key is counted no more
abbrev pub CountsOut : GroupHolds → GroupHolds → GroupKey → Type 0
CountsOut old new key = SetsHold old new key (counted_out (key_hold old key))

abbrev pub hold_room : GroupHolds → ℕ
hold_room holds = spare_in holds.blocks

abbrev pub group_room : GroupIndex → ℕ
group_room index = min (class_room index.classes) (hold_room index.holds)

-- the group of a mark
abbrev pub group_in : Option Mark → Option Group
group_in None = None
group_in (Some mark) = mark.group

-- the group of the mark at a place
abbrev pub group_at : List SessionEntries → Place → Option Group
group_at tables place = group_in (mark_at tables place.session place.at)

-- the class of the mark at a place
abbrev pub class_at : List SessionEntries → Place → Option ℕ
class_at tables place = option_map class_of (group_at tables place)

-- the rank of the mark at a place, where the index has it
abbrev pub rank_at : List SessionEntries → Place → Option ℕ
rank_at tables place = slice_index_or (table_of tables place.session).ranks place.at None

-- the mark at a place has another rank
abbrev pub tables_with_rank : List SessionEntries → Place → Option ℕ → List SessionEntries
tables_with_rank tables place rank =
    slice_set tables place.session (with_rank (table_of tables place.session) place.at rank)

-- each place but this one has a rank where it had one
abbrev pub SameRankedBut : List SessionEntries → List SessionEntries → Place → Type 0
SameRankedBut old new place = (other : Place) → other ≢ place → is_some (rank_at new other) ≡ is_some (rank_at old other)

-- each place of another session has a rank where it had one
abbrev pub SameRankedOutside : List SessionEntries → List SessionEntries → ℕ → Type 0
SameRankedOutside old new session =
    (other : Place) → other.session ≢ session → is_some (rank_at new other) ≡ is_some (rank_at old other)

-- none of so many first places of the session has a rank
abbrev pub AreUnranked : List SessionEntries → ℕ → ℕ → Type 0
AreUnranked tables session count = (at : ℕ) → at < count → rank_at tables (record { session = session; at = at }) ≡ None

-- the mark at a place is in the group
abbrev pub is_in_group_at : List SessionEntries → Group → Place → Bool
is_in_group_at tables group place = is_entry_in group (mark_at tables place.session place.at)

-- the group has those names
abbrev pub has_names : List ℕ → Option (List ℕ) → Group → Bool
has_names queue consumer group = bytes_eq group.queue queue && option_eq bytes_eq group.consumer consumer

-- there is a group, and it has those names
abbrev pub have_names : List ℕ → Option (List ℕ) → Option Group → Bool
have_names queue consumer group = option_map_or (has_names queue consumer) group false

-- the mark at a place is in a group with those names
abbrev pub has_names_at : List SessionEntries → List ℕ → Option (List ℕ) → Place → Bool
has_names_at tables queue consumer place = have_names queue consumer (group_at tables place)

-- the first mark of a class, where there is one, has the group's names
abbrev pub FirstHasNames : List SessionEntries → ClassIndex → ℕ → Group → Type 0
FirstHasNames tables classes names group =
    (p : Place) → place_of classes names 0 ≡ Some p → IsTrue (has_names_at tables group.queue group.consumer p)

-- the two groups have the same names
abbrev pub SameNames : Group → Group → Type 0
SameNames left right = (left.queue ≡ right.queue) × (left.consumer ≡ right.consumer)

-- the session has a mark in the group
abbrev pub HasInGroup : List SessionEntries → Group → ℕ → Type 0
HasInGroup tables group session = (at : ℕ) × IsTrue (is_in_group_at tables group (record { session = session; at = at }))

-- no session has a mark in the group
abbrev pub IsUnheld : List SessionEntries → Group → Type 0
IsUnheld tables group = (place : Place) → is_in_group_at tables group place ≡ false

-- only the session has marks in the group, where there is one
abbrev pub HasAlone : List SessionEntries → ℕ → Option Group → Type 0
HasAlone tables session group = (p : Place) (g : Group) → group ≡ Some g → group_at tables p ≡ Some g → p.session ≡ session

-- the two tell the same of each place but one, of which the new one tells the value
pub record DiffersAt {A : Type 0} (old new : Place → Option A) (place : Place) (value : Option A) : Type 0 where
  pub here : new place ≡ value
  pub elsewhere : (p : Place) → p ≢ place → new p ≡ old p

-- the ranks of a class are those below its count
pub record IsDense (place : ℕ → ℕ → Option Place) (count : ℕ → ℕ) : Type 0 where
  pub below : (names rank : ℕ) → rank < count names → IsSome (place names rank)
  pub past : (names rank : ℕ) → count names ≤ rank → place names rank ≡ None

-- the index has each mark that has a rank, at its class and rank, and no others
pub record IsClassIndex (class : Place → Option ℕ) (rank : Place → Option ℕ) (place : ℕ → ℕ → Option Place) (count : ℕ → ℕ) : Type 0 where
  pub found : (p : Place) (k : ℕ) (r : ℕ) → class p ≡ Some k → rank p ≡ Some r → place k r ≡ Some p
  pub real : (k : ℕ) (r : ℕ) (p : Place) → place k r ≡ Some p → (class p ≡ Some k) × (rank p ≡ Some r)
  pub dense : IsDense place count

-- the number of the group of the mark at a place
abbrev pub number_in : (Place → Option Group) → Option Place → Option ℕ
number_in group None = None
number_in group (Some place) = option_map (λ it. it.number) (group place)

abbrev pub is_number : ℕ → Option ℕ → Bool
is_number number other = option_map_or (nat_eq number) other false

-- how many of the first ranks are of marks with the number
abbrev pub number_count : (ℕ → Option ℕ) → ℕ → ℕ → ℕ
number_count numbers number zero = 0
number_count numbers number (suc rank) = number_count numbers number rank + (if is_number number (numbers rank) then 1 else 0)

-- how many marks in the index are of each number and class is told, and, in a class that is not mixed, whose they are and
-- that they have the same names
pub record AreCounted (group : Place → Option Group) (place : ℕ → ℕ → Option Place) (count : ℕ → ℕ) (mixed : ℕ → Bool) (hold : ℕ → ℕ → Option GroupHold) : Type 0 where
  pub counted : (number names : ℕ) → held_count (hold number names) ≡ number_count (λ rank. number_in group (place names rank)) number (count names)
  pub some : (number names : ℕ) (it : GroupHold) → hold number names ≡ Some it → 0 < it.count
  pub alike : (names r s : ℕ) (p q : Place) (g k : Group) → mixed names ≡ false → place names r ≡ Some p → place names s ≡ Some q → group p ≡ Some g → group q ≡ Some k → SameNames g k
  pub held : (names r : ℕ) (p : Place) (g : Group) → mixed names ≡ false → place names r ≡ Some p → group p ≡ Some g → option_map (λ it. it.session) (hold g.number names) ≡ Some p.session

-- it is the index of the marks in the tables
pub record IsGroupIndexOf (tables : List SessionEntries) (groups : GroupIndex) : Type 0 where
  pub index : IsClassIndex (class_at tables) (rank_at tables) (place_of groups.classes) (count_of groups.classes)
  pub counts : AreCounted (group_at tables) (place_of groups.classes) (count_of groups.classes) (mixed_of groups.classes) (hold_in groups.holds)

-- it is the index of any tables that tell of one place this group and this rank, and of each other place what these tell
abbrev pub IsIndexWith : List SessionEntries → GroupIndex → Place → Option Group → Option ℕ → Type 0
IsIndexWith tables groups place group rank =
    (new : List SessionEntries) → DiffersAt (group_at tables) (group_at new) place group
    → DiffersAt (rank_at tables) (rank_at new) place rank → IsGroupIndexOf new groups

-- the rank that a mark of the group gets
abbrev pub next_rank : GroupIndex → Option Group → Option ℕ
next_rank groups group = option_map (λ it. count_of groups.classes (class_of it)) group

-- each mark of a group has a rank
abbrev pub AreRanked : List SessionEntries → Type 0
AreRanked tables = (p : Place) (k : ℕ) → class_at tables p ≡ Some k → IsSome (rank_at tables p)

-- the index has the marks of all groups, and there is the room that was reserved
pub record AreGrouped (tables : List SessionEntries) (groups : GroupIndex) (spare : ℕ) : Type 0 where
  pub index : IsGroupIndexOf tables groups
  pub ranked : AreRanked tables
  pub fits : spare ≤ group_room groups
