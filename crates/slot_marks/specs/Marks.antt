-- The marks of sessions, and who holds a slot.
use Rattle.std.specs.Prelude.{◌≡◌, ◌≢◌, ◌==◌, ◌&&◌, ◌||◌, ◌⊎◌, ℕ, List, [], ◌∷◌, ◌++◌, map, filter, Bool, false, not, if◌then◌else◌, IsTrue, Option, Some, None, slice_index_or}
use Rattle.std.specs.List.{list_any}
use Rattle.std.specs.Option.{option_eq, option_map_or}
use Rattle.std.specs.Str.{bytes_eq}
use Rattle.slot_marks.specs.declared.mark.Group.{Group}
use Rattle.slot_marks.specs.declared.mark.Mark.{Mark}

-- the marks of a session in the order taken, and for how many more there is room
pub record SessionMarks : Type 0 where
  pub marks : List Mark
  pub spare : ℕ

abbrev pub no_marks : SessionMarks
no_marks = record { marks = []; spare = 0 }

-- the sessions stand at their numbers; one that is not there has no mark
abbrev pub marks_of : List SessionMarks → ℕ → List Mark
marks_of locks session = (slice_index_or locks session no_marks).marks

-- and no room
abbrev pub spare_of : List SessionMarks → ℕ → ℕ
spare_of locks session = (slice_index_or locks session no_marks).spare

-- the group of a queue, a number and a consumer
abbrev pub group_of : List ℕ → ℕ → Option (List ℕ) → Group
group_of queue number consumer = record { queue = queue; number = number; consumer = consumer }

abbrev pub is_on : ℕ → ℕ → Mark → Bool
is_on id slot mark = (mark.id == id) && (mark.slot == slot)

abbrev pub is_same_group : Group → Group → Bool
is_same_group left right =
    (left.number == right.number) && bytes_eq left.queue right.queue && option_eq bytes_eq left.consumer right.consumer

abbrev pub is_in_group : Group → Mark → Bool
is_in_group group mark = option_map_or (λ own. is_same_group own group) mark.group false

-- one of the marks is on the slot
abbrev pub has_slot : ℕ → ℕ → List Mark → Bool
has_slot id slot marks = list_any (is_on id slot) marks

-- one of the marks is on a slot of the group
abbrev pub has_group : Group → List Mark → Bool
has_group group marks = list_any (is_in_group group) marks

-- one of the marks is on a slot of the group, where there is one
abbrev pub has_any_group : Option Group → List Mark → Bool
has_any_group None marks = false
has_any_group (Some group) marks = has_group group marks

-- one of the marks is on the slot and removed it
abbrev pub has_removed : ℕ → ℕ → List Mark → Bool
has_removed id slot marks = list_any (λ mark. is_on id slot mark && mark.removed) marks

-- the session has a mark on the slot
abbrev pub HasSlot : List SessionMarks → ℕ → ℕ → ℕ → Type 0
HasSlot locks id slot session = IsTrue (has_slot id slot (marks_of locks session))

-- the session has a mark in the group
abbrev pub HasGroup : List SessionMarks → Option Group → ℕ → Type 0
HasGroup locks group session = IsTrue (has_any_group group (marks_of locks session))

-- no session has a mark on the slot
abbrev pub IsFreeSlot : List SessionMarks → ℕ → ℕ → Type 0
IsFreeSlot locks id slot = (session : ℕ) → has_slot id slot (marks_of locks session) ≡ false

-- no session has a mark in the group
abbrev pub IsFreeGroup : List SessionMarks → Option Group → Type 0
IsFreeGroup locks group = (session : ℕ) → has_any_group group (marks_of locks session) ≡ false

-- the session has the slot, or, where none has it, the group
abbrev pub IsHolder : List SessionMarks → ℕ → ℕ → Option Group → ℕ → Type 0
IsHolder locks id slot group session =
    HasSlot locks id slot session ⊎ (IsFreeSlot locks id slot × HasGroup locks group session)

-- no session but this one has a mark on the slot
abbrev pub NoOtherHasSlot : List SessionMarks → ℕ → Mark → Type 0
NoOtherHasSlot locks session mark = (other : ℕ) → other ≢ session → has_slot mark.id mark.slot (marks_of locks other) ≡ false

-- no session but this one has a mark in the group of the mark
abbrev pub NoOtherHasGroup : List SessionMarks → ℕ → Mark → Type 0
NoOtherHasGroup locks session mark = (other : ℕ) → other ≢ session → has_any_group mark.group (marks_of locks other) ≡ false

-- another session has the mark's slot, or, where no other has it, the mark's group
pub record IsOtherHolder (locks : List SessionMarks) (session : ℕ) (mark : Mark) (other : ℕ) : Type 0 where
  pub is_other : other ≢ session
  pub holds :
      HasSlot locks mark.id mark.slot other ⊎ (NoOtherHasSlot locks session mark × HasGroup locks mark.group other)

-- no other session has the mark's slot or its group
pub record IsFreeFor (locks : List SessionMarks) (session : ℕ) (mark : Mark) : Type 0 where
  pub slot : NoOtherHasSlot locks session mark
  pub group : NoOtherHasGroup locks session mark

-- a mark on that slot becomes removed where the new one is
abbrev pub kept_beside : Mark → Mark → Mark
kept_beside mark own = if is_on mark.id mark.slot own then record own { removed = own.removed || mark.removed } else own

-- an own mark on the slot is kept; else the new one goes last
abbrev pub taken : List Mark → Mark → List Mark
taken marks mark = if has_slot mark.id mark.slot marks then map (kept_beside mark) marks else marks ++ mark ∷ []

-- the marks but those on the slot
abbrev pub released : List Mark → ℕ → ℕ → List Mark
released marks id slot = filter (λ mark. not (is_on id slot mark)) marks

-- every session has the same marks
abbrev pub SameMarks : List SessionMarks → List SessionMarks → Type 0
SameMarks old new = (session : ℕ) → marks_of new session ≡ marks_of old session

-- every other session has the same marks, and the same room
pub record ChangesOnly (old new : List SessionMarks) (session : ℕ) : Type 0 where
  pub marks : (other : ℕ) → other ≢ session → marks_of new other ≡ marks_of old other
  pub spare : (other : ℕ) → other ≢ session → spare_of new other ≡ spare_of old other

-- no two sessions have marks on one slot, or in one group
pub record AreHeldOnce (locks : List SessionMarks) : Type 0 where
  pub slots : (s t id slot : ℕ) → HasSlot locks id slot s → HasSlot locks id slot t → s ≡ t
  pub groups : (s t : ℕ) (group : Option Group) → HasGroup locks group s → HasGroup locks group t → s ≡ t
