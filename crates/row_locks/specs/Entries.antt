-- How a session's marks are kept: each at the place where it was taken, with its rank in the index of groups.
use Rattle.std.specs.Prelude.{◌≡◌, ◌+◌, ◌-◌, ◌&&◌, ℕ, List, [], ◌∷◌, ◌++◌, length, Bool, false, Option, Some, None, slice_index_or, slice_set, sum_by, nat_eq}
use Rattle.std.specs.Option.{option_map, option_map_or}
use Rattle.slot_marks.specs.Marks.{SessionMarks, is_in_group, kept_beside}
use Rattle.slot_marks.specs.declared.mark.Group.{Group}
use Rattle.slot_marks.specs.declared.mark.Mark.{Mark}

-- the marks that are still there, in the order taken
abbrev pub present : List (Option Mark) → List Mark
present [] = []
present (None ∷ entries) = present entries
present (Some mark ∷ entries) = mark ∷ present entries

abbrev pub entry_at : List (Option Mark) → ℕ → Option Mark
entry_at entries at = slice_index_or entries at None

-- the entry at a place, removed where the mark is and is on the same slot
abbrev pub kept_entry : Mark → List (Option Mark) → ℕ → Option Mark
kept_entry mark entries at = option_map (kept_beside mark) (entry_at entries at)

-- the entries with that one at a place
abbrev pub entries_keeping : List (Option Mark) → ℕ → Mark → List (Option Mark)
entries_keeping entries at mark = slice_set entries at (kept_entry mark entries at)

-- an entry has a mark in the group
abbrev pub is_entry_in : Group → Option Mark → Bool
is_entry_in group entry = option_map_or (is_in_group group) entry false

abbrev pub is_same_slot : ℕ × ℕ → ℕ × ℕ → Bool
is_same_slot a b = nat_eq a.0 b.0 && nat_eq a.1 b.1

-- the entries of a session, their ranks, and for how many more there is room
pub record SessionEntries : Type 0 where
  pub entries : List (Option Mark)
  pub ranks : List (Option ℕ)
  pub spare : ℕ

abbrev pub no_entries : SessionEntries
no_entries = record { entries = []; ranks = []; spare = 0 }

-- each entry has a rank beside it
abbrev pub IsAligned : SessionEntries → Type 0
IsAligned table = length table.ranks ≡ length table.entries

-- with one more mark, in the room for it
abbrev pub with_mark : SessionEntries → Mark → Option ℕ → SessionEntries
with_mark table mark rank = record { entries = table.entries ++ Some mark ∷ []; ranks = table.ranks ++ rank ∷ []; spare = table.spare - 1 }

-- with another entry at a place
abbrev pub with_entry : SessionEntries → ℕ → Option Mark → SessionEntries
with_entry table at entry = record { entries = slice_set table.entries at entry; ranks = table.ranks; spare = table.spare }

-- with another rank at a place
abbrev pub with_rank : SessionEntries → ℕ → Option ℕ → SessionEntries
with_rank table at rank = record { entries = table.entries; ranks = slice_set table.ranks at rank; spare = table.spare }

-- with room for one more mark
abbrev pub with_room : SessionEntries → SessionEntries
with_room table = record { entries = table.entries; ranks = table.ranks; spare = table.spare + 1 }

-- the entries and the room alone
abbrev pub unranked : SessionEntries → SessionEntries
unranked table = record { entries = table.entries; ranks = []; spare = table.spare }

-- what is seen of them
abbrev pub shown : SessionEntries → SessionMarks
shown table = record { marks = present table.entries; spare = table.spare }

-- for how many marks there is room in all sessions
abbrev pub all_spare : List SessionEntries → ℕ
all_spare tables = sum_by (λ table. table.spare) tables

-- what a session has; one that is not there has nothing
abbrev pub table_of : List SessionEntries → ℕ → SessionEntries
table_of tables session = slice_index_or tables session no_entries

-- the entries of a session
abbrev pub entries_of : List SessionEntries → ℕ → List (Option Mark)
entries_of tables session = (table_of tables session).entries

-- each session has what it had
abbrev pub SameTables : List SessionEntries → List SessionEntries → Type 0
SameTables old new = (session : ℕ) → table_of new session ≡ table_of old session

-- the session has one more mark, in the room for it
abbrev pub tables_with_mark : List SessionEntries → ℕ → Mark → Option ℕ → List SessionEntries
tables_with_mark tables session mark rank = slice_set tables session (with_mark (table_of tables session) mark rank)

-- the session has another entry at a place
abbrev pub tables_with_entry : List SessionEntries → ℕ → ℕ → Option Mark → List SessionEntries
tables_with_entry tables session at entry = slice_set tables session (with_entry (table_of tables session) at entry)

-- the session's mark at a place is removed where the mark is
abbrev pub tables_keeping : List SessionEntries → ℕ → ℕ → Mark → List SessionEntries
tables_keeping tables session at mark = tables_with_entry tables session at (kept_entry mark (entries_of tables session) at)

-- the session has room for one more mark
abbrev pub tables_with_room : List SessionEntries → ℕ → List SessionEntries
tables_with_room tables session = slice_set tables session (with_room (table_of tables session))

-- the mark of a session at a place
abbrev pub mark_at : List SessionEntries → ℕ → ℕ → Option Mark
mark_at tables session at = entry_at (entries_of tables session) at
