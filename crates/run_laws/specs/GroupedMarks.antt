-- Which marks stand in the groups of their slots.
use Rattle.std.specs.Prelude.{◌≡◌, ℕ, List, Option, All, option_and_then}
use Rattle.slot_marks.specs.declared.mark.Group.{Group}
use Rattle.slot_marks.specs.declared.mark.Mark.{Mark}
use Rattle.queue_rows.specs.Rows.{find_message}
use Rattle.queue_rows.specs.Due.{group_in}
use Rattle.queue_rows.specs.declared.tables.Tables.{Tables}

-- the group by which marks hold a slot, where its message is there and stands in a grouped table
abbrev pub group_at : Tables → ℕ → ℕ → Option Group
group_at t id slot = option_and_then (λ m. group_in t m slot) (find_message t id)

-- each mark is in the group of its slot, or in none where the slot has none
abbrev pub AreOfGroups : Tables → List Mark → Type 0
AreOfGroups t marks = All (λ mark. mark.group ≡ group_at t mark.id mark.slot) marks
