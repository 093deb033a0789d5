-- What an index of what is due must have.
use Rattle.std.specs.Prelude.{◌≡◌, ◌<◌, ℕ, ◌+◌, ◌^◌, ◌==◌, ◌&&◌, ◌||◌, Bool, true, not, nat_le, List, Some}
use Rattle.std.specs.List.{list_any}
use Rattle.due_index.specs.declared.row.DueRow.{DueRow}
use Rattle.queue_rows.specs.Rows.{find_message, slot_of}
use Rattle.queue_rows.specs.Settling.{is_open, is_ready, is_handled, retention_of}
use Rattle.queue_rows.specs.Due.{is_over, is_taken, last_taken}
use Rattle.queue_rows.specs.declared.tables.Tables.{Tables}
use Rattle.queue_rows.specs.declared.rows.MsgRow.{MsgRow}
use Rattle.queue_rows.specs.declared.rows.SlotRow.{SlotRow}

-- it expires or is ready at that moment, unless it is held or being sent
abbrev pub is_slot_due : SlotRow → ℕ → Bool
is_slot_due s moment = is_open s.state && (is_over s moment || (not (is_ready s.state) && nat_le s.at moment))

-- the message goes at that moment
abbrev pub is_purge_due : Tables → MsgRow → ℕ → Bool
is_purge_due t m moment = is_handled m && (not (is_taken m) || nat_le (last_taken m + retention_of t m) moment)

-- there is a row of the message and the slot number, at the moment or before
abbrev pub has_row : List DueRow → ℕ → ℕ → ℕ → Bool
has_row rows id slot moment = list_any (λ row. (row.id == id) && (row.slot == slot) && nat_le row.moment moment) rows

-- whatever due work may name at a moment has a row then or before: a slot by its number, and a message that goes by the
-- number 0. There may be other rows, and earlier ones: who reads them looks at the message.
pub record NamesDue (t : Tables) (rows : List DueRow) : Type 0 where
  pub slots : (m : MsgRow) (slot : ℕ) (s : SlotRow) (moment : ℕ) → find_message t m.id ≡ Some m → slot_of m slot ≡ Some s
      → is_slot_due s moment ≡ true → has_row rows m.id slot moment ≡ true
  pub purges : (m : MsgRow) (moment : ℕ) → moment < 2 ^ 64 → find_message t m.id ≡ Some m
      → is_purge_due t m moment ≡ true → has_row rows m.id 0 moment ≡ true
