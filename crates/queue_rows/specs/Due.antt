-- Due work: what becomes of slots and messages because a moment has come.
use Rattle.std.specs.Prelude.{ℕ, ◌+◌, ◌==◌, ◌&&◌, ◌||◌, ◌++◌, List, [], ◌∷◌, Bool, false, not, nat_le, max, fold, flat_map, Option, Some, None, option_and_then, if◌then◌else◌}
use Rattle.std.specs.List.{list_any, range_with_len}
use Rattle.std.specs.Option.{option_map_or}
use Rattle.aq_base.specs.declared.DbId.{DbId}
use Rattle.slot_marks.specs.declared.mark.Group.{Group}
use Rattle.queue_rows.specs.Rows.{slot_of, recipient_count, table_of}
use Rattle.queue_rows.specs.Settling.{is_open, is_ready, is_processed, is_handled, retention_of, settled}
use Rattle.queue_rows.specs.Session.{Session, is_same_db, holds}
use Rattle.queue_rows.specs.Groups.{group_of}
use Rattle.queue_rows.specs.declared.tables.Tables.{Tables}
use Rattle.queue_rows.specs.declared.rows.MsgRow.{MsgRow}
use Rattle.queue_rows.specs.declared.rows.SlotRow.{SlotRow}
use Rattle.queue_rows.specs.declared.history.SlotRef.{SlotRef}
use Rattle.queue_rows.specs.declared.change.Change.{Change}
use Rattle.queue_rows.specs.declared.change.Change.TheVariants as changes

-- ---- slots

-- the numbers of a message's slots, in order; slot 0 of a moved message is its last
abbrev pub slot_numbers : MsgRow → List ℕ
slot_numbers m = range_with_len 1 (recipient_count m) ++ (if m.moved then 0 ∷ [] else [])

-- its expiry has come
abbrev pub is_over : SlotRow → ℕ → Bool
is_over s moment = option_map_or (λ expiry. nat_le expiry moment) s.expires false

-- a slot that can be taken, now or later, expires when its expiry has come; else one that waits is ready when its end has
-- come
abbrev pub due_change : ℕ → ℕ → SlotRow → ℕ → List Change
due_change id slot s moment = if is_open s.state && is_over s moment then changes.Expired id slot moment ∷ []
    else (if is_open s.state && not (is_ready s.state) && nat_le s.at moment then changes.Ready id slot moment ∷ [] else [])

-- ---- slots that are left as they are

-- what due work looks at: the tables of a database, all sessions, the slot that is being sent, and the moment
pub record Watch : Type 0 where
  pub tables : Tables
  pub sessions : List Session
  pub db : DbId
  pub sent : Option SlotRef
  pub moment : ℕ

-- the group by which marks hold a slot, in a grouped queue
abbrev pub group_in : Tables → MsgRow → ℕ → Option Group
group_in t m slot = option_and_then (λ table. group_of table m slot) (table_of t m.queue)

-- some session of the database holds the slot
abbrev pub is_held_by_any : List Session → DbId → ℕ → ℕ → Option Group → Bool
is_held_by_any sessions db id slot group = list_any (λ s. is_same_db s.at db && list_any (holds id slot group) s.marks) sessions

abbrev pub is_slot_at : DbId → ℕ → ℕ → SlotRef → Bool
is_slot_at db id slot at = is_same_db at.db db && (at.id == id) && (at.slot == slot)

-- it is this slot that is being sent
abbrev pub is_sent : Option SlotRef → DbId → ℕ → ℕ → Bool
is_sent sent db id slot = option_map_or (is_slot_at db id slot) sent false

-- it stays as it is: it is being sent, or somebody holds it
abbrev pub is_left : Watch → MsgRow → ℕ → Bool
is_left w m slot = is_sent w.sent w.db m.id slot || is_held_by_any w.sessions w.db m.id slot (group_in w.tables m slot)

abbrev pub due_slot : Watch → MsgRow → ℕ → Option SlotRow → List Change
due_slot w m slot None = []
due_slot w m slot (Some s) = if is_left w m slot then [] else due_change m.id slot s w.moment

-- what is due of a message's slots, in order
abbrev pub due_slots : Watch → MsgRow → List Change
due_slots w m = flat_map (λ slot. due_slot w m slot (slot_of m slot)) (slot_numbers m)

-- ---- messages that go

-- somebody has taken it
abbrev pub is_taken : MsgRow → Bool
is_taken m = list_any (λ s. is_processed s.state) m.slots

-- the moment at which it was last taken
abbrev pub last_taken : MsgRow → ℕ
last_taken m = fold (λ last s. if is_processed s.state then max last s.at else last) 0 m.slots

-- all have taken it, or were removed; and its queue has kept it for long enough, or nobody has taken it
abbrev pub is_spent : Watch → MsgRow → Bool
is_spent w m = is_handled m && (not (is_taken m) || nat_le (last_taken m + retention_of w.tables m) w.moment)

abbrev pub due_purge : Watch → MsgRow → List Change
due_purge w m = if is_spent w m then changes.Purged m.id ∷ [] else []

-- ---- due work

abbrev pub watched : Watch → List Change
watched w = settled w.tables (flat_map (due_slots w) w.tables.messages ++ flat_map (due_purge w) w.tables.messages)

-- what is due at a database at a moment: its slots, in the order of their messages, then the messages that go, and what
-- this settles
unfoldable pub due : Tables → List Session → DbId → Option SlotRef → ℕ → List Change
due t sessions db sent moment = watched (record { tables = t; sessions = sessions; db = db; sent = sent; moment = moment })
