-- The memory for the slots of messages that changes move.
use Rattle.std.specs.Prelude.{◌≡◌, ℕ, ◌+◌, ◌≤◌, ◌==◌, Bool, true, false, Option, List, [], ◌∷◌, ◌++◌, drop, length, slice_get, sum_by, unwrap_or, if◌then◌else◌}
use Rattle.queue_rows.specs.declared.rows.MsgRow.{MsgRow}
use Rattle.queue_rows.specs.declared.change.Change.{Change}
use Rattle.queue_rows.specs.declared.change.Change.TheVariants as changes

-- how many slots the messages of a number have
abbrev pub slots_of : ℕ → List MsgRow → ℕ
slots_of id messages = sum_by (λ m. if m.id == id then length m.slots else 0) messages

-- how many slots a change may add to the messages of a number
abbrev pub slots_added : ℕ → Change → ℕ
slots_added id (changes.Enqueued row) = if row.id == id then length row.slots else 0
slots_added id (changes.Moved moved queue at) = if moved == id then 1 else 0
slots_added id _ = 0

abbrev pub is_move : Change → Bool
is_move (changes.Moved id queue at) = true
is_move _ = false

-- of the number of a message that a change moves, what is told is how many slots some changes may add to it
abbrev pub TellsAdded : (ℕ → Option ℕ) → List Change → Change → Type 0
TellsAdded told cs (changes.Moved id queue at) = unwrap_or (told id) 0 ≡ sum_by (slots_added id) cs
TellsAdded told cs _ = Unit {0}

-- of each number, so many more are told than before
abbrev pub TellsMore : (ℕ → ℕ) → (ℕ → Option ℕ) → (ℕ → Option ℕ) → Type 0
TellsMore more old new = (id : ℕ) → unwrap_or (new id) 0 ≡ unwrap_or (old id) 0 + more id

-- of each number, what is told is how many slots these changes may add to its messages
abbrev pub TellsSums : (ℕ → Option ℕ) → List Change → Type 0
TellsSums told cs = (id : ℕ) → unwrap_or (told id) 0 ≡ sum_by (slots_added id) cs

-- how many slots a message of a number can have after some of these changes
abbrev pub most_slots : ℕ → List MsgRow → List Change → ℕ
most_slots id messages cs = slots_of id messages + sum_by (slots_added id) cs

-- for how many slots of the next message that is moved there is memory
abbrev pub next_slots : List ℕ → ℕ
next_slots slots = unwrap_or (slice_get slots 0) 0

-- there is memory for the slots of each message that some of the changes move, and for slot 0 behind them
abbrev pub HasSlotRooms : List MsgRow → List Change → List Change → List ℕ → Type 0
HasSlotRooms messages all [] slots = Unit {0}
HasSlotRooms messages all (changes.Moved id queue at ∷ cs) slots =
    (most_slots id messages all ≤ next_slots slots) × HasSlotRooms messages all cs (drop 1 slots)
HasSlotRooms messages all (_ ∷ cs) slots = HasSlotRooms messages all cs slots

-- memory for slots comes last, for as many as messages of that number can have after all of these changes
pub record PutsRoom (messages : List MsgRow) (all : List Change) (id : ℕ) (old new : List ℕ) : Type 0 where
  pub slots : ℕ
  pub enough : most_slots id messages all ≤ slots
  pub last : new ≡ old ++ slots ∷ []

-- so it does for the message that a change moves
abbrev pub AddsRoom : List MsgRow → List Change → Change → List ℕ → List ℕ → Type 0
AddsRoom messages all (changes.Moved id queue at) old new = PutsRoom messages all id old new
AddsRoom messages all _ old new = new ≡ old
