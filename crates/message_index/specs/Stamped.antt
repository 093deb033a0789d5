-- Messages under the stamps of an index, and indexes of their slots, each where it is kept: of those that are ready, and of those that
-- are ready and go to the other database.
use Rattle.std.specs.Prelude.{◌≡◌, ◌<◌, ℕ, List, [], ◌∷◌, Option, Some, IfSome, insert, length, remove, slice_get}
use Rattle.queue_rows.specs.Rows.{with_slot}
use Rattle.queue_rows.specs.declared.rows.SlotRow.{SlotRow}
use Rattle.std.specs.List.{AllByRecursion}
use Rattle.queue_rows.specs.declared.rows.MsgRow.{MsgRow}
use Rattle.choice_laws.specs.Entries.{Entry, AreRising, with_message}
use Rattle.choice_laws.specs.ShownLaws.{KeepsRecipient}
use Rattle.remote_slots.specs.Indexed.{IndexesReady}
use Rattle.remote_slots.specs.ReadyEdits.{entry}
use Rattle.remote_slots.specs.Remote.{IndexesRemote}
use Rattle.sort_index.specs.declared.group.Group.{Group}

-- each number is less than all that follow it
abbrev pub Rise : List ℕ → Type 0
Rise [] = Unit {0}
Rise (n ∷ ns) = AllByRecursion (λ later. n < later) ns × Rise ns

-- so many stamps, which rise
pub record AreStamps (count : ℕ) (stamps : List ℕ) : Type 0 where
  pub rise : Rise stamps
  pub long : length stamps ≡ count

-- each message under the stamp at its place
abbrev pub entries_of : List ℕ → List MsgRow → List Entry
entries_of [] messages = []
entries_of (stamp ∷ stamps) [] = []
entries_of (stamp ∷ stamps) (m ∷ messages) = entry stamp m ∷ entries_of stamps messages

-- where there is an index, it is that of the messages, whichever rows an index of messages has
abbrev pub IfIndexed : (List Entry → List Group → Type 0) → List Entry → Option (List Group) → Type 0
IfIndexed Indexes entries index = IfSome index (Indexes entries)

abbrev pub IfReady : List Entry → Option (List Group) → Type 0
IfReady entries index = IfIndexed IndexesReady entries index

abbrev pub IfRemote : List Entry → Option (List Group) → Type 0
IfRemote entries index = IfIndexed IndexesRemote entries index

-- ---- edits of it

-- the message goes that stood under the stamp
abbrev pub Forgets : (List Entry → List Group → Type 0) → ℕ → MsgRow → (before after : Option (List Group)) → Type 0
Forgets Indexes stamp m before after = (entries : List Entry) (at : ℕ)
    → AreRising entries → slice_get entries at ≡ Some (entry stamp m)
    → IfIndexed Indexes entries before → IfIndexed Indexes (remove entries at) after

-- the message comes under the stamp, wherever stamps rise with it
abbrev pub Notes : (List Entry → List Group → Type 0) → ℕ → MsgRow → (before after : Option (List Group)) → Type 0
Notes Indexes stamp m before after = (entries : List Entry) (at : ℕ)
    → AreRising (insert entries at (entry stamp m))
    → IfIndexed Indexes entries before → IfIndexed Indexes (insert entries at (entry stamp m)) after

-- a slot of the message under the stamp was changed, and left to its recipient: it stands there now as it is given
abbrev pub Turns : ℕ → ℕ → MsgRow → (before after : Option (List Group)) → Type 0
Turns stamp slot n before after = (m : MsgRow) (change : SlotRow → SlotRow) → KeepsRecipient change → n ≡ with_slot slot change m
    → (entries : List Entry) (at : ℕ) → AreRising entries → slice_get entries at ≡ Some (entry stamp m)
    → IfReady entries before → IfReady (with_message entries at (entry stamp m) n) after
