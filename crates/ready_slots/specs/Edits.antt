-- What becomes of an index of ready slots when a message comes, goes or changes: of whichever messages it was the index, it is that of
-- the messages with the edit made.
use Rattle.std.specs.Prelude.{◌≡◌, ℕ, List, [], ◌∷◌, ◌++◌, Some, insert, remove, slice_get}
use Rattle.queue_rows.specs.declared.rows.MsgRow.{MsgRow}
use Rattle.sort_index.specs.declared.group.Group.{Group}
use Rattle.choice_laws.specs.Entries.{Entry, AreBelow, AreRising, with_message}
use Rattle.ready_slots.specs.Indexed.{IndexesReady}

-- a message under a stamp
abbrev pub entry : ℕ → MsgRow → Entry
entry stamp m = record { stamp = stamp; message = m }

-- ---- the two edits

-- the message goes that stood under the stamp
abbrev pub Removes : ℕ → MsgRow → (before after : List Group) → Type 0
Removes stamp m before after = (entries : List Entry) (at : ℕ)
    → AreRising entries → slice_get entries at ≡ Some (entry stamp m)
    → IndexesReady entries before → IndexesReady (remove entries at) after

-- the message comes under the stamp, wherever stamps rise with it
abbrev pub Puts : ℕ → MsgRow → (before after : List Group) → Type 0
Puts stamp m before after = (entries : List Entry) (at : ℕ)
    → AreRising (insert entries at (entry stamp m))
    → IndexesReady entries before → IndexesReady (insert entries at (entry stamp m)) after

-- ---- what they come to

-- the message comes last, under a stamp that is greater than all others
abbrev pub Adds : ℕ → MsgRow → (before after : List Group) → Type 0
Adds stamp m before after = (entries : List Entry)
    → AreRising entries → AreBelow stamp entries
    → IndexesReady entries before → IndexesReady (entries ++ entry stamp m ∷ []) after

-- in place of the message under the stamp another stands there
abbrev pub Changes : ℕ → (m n : MsgRow) → (before after : List Group) → Type 0
Changes stamp m n before after = (entries : List Entry) (at : ℕ)
    → AreRising entries → slice_get entries at ≡ Some (entry stamp m)
    → IndexesReady entries before → IndexesReady (with_message entries at (entry stamp m) n) after

-- ---- laws

-- an index without rows is that of no messages
abbrev pub NothingIndexed : Type 0
NothingIndexed = IndexesReady [] []

-- a message that is put in under a greater stamp than all others has come last
abbrev pub LastPut : Type 0
LastPut = (stamp : ℕ) (m : MsgRow) (before after : List Group) → Puts stamp m before after → Adds stamp m before after

-- what is removed as it stood, and put in as it stands now, is changed
abbrev pub ChangedByBoth : Type 0
ChangedByBoth = (stamp : ℕ) (m n : MsgRow) (before middle after : List Group)
    → Removes stamp m before middle → Puts stamp n middle after → Changes stamp m n before after
