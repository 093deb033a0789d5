-- An index of messages that are kept under stamps.
use Rattle.std.specs.Prelude.{◌≡◌, ℕ, List, Option, map}
use Rattle.sort_index.specs.Ready.{rows_of}
use Rattle.sort_index.specs.declared.group.Ready.{Ready}
use Rattle.sort_index.specs.declared.group.Group.{Group}
use Rattle.choice_laws.specs.Entries.{Entry, Row, rows_for}

-- the row without its slot: its id is the stamp
abbrev pub stamped : Ready → Row
stamped row = record { place = row.place; stamp = row.id }

-- of each queue and consumer the index has the rows of the messages that stand in the queue and have a ready slot for the consumer
abbrev pub IndexesReady : List Entry → List Group → Type 0
IndexesReady entries groups = (queue : List ℕ) (consumer : Option (List ℕ)) → map stamped (rows_of queue consumer groups) ≡ rows_for queue consumer entries
