-- The laws of choosing: the first row that passes is the message that the definitions choose.
use Rattle.std.specs.Prelude.{◌≡◌, ℕ, ℤ, Bool, true, List, Option, Some, filter}
use Rattle.std.specs.List.{All}
use Rattle.row_tree.specs.Order.{IsRising}
use Rattle.place_keys.specs.Place.{stands_before}
use Rattle.queue_rows.specs.Dequeueing.{Look, is_available, least, chosen}
use Rattle.queue_rows.specs.declared.rows.MsgRow.{MsgRow}
use Rattle.choice_laws.specs.Entries.{Entry, Row, AreRising, message_at, messages_of, row_cmp, rows_for, rows_past, stands_for}
use Rattle.choice_laws.specs.Choosing.{chosen_in_rows, first_passing}

-- each message that passes the test stands in the queue and has a ready slot for the consumer
abbrev pub AreAllIn : List ℕ → Option (List ℕ) → (MsgRow → Bool) → Type 0
AreAllIn queue consumer test = (m : MsgRow) → test m ≡ true → stands_for queue consumer m ≡ true

-- a message that a look may be given stands in its queue and has a ready slot for its consumer
abbrev pub AvailableStandFor : Type 0
AvailableStandFor = (l : Look) → AreAllIn l.queue.name l.ask.consumer (is_available l)

-- the rows stand in their order, no two alike
abbrev pub RowsRise : Type 0
RowsRise = (queue : List ℕ) (consumer : Option (List ℕ)) (entries : List Entry) → AreRising entries → IsRising row_cmp (rows_for queue consumer entries)

-- a row leads to a message that stands in the queue, has a ready slot for the consumer, and stands at the row's place
pub record LeadsTo (queue : List ℕ) (consumer : Option (List ℕ)) (entries : List Entry) (r : Row) : Type 0 where
  pub message : MsgRow
  pub is : message_at entries r.stamp ≡ Some message
  pub place : message.place ≡ r.place
  pub stands : stands_for queue consumer message ≡ true

-- so does each row
abbrev pub RowsLead : Type 0
RowsLead = (queue : List ℕ) (consumer : Option (List ℕ)) (entries : List Entry) → AreRising entries → All (LeadsTo queue consumer entries) (rows_for queue consumer entries)

-- the first row that passes is the message with the least place of those that pass, of equal ones the first in the list
abbrev pub FirstIsLeast : Type 0
FirstIsLeast = (queue : List ℕ) (consumer : Option (List ℕ)) (entries : List Entry) (test : MsgRow → Bool)
    → AreRising entries → AreAllIn queue consumer test
    → first_passing entries test (rows_for queue consumer entries) ≡ least (filter test (messages_of entries))

-- and so is the first past a place, of those past it
abbrev pub FirstPastIsLeast : Type 0
FirstPastIsLeast = (queue : List ℕ) (consumer : Option (List ℕ)) (entries : List Entry) (test : MsgRow → Bool) (place : List ℤ)
    → AreRising entries → AreAllIn queue consumer test
    → first_passing entries test (rows_past place (rows_for queue consumer entries)) ≡ least (filter (λ m. stands_before place m.place) (filter test (messages_of entries)))

-- what a dequeue chooses it chooses in the rows, by each navigation
abbrev pub ChosenInRows : Type 0
ChosenInRows = (l : Look) (entries : List Entry) → AreRising entries → l.tables.messages ≡ messages_of entries → chosen l ≡ chosen_in_rows l entries
