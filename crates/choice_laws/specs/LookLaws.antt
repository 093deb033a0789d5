-- The laws of how many rows are looked at: one more than those that do not pass.
use Rattle.std.specs.Prelude.{◌≤◌, ◌+◌, ◌*◌, ◌&&◌, ℕ, ℤ, Bool, not, List, Option, filter, length}
use Rattle.queue_rows.specs.declared.rows.MsgRow.{MsgRow}
use Rattle.choice_laws.specs.Entries.{Entry, AreRising, messages_of, rows_for, rows_past, stands_for}
use Rattle.choice_laws.specs.Choosing.{looks, passes}

-- how many messages of the queue have a ready slot for the consumer, and do not pass
abbrev pub passed_over : List ℕ → Option (List ℕ) → (MsgRow → Bool) → List MsgRow → ℕ
passed_over queue consumer test messages = length (filter (λ m. stands_for queue consumer m && not (test m)) messages)

-- a search from the beginning looks at no more rows than one more than these
abbrev pub LooksAreFew : Type 0
LooksAreFew = (queue : List ℕ) (consumer : Option (List ℕ)) (entries : List Entry) (test : MsgRow → Bool) → AreRising entries
    → looks (passes entries test) (rows_for queue consumer entries) ≤ passed_over queue consumer test (messages_of entries) + 1

-- nor does one past a place
abbrev pub LooksPastAreFew : Type 0
LooksPastAreFew = (queue : List ℕ) (consumer : Option (List ℕ)) (entries : List Entry) (test : MsgRow → Bool) (place : List ℤ) → AreRising entries
    → looks (passes entries test) (rows_past place (rows_for queue consumer entries)) ≤ passed_over queue consumer test (messages_of entries) + 1

-- so a search past a place and one from the beginning look at no more than twice as many
abbrev pub BothSearchesAreShort : Type 0
BothSearchesAreShort = (queue : List ℕ) (consumer : Option (List ℕ)) (entries : List Entry) (test : MsgRow → Bool) (place : List ℤ) → AreRising entries
    → looks (passes entries test) (rows_past place (rows_for queue consumer entries)) + looks (passes entries test) (rows_for queue consumer entries)
    ≤ 2 * (passed_over queue consumer test (messages_of entries) + 1)
