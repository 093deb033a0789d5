-- What a search in the rows of a queue and consumer finds, and how many it looks at.
use Rattle.std.specs.Prelude.{ℕ, List, Option, map}
use Rattle.queue_rows.specs.Dequeueing.{Look}
use Rattle.queue_rows.specs.declared.rows.MsgRow.{MsgRow}
use Rattle.sort_index.specs.declared.group.Ready.{Ready}
use Rattle.sort_index.specs.declared.group.Group.{Group}
use Rattle.choice_laws.specs.Choosing.{first_passing, looks}
use Rattle.choice_laws.specs.Choosing as choosing
use Rattle.choice_laws.specs.Entries.{Entry, Row, AreRising, messages_of, rows_for}
use Rattle.message_choice.specs.Asking.{AreSoundFor}
use Rattle.ready_slots.specs.Indexed.{IndexesReady, stamped}
use Rattle.message_choice.specs.Wanted.{passes}
use Rattle.message_choice.specs.declared.asking.Asking.{Asking}
use Rattle.message_choice.specs.declared.asking.Filter.{Filter}

-- a search can be made: stamps rise, the index has the rows of these messages, and they are sound
pub record CanSearch (a : Asking) (entries : List Entry) (groups : List Group) : Type 0 where
  pub rising : AreRising entries
  pub indexed : IndexesReady entries groups
  pub sound : AreSoundFor a (messages_of entries)

abbrev pub rows_in : Look → List Entry → List Row
rows_in l entries = rows_for l.queue.name l.ask.consumer entries

-- the message of the first of these rows of the index that passes
abbrev pub first_in : Look → Filter → List Entry → List Ready → Option MsgRow
first_in l f entries rows = first_passing entries (passes l f) (map stamped rows)

-- how many of them are looked at
abbrev pub looks_in : Look → Filter → List Entry → List Ready → ℕ
looks_in l f entries rows = looks (choosing.passes entries (passes l f)) (map stamped rows)
