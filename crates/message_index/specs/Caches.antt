-- The indexes beside the messages, each where it is kept.
use Rattle.std.specs.Prelude.{◌≡◌, ℕ, List, length}
use Rattle.queue_rows.specs.declared.rows.MsgRow.{MsgRow}
use Rattle.message_index.specs.DueKept.{IfDue, keeps_in}
use Rattle.message_index.specs.Indexed.{Indexed}
use Rattle.message_index.specs.Messages.{ids_of}
use Rattle.message_index.specs.Stamped.{AreStamps, IfReady, IfRemote, entries_of}
use Rattle.message_index.specs.declared.caches.Caches.{Caches}

-- they are those of the messages under these stamps
pub record AreOf (stamps : List ℕ) (messages : List MsgRow) (c : Caches) : Type 0 where
  pub ready : IfReady (entries_of stamps messages) c.ready.slots
  pub remote : IfRemote (entries_of stamps messages) c.remote.slots
  pub due : IfDue (keeps_in c.due.keeps) messages c.due.slots

-- the index is that of the messages by their numbers, and the caches are those of the messages under its stamps
pub record AreIndexed (messages : List MsgRow) (i : Indexed) (c : Caches) : Type 0 where
  pub ids : i.ids ≡ ids_of messages
  pub stamped : AreStamps (length i.ids) i.stamps
  pub caches : AreOf i.stamps messages c
