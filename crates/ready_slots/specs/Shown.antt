-- To whom a message is shown: the consumers for which it has a row.
use Rattle.std.specs.Prelude.{◌&&◌, ℕ, Bool, false, List, Option, Some, None, is_none, if◌then◌else◌}
use Rattle.std.specs.List.{list_any}
use Rattle.std.specs.Option.{option_map_or}
use Rattle.queue_rows.specs.Settling.{is_ready}
use Rattle.queue_rows.specs.declared.rows.MsgRow.{MsgRow}
use Rattle.queue_rows.specs.declared.rows.SlotRow.{SlotRow}
use Rattle.sort_index.specs.Ready.{is_of, key}
use Rattle.choice_laws.specs.Entries.{shows}

-- a consumer without a name is shown the message
abbrev pub is_nameless : MsgRow → List ℕ → Option (List ℕ) → Bool
is_nameless m q c = shows m None && is_of q c (key m.queue None)

-- the consumer that the slot names, where the slot is local and ready
abbrev pub offered_to : SlotRow → Option (List ℕ)
offered_to s = if is_none s.address && is_ready s.state then s.name else None

-- the consumer is the one to whom the slot of a message in the queue is offered
abbrev pub is_offered : List ℕ → List ℕ → Option (List ℕ) → SlotRow → Bool
is_offered queue q c s = option_map_or (λ name. is_of q c (key queue (Some name))) (offered_to s) false

-- one of the slots is offered to the consumer
abbrev pub is_any_offered : List ℕ → List SlotRow → List ℕ → Option (List ℕ) → Bool
is_any_offered queue slots q c = list_any (is_offered queue q c) slots
