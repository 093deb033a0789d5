-- What is durable when a reply is told, when a slot is confirmed, and when it has arrived as a copy.
use Rattle.std.specs.Prelude.{◌≡◌, ◌≤◌, ◌++◌, ◌∷◌, List, true, is_some}
use Rattle.aq_base.specs.declared.DbId.{DbId}
use Rattle.queue_rows.specs.Rows.{find_message}
use Rattle.queue_rows.specs.Propagating.{has_seen}
use Rattle.queue_rows.specs.declared.tables.Tables.{Tables}
use Rattle.queue_rows.specs.declared.history.Entry.{Entry}
use Rattle.queue_rows.specs.declared.history.History.{History}
use Rattle.queue_rows.specs.declared.history.SessionScript.{SessionScript}
use Rattle.queue_rows.specs.declared.history.SlotRef.{SlotRef}
use Rattle.queue_rows.specs.declared.history.Step.TheVariants.{Confirm}
use Rattle.history_laws.specs.WorldLaws.{MayBegin}
use Rattle.history_laws.specs.Arrivals.{is_copied, tables_at}
use Rattle.queue_rows.specs.World.{other_db}
use Rattle.history_laws.specs.Durability.{until_flush, made, durable, ToldIsDurable}
use Rattle.queue_rows.specs.Legal.{IsLegalHistory}
use Rattle.queue_rows.specs.Serial.{IsSerial}

-- the tables of a database as what was durable after these entries of a history left them
abbrev pub durable_tables_at : DbId → History → List Entry → Tables
durable_tables_at db h entries = tables_at db h (until_flush entries)

-- when a reply is told, every commit is durable that was made up to its call
abbrev pub LegalIsDurableAsTold : Type 0
LegalIsDurableAsTold = (home away : Tables) (scripts : List SessionScript) (h : History) → IsLegalHistory home away scripts h → ToldIsDurable h

-- when a slot is confirmed at its database, the other one has seen it in what is durable there
abbrev pub ConfirmedIsSeen : History → Type 0
ConfirmedIsSeen h = (at : SlotRef) (front : List Entry) (e : Entry) (rest : List Entry) → h.entries ≡ front ++ e ∷ rest → e.step ≡ Confirm at
    → has_seen (durable_tables_at (other_db at.db) h front) at ≡ true

abbrev pub LegalConfirmsSeen : Type 0
LegalConfirmsSeen = (home away : Tables) (scripts : List SessionScript) (h : History) → MayBegin home away scripts → IsLegalHistory home away scripts h
    → ConfirmedIsSeen h

-- when a slot arrives as a copy, its message stands in what is durable at its own database
abbrev pub CopiedIsDurable : History → Type 0
CopiedIsDurable h = (at : SlotRef) (front : List Entry) (e : Entry) (rest : List Entry) → h.entries ≡ front ++ e ∷ rest → is_copied at e ≡ true
    → is_some (find_message (durable_tables_at at.db h front) at.id) ≡ true

abbrev pub LegalCopiesDurable : Type 0
LegalCopiesDurable = (home away : Tables) (scripts : List SessionScript) (h : History) → MayBegin home away scripts → IsLegalHistory home away scripts h
    → CopiedIsDurable h

-- at the end of a serial history every commit is durable
abbrev pub SerialIsDurable : Type 0
SerialIsDurable = (home away : Tables) (scripts : List SessionScript) (h : History) → MayBegin home away scripts → IsSerial home away scripts h
    → (db : DbId) → durable db h.entries ≡ made db h.entries
