-- The laws of what a legal history commits, what becomes of each slot in it, and what arrives from the other database.
use Rattle.std.specs.Prelude.{◌≡◌, ℕ, List, true}
use Rattle.aq_base.specs.declared.DbId.{DbId}
use Rattle.queue_rows.specs.declared.tables.Tables.{Tables}
use Rattle.queue_rows.specs.declared.history.History.{History}
use Rattle.queue_rows.specs.declared.history.SessionScript.{SessionScript}
use Rattle.queue_rows.specs.declared.history.SlotRef.{SlotRef}
use Rattle.history_laws.specs.Lasting.{HasFates}
use Rattle.history_laws.specs.Made.{commits_of, opening_of, tables_after}
use Rattle.history_laws.specs.WorldLaws.{MayBegin}
use Rattle.history_laws.specs.LegalFates.{all_fit}
use Rattle.history_laws.specs.Arrivals.{IsSeenOnce, HasArrivals}
use Rattle.queue_rows.specs.World.{database_at}
use Rattle.queue_rows.specs.Legal.{IsLegalBy, IsLegalHistory}

-- each commit of a legal history fits the tables that those before it leave
abbrev pub LegalCommitsFit : Type 0
LegalCommitsFit = (home away : Tables) (scripts : List SessionScript) (h : History) → MayBegin home away scripts
    → IsLegalHistory home away scripts h → (db : DbId) → all_fit (opening_of db h) (commits_of db h.entries) ≡ true

-- the tables that it leads to are those that its commits leave
abbrev pub LegalEndsIn : Type 0
LegalEndsIn = (home away : Tables) (scripts : List SessionScript) (readings : List ℕ) (h : History) → MayBegin home away scripts
    → (legal : IsLegalBy readings home away scripts h) → (db : DbId) → (database_at db legal.end).tables ≡ tables_after db h

-- each slot of each message has one fate, which its row says; it stays when it is final, and each slot is removed at most once
abbrev pub LegalHasFates : Type 0
LegalHasFates = (home away : Tables) (scripts : List SessionScript) (h : History) → MayBegin home away scripts
    → IsLegalHistory home away scripts h → (db : DbId) → HasFates db h

-- of each slot of the other database it says at most once that it was seen, and not where it was seen before
abbrev pub LegalSeesOnce : Type 0
LegalSeesOnce = (home away : Tables) (scripts : List SessionScript) (h : History) → MayBegin home away scripts
    → IsLegalHistory home away scripts h → (db : DbId) (at : SlotRef) → IsSeenOnce (opening_of db h) (commits_of db h.entries) at

-- each slot arrives as a copy at most once, never where it was seen before; and each copy has its message's facts and expiry
abbrev pub LegalHasArrivals : Type 0
LegalHasArrivals = (home away : Tables) (scripts : List SessionScript) (h : History) → MayBegin home away scripts
    → IsLegalHistory home away scripts h → HasArrivals h
