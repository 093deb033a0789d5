-- What holds of the history that a call hands back.
use Rattle.std.specs.Prelude.{◌≡◌, ℕ, List, [], true}
use Rattle.aq_base.specs.declared.DbId.{DbId}
use Rattle.queue_rows.specs.Tables.{empty_tables}
use Rattle.queue_rows.specs.Legal.{IsLegalHistory}
use Rattle.queue_rows.specs.Order.{CallsInOrder}
use Rattle.queue_rows.specs.declared.history.History.{History}
use Rattle.queue_rows.specs.declared.history.SessionScript.{SessionScript}
use Rattle.queue_rows.specs.declared.history.SlotRef.{SlotRef}
use Rattle.queue_rows.specs.declared.tables.Tables.{Tables}
use Rattle.history_laws.specs.WorldLaws.{MayBegin}
use Rattle.history_laws.specs.Lasting.{HasFates}
use Rattle.history_laws.specs.Made.{commits_of, opening_of}
use Rattle.history_laws.specs.Arrivals.{IsSeenOnce, HasArrivals}
use Rattle.history_laws.specs.Durability.{made, durable, ToldIsDurable}
use Rattle.history_laws.specs.LegalFates.{all_fit}
use Rattle.run_turns.specs.Laws.{IsAllDone}
use Rattle.run_fates.specs.DurableRun.{ConfirmedIsSeen, CopiedIsDurable}
use Rattle.run_fates.specs.Throughout.{AreOwn, AreValidThroughout}
use Rattle.aq_world.specs.Brief.{AreBrief}

-- the history of a call that reached no run
abbrev pub empty_history : History
empty_history = record { home = empty_tables; away = empty_tables; opening = 0; scripts = []; entries = [] }

-- What holds of it, whatever made it: what the laws of legal histories say, and that flushes are brief.
pub record HoldsOf (h : History) : Type 0 where
  -- each session's calls are the first some of its statements, each once, in order
  pub calls : CallsInOrder h
  -- each entry is one that its actor may make
  pub own : AreOwn h
  -- each commit fits the tables that those before it leave, and so both databases are valid throughout
  pub fit : (db : DbId) → all_fit (opening_of db h) (commits_of db h.entries) ≡ true
  pub valid : (db : DbId) → AreValidThroughout db h
  -- each slot of each message has one fate, and at most one removal
  pub fates : (db : DbId) → HasFates db h
  -- each slot arrives as a copy at most once, and is just what its original was
  pub seen_once : (db : DbId) (at : SlotRef) → IsSeenOnce (opening_of db h) (commits_of db h.entries) at
  pub arrivals : HasArrivals h
  -- what was told was durable, and so was what confirmations and copies depend on
  pub told : ToldIsDurable h
  pub confirmed : ConfirmedIsSeen h
  pub copied : CopiedIsDurable h
  -- a flush makes at most four calls on each disk
  pub brief : AreBrief h.entries

-- all of that holds of each legal history whose flushes are brief
abbrev pub LegalHolds : Type 0
LegalHolds = (home away : Tables) (scripts : List SessionScript) (h : History) → MayBegin home away scripts
    → IsLegalHistory home away scripts h → AreBrief h.entries → HoldsOf h

-- All was done: each session has its End; legal steps led to a world in which no session goes on, every commit is durable, nothing is due
-- and nothing can be sent; and so many commits were made durable as were made.
pub record IsAllDoneAfter (h : History) : Type 0 where
  pub done : IsAllDone h.home h.away h.scripts h
  pub durable_all : (db : DbId) → durable db h.entries ≡ made db h.entries
