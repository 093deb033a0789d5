-- What holds of a legal history at each of its entries: the tables are valid, and each entry is one that its actor may make.
use Rattle.std.specs.Prelude.{◌≡◌, ◌==◌, ◌||◌, ℕ, List, Bool, true, length, nat_lt, take}
use Rattle.std.specs.List.{list_all}
use Rattle.aq_base.specs.declared.DbId.{DbId}
use Rattle.queue_rows.specs.Legal.{IsLegalHistory, is_sender}
use Rattle.queue_rows.specs.Valid.{is_valid}
use Rattle.queue_rows.specs.declared.tables.Tables.{Tables}
use Rattle.queue_rows.specs.declared.history.Entry.{Entry}
use Rattle.queue_rows.specs.declared.history.History.{History}
use Rattle.queue_rows.specs.declared.history.SessionScript.{SessionScript}
use Rattle.queue_rows.specs.declared.history.Step.{Step}
use Rattle.queue_rows.specs.declared.history.Step.TheVariants.{Call, Park, Timer, Offer, Arrive, Confirm, Told, Flush, End}
use Rattle.history_laws.specs.Made.{after_commits, commits_of, opening_of}
use Rattle.history_laws.specs.WorldLaws.{MayBegin}

-- ---- tables

-- the database is valid as it opens, and after each of its commits
abbrev pub AreValidThroughout : DbId → History → Type 0
AreValidThroughout db h = (k : ℕ) → is_valid (after_commits (opening_of db h) (take k (commits_of db h.entries))) ≡ true

abbrev pub LegalIsValidThroughout : Type 0
LegalIsValidThroughout = (home away : Tables) (scripts : List SessionScript) (h : History) → MayBegin home away scripts
    → IsLegalHistory home away scripts h → (db : DbId) → AreValidThroughout db h

-- ---- actors

-- one of so many sessions, the timer (64), the propagator (65) or the closing turn (66)
abbrev pub is_actor_of : ℕ → ℕ → Bool
is_actor_of count actor = nat_lt actor count || (actor == 64) || is_sender actor

-- A session calls, waits, is told and ends itself; due work and flushes are made by any actor, and the steps of propagation by the
-- propagator and the closing turn.
abbrev pub may_make : ℕ → ℕ → Step → Bool
may_make count actor (Call number reply) = nat_lt actor count
may_make count actor (Park number) = nat_lt actor count
may_make count actor (Told number) = nat_lt actor count
may_make count actor End = nat_lt actor count
may_make count actor Timer = is_actor_of count actor
may_make count actor Flush = is_actor_of count actor
may_make count actor (Offer at to) = is_sender actor
may_make count actor (Arrive at outcome) = is_sender actor
may_make count actor (Confirm at) = is_sender actor

abbrev pub is_own : ℕ → Entry → Bool
is_own count e = may_make count e.actor e.step

-- each entry is one that its actor may make
abbrev pub AreOwn : History → Type 0
AreOwn h = list_all (is_own (length h.scripts)) h.entries ≡ true

abbrev pub LegalEntriesAreOwn : Type 0
LegalEntriesAreOwn = (home away : Tables) (scripts : List SessionScript) (h : History) → IsLegalHistory home away scripts h → AreOwn h
