-- The laws of commits that can be spelled: worlds begin so, each reading and each legal step leaves them so, and so each commit of a legal
-- history can be.
use Rattle.std.specs.Prelude.{◌≡◌, ℕ, List, Option, Ok, Some, slice_get}
use Rattle.std.specs.List.{AllByRecursion}
use Rattle.std.specs.Str.{IsUtf8}
use Rattle.aq_base.specs.declared.DbId.{DbId}
use Rattle.rule_conditions.specs.Grammar.{IsTextOf}
use Rattle.rule_conditions.specs.Print.{print}
use Rattle.rule_conditions.specs.Reading.{condition_of}
use Rattle.rule_conditions.specs.declared.condition.Cond.{Cond}
use Rattle.queue_rows.specs.Session.{Session}
use Rattle.queue_rows.specs.Meaning.{answers}
use Rattle.queue_rows.specs.Due.{due}
use Rattle.queue_rows.specs.World.{committed_tables, World, opened, read_clock}
use Rattle.queue_rows.specs.declared.tables.Tables.{Tables}
use Rattle.queue_rows.specs.declared.change.Change.{Change}
use Rattle.queue_rows.specs.declared.history.History.{History}
use Rattle.queue_rows.specs.declared.history.SessionScript.{SessionScript}
use Rattle.queue_rows.specs.declared.history.SlotRef.{SlotRef}
use Rattle.queue_rows.specs.declared.history.Step.{Step}
use Rattle.queue_rows.specs.declared.reply.Reply.{Reply}
use Rattle.queue_rows.specs.declared.statement.Statement.{Statement}
use Rattle.history_laws.specs.Made.{commits_of}
use Rattle.history_laws.specs.WorldLaws.{MayBegin}
use Rattle.database_recovery.specs.Sound.{IsSound}
use Rattle.queue_rows.specs.Sending.{Sending, next_sending}
use Rattle.queue_rows.specs.Statements.{meaning, next_statement}
use Rattle.queue_rows.specs.Legal.{MayStep, IsLegal, IsLegalHistory}
use Rattle.run_laws.specs.ValidRun.{IsValidWorld}
use Rattle.redo_records.specs.Spellable.{CanBeSpelled}
use Rattle.run_spellings.specs.SpellableRun.{AreSpellable, HasSpellableRows, IsSpellableSending, IsSpellableWorld, MayBeSpelled}

-- ---- rules

-- A text that is read as a condition is one of it in the grammar, and so is its print, which is read as that condition again.
abbrev pub RuleIsReadAgain : Type 0
RuleIsReadAgain = (text : List ℕ) (c : Cond) → IsUtf8 text → condition_of text ≡ Ok c → IsTextOf text c × (condition_of (print c) ≡ Ok c)

-- ---- tables

-- the rows of tables that are recovered can be spelled
abbrev pub SoundIsSpellable : Type 0
SoundIsSpellable = (t : Tables) → IsSound t → HasSpellableRows t

-- what is spellable leaves rows so
abbrev pub CommitKeepsRows : Type 0
CommitKeepsRows = (t : Tables) (cs : List Change) (moment : ℕ) → AreSpellable cs → HasSpellableRows t → HasSpellableRows (committed_tables t cs moment)

-- ---- what is committed

-- what a call commits
abbrev pub CallSpells : Type 0
CallSpells = (w : World) (i : ℕ) (s : Session) (statement : Statement) (reply : Reply) (cs : List Change) (after : Session) → IsValidWorld w
    → IsSpellableWorld w → slice_get w.sessions i ≡ Some s → next_statement w i s ≡ Some statement
    → meaning w i s statement ≡ answers reply cs after → AreSpellable cs

-- what is due, at any database
abbrev pub DueSpells : Type 0
DueSpells = (t : Tables) (sessions : List Session) (db : DbId) (sent : Option SlotRef) (moment : ℕ) → AreSpellable (due t sessions db sent moment)

-- what the step of propagation commits that comes next
abbrev pub SendingSpells : Type 0
SendingSpells = (w : World) (sending : Sending) → IsSpellableWorld w → next_sending w ≡ Some sending → IsSpellableSending sending

-- ---- worlds

-- what can be spelled begins such a world
abbrev pub OpensSpellable : Type 0
OpensSpellable = (home away : Tables) (scripts : List SessionScript) → MayBeSpelled home away scripts → IsSpellableWorld (opened home away scripts)

-- a reading of the clock leaves it so
abbrev pub ReadingKeepsSpellable : Type 0
ReadingKeepsSpellable = (w : World) (reading : ℕ) → IsSpellableWorld w → IsSpellableWorld (read_clock reading w)

-- and so does each legal step of a valid world
abbrev pub StepKeepsSpellable : Type 0
StepKeepsSpellable = (w new : World) (actor : ℕ) (step : Step) → IsValidWorld w → IsSpellableWorld w → MayStep actor step w new
    → IsSpellableWorld new

-- so each world of a legal history is such a one
abbrev pub LegalIsSpellable : Type 0
LegalIsSpellable = (home away : Tables) (scripts : List SessionScript) (readings : List ℕ) (w : World) → MayBegin home away scripts
    → MayBeSpelled home away scripts → IsLegal (opened home away scripts) readings w → IsSpellableWorld w

-- and each commit of a legal history, at both databases, can be spelled
abbrev pub LegalCommitsSpell : Type 0
LegalCommitsSpell = (home away : Tables) (scripts : List SessionScript) (history : History) → MayBegin home away scripts
    → MayBeSpelled home away scripts → IsLegalHistory home away scripts history
    → (db : DbId) → AllByRecursion CanBeSpelled (commits_of db history.entries)
