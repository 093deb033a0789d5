-- The laws of valid worlds, and of the groups of marks: worlds begin so, and each reading and each legal step leaves them so.
use Rattle.std.specs.Prelude.{◌≡◌, ℕ, List, Some, slice_get}
use Rattle.queue_rows.specs.Session.{Session}
use Rattle.queue_rows.specs.declared.tables.Tables.{Tables}
use Rattle.queue_rows.specs.declared.history.SessionScript.{SessionScript}
use Rattle.queue_rows.specs.declared.history.Step.{Step}
use Rattle.message_choice.specs.Sound.{AreInGroups}
use Rattle.history_laws.specs.WorldLaws.{MayBegin}
use Rattle.run_laws.specs.GroupedMarks.{AreOfGroups}
use Rattle.queue_rows.specs.World.{World, database_at, opened, read_clock}
use Rattle.queue_rows.specs.Legal.{MayStep, IsLegal}
use Rattle.run_laws.specs.ValidRun.{IsValidWorld}

-- ---- valid worlds

-- what may begin is a valid world
abbrev pub OpensValid : Type 0
OpensValid = (home away : Tables) (scripts : List SessionScript) → MayBegin home away scripts → IsValidWorld (opened home away scripts)

-- a reading of the clock leaves it so
abbrev pub ReadingKeepsValid : Type 0
ReadingKeepsValid = (w : World) (reading : ℕ) → IsValidWorld w → IsValidWorld (read_clock reading w)

-- and so does each legal step
abbrev pub StepKeepsValid : Type 0
StepKeepsValid = (w new : World) (actor : ℕ) (step : Step) → IsValidWorld w → MayStep actor step w new → IsValidWorld new

-- so each world of a legal history is valid
abbrev pub LegalIsValid : Type 0
LegalIsValid = (home away : Tables) (scripts : List SessionScript) (readings : List ℕ) (w : World) → MayBegin home away scripts
    → IsLegal (opened home away scripts) readings w → IsValidWorld w

-- ---- marks in the groups of their slots

-- each mark of each session is in the group of its slot
abbrev pub AreGroupedMarks : World → Type 0
AreGroupedMarks w = (i : ℕ) (s : Session) → slice_get w.sessions i ≡ Some s → AreOfGroups (database_at s.at w).tables s.marks

-- no session of a world that is opened has marks
abbrev pub OpensGrouped : Type 0
OpensGrouped = (home away : Tables) (scripts : List SessionScript) → AreGroupedMarks (opened home away scripts)

-- a reading of the clock leaves them so
abbrev pub ReadingKeepsGroups : Type 0
ReadingKeepsGroups = (w : World) (reading : ℕ) → AreGroupedMarks w → AreGroupedMarks (read_clock reading w)

-- and so does each legal step of a valid world
abbrev pub StepKeepsGroups : Type 0
StepKeepsGroups = (w new : World) (actor : ℕ) (step : Step) → IsValidWorld w → AreGroupedMarks w → MayStep actor step w new → AreGroupedMarks new

-- so it is in each world of a legal history
abbrev pub LegalIsGrouped : Type 0
LegalIsGrouped = (home away : Tables) (scripts : List SessionScript) (readings : List ℕ) (w : World) → MayBegin home away scripts
    → IsLegal (opened home away scripts) readings w → AreGroupedMarks w

-- then who has a slot of a grouped table marked has its group marked too
abbrev pub GroupedAreInGroups : Type 0
GroupedAreInGroups = (w : World) (i : ℕ) (s : Session) → IsValidWorld w → AreGroupedMarks w → slice_get w.sessions i ≡ Some s
    → AreInGroups (database_at s.at w).tables s.marks
