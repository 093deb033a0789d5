-- The laws of the serial history, and of the calls of every legal one.
use Rattle.std.specs.Prelude.{◌≡◌, ℕ, List, Some, map, true, false, slice_get}
use Rattle.queue_rows.specs.World.{uncounted, World, opened}
use Rattle.queue_rows.specs.Turns.{step_readings, any_live, is_durable, is_still, drained_once}
use Rattle.queue_rows.specs.Order.{CallsAll, CallsInOrder}
use Rattle.queue_rows.specs.declared.tables.Tables.{Tables}
use Rattle.queue_rows.specs.declared.history.Entry.{Entry}
use Rattle.queue_rows.specs.declared.history.History.{History}
use Rattle.queue_rows.specs.declared.history.SessionScript.{SessionScript}
use Rattle.queue_rows.specs.declared.history.Step.TheVariants.{End}
use Rattle.run_laws.specs.WorldLaws.{MayBegin}
use Rattle.queue_rows.specs.Serial.{round, IsSerial, IsSerialFront}
use Rattle.queue_rows.specs.Legal.{IsLegal, IsLegalBy, IsLegalHistory}

-- a round in which no session is live changes nothing, and neither does a step of the closing turn when all is still
abbrev pub EndedStays : Type 0
EndedStays = (home away : Tables) (scripts : List SessionScript) (readings : List ℕ) (w : World) → IsLegal (opened home away scripts) readings w → any_live w ≡ false → round w ≡ w

abbrev pub StillStays : Type 0
StillStays = (w : World) → is_still w ≡ true → drained_once w ≡ w

-- so there is one serial history: two that are serial have the same entries
abbrev pub SerialIsOne : Type 0
SerialIsOne = (home away : Tables) (scripts : List SessionScript) (g h : History) → IsSerial home away scripts g → IsSerial home away scripts h
    → map uncounted g.entries ≡ map uncounted h.entries

-- in it each session has called all of its statements, each once, in order
abbrev pub SerialCallsAll : Type 0
SerialCallsAll = (home away : Tables) (scripts : List SessionScript) (h : History) → IsSerial home away scripts h → CallsAll h

-- and in each legal history the first some of them
abbrev pub LegalCallsInOrder : Type 0
LegalCallsInOrder = (home away : Tables) (scripts : List SessionScript) (h : History) → IsLegalHistory home away scripts h → CallsInOrder h

-- it is legal, by the readings of the clock that counts seconds from the opening moment
abbrev pub SerialIsLegal : Type 0
SerialIsLegal = (home away : Tables) (scripts : List SessionScript) (h : History) → MayBegin home away scripts → IsSerial home away scripts h
    → (count : ℕ) × IsLegalBy (step_readings h.opening count) home away scripts h

-- and so is a first part of it
abbrev pub SerialFrontIsLegal : Type 0
SerialFrontIsLegal = (home away : Tables) (scripts : List SessionScript) (h : History) → MayBegin home away scripts → IsSerialFront home away scripts h
    → IsLegalHistory home away scripts h

-- the session of that number has its End among the entries
pub record HasEnd (i : ℕ) (entries : List Entry) : Type 0 where
  pub number : ℕ
  pub entry : Entry
  pub there : slice_get entries number ≡ Some entry
  pub by : entry.actor ≡ i
  pub is : entry.step ≡ End

abbrev pub EndsAll : History → Type 0
EndsAll h = (i : ℕ) (script : SessionScript) → slice_get h.scripts i ≡ Some script → HasEnd i h.entries

-- Legal steps led to a world in which no session goes on, every commit is durable, nothing is due and nothing can be sent; and each
-- session has its End.
pub record IsAllDone (home away : Tables) (scripts : List SessionScript) (h : History) : Type 0 where
  pub readings : List ℕ
  pub end : World
  pub legal : IsLegal (opened home away scripts) readings end
  pub entries_are : map uncounted h.entries ≡ end.entries
  pub over : any_live end ≡ false
  pub durable : is_durable end ≡ true
  pub still : is_still end ≡ true
  pub ends : EndsAll h

-- so it is at the end of the serial history
abbrev pub SerialIsDone : Type 0
SerialIsDone = (home away : Tables) (scripts : List SessionScript) (h : History) → MayBegin home away scripts → IsSerial home away scripts h
    → IsAllDone home away scripts h
