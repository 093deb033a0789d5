-- What `run --serial` answers.
use Rattle.std.specs.Prelude.{◌≡◌, ◌⊎◌, ℕ, List, [], Some, Ok, Err, IfSome}
use Rattle.aq_base.specs.Causes.{Rose}
use Rattle.aq_run.specs.Reading.{ReadsBytes}
use Rattle.aq_run.specs.Written.{Tells}
use Rattle.aq_base.specs.declared.stream.Sink.{Ghosts as SinkGhosts}
use Rattle.aq_base.specs.declared.stream.Source.{Ghosts as SourceGhosts}
use Rattle.aq_disk.specs.declared.device.Disk.{Ghosts}
use Rattle.queue_rows.specs.Legal.{IsLegalBy}
use Rattle.queue_rows.specs.Serial.{IsSerial, IsSerialFront}
use Rattle.queue_rows.specs.Turns.{step_readings}
use Rattle.queue_rows.specs.declared.history.SessionScript.{SessionScript}
use Rattle.script_text.specs.Script.{script}
use Rattle.aq_run.specs.Faults.{bad_line_text}
use Rattle.aq_run.specs.Headline.{IsOneLegalRun}
use Rattle.aq_run.specs.Histories.{empty_history}
use Rattle.aq_run.specs.Outcomes.{IsNotMounted, IsRun}
use Rattle.aq_run.specs.declared.outcome.Outcome.{Outcome}

-- ---- what is read

-- These bytes were read.
pub record ReadsInput {I : Type 0} (source : SourceGhosts I) (old new : I) (bytes : List ℕ) : Type 0 where
  -- the first bytes of what was left, at most one past the limit of an input
  pub front : ReadsBytes source.left source.read_gives old new bytes
  -- they spell the script that all that was left spells, or have its first bad line
  pub same : IfSome (source.left old) (λ xs. script bytes ≡ script xs)
  -- a script is read to its end
  pub to_the_end : (scripts : List SessionScript) → script bytes ≡ Ok scripts → IfSome (source.left old) (λ _. source.left new ≡ Some [])

module _ {S D C : Type 0} (sink : SinkGhosts S) (device : Ghosts D) (old new : S) (home away : D) (o : Outcome D C) where
  -- nothing was run, and the disks were not called
  pub record HasNotBegun : Type 0 where
    pub history : o.history ≡ empty_history
    pub home_is : o.home ≡ home
    pub away_is : o.away ≡ away

  -- The input could not be read, at 3, or not kept, at 4.
  pub record IsUnread {I : Type 0} (source : SourceGhosts I) (input input_after : I) : Type 0 where
    pub status : (o.status ≡ 3) ⊎ (o.status ≡ 4)
    pub cause : o.status ≡ 3 → Rose (source.faults input) (source.faults input_after)
    pub nothing : sink.taken new ≡ sink.taken old
    pub none : HasNotBegun

  -- The bytes are no script, and at 2 their first bad line is told; or at 4 there was no memory for the script, or to tell the line.
  pub record IsNoScript (bytes : List ℕ) : Type 0 where
    pub status : (o.status ≡ 2) ⊎ (o.status ≡ 4)
    pub bad : o.status ≡ 2 → (line : ℕ) × (script bytes ≡ Err line) × Tells sink.taken sink.faults old new (bad_line_text line)
    pub nothing : o.status ≡ 4 → sink.taken new ≡ sink.taken old
    pub none : HasNotBegun

  -- The run began: the headline holds of it, and its history is the one of the serial schedule.
  pub record IsSerialRun (scripts : List SessionScript) : Type 0 where
    pub run : IsOneLegalRun sink device old new home away scripts o
    -- all was done, the sink failed, memory ran out, or a disk failed
    pub status : IsRun o.status ⊎ ((o.status ≡ 4) ⊎ (o.status ≡ 5))
    -- whole at 0 and 7, and else a prefix of it
    pub whole : IsRun o.status → IsSerial o.history.home o.history.away scripts o.history
    pub front : IsSerialFront o.history.home o.history.away scripts o.history
    -- its clock counts the seconds from the opening moment
    pub readings : IsRun o.status → (count : ℕ) × IsLegalBy (step_readings o.history.opening count) o.history.home o.history.away scripts o.history

  -- what is answered to scripts: the databases are not mounted, or the run begins
  abbrev pub AnswersScripts : List SessionScript → Type 0
  AnswersScripts scripts = IsNotMounted sink device old new home away o ⊎ IsSerialRun scripts

  -- what is answered to bytes: they are no script, or they are one
  abbrev pub AnswersBytes : List ℕ → Type 0
  AnswersBytes bytes = IsNoScript bytes ⊎ ((scripts : List SessionScript) × (script bytes ≡ Ok scripts) × AnswersScripts scripts)

-- The stages of a serial run, in their order: the input is not read; or it is read and is no script; or it is one, and the databases are
-- not mounted; or the run begins.
abbrev pub RunsSerially : {I S D C : Type 0} → SourceGhosts I → SinkGhosts S → Ghosts D → I → I → S → S → D → D → Outcome D C → Type 0
RunsSerially source sink device input input_after old new home away o = IsUnread sink device old new home away o source input input_after
    ⊎ ((bytes : List ℕ) × ReadsInput source input input_after bytes × AnswersBytes sink device old new home away o bytes)
