-- Runs as they were played over both disks, before they are printed.
use Rattle.std.specs.Prelude.{◌≡◌, ℕ, ◌==◌, List, [], Result, Ok, Err, if◌then◌else◌}
use Rattle.aq_base.specs.declared.DbId.TheVariants.{Home, Away}
use Rattle.aq_disk.specs.declared.device.Disk.{Ghosts}
use Rattle.queue_rows.specs.Legal.{IsLegalBy, IsLegalHistory}
use Rattle.queue_rows.specs.Order.{CallsAll, CallsInOrder}
use Rattle.queue_rows.specs.Serial.{IsSerial, IsSerialFront}
use Rattle.queue_rows.specs.Turns.{step_readings}
use Rattle.queue_rows.specs.declared.history.History.{History}
use Rattle.queue_rows.specs.declared.history.SessionScript.{SessionScript}
use Rattle.aq_world.specs.Recovery.{RecoversTo, FailsEither, FailsNeither}
use Rattle.aq_world.specs.Broken.{Broken}
use Rattle.aq_world.specs.Broken.TheVariants as breaks
use Rattle.aq_run.specs.Disks.{Keeps, LeavesWhole, SurvivesCall}
use Rattle.aq_run.specs.Histories.{HoldsOf, IsAllDoneAfter}
use Rattle.aq_run.specs.declared.play.Played.{Played}
use Rattle.aq_run.specs.declared.play.RunEnd.{RunEnd}
use Rattle.aq_run.specs.declared.play.RunEnd.TheVariants as ends

-- Over the tables that the disks recover, the history is that of the serial schedule of the scripts; it is legal, by the readings of the
-- clock that counts seconds from the opening moment, and calls all that they ask.
pub record IsRunBy {D : Type 0} (device : Ghosts D) (home away : D) (scripts : List SessionScript) (h : History) : Type 0 where
  pub home_is : RecoversTo device.seen home h.home
  pub away_is : RecoversTo device.seen away h.away
  pub serial : IsSerial h.home h.away scripts h
  pub legal : (count : ℕ) × IsLegalBy (step_readings h.opening count) h.home h.away scripts h
  pub calls : CallsAll h

-- over those tables, the history is a prefix of that of the serial schedule of the scripts; it is legal, and calls in order
pub record IsFrontBy {D : Type 0} (device : Ghosts D) (home away : D) (scripts : List SessionScript) (h : History) : Type 0 where
  pub home_is : RecoversTo device.seen home h.home
  pub away_is : RecoversTo device.seen away h.away
  pub serial : IsSerialFront h.home h.away scripts h
  pub legal : IsLegalHistory h.home h.away scripts h
  pub calls : CallsInOrder h

-- how a run ended
abbrev pub end_of : {T : Type 0} → Result T Broken → RunEnd
end_of (Ok x) = ends.Whole
end_of (Err breaks.Halted) = ends.Halted
end_of (Err breaks.Memory) = ends.Memory

-- what was played over the disks
pub record PlaysOver {D : Type 0} (device : Ghosts D) (home away : D) (scripts : List SessionScript) (p : Played D) : Type 0 where
  pub run : p.end ≡ ends.Whole → IsRunBy device home away scripts p.history
  pub front : IsFrontBy device home away scripts p.history
  pub holds : HoldsOf p.history
  pub done : p.end ≡ ends.Whole → IsAllDoneAfter p.history
  pub home_crash : SurvivesCall device Home home p.home p.history
  pub away_crash : SurvivesCall device Away away p.away p.history
  pub home_kept : p.history.entries ≡ [] → Keeps device home p.home
  pub away_kept : p.history.entries ≡ [] → Keeps device away p.away
  pub halted : p.end ≡ ends.Halted → FailsEither device.faults home away p.home p.away
  pub fine : p.end ≡ ends.Whole → FailsNeither device.faults home away p.home p.away
  pub home_whole : p.end ≡ ends.Whole → LeavesWhole device Home home p.home p.history
  pub away_whole : p.end ≡ ends.Whole → LeavesWhole device Away away p.away p.history

-- a run that came to its end has the status of its writing, one that was halted 5, one for which there was no memory 4
abbrev pub status_of : RunEnd → ℕ → ℕ
status_of ends.Whole written = written
status_of ends.Halted written = if written == 4 then 4 else 5
status_of ends.Memory written = 4
