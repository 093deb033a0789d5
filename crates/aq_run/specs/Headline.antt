-- The headline: what is promised of a run that began, whoever took its turns.
use Rattle.std.specs.Prelude.{◌≡◌, ◌⊎◌, List}
use Rattle.std.specs.Io.KnownBytes.{Appends}
use Rattle.aq_base.specs.Causes.{Rose}
use Rattle.aq_run.specs.Written.{Tells, WritesFront}
use Rattle.aq_base.specs.declared.DbId.{DbId}
use Rattle.aq_base.specs.declared.DbId.TheVariants.{Home, Away}
use Rattle.aq_base.specs.declared.stream.Sink.{Ghosts as SinkGhosts}
use Rattle.aq_disk.specs.declared.device.Disk.{Ghosts}
use Rattle.queue_rows.specs.Legal.{IsLegalHistory}
use Rattle.queue_rows.specs.Order.{CallsAll, CallsInOrder}
use Rattle.queue_rows.specs.declared.history.SessionScript.{SessionScript}
use Rattle.queue_rows.specs.declared.history.SlotRef.{SlotRef}
use Rattle.history_laws.specs.Arrivals.{IsSeenOnce}
use Rattle.history_laws.specs.Durability.{ToldIsDurable}
use Rattle.history_laws.specs.Lasting.{HasFates}
use Rattle.history_laws.specs.Made.{commits_of, opening_of}
use Rattle.transcript.specs.Print.{print}
use Rattle.aq_world.specs.Recovery.{RecoversTo}
use Rattle.aq_run.specs.Disks.{LeavesWhole, SurvivesCall}
use Rattle.aq_run.specs.Histories.{IsAllDoneAfter}
use Rattle.aq_run.specs.Outcomes.{IsRun}
use Rattle.aq_run.specs.declared.outcome.Outcome.{Outcome}

-- The history was printed: whole at 0, whole at 5 unless the sink failed, and a prefix of it at 4 and 7. At 7 the sink failed.
pub record PrintsHistory {S D C : Type 0} (sink : SinkGhosts S) (old new : S) (o : Outcome D C) : Type 0 where
  pub whole : o.status ≡ 0 → Appends (sink.taken old) (sink.taken new) (print o.history)
  pub part : (o.status ≡ 4) ⊎ (o.status ≡ 7) → WritesFront sink.taken old new (print o.history)
  pub at_fault : o.status ≡ 5 → Tells sink.taken sink.faults old new (print o.history)
  pub fault : o.status ≡ 7 → Rose (sink.faults old) (sink.faults new)

-- The output is the print of one legal history of the scripts over what both disks recover. In it each session's statements stand once, in
-- order; each recipient of a message has one fate, and at most one removal; each copy arrives at most once; what was told is durable; and a
-- crash at any moment leaves each database after a prefix of its commits that has all that was told.
pub record IsOneLegalRun {S D C : Type 0} (sink : SinkGhosts S) (device : Ghosts D) (old new : S) (home away : D) (scripts : List SessionScript) (o : Outcome D C) : Type 0 where
  -- what the sink took is the print of the history
  pub output : PrintsHistory sink old new o
  -- the history is legal: it begins with these scripts, and each entry follows from those before it by the rules of the queue
  pub legal : IsLegalHistory o.history.home o.history.away scripts o.history
  -- it begins with the tables that the disks recover as they are handed in
  pub home_opening : RecoversTo device.seen home o.history.home
  pub away_opening : RecoversTo device.seen away o.history.away
  -- each session's statements stand in it once, in the order of its script: the first some of them, and at 0 and 7 all
  pub in_order : CallsInOrder o.history
  pub all_called : IsRun o.status → CallsAll o.history
  -- each recipient of a committed message has one fate, the final ones stay, and at most one removal of it is committed
  pub fates : (db : DbId) → HasFates db o.history
  -- each recipient's copy arrives at most once, and not where it had arrived before
  pub copied_once : (db : DbId) (at : SlotRef) → IsSeenOnce (opening_of db o.history) (commits_of db o.history.entries) at
  -- as a reply is told, every commit made up to its call is durable
  pub told : ToldIsDurable o.history
  -- a crash at any moment of the call leaves each database after a prefix of its commits, which has all that were durable
  pub home_survives : SurvivesCall device Home home o.home o.history
  pub away_survives : SurvivesCall device Away away o.away o.history
  -- at 0 and 7 all is done: every session has ended, every commit is durable, nothing is due and nothing can be sent
  pub all_done : IsRun o.status → IsAllDoneAfter o.history
  -- and each disk recovers its database as the history leaves it
  pub home_left : IsRun o.status → LeavesWhole device Home home o.home o.history
  pub away_left : IsRun o.status → LeavesWhole device Away away o.away o.history
