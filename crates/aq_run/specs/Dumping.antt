-- What `dump` answers.
use Rattle.std.specs.Prelude.{◌≡◌, ◌⊎◌, ℕ, ◌++◌, List}
use Rattle.aq_run.specs.Written.{Writes}
use Rattle.aq_base.specs.declared.DbId.TheVariants.{Home, Away}
use Rattle.aq_base.specs.declared.stream.Sink.{Ghosts as SinkGhosts}
use Rattle.aq_disk.specs.declared.device.Disk.{Ghosts}
use Rattle.queue_rows.specs.declared.tables.Tables.{Tables}
use Rattle.transcript.specs.Dump.{print_tables}
use Rattle.aq_world.specs.Mounting.{LosesNothing}
use Rattle.aq_world.specs.Recovery.{RecoversTo}
use Rattle.aq_run.specs.Histories.{empty_history}
use Rattle.aq_run.specs.Outcomes.{IsNotMounted, IsRun}
use Rattle.aq_run.specs.declared.outcome.Outcome.{Outcome}

-- the tables of both databases, home's first
abbrev pub dump_text : Tables → Tables → List ℕ
dump_text home away = print_tables Home home ++ print_tables Away away

module _ {S D C : Type 0} (sink : SinkGhosts S) (device : Ghosts D) (old new : S) (home away : D) (o : Outcome D C) where
  -- The databases were mounted, and their tables printed.
  pub record IsDumped : Type 0 where
    -- all was done, the sink failed, or memory ran out
    pub status : IsRun o.status ⊎ (o.status ≡ 4)
    -- these are the tables that the disks recover
    pub home_tables : Tables
    pub away_tables : Tables
    pub home_is : RecoversTo device.seen home home_tables
    pub away_is : RecoversTo device.seen away away_tables
    -- their text was written: whole at 0, a prefix at 7, and at 4 nothing
    pub written : Writes sink.taken sink.faults old new (dump_text home_tables away_tables) o.status
    pub nothing : o.status ≡ 4 → sink.taken new ≡ sink.taken old
    -- nothing was run; neither disk lost anything, at any moment, and neither was written where its journal has the version that is written
    pub no_history : o.history ≡ empty_history
    pub home_disk : LosesNothing device home o.home
    pub away_disk : LosesNothing device away o.away

  -- the databases are not mounted, or their tables are printed
  abbrev pub Dumps : Type 0
  Dumps = IsNotMounted sink device old new home away o ⊎ IsDumped
