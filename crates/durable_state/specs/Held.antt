-- What contracts see of a run that stands on its disks.
use Rattle.std.specs.Prelude.{◌⊎◌, List, IsSome}
use Rattle.queue_rows.specs.declared.history.Entry.{Entry}
use Rattle.redo_journal.specs.Journaled.{Journaled}
use Rattle.queue_rows.specs.World.{World}

-- the world of the run; its entries once more, each with the disks' call numbers behind it; and the logs of both databases
pub record Held (D : Type 0) : Type 0 where
  pub world : World
  pub entries : List Entry
  pub home : Journaled D
  pub away : Journaled D

-- a call on a disk failed
abbrev pub HasFailed : {D : Type 0} → Held D → Type 0
HasFailed v = IsSome v.home.failed_at ⊎ IsSome v.away.failed_at
