-- The one commit that leads from empty tables to others.
use Rattle.std.specs.Prelude.{List, ◌∷◌, ◌++◌, map}
use Rattle.queue_rows.specs.declared.change.Change.{Change}
use Rattle.queue_rows.specs.declared.change.Change.TheVariants as changes
use Rattle.queue_rows.specs.declared.change.Commit.{Commit}
use Rattle.queue_rows.specs.declared.tables.Tables.{Tables}

-- what puts each row, kind by kind, in the order in which the rows stand
abbrev pub puts_of : Tables → List Change
puts_of t =
    map changes.PutTable t.tables ++ map changes.PutQueue t.queues ++ map changes.PutSub t.subs
    ++ map changes.PutSchedule t.schedules ++ map changes.Enqueued t.messages ++ map changes.Seen t.seen

-- the three numbers are set, and then each row is put, at the latest moment
unfoldable pub checkpoint_of : Tables → Commit
checkpoint_of t = record { moment = t.latest; changes = changes.Counters t.next t.transaction t.latest ∷ puts_of t }
