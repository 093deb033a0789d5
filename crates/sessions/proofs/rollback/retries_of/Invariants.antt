use Rattle.std.proofs.Common.{◌≡◌, ◌++◌}
use Rattle.std.specs.List.{flat_map}
use Rattle.queue_rows.specs.Transactions.{retry_of}
use Rattle.sessions.proofs.rollback.retries_of.Given as goal

abbrev pub invariant-loop-pending : goal.invariant-loop-pending
invariant-loop-pending g l =
    let t = g.T.MessageTables.tables l.tables in
    l.changes ++ flat_map (retry_of t l.moment) l.pending-iterator ≡ flat_map (retry_of t l.moment) l.fn.pending
