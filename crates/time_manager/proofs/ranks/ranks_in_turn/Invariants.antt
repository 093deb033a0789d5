-- What the rows so far name, and what those from the next one on name, are what all that are due name.
use Rattle.std.proofs.Common.{◌≡◌, ◌++◌, length}
use Rattle.std.specs.Prelude.{filter}
use Rattle.due_index.specs.Due.{is_due}
use Rattle.time_manager.specs.Ranks.{ranks_of, rows_left}
use Rattle.time_manager.proofs.Walking.{IsFirstLeft}
use Rattle.time_manager.proofs.ranks.ranks_in_turn.Given as goal

abbrev pub invariant-loop-next : goal.invariant-loop-next
invariant-loop-next g l =
    let messages = (g.T.MessageTables.tables l.store).messages in
    record {
      named : l.ranks.items ++ ranks_of messages (rows_left l.moment l.rows.rows l.next) ≡ ranks_of messages (filter (is_due l.moment) l.rows.rows);
      first : IsFirstLeft l.moment l.rows.rows l.next;
    }

abbrev pub decreases-loop-next : goal.decreases-loop-next
decreases-loop-next g l = length (rows_left l.moment l.rows.rows l.next)
