use Rattle.std.specs.Prelude.{filter}
use Rattle.due_index.specs.Due.{is_due}
use Rattle.time_manager.specs.Ranks.{ranks_of}
use Rattle.time_manager.proofs.Gathering.{gathered}
use Rattle.time_manager.proofs.ranks.due_ranks.Goals as goal

pub returns : goal.returns
returns g c =
    let named = ranks_of (g.T.MessageTables.tables c.args.store.now).messages (filter (is_due c.args.moment) c.args.rows.now.rows) in
    let all = gathered named c.in_ok-ranks.ranks.items c.sort.new.self.items c.dedup.new.self.items c.in_ok-ranks.ensures c.in_ok-sort.ensures.permutation c.in_ok-sort.ensures.sorted c.dedup.ensures.filtered in
    record { rising = all.rising; each = all.each }
