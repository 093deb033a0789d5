use Rattle.std.proofs.Common.{option_copied}
use Rattle.sort_index.proofs.Changed.{set_edits, set_fits}
use Rattle.sort_index.proofs.index.set_there.Goals as goal

pub returns-clause-rows : goal.returns-clause-rows
returns-clause-rows c =
    set_edits c.args.queue.now (option_copied c.args.consumer) c.args.row.row c.args.groups.now c.change_at.new.self (λ _. tt) c.change_at.result c.change_at.ensures.told c.change_at.ensures.rows

pub returns-clause-fit : goal.returns-clause-fit
returns-clause-fit c = λ n fit.
    set_fits c.args.queue.now (option_copied c.args.consumer) c.args.row.row c.args.groups.now c.change_at.new.self c.change_at.result n c.change_at.ensures.rows c.change_at.ensures.kept fit
