use Rattle.std.proofs.Common.{◌∙◌}
use Rattle.row_locks.specs.Slots.{hold_of}
use Rattle.row_locks.proofs.TableLemmas.{own_removed}
use Rattle.row_locks.proofs.locks.RowLocks.removed.Goals as goal

pub returns : goal.returns
returns c =
    let l = c.self.inside in rw (← c.self.view_is) (c.is_removed_by.ensures ∙ own_removed l.sessions.items (hold_of l.slots) c.args.id c.args.slot c.args.session c.self.invariant.0.slots)
