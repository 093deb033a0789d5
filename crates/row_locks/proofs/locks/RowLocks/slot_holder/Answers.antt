use Rattle.std.proofs.Common.{sym}
use Rattle.row_locks.specs.Slots.{hold_of}
use Rattle.row_locks.proofs.TableLemmas.{slot_free, slot_held}
use Rattle.row_locks.proofs.locks.RowLocks.slot_holder.Goals as goal

pub returns-in-None-clause-none : goal.returns-in-None-clause-none
returns-in-None-clause-none c =
    let l = c.self.inside in rw (← c.self.view_is) (slot_free l.sessions.items (hold_of l.slots) c.args.id c.args.slot c.self.invariant.0.slots (sym c.in-None.ensures))

pub returns-in-Some-clause-some : goal.returns-in-Some-clause-some
returns-in-Some-clause-some c =
    let l = c.self.inside in rw (← c.self.view_is) (slot_held l.sessions.items (hold_of l.slots) c.args.id c.args.slot c.in-Some.hold c.self.invariant.0.slots (sym c.in-Some.ensures))
