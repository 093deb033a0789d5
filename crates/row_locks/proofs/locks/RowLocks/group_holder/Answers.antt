use Rattle.row_locks.specs.Groups.{group_meant}
use Rattle.row_locks.specs.declared.classes.Place.{Place}
use Rattle.slot_marks.specs.declared.mark.Group.{Group}
use Rattle.row_locks.proofs.GroupedLemmas.{none_everywhere, somewhere}
use Rattle.row_locks.proofs.HolderLemmas.{if_some_map}
use Rattle.row_locks.proofs.SessionLemmas.{if_none_map}
use Rattle.row_locks.proofs.locks.RowLocks.group_holder.Goals as goal

pub returns-clause-some : goal.returns-clause-some
returns-clause-some c =
    let tables = c.self.inside.sessions.items in
    let group : Group = group_meant c.args.group in
    rw (← c.self.view_is) (if_some_map c.find_holder.result (λ s it. let place : Place = record { session = s; at = it.0 } in somewhere tables group place it.1) c.find_holder.ensures.some)

pub returns-clause-none : goal.returns-clause-none
returns-clause-none c =
    let tables = c.self.inside.sessions.items in
    let group : Group = group_meant c.args.group in
    rw (← c.self.view_is) (if_none_map c.find_holder.result (none_everywhere tables group) c.find_holder.ensures.none)
