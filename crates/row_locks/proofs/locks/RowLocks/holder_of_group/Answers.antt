use Rattle.std.proofs.Common.{◌≡◌, Option, Some, IfSome, ◌∙◌, ap, sym, subst}
use Rattle.slot_marks.specs.Marks.{group_of, HasGroup}
use Rattle.slot_marks.specs.declared.mark.Group.{Group}
use Rattle.row_locks.proofs.locks.RowLocks.holder_of_group.Goals as goal

pub returns-in-Some-clause-some : goal.returns-in-Some-clause-some
returns-in-Some-clause-some c =
    let own = c.get-group.result.now in
    let P : Option Group → Type 0 = λ g. IfSome c.group_holder.result (HasGroup c.args.self.now g) in
    let rebuilt : c.args.group.now ≡ Some own = c.in-Some.is ∙ ap Some (sym c.get-group.ensures) in
    subst P (sym rebuilt) (subst P (λ i. Some (group_of own.queue own.number (c.as_ref.ensures.value i))) c.group_holder.ensures.some)
