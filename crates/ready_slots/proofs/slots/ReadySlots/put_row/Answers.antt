use Rattle.std.proofs.Common.{List, option_copied, subst}
use Rattle.std.proofs.lemmas.Result.{on_ok_weaker}
use Rattle.sort_index.specs.declared.group.Group.{Group}
use Rattle.ready_slots.specs.Putting.{PutsRow}
use Rattle.ready_slots.proofs.Putting.{puts_set}
use Rattle.ready_slots.proofs.slots.ReadySlots.put_row.Goals as goal

pub returns : goal.returns
returns c =
    let m = c.args.message.now in
    let consumer = option_copied c.args.consumer in
    let after = c.set.new.self.groups in
    on_ok_weaker c.set.result
    (λ edits.
    subst (λ (gs : List Group). PutsRow m consumer c.args.stamp gs after) c.self.view_is (puts_set m consumer c.args.stamp c.self.inside.index.groups after edits))
    c.set.ensures.ok
