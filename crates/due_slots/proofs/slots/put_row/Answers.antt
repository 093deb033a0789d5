use Rattle.std.proofs.Common.{◌∙◌, ap}
use Rattle.row_tree.specs.Order.{put_in_order}
use Rattle.due_index.specs.Due.{due_cmp, due_row}
use Rattle.due_slots.proofs.Telling.{differs_after}
use Rattle.due_slots.proofs.slots.put_row.Goals as goal

pub put-requires-clause-new : goal.put-requires-clause-new
put-requires-clause-new c =
    let row = due_row c.args.row.moment c.args.row.id c.args.row.slot in
    differs_after row c.args.index.now.rows c.take_out.new.self.rows c.take_out.ensures.rows

pub returns-clause-rows : goal.returns-clause-rows
returns-clause-rows c =
    let row = due_row c.args.row.moment c.args.row.id c.args.row.slot in
    c.put.ensures.rows ∙ ap (put_in_order due_cmp row) c.take_out.ensures.rows
