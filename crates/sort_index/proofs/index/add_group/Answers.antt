use Rattle.std.proofs.Common.{◌≤◌, List, length, ap, sym, ◌∙◌, arith, subst}
use Rattle.row_tree.specs.Changes.{set_in_order}
use Rattle.row_tree.specs.Order.{put_in_order}
use Rattle.sort_index.specs.Fitting.{AllFit}
use Rattle.sort_index.specs.Ready.{EditsRows, ready_cmp}
use Rattle.sort_index.specs.declared.group.Group.{Group}
use Rattle.sort_index.proofs.Changed.{free_new, rows_new}
use Rattle.sort_index.proofs.Groups.{fit_put, own_names}
use Rattle.sort_index.proofs.index.add_group.Goals as goal

pub put-requires-2-clause-free : goal.put-requires-2-clause-free
put-requires-2-clause-free c =
    let g : Group = record { queue = c.args.queue; consumer = c.args.consumer; rows = c.put.new.self } in
    free_new c.args.queue c.args.consumer g c.args.groups.now (own_names c.args.queue c.args.consumer) c.requires.none

pub returns-clause-rows : goal.returns-clause-rows
returns-clause-rows c =
    let row = c.args.first.row in
    let g : Group = record { queue = c.args.queue; consumer = c.args.consumer; rows = c.put.new.self } in
    let one = c.put.ensures.rows ∙ ap (put_in_order ready_cmp row) c.new-rows.ensures in
    subst (λ (gs : List Group). EditsRows c.args.queue c.args.consumer (set_in_order ready_cmp row) c.args.groups.now gs) (sym c.put-2.ensures.rows)
    (rows_new c.args.queue c.args.consumer g c.args.groups.now (own_names c.args.queue c.args.consumer) c.requires.none (set_in_order ready_cmp row) one)

pub returns-clause-fit : goal.returns-clause-fit
returns-clause-fit c = λ n fit some.
    let g : Group = record { queue = c.args.queue; consumer = c.args.consumer; rows = c.put.new.self } in
    let one = ap length (c.put.ensures.rows ∙ ap (put_in_order ready_cmp c.args.first.row) c.new-rows.ensures) in
    let few : length g.rows ≤ n = omega arith in
    subst (λ (gs : List Group). AllFit n gs) (sym c.put-2.ensures.rows) (fit_put n g c.args.groups.now few fit)
