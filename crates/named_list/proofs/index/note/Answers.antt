use Rattle.std.proofs.Common.{cond, ap, ◌∙◌}
use Rattle.row_tree.specs.Order.{put_in_order}
use Rattle.named_list.specs.Order.{group_cmp, key}
use Rattle.named_list.specs.Stamps.{is_of, stamps_in, with_stamp}
use Rattle.named_list.specs.declared.group.Group.{Group}
use Rattle.named_list.proofs.Groups.{free_group, stamps_put}
use Rattle.named_list.proofs.Stamps.{free_stamp}
use Rattle.named_list.proofs.index.note.Goals as goal

pub put-requires-clause-free : goal.put-requires-clause-free
put-requires-clause-free c = rw c.take_group-group.ensures.stamps (free_stamp c.args.stamp (stamps_in c.args.name c.args.groups.now) c.requires)

pub put-requires-2-clause-free : goal.put-requires-2-clause-free
put-requires-2-clause-free c =
    let g : Group = record { name = c.take_group-group.result.0.name; stamps = c.put.new.self } in
    rw c.take_group-group.ensures.rest (free_group c.args.name g c.args.groups.now c.take_group-group.ensures.name)

pub returns : goal.returns
returns c = λ _ n.
    let name = c.args.name in
    let gs = c.args.groups.now in
    let g : Group = record { name = c.take_group-group.result.0.name; stamps = c.put.new.self } in
    let own = c.put.ensures.rows ∙ ap (with_stamp c.args.stamp) c.take_group-group.ensures.stamps in
    ap (stamps_in n) (c.put-2.ensures.rows ∙ ap (put_in_order group_cmp g) c.take_group-group.ensures.rest)
    ∙ stamps_put name g gs c.take_group-group.ensures.name n
    ∙ ap (λ ss. cond (is_of n (key name)) ss (stamps_in n gs)) own
