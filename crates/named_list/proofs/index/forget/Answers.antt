use Rattle.std.proofs.Common.{cond, ap, sym, ◌∙◌, arith}
use Rattle.row_tree.specs.Order.{put_in_order}
use Rattle.named_list.specs.Order.{group_cmp, key}
use Rattle.named_list.specs.Stamps.{is_of, stamps_in, without_stamp}
use Rattle.named_list.specs.declared.group.Group.{Group}
use Rattle.named_list.proofs.Groups.{free_group, stamps_gone, stamps_put}
use Rattle.named_list.proofs.Stamps.{no_stamps}
use Rattle.named_list.proofs.index.forget.Goals as goal

pub returns-in_default : goal.returns-in_default
returns-in_default c = λ n.
    let name = c.args.name.now in
    let gs = c.args.groups.now in
    ap (stamps_in n) c.take_named.ensures.rest ∙ stamps_gone name gs n ∙ ap (λ ss. cond (is_of n (key name)) ss (stamps_in n gs)) (sym (ap (without_stamp c.args.stamp) c.in_default.ensures.none))

pub put-requires-clause-free : goal.put-requires-clause-free
put-requires-clause-free c =
    let g : Group = record { name = c.in-Some.group.name; stamps = c.take_at-taken.new.self } in
    rw c.take_named.ensures.rest (free_group c.args.name.now g c.args.groups.now c.in-Some.ensures.name)

pub returns-then-len-gt0 : goal.returns-then-len-gt0
returns-then-len-gt0 c = λ n.
    let name = c.args.name.now in
    let gs = c.args.groups.now in
    let g : Group = record { name = c.in-Some.group.name; stamps = c.take_at-taken.new.self } in
    let left = c.take_at-taken.ensures.rest ∙ ap (without_stamp c.args.stamp) c.in-Some.ensures.stamps in
    ap (stamps_in n) (c.put.ensures.rows ∙ ap (put_in_order group_cmp g) c.take_named.ensures.rest)
    ∙ stamps_put name g gs c.in-Some.ensures.name n
    ∙ ap (λ ss. cond (is_of n (key name)) ss (stamps_in n gs)) left

pub returns-else-len-gt0 : goal.returns-else-len-gt0
returns-else-len-gt0 c = λ n.
    let name = c.args.name.now in
    let gs = c.args.groups.now in
    let left = c.take_at-taken.ensures.rest ∙ ap (without_stamp c.args.stamp) c.in-Some.ensures.stamps in
    let none = no_stamps c.take_at-taken.new.self (omega (arith, c.len.ensures, c.if-len-gt0.false)) in
    ap (stamps_in n) c.take_named.ensures.rest ∙ stamps_gone name gs n ∙ ap (λ ss. cond (is_of n (key name)) ss (stamps_in n gs)) (none ∙ left)
