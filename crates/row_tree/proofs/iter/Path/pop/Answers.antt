use Rattle.std.proofs.Common.{◌++◌, sym, ap, ◌∙◌, subst}
use Rattle.std.specs.Option.{option_to_list}
use Rattle.row_tree.specs.Path.{ahead, HaveRows}
use Rattle.row_tree.proofs.Ahead.{one_less, goes_right, has_some, is_there}
use Rattle.row_tree.proofs.iter.Path.pop.Goals as goal

pub invariant_of-self-2 : goal.invariant_of-self-2
invariant_of-self-2 g c =
    let split = c.pop.ensures.items ∙ ap (λ o. c.pop.new.self.items ++ option_to_list o) c.in_ok-pop.was in
    (one_less c.pop.new.self.items c.in_ok-pop.field-0 (subst HaveRows split c.self.invariant)).1

pub returns-clause-some : goal.returns-clause-some
returns-clause-some g c =
    let split = c.pop.ensures.items ∙ ap (λ o. c.pop.new.self.items ++ option_to_list o) c.in_ok-pop.was in
    goes_right c.args.self.now c.pop.new.self.items c.in_ok-pop.field-0 (sym c.self.view_is ∙ ap ahead split)

pub returns-clause-row : goal.returns-clause-row
returns-clause-row g c =
    let split = c.pop.ensures.items ∙ ap (λ o. c.pop.new.self.items ++ option_to_list o) c.in_ok-pop.was in
    has_some c.in_ok-pop.field-0 (one_less c.pop.new.self.items c.in_ok-pop.field-0 (subst HaveRows split c.self.invariant)).0

pub returns-clause-none : goal.returns-clause-none
returns-clause-none g c =
    let split = c.pop.ensures.items ∙ ap (λ o. c.pop.new.self.items ++ option_to_list o) c.in_ok-pop.was in
    is_there c.in_ok-pop.field-0 _ (one_less c.pop.new.self.items c.in_ok-pop.field-0 (subst HaveRows split c.self.invariant)).0
