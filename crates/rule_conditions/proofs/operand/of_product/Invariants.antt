use Rattle.std.proofs.Common.{◌≡◌}
use Rattle.std.specs.List.{fold}
use Rattle.rule_conditions.specs.Operands.{seen}
use Rattle.rule_conditions.specs.Values.{atom_value, times, product_value}
use Rattle.rule_conditions.proofs.operand.of_product.Given as goal

-- the atoms that are left, folded onto the value so far
abbrev pub invariant-loop-atom : goal.invariant-loop-atom
invariant-loop-atom l =
    fold (λ value atom. times value (atom_value l.fn.fields l.fn.facts atom)) (seen l.value) l.atom-iterator ≡ product_value l.fn.fields l.fn.facts l.fn.product.atoms
