use Rattle.std.proofs.Common.{◌≡◌}
use Rattle.rule_conditions.specs.Check.{atoms_fault}
use Rattle.rule_conditions.proofs.fault.of_atoms.Given as goal

abbrev pub invariant-loop-atom : goal.invariant-loop-atom
invariant-loop-atom l = atoms_fault l.fields l.computed l.atom-iterator ≡ atoms_fault l.fields l.computed l.atoms
