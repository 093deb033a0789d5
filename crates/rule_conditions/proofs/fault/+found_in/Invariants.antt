use Rattle.std.proofs.Common.{◌≡◌, ◌++◌, List, map}
use Rattle.rule_conditions.specs.declared.condition.Cond.{Cond}
use Rattle.rule_conditions.specs.Check.{first_fault, cond_fault}
use Rattle.rule_conditions.proofs.fault.+found_in.Given as goal

-- the parts that are left are the last ones, and no fault was found before them
abbrev pub invariant-loop-part : goal.invariant-loop-part
invariant-loop-part l =
    ((searched : List Cond) × (searched ++ l.part-iterator ≡ l.initial.part-iterator))
    × (first_fault (map (cond_fault l.fields) l.part-iterator) ≡ first_fault (map (cond_fault l.fields) l.initial.part-iterator))
