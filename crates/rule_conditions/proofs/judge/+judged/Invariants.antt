use Rattle.std.proofs.Common.{◌≡◌, ◌++◌, List, map}
use Rattle.rule_conditions.specs.declared.condition.Cond.{Cond}
use Rattle.rule_conditions.specs.Truth.{any_of, all_of, either, both, truth_of}
use Rattle.rule_conditions.proofs.judge.+judged.Given as goal

-- the parts that are left are the last ones, and decide with the truth so far
abbrev pub invariant-loop-part : goal.invariant-loop-part
invariant-loop-part l =
    ((judged : List Cond) × (judged ++ l.part-iterator ≡ l.initial.part-iterator))
    × (either l.met (any_of (map (truth_of l.fields l.facts) l.part-iterator)) ≡ any_of (map (truth_of l.fields l.facts) l.initial.part-iterator))

abbrev pub invariant-loop-part-2 : goal.invariant-loop-part-2
invariant-loop-part-2 l =
    ((judged : List Cond) × (judged ++ l.part-iterator ≡ l.initial.part-iterator))
    × (both l.met (all_of (map (truth_of l.fields l.facts) l.part-iterator)) ≡ all_of (map (truth_of l.fields l.facts) l.initial.part-iterator))
