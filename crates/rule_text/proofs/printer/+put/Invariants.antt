use Rattle.std.proofs.Common.{◌≡◌, ◌++◌, List, map, codes, string_bytes}
use denote.Text.{Utf8}
use denote.Shadow.{shadow}
use Rattle.rule_conditions.specs.declared.condition.Cond.{Cond}
use Rattle.rule_conditions.specs.Print.{joined, in_any, in_all, printed}
use Rattle.rule_text.proofs.PrintPieces.{led}
use Rattle.rule_text.proofs.printer.+put.Given as goal

-- the parts that are left are the last ones, and make up the text with what was put in
abbrev pub invariant-loop-part : goal.invariant-loop-part
invariant-loop-part l =
    shadow (Utf8 l.before)
    × ((told : List Cond) × (told ++ l.part-iterator ≡ l.initial.part-iterator))
    × (string_bytes l.out ++ led l.before (codes " OR ") (map in_any (map printed l.part-iterator)) ≡ string_bytes l.initial.out ++ joined (codes " OR ") (map in_any (map printed l.initial.part-iterator)))

abbrev pub invariant-loop-part-2 : goal.invariant-loop-part-2
invariant-loop-part-2 l =
    shadow (Utf8 l.before)
    × ((told : List Cond) × (told ++ l.part-iterator ≡ l.initial.part-iterator))
    × (string_bytes l.out ++ led l.before (codes " AND ") (map in_all (map printed l.part-iterator)) ≡ string_bytes l.initial.out ++ joined (codes " AND ") (map in_all (map printed l.initial.part-iterator)))
