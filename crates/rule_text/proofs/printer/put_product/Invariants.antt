use Rattle.std.proofs.Common.{◌≡◌, ◌++◌, map, codes, string_bytes}
use denote.Text.{Utf8}
use denote.Shadow.{shadow}
use Rattle.rule_conditions.specs.Print.{atom_text, product_text}
use Rattle.rule_text.proofs.PrintPieces.{led}
use Rattle.rule_text.proofs.printer.put_product.Given as goal

-- the atoms that are left make up the product with what was put in
abbrev pub invariant-loop-atom : goal.invariant-loop-atom
invariant-loop-atom l =
    shadow (Utf8 l.before)
    × (string_bytes l.out ++ led l.before (codes " * ") (map atom_text l.atom-iterator) ≡ string_bytes l.initial.out ++ product_text l.fn.product.atoms)
