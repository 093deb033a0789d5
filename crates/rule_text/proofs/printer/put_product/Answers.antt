use Rattle.std.proofs.Common.{map, codes, string_bytes, rules, refl}
use Rattle.rule_conditions.specs.Print.{atom_text}
use Rattle.rule_text.proofs.PrintPieces.{led_step}
use Rattle.rule_text.proofs.printer.put_product.Goals as goal

pub loop-atom-preserved : goal.loop-atom-preserved
loop-atom-preserved c =
    let first = c.in-Some.ensures.steps in
    let so_far = rw first at c.loop-atom.invariant.1 in (
      search rules,
      led_step (codes " * ") c.loop-atom.before.now _ (string_bytes c.loop-atom.out) (atom_text c.in-Some.atom.now) (string_bytes c.put_atom.new.out) (map atom_text c.next.new.self)
          so_far (rw (c.in_ok-put_atom.ensures, c.in_ok-push_str.ensures.bytes) refl),
    )
