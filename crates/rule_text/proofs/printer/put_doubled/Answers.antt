use Rattle.std.proofs.Common.{◌≡◌, ◌++◌, List, ℕ, ap, sym, ◌∙◌, append_assoc, string_bytes}
use Rattle.std.specs.Str.{chars, encode_utf8_all}
use Rattle.std.proofs.lemmas.Iterator.{YieldsList-from_chars}
use Rattle.std.proofs.lemmas.Iterator.Consumers.{YieldsList-end}
use Rattle.std.proofs.lemmas.List.{map-id}
use Rattle.rule_conditions.specs.Print.{doubled}
use Rattle.rule_text.proofs.PrintPieces.{one_doubled}
use Rattle.rule_text.proofs.printer.put_doubled.Goals as goal

pub loop-character-preserved : goal.loop-character-preserved
loop-character-preserved c =
    rw (c.in_ok-put_character.ensures, c.loop-character.invariant, one_doubled c.loop-character.yielded c.in-Some.character)
    (append_assoc (string_bytes c.args.out.now) (encode_utf8_all (doubled c.loop-character.yielded)) _)

pub returns : goal.returns
returns c =
    let all = YieldsList-end (YieldsList-from_chars c.args.text.now c.utf8.text cc) c.loop-character.yielded _ c.loop-character.yielded_by _ _ c.in-None.is c.next.ensures.steps in
    let same : c.loop-character.yielded ≡ chars c.args.text.now = sym (map-id c.loop-character.yielded) ∙ all.0 in
    c.loop-character.invariant ∙ ap (λ (x : List ℕ). string_bytes c.args.out.now ++ encode_utf8_all (doubled x)) same
