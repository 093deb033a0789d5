use Rattle.std.proofs.Common.{◌∙◌, sym}
use Rattle.std.proofs.lemmas.Str.{chars_past_char}
use Rattle.rule_conditions.proofs.pattern.first_of.Goals as goal

pub returns-clause-some : goal.returns-clause-some
returns-clause-some c =
    let r = c.chars-rest.ensures.rest in
    rw c.as_str.ensures (chars_past_char c.args.text.now _ _ c.utf8.text (sym r ∙ c.in_ok-first.ensures.steps.0))
