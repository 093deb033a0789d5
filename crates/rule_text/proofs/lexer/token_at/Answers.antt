-- What stands behind an apostrophe is a text.
use Rattle.std.proofs.Common.{◌≡◌, ◌∷◌, ℕ, List, subst, arith}
use Rattle.std.specs.Str.{IsUtf8}
use Rattle.rule_text.proofs.Content.{behind_apostrophe}
use Rattle.rule_text.proofs.lexer.token_at.Goals as goal

pub quoted_at-requires : goal.quoted_at-requires
quoted_at-requires c =
    let e : c.args.text.now ≡ c.in-Some.byte.now ∷ c.in-Some.rest.now = grind arith in
    behind_apostrophe c.in-Some.byte.now c.in-Some.rest.now (omega arith) (subst (λ (x : List ℕ). IsUtf8 x) e c.requires)
