-- A token leaves less, and reading goes on there.
use Rattle.std.proofs.Common.{ℕ, ◌<◌, List, length, subst, sym, ◌∙◌, ap, arith, length-append}
use Rattle.std.specs.Str.{IsUtf8}
use Rattle.rule_text.specs.Outline.{meant}
use Rattle.rule_text.specs.Reading.{Steps}
use Rattle.rule_text.proofs.Cuts.{space_utf8, space_shorter}
use Rattle.rule_text.proofs.Tokenwise.{token_taken}
use Rattle.rule_text.proofs.Readings.{same_reading}
use Rattle.rule_text.proofs.reader.condition_at.Goals as goal

pub tokens-init : goal.tokens-init
tokens-init c = record {
  utf8 = subst (λ (x : List ℕ). IsUtf8 x) (sym c.behind_space-rest.ensures) (space_utf8 c.args.text.now c.requires);
  same = λ out r. same_reading _ _ _ _ out c.start-outline.ensures c.behind_space-rest.ensures r;
}

pub tokens-smaller : goal.tokens-smaller
tokens-smaller c =
    let takes = token_taken c.tokens.outline c.tokens.rest.now (meant c.in_ok-token.token, c.in_ok-token.after.now) c.tokens.invariant.utf8 c.in_ok-token.ensures in
    let less : length c.in_ok-token.after.now < length c.tokens.rest.now = omega (arith, takes.some, ap length takes.split, length-append takes.word c.in_ok-token.after.now) in
    let behind = space_shorter c.in_ok-token.after.now in
    subst (λ (x : List ℕ). length x < length c.tokens.rest.now) (sym c.behind_space-rest-in-tokens.ensures) (omega arith)

pub tokens-preserved : goal.tokens-preserved
tokens-preserved c =
    let takes = token_taken c.tokens.outline c.tokens.rest.now (meant c.in_ok-token.token, c.in_ok-token.after.now) c.tokens.invariant.utf8 c.in_ok-token.ensures in
    record {
      utf8 = subst (λ (x : List ℕ). IsUtf8 x) (sym c.behind_space-rest-in-tokens.ensures) (space_utf8 c.in_ok-token.after.now (takes.utf8 c.tokens.invariant.utf8));
      same = λ out r. c.tokens.invariant.same out
          (Steps c.tokens.outline c.in-Some.next c.tokens.rest.now c.in_ok-token.after.now (meant c.in_ok-token.token) out c.in_ok-token.ensures (sym c.in_ok-next.ensures ∙ c.in-Some.is)
          (same_reading c.in-Some.next c.in-Some.next _ _ out (λ _. c.in-Some.next) c.behind_space-rest-in-tokens.ensures r));
    }
