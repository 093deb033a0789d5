-- Each token that is read is spelled at the front.
use Rattle.std.proofs.Common.{◌≡◌, ◌==◌, inl, inr, ℕ, List, [], ◌∷◌, ◌++◌, false, Ok, refl, arith, sym, ◌∙◌, ap, subst, append_assoc, ◌&&◌, ◌||◌}
use Rattle.std.specs.Str.{IsUtf8}
use Rattle.std.proofs.lemmas.Bool.{eqb-true, and_parts}
use Rattle.rule_conditions.specs.Print.{doubled}
use Rattle.rule_conditions.specs.Tokens as grammar
use Rattle.rule_conditions.specs.Tokens.{is_digit, may_end, Spells}
use Rattle.rule_conditions.specs.declared.condition.Atom.TheVariants as atoms
use Rattle.rule_text.proofs.Choice.{chosen}
use Rattle.rule_text.proofs.Content.{content_is_utf8, after_content_is_utf8}
use Rattle.rule_text.proofs.Cuts.{cut_first}
use Rattle.rule_text.proofs.Doubling.{content_split, quoted_bytes}
use Rattle.rule_text.proofs.Room.{content_fits, content_within}
use Rattle.rule_text.proofs.Taking.{Takes, other_at_taken, number_token_taken, as_token_ok}
use Rattle.rule_conditions.specs.Lexing.{quoted_at, content_at}
use Rattle.rule_text.specs.Lexing.{token_at}
use Rattle.rule_text.specs.Outline.{takes_text, takes_atom}
use Rattle.rule_text.specs.declared.outline.Outline.{Outline}

quoted_taken : (rest : List ℕ) (out : grammar.Token × List ℕ) → IsUtf8 rest → quoted_at rest ≡ Ok out → Takes out.0 (39 ∷ rest) out.1
quoted_taken rest out u e =
    let found = as_token_ok (λ content. grammar.Operand (atoms.Text content)) (content_at [] false rest) out e in
    let content = found.0.0 in
    let after = found.0.1 in
    let utf8 = content_is_utf8 rest content after u found.1 in
    let split : rest ≡ doubled content ++ 39 ∷ after = content_split rest [] false found.0 found.1 in
    let P : grammar.Token × List ℕ → Type 0 = λ o. Takes o.0 (39 ∷ rest) o.1 in
    subst P (sym found.2) record {
      word = 39 ∷ (doubled content ++ 39 ∷ []);
      split = ap (λ (x : List ℕ). 39 ∷ x) (split ∙ sym (append_assoc (doubled content) (39 ∷ []) after));
      some = omega arith;
      utf8 = λ _. after_content_is_utf8 rest content after u found.1;
      spells = record {
        utf8 = utf8;
        within = content_within content utf8 (content_fits rest [] false found.0 tt found.1);
        spelled = quoted_bytes content utf8;
      };
      ends = refl;
    }

pub token_taken : (s : Outline) (text : List ℕ) (out : grammar.Token × List ℕ) → IsUtf8 text → token_at s text ≡ Ok out → Takes out.0 text out.1
token_taken s [] out u e = cc
token_taken s (b ∷ rest) out u e =
    elim (chosen (b == 39 && takes_text s.phase) _ _ _ e) [
      | inl p ↦
          let is = eqb-true b 39 (and_parts _ _ p.0).0 in
          let u2 = subst (λ (x : ℕ). IsUtf8 (x ∷ rest)) is u in
          subst (λ (x : ℕ). Takes out.0 (x ∷ rest) out.1) (sym is) (quoted_taken rest out (cut_first 39 rest (omega arith) u2) p.1)
      | inr p ↦ elim (chosen ((is_digit b || b == 45) && takes_atom s.phase) _ _ _ p.1) [
        | inl q ↦ number_token_taken (b ∷ rest) out q.1
        | inr q ↦ other_at_taken s b rest out q.1
      ]
    ]
