-- Readings put together.
use Rattle.std.proofs.Common.{◌≡◌, ◌<◌, ℕ, List, [], ◌∷◌, Some, None, Result, Ok, Err, length, subst, sym, arith}
use Rattle.rule_conditions.specs.declared.condition.Cond.{Cond}
use Rattle.rule_text.specs.Lexing.{token_at}
use Rattle.rule_text.specs.Outline.{finish}
use Rattle.rule_text.specs.Reading.{Reads, Ends, Short, Fails}
use Rattle.rule_text.specs.declared.outline.Outline.{Outline}

pub ends_at : (s : Outline) (text : List ℕ) (condition : Cond) → text ≡ [] → finish s ≡ Some condition → Reads s text (Ok condition)
ends_at s text condition e f = subst (λ (x : List ℕ). Reads s x (Ok condition)) (sym e) (Ends s condition f)

pub short_at : (s : Outline) (text : List ℕ) → text ≡ [] → finish s ≡ None → Reads s text (Err text)
short_at s text e f = subst (λ (x : List ℕ). Reads s x (Err x)) (sym e) (Short s f)

pub fails_at : (s : Outline) (text rest : List ℕ) → 0 < length text → token_at s text ≡ Err rest → Reads s text (Err rest)
fails_at s [] rest some e = absurd (omega arith)
fails_at s (b ∷ text) rest some e = Fails s (b ∷ text) rest (λ h. cc) e

-- a reading of what is the same
pub same_reading : (s other : Outline) (text copy : List ℕ) (out : Result Cond (List ℕ)) → s ≡ other → text ≡ copy → Reads s text out → Reads other copy out
same_reading s other text copy out e f r =
    subst (λ (x : List ℕ). Reads other x out) f (subst (λ (o : Outline). Reads o text out) e r)
