-- What reading a text gives: a condition, or what is left where no condition goes on.
use Rattle.std.specs.Prelude.{◌≡◌, ◌≢◌, ◌⊎◌, ℕ, List, [], Some, None, Result, Ok, Err, IsTrue}
use Rattle.rule_conditions.specs.Tokens as grammar
use Rattle.rule_conditions.specs.Grammar.{IsTextOf, EndsAt}
use Rattle.rule_conditions.specs.Reading.{condition_of}
use Rattle.rule_conditions.specs.declared.condition.Cond.{Cond}
use Rattle.rule_conditions.specs.Lexing.{behind_space}
use Rattle.rule_conditions.specs.Print.{print}
use Rattle.rule_text.specs.Lexing.{token_at}
use Rattle.rule_text.specs.Outline.{step, finish}
use Rattle.rule_text.specs.PrintReadable.{is_readable}
use Rattle.rule_text.specs.declared.outline.Outline.{Outline}
use Rattle.rule_text.specs.declared.fault.ReadFault.{ReadFault}
use Rattle.rule_text.specs.declared.fault.ReadFault.TheVariants as faults
use Rattle.rule_text.specs.declared.stop.Stop.{Stop}
use Rattle.rule_text.specs.declared.stop.Stop.TheVariants as stops

-- Reading goes on token by token from the outline of what was read; what is read is left without the
-- space at its front.
pub data Reads : Outline → List ℕ → Result Cond (List ℕ) → Type 0 where
  Ends : (s : Outline) (condition : Cond) → finish s ≡ Some condition → Reads s [] (Ok condition)
  Short : (s : Outline) → finish s ≡ None → Reads s [] (Err [])
  Steps : (s next : Outline) (text rest : List ℕ) (token : grammar.Token) (out : Result Cond (List ℕ)) →
      token_at s text ≡ Ok (token, rest) → step s token ≡ Some next → Reads next (behind_space rest) out → Reads s text out
  Fails : (s : Outline) (text rest : List ℕ) → text ≢ [] → token_at s text ≡ Err rest → Reads s text (Err rest)

-- what reading stops with, unless memory runs out
abbrev pub StopsWith : Stop → (Result Cond (List ℕ) → Type 0) → Type 0
StopsWith (stops.At rest) Gives = Gives (Err rest.now)
StopsWith stops.Memory Gives = Unit {0}

-- the condition is read, or memory runs out
abbrev pub IsReadAs : Result Cond ReadFault → Cond → Type 0
IsReadAs result condition = (result ≡ Ok condition) ⊎ (result ≡ Err faults.Memory)

-- the text, where it is the print of a readable condition, is read as that
abbrev pub ReadsPrints : List ℕ → Result Cond ReadFault → Type 0
ReadsPrints text result = (condition : Cond) → IsTrue (is_readable condition) → text ≡ print condition → IsReadAs result condition

-- reading it, as it is computed, stops there
abbrev pub TellsStop : ReadFault → List ℕ → Type 0
TellsStop (faults.Bad at) text = condition_of text ≡ Err at
TellsStop faults.Memory text = Unit {0}

-- The text is that of no condition, and so many of its first bytes begin one, and no more do.
abbrev pub FaultTells : ReadFault → List ℕ → Type 0
FaultTells (faults.Bad at) text = ((condition : Cond) → IsTextOf text condition → ⊥) × EndsAt text at
FaultTells faults.Memory text = Unit {0}
