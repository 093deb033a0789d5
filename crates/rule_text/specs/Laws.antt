-- What always holds of texts of conditions.
use Rattle.std.specs.Prelude.{◌≡◌, ℕ, List}
use Rattle.rule_conditions.specs.Grammar.{IsTextOf}
use Rattle.rule_conditions.specs.Print.{print}
use Rattle.rule_conditions.specs.declared.condition.Cond.{Cond}

-- where a condition has a text, its print is one too
abbrev pub PrintIsText : Type 0
PrintIsText = (text : List ℕ) (condition : Cond) → IsTextOf text condition → IsTextOf (print condition) condition

-- a text is that of one condition at most
abbrev pub HasOneCondition : Type 0
HasOneCondition = (text : List ℕ) (condition other : Cond)
    → IsTextOf text condition → IsTextOf text other → condition ≡ other
