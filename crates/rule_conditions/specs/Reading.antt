-- The condition of which a text is one, computed.
use Rattle.std.specs.Prelude.{ℕ, zero, suc, ◌-◌, List, [], ◌∷◌, length, Option, Some, None, Result, Ok, Err}
use Rattle.rule_conditions.specs.Tokens.{Token}
use Rattle.rule_conditions.specs.Outline.{Outline, start, step, finish}
use Rattle.rule_conditions.specs.Lexing.{Piece, behind_space, token_at}
use Rattle.rule_conditions.specs.declared.condition.Cond.{Cond}

-- at the end of the text it is the condition, where it may end there
abbrev pub ended : Option Cond → Result Cond (List ℕ)
ended None = Err []
ended (Some condition) = Ok condition

abbrev pub behind_token : (Outline → List ℕ → Result Cond (List ℕ)) → Option Outline → List ℕ → Result Cond (List ℕ)
behind_token go_on None rest = Err rest
behind_token go_on (Some s) rest = go_on s (behind_space rest)

abbrev pub behind_piece : (Outline → List ℕ → Result Cond (List ℕ)) → Outline → Piece Token → Result Cond (List ℕ)
behind_piece go_on s (Err rest) = Err rest
behind_piece go_on s (Ok x) = behind_token go_on (step s x.0) x.1

-- Reading goes on from what was read, token by token, in so many tokens at most; what is left has no space at its front. It
-- gives the condition, or what is left where none goes on.
abbrev pub read_on : ℕ → Outline → List ℕ → Result Cond (List ℕ)
read_on tokens s [] = ended (finish s)
read_on zero s (b ∷ rest) = Err (b ∷ rest)
read_on (suc tokens) s (b ∷ rest) = behind_piece (read_on tokens) s (token_at s (b ∷ rest))

-- a text has no more tokens than bytes
abbrev pub read_all : List ℕ → Result Cond (List ℕ)
read_all text = read_on (length text) start (behind_space text)

abbrev pub told_at : ℕ → Result Cond (List ℕ) → Result Cond ℕ
told_at bytes (Ok condition) = Ok condition
told_at bytes (Err rest) = Err (bytes - length rest)

-- the condition of a text of the grammar; of any other text the length of its longest front that begins one
unfoldable pub condition_of : List ℕ → Result Cond ℕ
condition_of text = told_at (length text) (read_all text)
