-- One line more of a script.
use Rattle.std.proofs.Common.{◌≡◌, ℕ, ◌+◌, List, [], ◌∷◌, Some, None, refl, ap, ◌∙◌, option_and_then}
use Rattle.std.specs.Prelude.{Ok, Err}
use Rattle.queue_rows.specs.declared.history.SessionScript.{SessionScript}
use Rattle.script_text.specs.Line.{line_of}
use Rattle.script_text.specs.Script.{with_line, with_lines}

pub with_lines_bad : (n : ℕ) (ss : List SessionScript) (lines : List (List ℕ)) (line : List ℕ) (more : List (List ℕ)) → lines ≡ line ∷ more → option_and_then (with_line ss) (line_of line) ≡ None → with_lines n ss lines ≡ Err n
unfolding with_lines
with_lines_bad n ss lines line more cut e = ap (with_lines n ss) cut ∙ rw e refl

pub with_lines_on : (n : ℕ) (ss new : List SessionScript) (lines : List (List ℕ)) (line : List ℕ) (more : List (List ℕ)) → lines ≡ line ∷ more → option_and_then (with_line ss) (line_of line) ≡ Some new → with_lines n ss lines ≡ with_lines (n + 1) new more
unfolding with_lines
with_lines_on n ss new lines line more cut e = ap (with_lines n ss) cut ∙ rw e refl

pub with_lines_end : (n : ℕ) (ss : List SessionScript) → with_lines n ss [] ≡ Ok ss
unfolding with_lines
with_lines_end n ss = refl
