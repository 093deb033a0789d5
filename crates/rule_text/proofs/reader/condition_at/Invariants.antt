-- What reading what is left gives, reading the whole gives.
use Rattle.std.proofs.Common.{ℕ, List, Result, length}
use Rattle.std.specs.Str.{IsUtf8}
use Rattle.rule_conditions.specs.declared.condition.Cond.{Cond}
use Rattle.rule_conditions.specs.Lexing.{behind_space}
use Rattle.rule_text.specs.Outline.{start}
use Rattle.rule_text.specs.Reading.{Reads}
use Rattle.rule_text.proofs.reader.condition_at.Given as goal

abbrev pub invariant-tokens : goal.invariant-tokens
invariant-tokens l = record {
  utf8 : IsUtf8 l.rest;
  same : (out : Result Cond (List ℕ)) → Reads l.outline l.rest out → Reads start (behind_space l.fn.text) out;
}

abbrev pub decreases-tokens : goal.decreases-tokens
decreases-tokens l = length l.rest
