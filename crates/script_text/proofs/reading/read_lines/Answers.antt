use Rattle.std.proofs.Common.{arith, sym, ap, ◌∙◌}
use Rattle.std.specs.Prelude.{Err}
use Rattle.script_text.specs.Script.{with_lines}
use Rattle.script_text.proofs.Steps.{with_lines_bad, with_lines_on, with_lines_end}
use Rattle.script_text.proofs.reading.read_lines.Goals as goal

pub returns-in-Err-Bad-clause-bad : goal.returns-in-Err-Bad-clause-bad
returns-in-Err-Bad-clause-bad c =
    sym c.loop-line.invariant.read ∙ with_lines_bad c.loop-line.number c.loop-line.sessions _ _ _ c.in-Some.ensures.some (c.in-Err-Bad.ensures.bad (ap Err c.in-Err-Bad.field-0-is))

pub loop-line-preserved : goal.loop-line-preserved
loop-line-preserved c = record {
  few = omega (arith, c.in-Some.ensures.shorter, c.loop-line.invariant.few);
  read = sym (with_lines_on c.loop-line.number c.loop-line.sessions c.add_line.new.self _ _ _ c.in-Some.ensures.some c.in-Ok.ensures.ok) ∙ c.loop-line.invariant.read;
}

pub returns-clause-ok : goal.returns-clause-ok
returns-clause-ok c =
    sym c.loop-line.invariant.read ∙ ap (with_lines c.loop-line.number c.loop-line.sessions) c.in_default.ensures.none ∙ with_lines_end c.loop-line.number c.loop-line.sessions
