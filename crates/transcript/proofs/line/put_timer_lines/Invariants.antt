use Rattle.std.proofs.Common.{◌≡◌, ◌++◌, string_bytes}
use Rattle.transcript.specs.Line.{timer_lines}
use Rattle.transcript.proofs.line.put_timer_lines.Given as goal

abbrev pub invariant-loop-change : goal.invariant-loop-change
invariant-loop-change l =
    string_bytes l.out ++ timer_lines l.db l.change-iterator ≡ string_bytes l.fn.out ++ timer_lines l.db l.changes
