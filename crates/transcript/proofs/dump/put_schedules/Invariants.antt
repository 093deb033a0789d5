use Rattle.std.proofs.Common.{◌≡◌, ◌++◌, string_bytes}
use Rattle.std.specs.List.{flat_map}
use Rattle.transcript.specs.Rows.{schedule_line}
use Rattle.transcript.proofs.dump.put_schedules.Given as goal

abbrev pub invariant-loop-row : goal.invariant-loop-row
invariant-loop-row l = string_bytes l.out ++ flat_map schedule_line l.row-iterator ≡ string_bytes l.fn.out ++ flat_map schedule_line l.rows
