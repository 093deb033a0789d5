use Rattle.std.proofs.Common.{◌≡◌, ◌++◌, string_bytes}
use Rattle.std.specs.List.{flat_map}
use Rattle.transcript.specs.Print.{entry_line}
use Rattle.transcript.proofs.history.print.Given as goal

abbrev pub invariant-loop-entry : goal.invariant-loop-entry
invariant-loop-entry l =
    string_bytes l.out ++ flat_map (entry_line l.history) l.entry-iterator ≡ flat_map (entry_line l.history) l.history.entries
