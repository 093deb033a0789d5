use Rattle.std.proofs.Common.{◌≤◌, string_bytes}
use Rattle.std.specs.List.{flat_map}
use Rattle.transcript.specs.Print.{entry_line}
use Rattle.transcript.proofs.Pieces.{IsUnderWay}
use Rattle.transcript.proofs.writing.print_to.Given as goal

abbrev pub invariant-loop-entry : goal.invariant-loop-entry
invariant-loop-entry g l = record {
  way : IsUnderWay (g.O.Sink.taken l.fn.out) (g.O.Sink.taken l.out) (string_bytes l.text) (flat_map (entry_line l.history) l.entry-iterator) (flat_map (entry_line l.history) l.history.entries);
  later : g.O.Sink.faults l.fn.out ≤ g.O.Sink.faults l.out;
}
