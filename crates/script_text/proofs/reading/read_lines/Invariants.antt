use Rattle.std.proofs.Common.{◌≡◌, ◌≤◌, ◌+◌, [], length, option_map}
use Rattle.script_text.specs.Script.{lines_in, lines_left, room_of, with_lines}
use Rattle.script_text.proofs.reading.read_lines.Given as goal

abbrev pub invariant-loop-line : goal.invariant-loop-line
invariant-loop-line l = record {
  few : l.number + room_of (option_map (λ text. text.now) l.rest) ≤ length l.bytes + 2;
  read : with_lines l.number l.sessions (lines_left l.is_whole (option_map (λ text. text.now) l.rest)) ≡ with_lines 1 [] (lines_in l.is_whole l.bytes);
}

abbrev pub decreases-loop-line : goal.decreases-loop-line
decreases-loop-line l = room_of (option_map (λ text. text.now) l.rest)
