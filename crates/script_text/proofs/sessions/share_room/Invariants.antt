use Rattle.std.proofs.Common.{◌≡◌}
use Rattle.script_text.proofs.sessions.share_room.Given as goal

abbrev pub invariant-loop-at : goal.invariant-loop-at
invariant-loop-at l = l.sessions ≡ l.fn.sessions
