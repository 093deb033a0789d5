use Rattle.std.proofs.Common.{◌≡◌, ◌++◌, string_bytes}
use Rattle.std.specs.List.{flat_map}
use Rattle.transcript.specs.Messages.{message_lines}
use Rattle.transcript.proofs.dump.put_messages.Given as goal

abbrev pub invariant-loop-message : goal.invariant-loop-message
invariant-loop-message l =
    string_bytes l.out ++ flat_map (message_lines l.db l.tables) l.message-iterator
    ≡ string_bytes l.fn.out ++ flat_map (message_lines l.db l.tables) l.tables.messages
