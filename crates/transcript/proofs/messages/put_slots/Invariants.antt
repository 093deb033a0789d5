use Rattle.std.proofs.Common.{◌≡◌, ◌+◌, ◌++◌, length, string_bytes}
use Rattle.transcript.specs.Messages.{slots_from, slot_lines}
use Rattle.transcript.proofs.messages.put_slots.Given as goal

abbrev pub invariant-loop-slot : goal.invariant-loop-slot
invariant-loop-slot l = record {
  written : string_bytes l.out ++ slots_from l.db l.message l.index l.slot-iterator ≡ string_bytes l.fn.out ++ slot_lines l.db l.message;
  counted : l.index + length l.slot-iterator ≡ length l.message.slots;
}
