use Rattle.std.proofs.Common.{◌≡◌, ◌≤◌, ◌-◌, length, not, filter}
use Rattle.std.specs.Str.{bytes_eq}
use Rattle.message_index.proofs.OthersLemmas.{walked}
use Rattle.message_index.proofs.open_messages.OpenMessages.remove_of_queue.Given as goal

abbrev pub invariant-loop-goes : goal.invariant-loop-goes
invariant-loop-goes l = record {
  within : l.at ≤ length l.self.items;
  room : l.self.room ≡ l.fn.self.room;
  left : walked (λ m. bytes_eq m.queue l.queue) l.at l.self.items ≡ filter (λ m. not (bytes_eq m.queue l.queue)) l.fn.self.items;
}

abbrev pub decreases-loop-goes : goal.decreases-loop-goes
decreases-loop-goes l = length l.self.items - l.at
