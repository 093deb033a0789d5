use Rattle.std.proofs.Common.{◌≡◌, All}
use Rattle.std.specs.Prelude.{fold, filter, option_copied}
use Rattle.queue_rows.specs.Dequeueing.{nearer, least}
use Rattle.queue_rows.specs.Propagating.{can_send_of}
use Rattle.remote_slots.specs.Few.{HasFewSlots}
use Rattle.remote_slots.proofs.walk.least_by_walk.Given as goal

abbrev pub invariant-loop-message : goal.invariant-loop-message
invariant-loop-message l =
    let can_send = can_send_of l.schedule l.moment in
    record {
      least : fold nearer (option_copied l.best) (filter can_send l.message-iterator) ≡ least (filter can_send l.messages);
      few : All HasFewSlots l.message-iterator;
    }
