-- The nearest of what was found and of the remaining messages that pass is the nearest of all that pass.
use Rattle.std.proofs.Common.{◌≡◌, All}
use Rattle.std.specs.Prelude.{fold, filter, option_copied, IfSome}
use Rattle.queue_rows.specs.Dequeueing.{nearer, least}
use Rattle.message_choice.specs.Asking.{IsSoundFor, look_of}
use Rattle.message_choice.specs.Wanted.{HasSlotFor, message_of, passes_behind}
use Rattle.message_choice.proofs.walk.nearest_of.Given as goal

abbrev pub invariant-loop-message : goal.invariant-loop-message
invariant-loop-message l =
    let look = look_of l.asking in
    let test = passes_behind look l.filter (option_copied l.after) in
    record {
      nearest : fold nearer (message_of l.best) (filter test l.message-iterator) ≡ least (filter test l.messages);
      slot : IfSome l.best (λ hit. HasSlotFor look hit.message.now hit.slot);
      sound : All (IsSoundFor l.asking) l.message-iterator;
    }
