use Rattle.std.proofs.Common.{sym, ◌∙◌}
use Rattle.std.proofs.lemmas.List.Elements.{All-rest}
use Rattle.std.specs.Prelude.{option_copied}
use Rattle.queue_rows.specs.Propagating.{can_send_of}
use Rattle.remote_slots.specs.Few.{HasFewSlots}
use Rattle.remote_slots.proofs.Least.{least_goes_on, least_stays}
use Rattle.remote_slots.proofs.walk.least_by_walk.Goals as goal

pub loop-message-preserved-then-can_send_of : goal.loop-message-preserved-then-can_send_of
loop-message-preserved-then-can_send_of c =
    let test = can_send_of c.args.schedule.now c.args.moment in
    let m = c.in-Some.message.now in
    let rest = c.next.new.self in
    let more = c.loop-message.message-iterator in
    record {
      least = least_goes_on test (option_copied c.loop-message.best) m rest more c.args.messages.now c.in-Some.ensures.steps c.nearer.result.now (sym c.can_send_of.ensures ∙ c.if-can_send_of.true) c.nearer.ensures
          c.loop-message.invariant.least;
      few = All-rest HasFewSlots m rest more c.in-Some.ensures.steps c.loop-message.invariant.few;
    }

pub loop-message-preserved : goal.loop-message-preserved
loop-message-preserved c =
    let test = can_send_of c.args.schedule.now c.args.moment in
    let m = c.in-Some.message.now in
    let rest = c.next.new.self in
    let more = c.loop-message.message-iterator in
    record {
      least = least_stays test (option_copied c.loop-message.best) m rest more c.args.messages.now c.in-Some.ensures.steps (sym c.can_send_of.ensures ∙ c.if-can_send_of.false) c.loop-message.invariant.least;
      few = All-rest HasFewSlots m rest more c.in-Some.ensures.steps c.loop-message.invariant.few;
    }
