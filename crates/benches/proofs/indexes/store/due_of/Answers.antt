use Rattle.std.proofs.Common.{sym, ap, ◌∙◌}
use Rattle.std.proofs.lemmas.List.Elements.{All-rest}
use Rattle.due_slots.specs.Rows.{HasFewSlots}
use Rattle.benches.specs.Kept.{rows_after}
use Rattle.benches.proofs.indexes.store.due_of.Goals as goal

pub loop-message-preserved : goal.loop-message-preserved
loop-message-preserved c =
    let m = c.in-Some.message.now in
    let rest = c.next.new.self in
    let more = c.loop-message.message-iterator in
    record {
      rows = ap (λ rows. rows_after rows rest) c.in_ok-add_due.ensures ∙ sym (ap (rows_after c.loop-message.due.rows) c.in-Some.ensures.steps) ∙ c.loop-message.invariant.rows;
      few = All-rest HasFewSlots m rest more c.in-Some.ensures.steps c.loop-message.invariant.few;
    }
