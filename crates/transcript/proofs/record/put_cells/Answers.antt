use Rattle.std.proofs.Common.{◌≡◌, ◌∷◌, string_bytes}
use Rattle.transcript.proofs.Objects.{goes_on}
use Rattle.transcript.proofs.record.put_cells.Goals as goal

pub loop-field-preserved : goal.loop-field-preserved
loop-field-preserved c =
    let l = c.loop-field in
    let f = c.in-Some.field.now in
    let step : l.field-iterator ≡ f ∷ c.next.new.self = c.in-Some.ensures.steps in
    goes_on (string_bytes l.out) (string_bytes c.put_member.new.out) _ l.later f c.next.new.self l.cells c.next-datum.new.self c.next-datum.result c.next-datum.ensures.steps
    (rw c.as_str.ensures at c.in_ok-put_member.ensures) (rw step at l.invariant)
