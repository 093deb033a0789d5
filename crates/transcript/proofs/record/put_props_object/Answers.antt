use Rattle.std.proofs.Common.{◌≡◌, ◌∷◌, string_bytes}
use Rattle.payload_records.specs.Props.{props_json}
use Rattle.payload_records.specs.Record.{datum_json}
use Rattle.transcript.proofs.Objects.{goes_on_member}
use Rattle.transcript.proofs.record.put_props_object.Goals as goal

pub loop-prop-preserved : goal.loop-prop-preserved
loop-prop-preserved c =
    let l = c.loop-prop in
    let p = c.in-Some.prop.now in
    let step : l.prop-iterator ≡ p ∷ c.next.new.self = c.in-Some.ensures.steps in
    goes_on_member (string_bytes l.out) (string_bytes c.put_member.new.out) _ l.later p.name (datum_json p.value) (props_json c.next.new.self)
    (rw c.as_str.ensures at c.in_ok-put_member.ensures) (rw step at l.invariant)
