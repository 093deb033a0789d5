use Rattle.std.proofs.Common.{◌≡◌, ◌∷◌, string_bytes}
use Rattle.serde_json.specs.Data.{string}
use Rattle.transcript.specs.Record.{kind_word, fields_json}
use Rattle.transcript.proofs.Objects.{goes_on_member}
use Rattle.transcript.proofs.record.put_fields.Goals as goal

pub loop-field-preserved : goal.loop-field-preserved
loop-field-preserved c =
    let l = c.loop-field in
    let f = c.in-Some.field.now in
    let step : l.field-iterator ≡ f ∷ c.next.new.self = c.in-Some.ensures.steps in
    goes_on_member (string_bytes l.out) (string_bytes c.put_field.new.out) _ l.later f.name (string (kind_word f.kind)) (fields_json c.next.new.self)
    c.in_ok-put_field.ensures (rw step at l.invariant)
