use Rattle.std.proofs.Common.{◌≡◌, ◌++◌, string_bytes}
use Rattle.serde_json.specs.Written.{members_text}
use Rattle.payload_records.specs.Props.{props_json}
use Rattle.transcript.specs.Record.{props_object}
use Rattle.transcript.proofs.record.put_props_object.Given as goal

abbrev pub invariant-loop-prop : goal.invariant-loop-prop
invariant-loop-prop l =
    string_bytes l.out ++ members_text l.later (props_json l.prop-iterator) ≡ string_bytes l.fn.out ++ props_object l.props
