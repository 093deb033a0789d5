use Rattle.std.proofs.Common.{◌≡◌, ◌++◌, string_bytes}
use Rattle.serde_json.specs.Written.{members_text}
use Rattle.transcript.specs.Record.{fields_json, fields_text}
use Rattle.transcript.proofs.record.put_fields.Given as goal

abbrev pub invariant-loop-field : goal.invariant-loop-field
invariant-loop-field l =
    string_bytes l.out ++ members_text l.later (fields_json l.field-iterator) ≡ string_bytes l.fn.out ++ fields_text l.kind
