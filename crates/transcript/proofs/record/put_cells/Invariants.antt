use Rattle.std.proofs.Common.{◌≡◌, ◌++◌, string_bytes}
use Rattle.serde_json.specs.Written.{members_text}
use Rattle.payload_records.specs.Record.{members_json}
use Rattle.transcript.specs.Record.{cells_text}
use Rattle.transcript.proofs.record.put_cells.Given as goal

abbrev pub invariant-loop-field : goal.invariant-loop-field
invariant-loop-field l =
    string_bytes l.out ++ members_text l.later (members_json l.field-iterator l.cells) ≡ string_bytes l.fn.out ++ cells_text l.kind l.values.cells
