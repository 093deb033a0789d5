use Rattle.std.proofs.Common.{◌≡◌, ◌++◌, string_bytes}
use Rattle.transcript.specs.Rows.{column_word, columns_text}
use Rattle.transcript.proofs.Joined.{left_text}
use Rattle.transcript.proofs.rows.put_columns.Given as goal

abbrev pub invariant-loop-column : goal.invariant-loop-column
invariant-loop-column l =
    string_bytes l.out ++ left_text l.later column_word l.column-iterator ≡ string_bytes l.fn.out ++ columns_text l.columns
