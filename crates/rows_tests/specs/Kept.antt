-- Messages that are kept under their positions.
use Rattle.std.specs.Prelude.{ℕ, ◌+◌, List, [], ◌∷◌}
use Rattle.queue_rows.specs.declared.rows.MsgRow.{MsgRow}
use Rattle.choice_laws.specs.Entries.{Entry}

-- the messages under the numbers from one on
abbrev pub numbered_from : ℕ → List MsgRow → List Entry
numbered_from n [] = []
numbered_from n (m ∷ ms) = record { stamp = n; message = m } ∷ numbered_from (n + 1) ms
