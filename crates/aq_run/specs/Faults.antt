-- What is printed of an input that is no script, and of a disk that is damaged.
use Rattle.std.specs.Prelude.{ℕ, ◌++◌, List, codes, decimal}
use Rattle.aq_base.specs.declared.DbId.{DbId}
use Rattle.transcript.specs.Rows.{db_word}

-- of an input whose first bad line has this number
abbrev pub bad_line_text : ℕ → List ℕ
bad_line_text line = codes "bad line " ++ decimal line ++ codes "\n"

-- of a disk that is damaged at this offset
abbrev pub damaged_text : DbId → ℕ → List ℕ
damaged_text db offset = codes "damaged " ++ db_word db ++ codes " " ++ decimal offset ++ codes "\n"
