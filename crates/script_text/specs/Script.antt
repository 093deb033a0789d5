-- What a script says: the sessions that it declares with the statements that they ask, or its first bad line.
use Rattle.std.specs.Prelude.{◌≡◌, ℕ, ◌+◌, ◌-◌, ◌||◌, ◌==◌, nat_le, position, map, List, [], ◌∷◌, ◌++◌, length, take, Bool, Option, Some, None, is_some, option_map, option_and_then, Result, Ok, Err, if◌then◌else◌}
use Rattle.std.specs.List.{slice_split, count_by}
use Rattle.std.specs.Str.{bytes_eq}
use Rattle.aq_base.specs.declared.DbId.{DbId}
use Rattle.aq_base.specs.declared.limits.TheConstants.{INPUT_LIMIT, SESSION_LIMIT, STATEMENT_LIMIT}
use Rattle.queue_rows.specs.Rows.{changed_nth}
use Rattle.queue_rows.specs.Within.{statement_count}
use Rattle.queue_rows.specs.declared.statement.Statement.{Statement}
use Rattle.queue_rows.specs.declared.history.SessionScript.{SessionScript}
use Rattle.script_text.specs.declared.fault.ScriptFault.{ScriptFault}
use Rattle.script_text.specs.declared.fault.ScriptFault.TheVariants as faults
use Rattle.script_text.specs.declared.line.Line.{Line}
use Rattle.script_text.specs.declared.line.Line.TheVariants as lines
use Rattle.script_text.specs.Line.{line_of}

-- ---- the sessions so far

-- sessions are numbered in the order in which they are declared
abbrev pub number_of : List ℕ → List SessionScript → Option ℕ
number_of name sessions = position (bytes_eq name) (map (λ s. s.name) sessions)

abbrev pub new_session : List ℕ → DbId → SessionScript
new_session name at = record { name = name; at = at; statements = [] }

-- a session of another name goes last, where one more may be declared
abbrev pub with_session : List ℕ → DbId → List SessionScript → Option (List SessionScript)
with_session name at sessions = if nat_le SESSION_LIMIT (length sessions) || is_some (number_of name sessions)
    then None
    else Some (sessions ++ new_session name at ∷ [])

-- a session, with one more statement
abbrev pub with_statement : Statement → SessionScript → SessionScript
with_statement statement s = record s { statements = s.statements ++ statement ∷ [] }

abbrev pub with_statement_at : Statement → List SessionScript → ℕ → List SessionScript
with_statement_at statement sessions at = changed_nth (with_statement statement) at sessions

-- a session that was declared asks one more statement, where the script may have one more
abbrev pub with_statement_of : List ℕ → Statement → List SessionScript → Option (List SessionScript)
with_statement_of name statement sessions = if nat_le STATEMENT_LIMIT (statement_count sessions)
    then None
    else option_map (with_statement_at statement sessions) (number_of name sessions)

-- ---- line by line

-- what a line makes of the sessions so far
abbrev pub with_line : List SessionScript → Line → Option (List SessionScript)
with_line sessions lines.Blank = Some sessions
with_line sessions (lines.Declared name at) = with_session name at sessions
with_line sessions (lines.Asked session statement) = with_statement_of session statement sessions

abbrev pub or_bad : {A : Type 0} → ℕ → Option A → Result A ℕ
or_bad number None = Err number
or_bad number (Some a) = Ok a

abbrev pub then_on : {A B : Type 0} → Result A ℕ → (A → Result B ℕ) → Result B ℕ
then_on (Ok a) f = f a
then_on (Err n) f = Err n

-- with the line that the bytes are, where they are one
abbrev pub with_bytes : List SessionScript → List ℕ → Option (List SessionScript)
with_bytes sessions line = option_and_then (with_line sessions) (line_of line)

-- what lines make of the sessions so far, or the number of the first bad one
unfoldable pub with_lines : ℕ → List SessionScript → List (List ℕ) → Result (List SessionScript) ℕ
with_lines number sessions [] = Ok sessions
with_lines number sessions (line ∷ more) =
    then_on (or_bad number (with_bytes sessions line)) (λ next. with_lines (number + 1) next more)

abbrev pub is_line_feed : ℕ → Bool
is_line_feed byte = byte == 10

-- a text, cut at its line feeds
abbrev pub lines_of : List ℕ → List (List ℕ)
lines_of bytes = slice_split is_line_feed bytes

abbrev pub line_feeds : List ℕ → ℕ
line_feeds bytes = count_by is_line_feed bytes

-- ---- the script

-- the lines of a text but the last one
abbrev pub lines_before_last : List ℕ → List (List ℕ)
lines_before_last bytes = take (length (lines_of bytes) - 1) (lines_of bytes)

-- past the limit of an input the line of the first byte too many is bad, where none before it is
abbrev pub past_limit : List ℕ → Result (List SessionScript) ℕ
past_limit front = then_on (with_lines 1 [] (lines_before_last front)) (λ sessions. Err (1 + line_feeds front))

-- the sessions in the order in which they are declared, each with its statements, or the number of the first bad line
unfoldable pub script : List ℕ → Result (List SessionScript) ℕ
script bytes = if nat_le (length bytes) INPUT_LIMIT
    then with_lines 1 [] (lines_of bytes)
    else past_limit (take INPUT_LIMIT bytes)

-- the fault is the first bad line, or memory ran out
abbrev pub IsFaultOf : {A : Type 0} → ScriptFault → Result A ℕ → Type 0
IsFaultOf (faults.Bad line) given = given ≡ Err line
IsFaultOf faults.Memory given = Unit {0}

-- no byte past the first one that is too many changes what a text says
abbrev pub NeedsOnlyTheFront : List ℕ → Type 0
NeedsOnlyTheFront bytes = script (take (INPUT_LIMIT + 1) bytes) ≡ script bytes

-- ---- what is left of a text to be read

-- of a whole text all lines, of the front of a longer one those with a line feed behind them
abbrev pub lines_in : Bool → List ℕ → List (List ℕ)
lines_in whole text = if whole then lines_of text else lines_before_last text

abbrev pub lines_left : Bool → Option (List ℕ) → List (List ℕ)
lines_left whole None = []
lines_left whole (Some text) = lines_in whole text

-- more than the number of lines that are left
abbrev pub room_of : Option (List ℕ) → ℕ
room_of None = 0
room_of (Some text) = length text + 1
