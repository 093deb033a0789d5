-- What one line says.
use Rattle.std.specs.Prelude.{ℕ, ◌||◌, ◌==◌, nat_le, List, length, codes, Bool, Option, Some, None, is_some, option_and_then, if◌then◌else◌}
use Rattle.std.specs.List.{list_all}
use Rattle.serde_json.specs.Data.{Data}
use Rattle.serde_json.specs.Find.{get}
use Rattle.json_frames.specs.Frame.{json_of}
use Rattle.aq_base.specs.declared.limits.TheConstants.{LINE_LIMIT}
use Rattle.script_text.specs.declared.form.Form.TheVariants.{Declaration}
use Rattle.script_text.specs.declared.line.Line.{Line}
use Rattle.script_text.specs.declared.line.Line.TheVariants as lines
use Rattle.script_text.specs.Form.{has_form}
use Rattle.script_text.specs.Member.{◌>>=◌, name_at}
use Rattle.script_text.specs.Parts.{session_at, place_at}
use Rattle.script_text.specs.Statement.{statement}

-- a space, a tab or a carriage return
abbrev pub is_blank : ℕ → Bool
is_blank byte = byte == 32 || byte == 9 || byte == 13

unfoldable pub declaration : Data → Option Line
declaration d = do
  name ← session_at d
  at ← place_at d
  Some (lines.Declared name at)

unfoldable pub asking : Data → Option Line
asking d = do
  session ← name_at (codes "s") d
  asked ← statement d
  Some (lines.Asked session asked)

-- a line with a member for a session's name declares it, and any other one has a session ask a statement
unfoldable pub line_from : Data → Option Line
line_from d = if is_some (get (codes "session") d)
    then (if has_form Declaration d then declaration d else None)
    else asking d

-- a line, without its line feed
unfoldable pub line_of : List ℕ → Option Line
line_of line = if nat_le (length line) LINE_LIMIT
    then (if list_all is_blank line then Some lines.Blank else option_and_then line_from (json_of line))
    else None
