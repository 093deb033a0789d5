-- Lines that ask the same enqueue but for its payload.
use Rattle.std.specs.Prelude.{◌≡◌, ◌≤◌, ◌++◌, ℕ, List, length, Bool, true, false, Option, Some, option_map, unwrap_or}
use Rattle.aq_base.specs.declared.limits.TheConstants.{LINE_LIMIT}
use Rattle.json_frames.specs.Frame.{is_flat, json_of}
use Rattle.payload_records.specs.Name.{is_name}
use Rattle.payload_records.specs.Payload.{payload_of}
use Rattle.payload_records.specs.declared.payload.Payload.{Payload}
use Rattle.queue_rows.specs.declared.statement.Visibility.{Visibility}
use Rattle.queue_rows.specs.declared.statement.Statement.TheVariants as statements
use Rattle.serde_json.specs.Data.{Data, Members, no_members, member}
use Rattle.serde_json.specs.Find.{as_object}
use Rattle.script_text.specs.declared.alike.EarlierEnqueue.{EarlierEnqueue}
use Rattle.script_text.specs.declared.line.Line.TheVariants as lines
use Rattle.script_text.specs.Line.{line_of}
use Rattle.script_text.specs.Plain.{plain_line, plain_ask}

abbrev pub has_none : Members → Bool
has_none no_members = true
has_none (member key d rest) = false

abbrev pub is_empty_object : Data → Bool
is_empty_object d = unwrap_or (option_map has_none (as_object d)) false

-- a line enqueues with a payload of some member and says nothing that is mostly left out
pub record IsPlainLine (line : List ℕ) : Type 0 where
  pub payload : Data
  pub queue : Data
  pub session : Data
  pub visibility : Option Data
  pub said : json_of line ≡ Some (plain_line payload queue session visibility)
  pub some : is_empty_object payload ≡ false

-- whichever flat object stands between the two texts, the session asks the enqueue with it as its payload
unfoldable pub IsAlike : List ℕ → List ℕ → List ℕ → List ℕ → Visibility → Type 0
IsAlike front back session queue visibility =
    (inner : List ℕ) (payload : Payload) → is_flat inner ≡ true → option_map payload_of (json_of inner) ≡ Some payload
    → length (front ++ (inner ++ back)) ≤ LINE_LIMIT
    → line_of (front ++ (inner ++ back)) ≡ Some (lines.Asked session (statements.Enqueue (plain_ask queue payload visibility)))

-- the lines that are the same as it but for the payload ask its enqueue with theirs
pub record IsEarlierEnqueue (e : EarlierEnqueue) : Type 0 where
  pub alike : IsAlike e.frame.0 e.frame.1 e.session e.queue e.visibility
  pub named : is_name e.queue ≡ true
