-- What a value says as a session's place, a queue's kind, a sort list, an id, a recipient, an agent or properties.
use Rattle.std.specs.Prelude.{ℕ, ◌&&◌, ◌==◌, ◌∷◌, nat_le, List, [], codes, Bool, true, false, not, Option, Some, None, is_some, option_map, option_and_then, if◌then◌else◌}
use Rattle.std.specs.Char.{is_ascii_digit}
use Rattle.std.specs.List.{list_all, list_any}
use Rattle.std.specs.Str.{bytes_eq}
use Rattle.std.specs.Str.Parse.{digits_value}
use Rattle.serde_json.specs.Data.{Data}
use Rattle.serde_json.specs.Find.{get, as_str, as_array}
use Rattle.aq_base.specs.declared.DbId.{DbId}
use Rattle.aq_base.specs.declared.DbId.TheVariants.{Home, Away}
use Rattle.aq_base.specs.declared.limits.TheConstants.{ID_LIMIT, RECIPIENT_LIMIT, AGENT_LIMIT}
use Rattle.payload_records.specs.Kind.{record_type}
use Rattle.payload_records.specs.Payload.{payload_of}
use Rattle.payload_records.specs.Props.{properties}
use Rattle.payload_records.specs.declared.kind.Field.{Field}
use Rattle.payload_records.specs.declared.payload.Payload.{Payload}
use Rattle.payload_records.specs.declared.props.Prop.{Prop}
use Rattle.place_keys.specs.declared.sort_list.Column.{Column}
use Rattle.place_keys.specs.declared.sort_list.Column.TheVariants as columns
use Rattle.queue_rows.specs.Within.{reserved}
use Rattle.queue_rows.specs.declared.rows.QueueKind.{QueueKind}
use Rattle.queue_rows.specs.declared.rows.QueueKind.TheVariants as kinds
use Rattle.queue_rows.specs.declared.statement.MsgId.{MsgId}
use Rattle.queue_rows.specs.declared.statement.Recipient.{Recipient}
use Rattle.queue_rows.specs.declared.statement.Listener.{Listener}
use Rattle.queue_rows.specs.declared.statement.Mode.{Mode}
use Rattle.queue_rows.specs.declared.statement.Mode.TheVariants as modes
use Rattle.queue_rows.specs.declared.statement.Navigation.{Navigation}
use Rattle.queue_rows.specs.declared.statement.Navigation.TheVariants as navigations
use Rattle.queue_rows.specs.declared.statement.Visibility.{Visibility}
use Rattle.queue_rows.specs.declared.statement.Visibility.TheVariants.{OnCommit, Immediate}
use Rattle.script_text.specs.declared.form.Form.TheVariants as forms
use Rattle.script_text.specs.Form.{has_form}
use Rattle.script_text.specs.Member.{◌>>=◌, text_at, given_at, or_default, if_given, each_item, list_between, name_in, name_at, name_if_given}

-- ---- declarations

-- transcripts say what was done on the side under these names
abbrev pub is_reserved : List ℕ → Bool
is_reserved name = list_any (bytes_eq name) reserved

abbrev pub as_session : List ℕ → Option (List ℕ)
as_session name = if is_reserved name then None else Some name

abbrev pub session_at : Data → Option (List ℕ)
session_at d = option_and_then as_session (name_at (codes "session") d)

abbrev pub place_of : List ℕ → Option DbId
place_of text = if bytes_eq text (codes "home") then Some Home
    else (if bytes_eq text (codes "away") then Some Away else None)

abbrev pub place_at : Data → Option DbId
place_at d = option_and_then place_of (text_at (codes "at") d)

-- ---- tables and queues

abbrev pub fields_at : Data → Option (List Field)
fields_at d = option_and_then record_type (get (codes "fields") d)

abbrev pub column_of : List ℕ → Option Column
column_of text = if bytes_eq text (codes "priority") then Some columns.Priority
    else (if bytes_eq text (codes "enq_time") then Some columns.EnqTime
    else (if bytes_eq text (codes "commit_time") then Some columns.CommitTime else None))

abbrev pub column_in : Data → Option Column
column_in d = option_and_then column_of (as_str d)

abbrev pub is_same_column : Column → Column → Bool
is_same_column columns.Priority columns.Priority = true
is_same_column columns.EnqTime columns.EnqTime = true
is_same_column columns.CommitTime columns.CommitTime = true
is_same_column _ _ = false

-- one column, or two different ones
abbrev pub as_sort_list : List Column → Option (List Column)
as_sort_list [] = None
as_sort_list (only ∷ []) = Some (only ∷ [])
as_sort_list (first ∷ second ∷ []) = if is_same_column first second then None else Some (first ∷ second ∷ [])
as_sort_list (first ∷ second ∷ third ∷ more) = None

abbrev pub sort_in : Data → Option (List Column)
sort_in d = option_and_then as_sort_list (option_and_then (each_item column_in) (as_array d))

-- by the moment of the enqueue, where nothing is said
abbrev pub sort_at : Data → Option (List Column)
sort_at d = or_default (columns.EnqTime ∷ []) sort_in (given_at (codes "sort") d)

-- whether the messages of one commit stand together
abbrev pub grouping_of : List ℕ → Option Bool
grouping_of text = if bytes_eq text (codes "none") then Some false
    else (if bytes_eq text (codes "transactional") then Some true else None)

abbrev pub grouping_in : Data → Option Bool
grouping_in d = option_and_then grouping_of (as_str d)

abbrev pub grouping_at : Data → Option Bool
grouping_at d = or_default false grouping_in (given_at (codes "grouping") d)

abbrev pub kind_of : List ℕ → Option QueueKind
kind_of text = if bytes_eq text (codes "normal") then Some kinds.Normal
    else (if bytes_eq text (codes "exception") then Some kinds.Exception else None)

abbrev pub kind_in : Data → Option QueueKind
kind_in d = option_and_then kind_of (as_str d)

abbrev pub kind_at : Data → Option QueueKind
kind_at d = or_default kinds.Normal kind_in (given_at (codes "kind") d)

-- ---- ids

-- digits, of which the first is no 0
abbrev pub is_counting : List ℕ → Bool
is_counting [] = false
is_counting (first ∷ rest) = not (first == 48) && list_all is_ascii_digit (first ∷ rest)

abbrev pub id_number : List ℕ → Option ℕ
id_number text =
    if is_counting text && nat_le (digits_value 10 text) ID_LIMIT then Some (digits_value 10 text) else None

abbrev pub id_of : DbId → List ℕ → Option MsgId
id_of db text = option_map (λ number. record { db = db; number = number }) (id_number text)

-- 104 is the letter h, and 97 the letter a
abbrev pub id_of_text : List ℕ → Option MsgId
id_of_text [] = None
id_of_text (letter ∷ rest) = if letter == 104 then id_of Home rest
    else (if letter == 97 then id_of Away rest else None)

abbrev pub id_in : Data → Option MsgId
id_in d = option_and_then id_of_text (as_str d)

abbrev pub id_if_given : List ℕ → Data → Option (Option MsgId)
id_if_given key d = if_given id_in (given_at key d)

-- ---- messages

-- any value at all, null too
abbrev pub payload_at : Data → Option Payload
payload_at d = option_map payload_of (get (codes "payload") d)

-- no properties, where nothing is said
abbrev pub props_at : Data → Option (List Prop)
props_at d = or_default [] properties (given_at (codes "props") d)

abbrev pub visibility_of : List ℕ → Option Visibility
visibility_of text = if bytes_eq text (codes "on_commit") then Some OnCommit
    else (if bytes_eq text (codes "immediate") then Some Immediate else None)

abbrev pub visibility_in : Data → Option Visibility
visibility_in d = option_and_then visibility_of (as_str d)

abbrev pub visibility_at : Data → Option Visibility
visibility_at d = or_default OnCommit visibility_in (given_at (codes "visibility") d)

abbrev pub mode_of : List ℕ → Option Mode
mode_of text = if bytes_eq text (codes "remove") then Some modes.Remove
    else (if bytes_eq text (codes "browse") then Some modes.Browse
    else (if bytes_eq text (codes "locked") then Some modes.Locked
    else (if bytes_eq text (codes "remove_nodata") then Some modes.RemoveNodata else None)))

abbrev pub mode_in : Data → Option Mode
mode_in d = option_and_then mode_of (as_str d)

abbrev pub mode_at : Data → Option Mode
mode_at d = or_default modes.Remove mode_in (given_at (codes "mode") d)

abbrev pub navigation_of : List ℕ → Option Navigation
navigation_of text = if bytes_eq text (codes "next") then Some navigations.Next
    else (if bytes_eq text (codes "first") then Some navigations.First
    else (if bytes_eq text (codes "next_transaction") then Some navigations.NextTransaction else None))

abbrev pub navigation_in : Data → Option Navigation
navigation_in d = option_and_then navigation_of (as_str d)

abbrev pub navigation_at : Data → Option Navigation
navigation_at d = or_default navigations.Next navigation_in (given_at (codes "navigation") d)

-- ---- recipients and agents

abbrev pub new_recipient : List ℕ → Option (List ℕ) → Recipient
new_recipient name address = record { name = name; address = address }

abbrev pub recipient_of : Data → Option Recipient
recipient_of d = do
  name ← name_at (codes "name") d
  address ← name_if_given (codes "address") d
  Some (new_recipient name address)

-- an object with a name, and with an address where it has one
abbrev pub addressed_recipient : Data → Option Recipient
addressed_recipient d = if has_form forms.Recipient d then recipient_of d else None

-- a name alone, or with an address
abbrev pub recipient_in : Data → Option Recipient
recipient_in d = if is_some (as_str d)
    then option_map (λ name. new_recipient name None) (name_in d)
    else addressed_recipient d

abbrev pub recipients_in : Data → Option (List Recipient)
recipients_in d = option_and_then (each_item recipient_in) (list_between 0 RECIPIENT_LIMIT d)

abbrev pub recipients_at : Data → Option (Option (List Recipient))
recipients_at d = if_given recipients_in (given_at (codes "recipients") d)

abbrev pub agent_of : Data → Option Listener
agent_of d = do
  queue ← name_at (codes "queue") d
  consumer ← name_if_given (codes "consumer") d
  Some (record { queue = queue; consumer = consumer })

abbrev pub agent_in : Data → Option Listener
agent_in d = if has_form forms.Agent d then agent_of d else None

-- at least one
abbrev pub agents_in : Data → Option (List Listener)
agents_in d = option_and_then (each_item agent_in) (list_between 1 AGENT_LIMIT d)

abbrev pub agents_at : Data → Option (List Listener)
agents_at d = option_and_then agents_in (get (codes "agents") d)
