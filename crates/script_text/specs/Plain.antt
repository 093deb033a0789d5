-- A line that enqueues and says nothing that is mostly left out.
use Rattle.std.specs.Prelude.{ℕ, List, pos, [], codes, false, Option, Some, None, is_some, option_map, option_and_then, if◌then◌else◌}
use Rattle.serde_json.specs.Data.{Data, string, object, Members, no_members, member}
use Rattle.serde_json.specs.Find.{as_null}
use Rattle.payload_records.specs.Payload.{payload_of}
use Rattle.payload_records.specs.declared.payload.Payload.{Payload}
use Rattle.queue_rows.specs.declared.statement.Enqueue.{Enqueue}
use Rattle.queue_rows.specs.declared.statement.Visibility.{Visibility}
use Rattle.queue_rows.specs.declared.statement.Visibility.TheVariants.{OnCommit}
use Rattle.queue_rows.specs.declared.statement.Statement.TheVariants as statements
use Rattle.script_text.specs.declared.line.Line.{Line}
use Rattle.script_text.specs.declared.line.Line.TheVariants as lines
use Rattle.script_text.specs.Member.{◌>>=◌, or_default, name_in}
use Rattle.script_text.specs.Parts.{visibility_in}

abbrev pub visibility_member : Option Data → Members
visibility_member None = no_members
visibility_member (Some d) = member (codes "visibility") d no_members

-- its members, in the order of their keys
abbrev pub plain_line : Data → Data → Data → Option Data → Data
plain_line payload queue session visibility =
    object (member (codes "do") (string (codes "enqueue"))
    (member (codes "payload") payload
    (member (codes "queue") queue (member (codes "s") session (visibility_member visibility)))))

-- what a visibility says that may be left out or null
abbrev pub visibility_given : Option Data → Option Visibility
visibility_given said =
    or_default OnCommit visibility_in
    (option_and_then (λ m. if is_some (as_null m) then None else Some m) said)

-- an enqueue of which nothing else is said
abbrev pub plain_ask : List ℕ → Payload → Visibility → Enqueue
plain_ask queue payload visibility = record {
  queue = queue;
  payload = payload;
  visibility = visibility;
  priority = pos 1;
  delay = 0;
  expiration = None;
  corr = None;
  recipients = None;
  exception_queue = None;
  before = None;
  top = false;
  props = [];
}

-- what it asks
unfoldable pub plain_enqueue : Data → Data → Option Data → Option Enqueue
plain_enqueue payload queue visibility = do
  seen ← visibility_given visibility
  name ← name_in queue
  Some (plain_ask name (payload_of payload) seen)

unfoldable pub plain_asking : Data → Data → Data → Option Data → Option Line
plain_asking payload queue session visibility = do
  name ← name_in session
  asked ← option_map (λ ask. statements.Enqueue ask) (plain_enqueue payload queue visibility)
  Some (lines.Asked name asked)
