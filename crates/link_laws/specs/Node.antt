-- A node: one database that sends parcels and takes them in.
use Rattle.std.specs.Prelude.{ℕ, ◌==◌, min, max, nat_lt, List, [], ◌∷◌, ◌++◌, length, take, Bool, false, not, Option, Some, None, option_map, option_and_then, if◌then◌else◌}
use Rattle.std.specs.Option.{option_map_or}
use Rattle.aq_base.specs.declared.DbId.{DbId}
use Rattle.rule_conditions.specs.declared.facts.Facts.{Facts}
use Rattle.history_laws.specs.Made.{after_commits}
use Rattle.propagation.specs.Taking.{Taking, known, refused, takes, taking_in}
use Rattle.queue_rows.specs.Propagating as propagating
use Rattle.queue_rows.specs.Propagating.{Dispatch, pick, dispatch, confirming}
use Rattle.queue_rows.specs.Rows.{find_message, slot_of}
use Rattle.queue_rows.specs.Settling.{is_ready}
use Rattle.queue_rows.specs.World.{greatest_moment}
use Rattle.queue_rows.specs.declared.change.Change.{Change}
use Rattle.queue_rows.specs.declared.change.Commit.{Commit}
use Rattle.queue_rows.specs.declared.history.SlotRef.{SlotRef}
use Rattle.queue_rows.specs.declared.tables.Tables.{Tables}
use Rattle.link_laws.specs.declared.packet.Parcel.{Parcel}
use Rattle.link_laws.specs.declared.packet.Packet.{Packet}
use Rattle.link_laws.specs.declared.packet.Packet.TheVariants as packets
use Rattle.link_laws.specs.declared.packet.NodeEvent.{NodeEvent}
use Rattle.link_laws.specs.declared.packet.NodeEvent.TheVariants as events
use Rattle.link_laws.specs.declared.packet.Handled.{Handled}
use Rattle.link_laws.specs.declared.packet.Handled.TheVariants as handles

-- its database, with the tables as it began and the commits since, how many of these are durable, the moment, and the packets
-- that it sends when all of these are
pub record Node : Type 0 where
  pub db : DbId
  pub opening : Tables
  pub commits : List Commit
  pub durable : ℕ
  pub moment : ℕ
  pub held : List Packet

abbrev pub opened_node : DbId → Tables → Node
opened_node db t = record { db = db; opening = t; commits = []; durable = 0; moment = t.latest; held = [] }

abbrev pub tables_of : Node → Tables
tables_of n = after_commits n.opening n.commits

-- a node after a step, and the packets that it sends in it
pub record Stepped : Type 0 where
  pub node : Node
  pub sent : List Packet

abbrev pub silently : Node → Stepped
silently n = record { node = n; sent = [] }

-- ---- what a step does

-- an empty list is no commit
abbrev pub committing : List Change → Node → Node
committing cs n = if length cs == 0 then n else record n { commits = n.commits ++ record { moment = n.moment; changes = cs } ∷ [] }

abbrev pub holding : Packet → Node → Node
holding packet n = record n { held = n.held ++ packet ∷ [] }

abbrev pub is_flushed : Node → Bool
is_flushed n = not (nat_lt n.durable (length n.commits))

-- ---- a tick

abbrev pub parcel_by : SlotRef → Dispatch → Parcel
parcel_by at d = record {
  at = at;
  to = d.parcel.to;
  name = d.parcel.name;
  fields = d.parcel.fields;
  payload = d.parcel.facts.cells;
  priority = d.parcel.facts.priority;
  corr = d.parcel.facts.corr;
  props = d.parcel.facts.props;
  expires = d.parcel.expires;
}

abbrev pub parcel_at : Node → SlotRef → Option Parcel
parcel_at n at = option_map (parcel_by at) (dispatch (tables_of n) at)

abbrev pub slot_at : Node → ℕ × ℕ → SlotRef
slot_at n pair = record { db = n.db; id = pair.0; slot = pair.1 }

-- the parcel of the slot that is sent at the moment
abbrev pub parcel_now : Node → Option Parcel
parcel_now n = option_and_then (parcel_at n) (option_map (slot_at n) (pick (tables_of n) n.moment))

abbrev pub sends : Node → Option Parcel → Stepped
sends n None = silently n
sends n (Some p) = record { node = n; sent = packets.Parcel p ∷ [] }

-- the moment never falls, and ends at the greatest one
abbrev pub at_moment : ℕ → Node → Node
at_moment moment n = record n { moment = max n.moment (min moment greatest_moment) }

abbrev pub sends_if_flushed : Node → Stepped
sends_if_flushed n = if is_flushed n then sends n (parcel_now n) else silently n

-- where all commits are durable, what can be sent is
unfoldable pub ticked : ℕ → Node → Stepped
ticked moment n = sends_if_flushed (at_moment moment n)

-- ---- a parcel comes

abbrev pub facts_of : Parcel → Facts
facts_of p = record { priority = p.priority; corr = p.corr; cells = p.payload; props = p.props }

-- the parcel as propagation has it
abbrev pub inner : Parcel → propagating.Parcel
inner p = record { to = p.to; name = p.name; fields = p.fields; facts = facts_of p; expires = p.expires }

abbrev pub receipt_held : SlotRef → Node → Node
receipt_held at n = holding (packets.Receipt at) n

abbrev pub took_in : Parcel → Taking → Node → Node
took_in p known n = receipt_held p.at n
took_in p (refused cause) n = n
took_in p (takes cs) n = receipt_held p.at (committing cs n)

-- A pair that was seen is acknowledged again; what propagation refuses is left; anything else goes in, and is acknowledged
-- when it is durable.
unfoldable pub parcel_came : Parcel → Node → Node
parcel_came p n = took_in p (taking_in (tables_of n) p.at (inner p) (tables_of n).next n.moment) n

-- ---- a receipt comes

abbrev pub is_ready_at : Tables → SlotRef → Bool
is_ready_at t at = option_map_or (λ s. is_ready s.state) (option_and_then (λ m. slot_of m at.slot) (find_message t at.id)) false

abbrev pub confirmed_by : SlotRef → Tables → Option Dispatch → Node → Node
confirmed_by at t None n = n
confirmed_by at t (Some d) n = committing (confirming t at d.schedule n.moment) n

-- a slot that is ready and remote, and whose schedule is there, is done
unfoldable pub receipt_came : SlotRef → Node → Node
receipt_came at n = let t = tables_of n in if is_ready_at t at then confirmed_by at t (dispatch t at) n else n

abbrev pub came : Packet → Node → Node
came (packets.Parcel p) n = parcel_came p n
came (packets.Receipt at) n = receipt_came at n

-- ---- flushing and restarting

-- all commits are durable, and what was held is sent
unfoldable pub flushed : Node → Stepped
flushed n = record { node = record n { durable = length n.commits; held = [] }; sent = n.held }

-- the commits that stand: at least the durable ones, and at most all
abbrev pub kept : ℕ → Node → List Commit
kept keep n = take (max n.durable keep) n.commits

-- what was held is lost, and the moment is that of the latest commit
unfoldable pub restarted : ℕ → Node → Node
restarted keep n = record n { commits = kept keep n; moment = (after_commits n.opening (kept keep n)).latest; held = [] }

-- ---- a step and a flush

abbrev pub stepped_by : NodeEvent → Node → Stepped
stepped_by (events.Tick moment) n = ticked moment n
stepped_by (events.Came packet) n = silently (came packet n)

-- with the packets that were sent before the flush
abbrev pub having_sent : List Packet → Stepped → Stepped
having_sent sent s = record s { sent = sent ++ s.sent }

abbrev pub then_flushed : Stepped → Stepped
then_flushed s = having_sent s.sent (flushed s.node)

unfoldable pub handled : NodeEvent → Node → Stepped
handled event n = then_flushed (stepped_by event n)

-- a receipt that leads to one commit more confirms its slot
abbrev pub confirmed_if : Bool → SlotRef → Handled
confirmed_if more at = if more then handles.Confirmed at else handles.Nothing

abbrev pub outcome_of : NodeEvent → Node → List Packet → Node → Handled
outcome_of event old (packet ∷ others) new = handles.Sent packet
outcome_of (events.Tick moment) old [] new = handles.Nothing
outcome_of (events.Came (packets.Parcel p)) old [] new = handles.Nothing
outcome_of (events.Came (packets.Receipt at)) old [] new = confirmed_if (nat_lt (length old.commits) (length new.commits)) at

-- what the node answers
abbrev pub handling : NodeEvent → Node → Handled
handling event n = outcome_of event n (handled event n).sent (handled event n).node
