-- Two nodes and the link between them, which may lose, repeat and reorder.
use Rattle.std.specs.Prelude.{ℕ, ◌-◌, ◌==◌, List, [], ◌++◌, fold, slice_get, Option, Some, None, if◌then◌else◌}
use Rattle.aq_base.specs.declared.DbId.{DbId}
use Rattle.aq_base.specs.declared.DbId.TheVariants.{Home, Away}
use Rattle.queue_rows.specs.World.{other_db}
use Rattle.queue_rows.specs.declared.tables.Tables.{Tables}
use Rattle.link_laws.specs.Node.{Node, Stepped, silently, opened_node, ticked, came, flushed, restarted}
use Rattle.link_laws.specs.declared.packet.Packet.{Packet}
use Rattle.link_laws.specs.declared.packet.Packet.TheVariants as packets
use Rattle.link_laws.specs.declared.packet.Event.{Event}
use Rattle.link_laws.specs.declared.packet.Event.TheVariants as events

-- two nodes, and all packets that were ever sent
pub record Link : Type 0 where
  pub home : Node
  pub away : Node
  pub packets : List Packet

abbrev pub opened_link : Tables → Tables → Link
opened_link home away = record { home = opened_node Home home; away = opened_node Away away; packets = [] }

abbrev pub node_at : DbId → Link → Node
node_at Home l = l.home
node_at Away l = l.away

abbrev pub with_node : DbId → Node → Link → Link
with_node Home n l = record l { home = n }
with_node Away n l = record l { away = n }

-- a node after a step; what it sent goes to all that was sent
abbrev pub with_step : DbId → Stepped → Link → Link
with_step db s l = let m = with_node db s.node l in record m { packets = m.packets ++ s.sent }

-- a parcel goes to the other database than its slot's, and a receipt to the slot's
abbrev pub goes_to : Packet → DbId
goes_to (packets.Parcel p) = other_db p.at.db
goes_to (packets.Receipt at) = at.db

abbrev pub delivered : Packet → Link → Link
delivered packet l = with_step (goes_to packet) (silently (came packet (node_at (goes_to packet) l))) l

abbrev pub delivered_if : Option Packet → Link → Link
delivered_if None l = l
delivered_if (Some packet) l = delivered packet l

-- the packet of that number, from 1
abbrev pub packet_of : Link → ℕ → Option Packet
packet_of l number = if number == 0 then None else slice_get l.packets (number - 1)

-- a packet that was not sent yet does nothing
unfoldable pub after_event : Link → Event → Link
after_event l (events.Tick db moment) = with_step db (ticked moment (node_at db l)) l
after_event l (events.Deliver number) = delivered_if (packet_of l number) l
after_event l (events.Flush db) = with_step db (flushed (node_at db l)) l
after_event l (events.Restart db keep) = with_node db (restarted keep (node_at db l)) l

unfoldable pub after_events : Link → List Event → Link
after_events l events = fold after_event l events
