-- Whatever the link loses, repeats and reorders, and whenever a node restarts: each slot is copied once at most, and what is
-- confirmed stands at its destination.
use Rattle.std.specs.Prelude.{◌≡◌, ℕ, ◌&&◌, ◌==◌, List, ◌∷◌, ◌++◌, take, Bool, true, false, Contains}
use Rattle.std.specs.List.{list_any}
use Rattle.history_laws.specs.Arrivals.{IsCopy, IsSeenOnce}
use Rattle.history_laws.specs.Made.{changes_of, after_commits}
use Rattle.aq_base.specs.declared.DbId.{DbId}
use Rattle.queue_rows.specs.Propagating.{has_seen}
use Rattle.queue_rows.specs.Valid.{is_valid}
use Rattle.queue_rows.specs.World.{other_db}
use Rattle.queue_rows.specs.declared.change.Change.{Change}
use Rattle.queue_rows.specs.declared.change.Change.TheVariants as changes
use Rattle.queue_rows.specs.declared.change.Commit.{Commit}
use Rattle.queue_rows.specs.declared.history.SlotRef.{SlotRef}
use Rattle.queue_rows.specs.declared.tables.Tables.{Tables}
use Rattle.queue_rows.specs.declared.rows.MsgRow.{MsgRow}
use Rattle.link_laws.specs.Link.{Link, node_at, opened_link, after_events}
use Rattle.link_laws.specs.Node.{Node}
use Rattle.link_laws.specs.declared.packet.Event.{Event}

-- ---- copies

abbrev pub origin_of : SlotRef → Link → Node
origin_of at l = node_at at.db l

abbrev pub destination_of : SlotRef → Link → Node
destination_of at l = node_at (other_db at.db) l

-- the destination's commits say of the slot at most once that it was seen, and not where its opening has it seen
abbrev pub IsCopiedOnce : Link → SlotRef → Type 0
IsCopiedOnce l at = IsSeenOnce (destination_of at l).opening (destination_of at l).commits at

-- the node has that commit, with those before it and those after it
abbrev pub IsCommitOf : Node → List Commit → Commit → List Commit → Type 0
IsCommitOf n before c later = n.commits ≡ before ++ c ∷ later

-- a commit that says that the slot was seen puts in its copy, with all facts of the row that the origin had as it began
abbrev pub AreCopies : Link → Type 0
AreCopies l = (at : SlotRef) (before later : List Commit) (c : Commit) (copy : ℕ) → IsCommitOf (destination_of at l) before c later
    → Contains c.changes (changes.Seen (record { id = at.id; slot = at.slot; copy = copy }))
    → IsCopy (origin_of at l).opening (after_commits (destination_of at l).opening before) at copy c.changes

-- a message that a commit puts in is the copy of a slot of which the commit says that it was seen
pub record IsSeenWith (c : Commit) (row : MsgRow) : Type 0 where
  pub id : ℕ
  pub slot : ℕ
  pub seen : Contains c.changes (changes.Seen (record { id = id; slot = slot; copy = row.id }))

-- so nothing is put in but copies
abbrev pub AreAllCopies : Link → Type 0
AreAllCopies l = (db : DbId) (before later : List Commit) (c : Commit) (row : MsgRow) → IsCommitOf (node_at db l) before c later
    → Contains c.changes (changes.Enqueued row) → IsSeenWith c row

-- ---- confirmations

abbrev pub is_done_of : SlotRef → Change → Bool
is_done_of at (changes.Done id slot moment) = (id == at.id) && (slot == at.slot)
is_done_of at _ = false

-- this run has the slot as done
abbrev pub is_confirmed : Link → SlotRef → Bool
is_confirmed l at = list_any (is_done_of at) (changes_of (origin_of at l).commits)

-- the tables that no restart takes away
abbrev pub durable_tables : Node → Tables
durable_tables n = after_commits n.opening (take n.durable n.commits)

-- what is confirmed stands at its destination for good
abbrev pub IsHeldThere : Link → SlotRef → Type 0
IsHeldThere l at = is_confirmed l at ≡ true → has_seen (durable_tables (destination_of at l)) at ≡ true

-- and no later event, no restart either, takes it away
abbrev pub StaysSeen : Link → List Event → Type 0
StaysSeen l later = (db : DbId) (at : SlotRef) → has_seen (durable_tables (node_at db l)) at ≡ true
    → has_seen (durable_tables (node_at db (after_events l later))) at ≡ true

-- ---- the theorem

pub record IsSafe (l : Link) : Type 0 where
  pub once : (at : SlotRef) → IsCopiedOnce l at
  pub copies : AreCopies l
  pub all : AreAllCopies l
  pub held : (at : SlotRef) → IsHeldThere l at
  pub stays : (later : List Event) → StaysSeen l later

-- over every list of losses, repeats, reorderings and restarts
abbrev pub LinkIsSafe : Type 0
LinkIsSafe = (home away : Tables) (events : List Event) → is_valid home ≡ true → is_valid away ≡ true → IsSafe (after_events (opened_link home away) events)
