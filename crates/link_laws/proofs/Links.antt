-- The link keeps what its nodes keep, over every list of events; so it is safe.
use Rattle.std.proofs.Common.{◌≡◌, ◌⊎◌, inl, inr, ℕ, ◌-◌, List, [], ◌∷◌, ◌++◌, Bool, true, false, refl, sym, ap, subst, ◌∙◌, arith, Option, Some, None, ◌==◌, append-nil}
use Rattle.std.specs.Prelude.{slice_get, Contains, if◌then◌else◌}
use Rattle.std.specs.List.{list_any}
use Rattle.std.proofs.lemmas.Bool.{false≢true}
use Rattle.std.proofs.lemmas.List.Elements.{Contains-append_cases}
use Rattle.std.proofs.lemmas.Option.{none-some, slice_get_within, get_or_from_slice_get}
use Rattle.aq_base.specs.declared.DbId.{DbId}
use Rattle.aq_base.specs.declared.DbId.TheVariants.{Home, Away}
use Rattle.queue_rows.specs.World.{other_db}
use Rattle.queue_rows.specs.Propagating.{has_seen}
use Rattle.queue_rows.specs.Valid.{is_valid}
use Rattle.queue_rows.specs.declared.tables.Tables.{Tables}
use Rattle.queue_rows.specs.declared.history.SlotRef.{SlotRef}
use Rattle.history_laws.specs.Arrivals.{IsCopy}
use Rattle.history_laws.specs.Made.{changes_of, after_commits}
use Rattle.history_laws.specs.LegalFates.{opening_at}
use Rattle.history_laws.proofs.Seeing.{fitting_sees_once}
use Rattle.history_laws.proofs.Worlds.{latest_within}
use Rattle.link_laws.specs.Node.{Node, Stepped, opened_node, silently, ticked, came, flushed, restarted}
use Rattle.link_laws.specs.Link.{Link, opened_link, node_at, with_node, with_step, delivered, delivered_if, packet_of, after_event, after_events}
use Rattle.link_laws.specs.Laws.{durable_tables, is_done_of, IsSafe, LinkIsSafe}
use Rattle.link_laws.specs.declared.packet.Packet.{Packet}
use Rattle.link_laws.specs.declared.packet.Packet.TheVariants as packets
use Rattle.link_laws.specs.declared.packet.Event.{Event}
use Rattle.link_laws.specs.declared.packet.Event.TheVariants as events
use Rattle.link_laws.proofs.Commits.{none_right, right_fit}
use Rattle.link_laws.proofs.Nodes.{nothing_in, other_other, IsParcelOf, IsSent, IsNode, Keeps, tick_keeps, parcel_keeps, receipt_keeps, flush_keeps, restart_keeps}

module _ (opening : DbId → Tables) (valid : (db : DbId) → is_valid (opening db) ≡ true) where
  -- the database has the slot's pair in what is durable
  abbrev SeenAt : Link → DbId → SlotRef → Type 0
  SeenAt l db at = has_seen (durable_tables (node_at db l)) at ≡ true

  abbrev IsDoneAt : Link → DbId → SlotRef → Type 0
  IsDoneAt l db at = list_any (is_done_of at) (changes_of (node_at db l).commits) ≡ true

  abbrev WasSent : Link → Packet → Type 0
  WasSent l (packets.Parcel p) = IsParcelOf opening valid p
  WasSent l (packets.Receipt at) = SeenAt l (other_db at.db) at

  record Holds (l : Link) : Type 0 where
    pub node : (db : DbId) → IsNode opening valid db (node_at db l)
    pub done : (db : DbId) (at : SlotRef) → IsDoneAt l db at → SeenAt l (other_db db) at
    pub sent : (packet : Packet) → Contains l.packets packet → WasSent l packet

  -- the link goes on to one that holds, and what is durable stays seen
  record Goes (l new : Link) : Type 0 where
    pub holds : Holds new
    pub seen : (db : DbId) (at : SlotRef) → SeenAt l db at → SeenAt new db at

  rests : (l : Link) → Holds l → Goes l l
  rests l h = record { holds = h; seen = λ db at g. g }

  -- ---- a step of a node

  module _ (l : Link) (h : Holds l) (db : DbId) (s : Stepped) (k : Keeps opening valid db (node_at db l) (durable_tables (node_at (other_db db) l)) s) where
    node_by : (d e : DbId) (s : Stepped) → IsNode opening valid d s.node → IsNode opening valid e (node_at e l) → IsNode opening valid e (node_at e (with_step d s l))
    node_by Home Home s a b = a
    node_by Home Away s a b = b
    node_by Away Home s a b = b
    node_by Away Away s a b = a

    seen_by : (d e : DbId) (s : Stepped) (at : SlotRef) → (SeenAt l d at → has_seen (durable_tables s.node) at ≡ true) → SeenAt l e at → SeenAt (with_step d s l) e at
    seen_by Home Home s at f g = f g
    seen_by Home Away s at f g = g
    seen_by Away Home s at f g = g
    seen_by Away Away s at f g = f g

    seen_later : (e : DbId) (at : SlotRef) → SeenAt l e at → SeenAt (with_step db s l) e at
    seen_later e at g = seen_by db e s at (k.seen at) g

    done_by : (d e : DbId) (s : Stepped) (at : SlotRef) → (list_any (is_done_of at) (changes_of s.node.commits) ≡ true → IsDoneAt l d at ⊎ SeenAt l (other_db d) at) → IsDoneAt (with_step d s l) e at → IsDoneAt l e at ⊎ SeenAt l (other_db e) at
    done_by Home Home s at f g = f g
    done_by Home Away s at f g = inl g
    done_by Away Home s at f g = inl g
    done_by Away Away s at f g = f g

    done_later : (e : DbId) (at : SlotRef) → IsDoneAt l e at ⊎ SeenAt l (other_db e) at → SeenAt (with_step db s l) (other_db e) at
    done_later e at (inl g) = seen_later (other_db e) at (h.done e at g)
    done_later e at (inr g) = seen_later (other_db e) at g

    packets_by : (d : DbId) (s : Stepped) → (with_step d s l).packets ≡ l.packets ++ s.sent
    packets_by Home s = refl
    packets_by Away s = refl

    own_seen : (d : DbId) (s : Stepped) (at : SlotRef) → has_seen (durable_tables s.node) at ≡ true → SeenAt (with_step d s l) d at
    own_seen Home s at g = g
    own_seen Away s at g = g

    old_sent : (packet : Packet) → WasSent l packet → WasSent (with_step db s l) packet
    old_sent (packets.Parcel p) g = g
    old_sent (packets.Receipt at) g = seen_later (other_db at.db) at g

    new_sent : (packet : Packet) → IsSent opening valid db (durable_tables s.node) packet → WasSent (with_step db s l) packet
    new_sent (packets.Parcel p) g = g
    new_sent (packets.Receipt at) g = subst (λ e. SeenAt (with_step db s l) e at) (sym g.0) (own_seen db s at g.1)

    all_sent : (packet : Packet) → Contains l.packets packet ⊎ Contains s.sent packet → WasSent (with_step db s l) packet
    all_sent packet (inl c) = old_sent packet (h.sent packet c)
    all_sent packet (inr c) = new_sent packet (k.sent packet c)

    step_goes : Goes l (with_step db s l)
    step_goes = record {
      holds = record {
        node = λ e. node_by db e s k.node (h.node e);
        done = λ e at g. done_later e at (done_by db e s at (k.done at) g);
        sent = λ packet c. all_sent packet (Contains-append_cases l.packets s.sent packet (subst (λ ps. Contains ps packet) (packets_by db s) c));
      };
      seen = seen_later;
    }

  -- ---- an event

  -- a step that sends nothing leaves what was sent
  silent_is : (l : Link) (db : DbId) (n : Node) → with_step db (silently n) l ≡ with_node db n l
  silent_is l Home n = ap (λ ps. record l { home = n; packets = ps }) (append-nil l.packets)
  silent_is l Away n = ap (λ ps. record l { away = n; packets = ps }) (append-nil l.packets)

  delivered_goes : (l : Link) (packet : Packet) → Holds l → WasSent l packet → Goes l (delivered packet l)
  delivered_goes l (packets.Parcel p) h g =
      let db = other_db p.at.db in
      let n = node_at db l in
      step_goes l h db (silently (came (packets.Parcel p) n)) (parcel_keeps opening valid db n (durable_tables (node_at (other_db db) l)) (h.node db) p refl g)
  delivered_goes l (packets.Receipt at) h g =
      let n = node_at at.db l in
      step_goes l h at.db (silently (came (packets.Receipt at) n)) (receipt_keeps opening valid at.db n (durable_tables (node_at (other_db at.db) l)) (h.node at.db) at g)

  got_in : (ps : List Packet) (i : ℕ) (packet : Packet) → slice_get ps i ≡ Some packet → Contains ps packet
  got_in ps i packet e = (i, slice_get_within ps i packet e, get_or_from_slice_get ps i packet packet e)

  got_goes : (l : Link) (o : Option Packet) → Holds l → ((packet : Packet) → o ≡ Some packet → Contains l.packets packet) → Goes l (delivered_if o l)
  got_goes l None h f = rests l h
  got_goes l (Some packet) h f = delivered_goes l packet h (h.sent packet (f packet refl))

  packet_in : (l : Link) (number : ℕ) (packet : Packet) (b : Bool) → (if b then None else slice_get l.packets (number - 1)) ≡ Some packet → Contains l.packets packet
  packet_in l number packet true e = absurd (none-some packet e)
  packet_in l number packet false e = got_in l.packets (number - 1) packet e

  event_goes : (l : Link) (event : Event) → Holds l → Goes l (after_event l event)
  unfolding after_event
  event_goes l (events.Tick db moment) h =
      step_goes l h db (ticked moment (node_at db l)) (tick_keeps opening valid db (node_at db l) (durable_tables (node_at (other_db db) l)) (h.node db) moment)
  event_goes l (events.Deliver number) h = got_goes l (packet_of l number) h (λ packet e. packet_in l number packet (number == 0) e)
  event_goes l (events.Flush db) h = step_goes l h db (flushed (node_at db l)) (flush_keeps opening valid db (node_at db l) (durable_tables (node_at (other_db db) l)) (h.node db))
  event_goes l (events.Restart db keep) h =
      subst (Goes l) (silent_is l db (restarted keep (node_at db l)))
      (step_goes l h db (silently (restarted keep (node_at db l))) (restart_keeps opening valid db (node_at db l) (durable_tables (node_at (other_db db) l)) (h.node db) keep))

  events_go : (es : List Event) (l : Link) → Holds l → Goes l (after_events l es)
  unfolding after_events
  events_go [] l h = rests l h
  events_go (e ∷ es) l h =
      let first = event_goes l e h in
      let rest = events_go es (after_event l e) first.holds in
      record { holds = rest.holds; seen = λ db at g. rest.seen db at (first.seen db at g) }

  -- ---- the beginning

  opened_holds : (db : DbId) (t : Tables) → t ≡ opening db → IsNode opening valid db (opened_node db t)
  unfolding after_commits
  opened_holds db t e = record {
    db_is = refl;
    opening_is = e;
    right = none_right t (opening (other_db db));
    durable = omega arith;
    latest = omega arith;
    moment = latest_within t (ap is_valid e ∙ valid db);
    held = λ packet c. absurd (nothing_in packet c);
  }

  -- ---- so it is safe

  module _ (l : Link) (h : Holds l) where
    origin_is : (at : SlotRef) → opening (other_db (other_db at.db)) ≡ (node_at at.db l).opening
    origin_is at = ap opening (other_other at.db) ∙ sym (h.node at.db).opening_is

    holds_safe : IsSafe l
    holds_safe = record {
      once = λ at.
          let n = node_at (other_db at.db) l in fitting_sees_once n.opening n.commits at (right_fit n.opening (opening (other_db (other_db at.db))) n.commits (h.node (other_db at.db)).right);
      copies = λ at before later c copy e g.
          let n = node_at (other_db at.db) l in
          subst (λ t. IsCopy t (after_commits n.opening before) at copy c.changes) (origin_is at) (((h.node (other_db at.db)).right before c later e).copies at copy g);
      all = λ db before later c row e g. ((h.node db).right before c later e).seen row g;
      held = λ at e. h.done at.db at e;
      stays = λ later. (events_go later l h).seen;
    }

opening_valid : (home away : Tables) → is_valid home ≡ true → is_valid away ≡ true → (db : DbId) → is_valid (opening_at db home away) ≡ true
opening_valid home away h a Home = h
opening_valid home away h a Away = a

module _ (home away : Tables) (h : is_valid home ≡ true) (a : is_valid away ≡ true) where
  abbrev opening : DbId → Tables
  opening db = opening_at db home away

  nodes_hold : (db : DbId) → IsNode opening (opening_valid home away h a) db (node_at db (opened_link home away))
  nodes_hold Home = opened_holds opening (opening_valid home away h a) Home home refl
  nodes_hold Away = opened_holds opening (opening_valid home away h a) Away away refl

  none_done : (db : DbId) (at : SlotRef) → list_any (is_done_of at) (changes_of (node_at db (opened_link home away)).commits) ≡ true → ⊥
  none_done Home at e = false≢true e
  none_done Away at e = false≢true e

  link_holds : Holds opening (opening_valid home away h a) (opened_link home away)
  link_holds = record { node = nodes_hold; done = λ db at e. absurd (none_done db at e); sent = λ packet c. absurd (nothing_in packet c) }

  safe_after : (es : List Event) → IsSafe (after_events (opened_link home away) es)
  safe_after es = holds_safe opening (opening_valid home away h a) (after_events (opened_link home away) es) (events_go opening (opening_valid home away h a) es (opened_link home away) link_holds).holds

pub link_is_safe : LinkIsSafe
link_is_safe home away es h a = safe_after home away h a es
