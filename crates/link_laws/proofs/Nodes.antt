-- What each step of a node keeps.
use Rattle.std.proofs.Common.{◌≡◌, ◌≤◌, ◌⊎◌, inl, inr, ℕ, List, [], ◌∷◌, ◌++◌, Bool, true, false, refl, sym, ap, subst, ◌∙◌, arith, Option, Some, None, ◌==◌, ◌||◌, append-nil, take, drop, length, length-append, length-take, take-append-drop}
use Rattle.std.specs.Prelude.{max, option_map, option_and_then, Contains, if◌then◌else◌}
use Rattle.std.specs.List.{list_any}
use Rattle.std.proofs.Math.Seq.{take-length}
use Rattle.std.proofs.lemmas.Bool.{and_parts, eqb-true, or_cases, or_left, true≢false}
use Rattle.std.proofs.lemmas.List.{take-append-le, take-take}
use Rattle.std.proofs.lemmas.List.Elements.{Contains-push_cases}
use Rattle.std.proofs.lemmas.List.Folds.{list_any-append}
use Rattle.std.proofs.lemmas.Option.{none-some}
use Rattle.aq_base.specs.declared.DbId.{DbId}
use Rattle.aq_base.specs.declared.DbId.TheVariants.{Home, Away}
use Rattle.aq_base.specs.declared.limits.TheConstants.{MOMENT_LIMIT}
use Rattle.queue_rows.specs.Tables.{after}
use Rattle.queue_rows.specs.World.{other_db}
use Rattle.queue_rows.specs.Propagating.{Dispatch, dispatch, confirming, has_seen, is_pair, pick}
use Rattle.queue_rows.specs.Valid.{is_valid}
use Rattle.queue_rows.specs.declared.tables.Tables.{Tables}
use Rattle.queue_rows.specs.declared.change.Change.{Change}
use Rattle.queue_rows.specs.declared.change.Change.TheVariants as changes
use Rattle.queue_rows.specs.declared.change.Commit.{Commit}
use Rattle.queue_rows.specs.declared.history.SlotRef.{SlotRef}
use Rattle.history_laws.specs.Made.{changes_of, after_commits}
use Rattle.history_laws.proofs.Worlds.{latest_within}
use Rattle.propagation.specs.Taking.{Taking, known, refused, takes, taking_in}
use Rattle.link_laws.specs.Node.{Node, Stepped, tables_of, silently, committing, receipt_held, is_flushed, parcel_by, parcel_at, slot_at, parcel_now, sends, at_moment, ticked, inner, took_in, parcel_came, is_ready_at, confirmed_by, receipt_came, flushed, restarted}
use Rattle.link_laws.specs.Laws.{durable_tables, is_done_of}
use Rattle.link_laws.specs.declared.packet.Parcel.{Parcel}
use Rattle.link_laws.specs.declared.packet.Packet.{Packet}
use Rattle.link_laws.specs.declared.packet.Packet.TheVariants as packets
use Rattle.link_laws.proofs.Commits.{after_last, changes_append, seen_after, seen_first, IsRightCommit, AreRight, last_right, first_right, right_valid, right_traced}
use Rattle.link_laws.proofs.Confirming.{confirm_right, confirm_some, confirm_latest, confirm_does}
use Rattle.link_laws.proofs.Tracing.{IsTraced}
use Rattle.link_laws.proofs.Taking.{IsSentOf, known_is_seen, take_in_right, take_in_some, take_in_seen, take_in_latest, take_in_does_none}

pub nothing_in : {X : Type 0} (x : X) → Contains [] x → ⊥
nothing_in x c = let lt = c.1 in omega (arith, lt)

pub only_in : {X : Type 0} (x y : X) → Contains (x ∷ []) y → x ≡ y
only_in x y c = by (Contains-push_cases [] x y c)
  where
    by : Contains [] y ⊎ (x ≡ y) → x ≡ y
    by (inl a) = absurd (nothing_in y a)
    by (inr e) = e

pub other_other : (db : DbId) → other_db (other_db db) ≡ db
other_other Home = refl
other_other Away = refl

-- a packet that was sent of a slot is as the tables of its database have it as they began
module _ (opening : DbId → Tables) (valid : (db : DbId) → is_valid (opening db) ≡ true) where
  abbrev pub IsParcelOf : Parcel → Type 0
  IsParcelOf p = IsSentOf (opening p.at.db) p.at (inner p)

  -- a packet that waits for a flush is a receipt of the other database's slot, which was seen
  abbrev pub IsHeld : DbId → Tables → Packet → Type 0
  IsHeld db t (packets.Parcel p) = ⊥
  IsHeld db t (packets.Receipt at) = (other_db at.db ≡ db) × (has_seen t at ≡ true)

  abbrev pub IsSent : DbId → Tables → Packet → Type 0
  IsSent db t (packets.Parcel p) = IsParcelOf p
  IsSent db t (packets.Receipt at) = (other_db at.db ≡ db) × (has_seen t at ≡ true)

  -- what holds of a node at each moment
  pub record IsNode (db : DbId) (n : Node) : Type 0 where
    pub db_is : n.db ≡ db
    pub opening_is : n.opening ≡ opening db
    pub right : AreRight n.opening (opening (other_db db)) n.commits
    pub durable : n.durable ≤ length n.commits
    pub latest : (tables_of n).latest ≤ n.moment
    pub moment : n.moment ≤ MOMENT_LIMIT
    pub held : (packet : Packet) → Contains n.held packet → IsHeld db (tables_of n) packet

  -- What a step of a node keeps, where the other database has that in what is durable: what was seen durably stays so, what is done
  -- now was seen there, and what is sent may be sent.
  pub record Keeps (db : DbId) (n : Node) (there : Tables) (s : Stepped) : Type 0 where
    pub node : IsNode db s.node
    pub seen : (at : SlotRef) → has_seen (durable_tables n) at ≡ true → has_seen (durable_tables s.node) at ≡ true
    pub done : (at : SlotRef) → list_any (is_done_of at) (changes_of s.node.commits) ≡ true → (list_any (is_done_of at) (changes_of n.commits) ≡ true) ⊎ (has_seen there at ≡ true)
    pub sent : (packet : Packet) → Contains s.sent packet → IsSent db (durable_tables s.node) packet

  module _ (db : DbId) (n : Node) (there : Tables) (k : IsNode db n) where
    abbrev t : Tables
    t = tables_of n

    abbrev origin : Tables
    origin = opening (other_db db)

    node_valid : is_valid (tables_of n) ≡ true
    node_valid = right_valid n.opening origin n.commits k.right (ap is_valid k.opening_is ∙ valid db)

    -- ---- a tick

    later : (moment : ℕ) → IsNode db (at_moment moment n)
    later moment = record {
      db_is = k.db_is;
      opening_is = k.opening_is;
      right = k.right;
      durable = k.durable;
      latest = let le = k.latest in omega (arith, le);
      moment = let le = k.moment in omega (arith, le);
      held = k.held;
    }

    quiet_later : (moment : ℕ) → Keeps db n there (silently (at_moment moment n))
    quiet_later moment = record { node = later moment; seen = λ at h. h; done = λ at h. inl h; sent = λ packet c. absurd (nothing_in packet c) }

    -- a parcel of the node's own slot
    dispatched : (at : SlotRef) (p : Parcel) (o : Option Dispatch) → at.db ≡ db → dispatch t at ≡ o → option_map (parcel_by at) o ≡ Some p → IsParcelOf p
    dispatched at p None e f g = absurd (none-some p g)
    dispatched at p (Some d) e f g =
        let same : parcel_by at d ≡ p = (let a : Some (parcel_by at d) ≡ Some p = g in cc) in
        let traced = subst (λ u. IsTraced u at.slot at.id t) (k.opening_is ∙ ap opening (sym e)) (right_traced n.opening origin at.id at.slot n.commits k.right) in
        subst IsParcelOf same (record { tables = t; valid = node_valid; traced = traced; dispatched = d; dispatch_is = f; parcel_is = refl })

    picked : (moment : ℕ) (p : Parcel) (o : Option (ℕ × ℕ)) → option_and_then (parcel_at (at_moment moment n)) (option_map (slot_at (at_moment moment n)) o) ≡ Some p → IsParcelOf p
    picked moment p None g = absurd (none-some p g)
    picked moment p (Some pair) g = let at = slot_at (at_moment moment n) pair in dispatched at p (dispatch t at) k.db_is refl g

    sends_keeps : (moment : ℕ) (o : Option Parcel) → parcel_now (at_moment moment n) ≡ o → Keeps db n there (sends (at_moment moment n) o)
    sends_keeps moment None e = quiet_later moment
    sends_keeps moment (Some p) e = record {
      node = later moment;
      seen = λ at h. h;
      done = λ at h. inl h;
      sent = λ packet c. subst (IsSent db (durable_tables n)) (only_in (packets.Parcel p) packet c) (picked moment p (pick t (at_moment moment n).moment) e);
    }

    sends_if : (moment : ℕ) (b : Bool) → Keeps db n there (if b then sends (at_moment moment n) (parcel_now (at_moment moment n)) else silently (at_moment moment n))
    sends_if moment true = sends_keeps moment (parcel_now (at_moment moment n)) refl
    sends_if moment false = quiet_later moment

    pub tick_keeps : (moment : ℕ) → Keeps db n there (ticked moment n)
    unfolding ticked
    tick_keeps moment = sends_if moment (is_flushed (at_moment moment n))

    -- ---- a commit more, and a packet that is held

    quiet_keeps : Keeps db n there (silently n)
    quiet_keeps = record { node = k; seen = λ at h. h; done = λ at h. inl h; sent = λ packet c. absurd (nothing_in packet c) }

    held_after : (c : Commit) (packet : Packet) → IsHeld db t packet → IsHeld db (after t c) packet
    held_after c (packets.Parcel p) h = h
    held_after c (packets.Receipt at) h = (h.0, seen_after t c at h.1)

    done_by : (at : SlotRef) (c : Commit) → (list_any (is_done_of at) c.changes ≡ true → has_seen there at ≡ true) → list_any (is_done_of at) (changes_of (n.commits ++ c ∷ [])) ≡ true
        → (list_any (is_done_of at) (changes_of n.commits) ≡ true) ⊎ (has_seen there at ≡ true)
    done_by at c f h = by (or_cases (list_any (is_done_of at) (changes_of n.commits)) (list_any (is_done_of at) c.changes) split)
      where
        split : (list_any (is_done_of at) (changes_of n.commits) || list_any (is_done_of at) c.changes) ≡ true
        split =
            sym (list_any-append (is_done_of at) (changes_of n.commits) c.changes) ∙ ap (λ cs. list_any (is_done_of at) (changes_of n.commits ++ cs)) (sym (append-nil c.changes)) ∙ ap (list_any (is_done_of at)) (sym (changes_append n.commits (c ∷ []))) ∙ h

        by : (list_any (is_done_of at) (changes_of n.commits) ≡ true) ⊎ (list_any (is_done_of at) c.changes ≡ true) → (list_any (is_done_of at) (changes_of n.commits) ≡ true) ⊎ (has_seen there at ≡ true)
        by (inl e) = inl e
        by (inr e) = inr (f e)

    commit_keeps : (c : Commit) → IsRightCommit n.opening origin t c → (after t c).latest ≤ n.moment → ((at : SlotRef) → list_any (is_done_of at) c.changes ≡ true → has_seen there at ≡ true)
        → Keeps db n there (silently (record n { commits = n.commits ++ c ∷ [] }))
    commit_keeps c r le f = record {
      node = record {
        db_is = k.db_is;
        opening_is = k.opening_is;
        right = last_right n.opening origin n.commits c k.right r;
        durable = let a = k.durable in let b = length-append n.commits (c ∷ []) in omega (arith, a, b);
        latest = let e = ap (λ u. u.latest) (after_last n.opening n.commits c) in omega (arith, le, e);
        moment = k.moment;
        held = λ packet h. subst (λ u. IsHeld db u packet) (sym (after_last n.opening n.commits c)) (held_after c packet (k.held packet h));
      };
      seen = λ at h. ap (λ cs. has_seen (after_commits n.opening cs) at) (take-append-le n.durable n.commits (c ∷ []) k.durable) ∙ h;
      done = λ at h. done_by at c (f at) h;
      sent = λ packet h. absurd (nothing_in packet h);
    }

    hold_keeps : (m : Node) (at : SlotRef) → Keeps db n there (silently m) → other_db at.db ≡ db → has_seen (tables_of m) at ≡ true → Keeps db n there (silently (receipt_held at m))
    hold_keeps m at s e h = record {
      node = record {
        db_is = s.node.db_is;
        opening_is = s.node.opening_is;
        right = s.node.right;
        durable = s.node.durable;
        latest = s.node.latest;
        moment = s.node.moment;
        held = λ packet c. by packet (Contains-push_cases m.held (packets.Receipt at) packet c);
      };
      seen = s.seen;
      done = s.done;
      sent = s.sent;
    }
      where
        by : (packet : Packet) → Contains m.held packet ⊎ (packets.Receipt at ≡ packet) → IsHeld db (tables_of m) packet
        by packet (inl c) = s.node.held packet c
        by packet (inr q) = subst (IsHeld db (tables_of m)) q (e, h)

    -- ---- a parcel comes

    module _ (p : Parcel) (e : other_db p.at.db ≡ db) (s : IsParcelOf p) where
      sent_of : IsSentOf origin p.at (inner p)
      sent_of = subst (λ u. IsSentOf u p.at (inner p)) (ap opening (sym (other_other p.at.db) ∙ ap other_db e)) s

      takes_keeps : (cs : List Change) → taking_in t p.at (inner p) t.next n.moment ≡ takes cs → Keeps db n there (silently (receipt_held p.at (committing cs n)))
      takes_keeps cs f =
          let c : Commit = record { moment = n.moment; changes = cs } in
          let r = take_in_right n.opening origin t p.at (inner p) n.moment cs node_valid k.latest k.moment sent_of f in
          let le = take_in_latest n.opening origin t p.at (inner p) n.moment cs node_valid k.latest k.moment sent_of f in
          let none : (at : SlotRef) → list_any (is_done_of at) cs ≡ false = λ at. take_in_does_none n.opening origin t p.at (inner p) n.moment cs node_valid k.latest k.moment sent_of f (is_done_of at) (λ m. refl) (λ r. refl) in
          let s = commit_keeps c r le (λ at h. absurd (true≢false (sym h ∙ none at))) in
          let seen = ap (λ u. has_seen u p.at) (after_last n.opening n.commits c) ∙ take_in_seen n.opening origin t p.at (inner p) n.moment cs node_valid k.latest k.moment sent_of f in
          subst (λ b. Keeps db n there (silently (receipt_held p.at (if b then n else record n { commits = n.commits ++ c ∷ [] })))) (sym (take_in_some n.opening origin t p.at (inner p) n.moment cs node_valid k.latest k.moment sent_of f))
          (hold_keeps (record n { commits = n.commits ++ c ∷ [] }) p.at s e seen)

      taking_keeps : (x : Taking) → taking_in t p.at (inner p) t.next n.moment ≡ x → Keeps db n there (silently (took_in p x n))
      taking_keeps known f = hold_keeps n p.at quiet_keeps e (known_is_seen t p.at (inner p) t.next n.moment f)
      taking_keeps (refused cause) f = quiet_keeps
      taking_keeps (takes cs) f = takes_keeps cs f

      pub parcel_keeps : Keeps db n there (silently (parcel_came p n))
      unfolding parcel_came
      parcel_keeps = taking_keeps (taking_in t p.at (inner p) t.next n.moment) refl

    -- ---- a receipt comes

    module _ (at : SlotRef) (h : has_seen there at ≡ true) where
      seen_alike : (other : SlotRef) (moment : ℕ) → is_done_of other (changes.Done at.id at.slot moment) ≡ true → has_seen there other ≡ true
      seen_alike other moment e =
          let p = and_parts (at.id == other.id) (at.slot == other.slot) e in
          ap (λ x. list_any (is_pair x other.slot) there.seen) (sym (eqb-true at.id other.id p.0)) ∙ ap (λ x. list_any (is_pair at.id x) there.seen) (sym (eqb-true at.slot other.slot p.1)) ∙ h

      confirms_keeps : is_ready_at t at ≡ true → (d : Dispatch) → dispatch t at ≡ Some d → Keeps db n there (silently (committing (confirming t at d.schedule n.moment) n))
      confirms_keeps ready d e =
          let c : Commit = record { moment = n.moment; changes = confirming t at d.schedule n.moment } in
          subst (λ b. Keeps db n there (silently (if b then n else record n { commits = n.commits ++ c ∷ [] }))) (sym (confirm_some n.opening origin t at d n.moment node_valid k.latest k.moment ready e))
          (commit_keeps c (confirm_right n.opening origin t at d n.moment node_valid k.latest k.moment ready e) (confirm_latest n.opening origin t at d n.moment node_valid k.latest k.moment ready e)
          (λ other g. seen_alike other n.moment (confirm_does n.opening origin t at d n.moment node_valid k.latest k.moment ready e other g)))

      dispatch_keeps : is_ready_at t at ≡ true → (o : Option Dispatch) → dispatch t at ≡ o → Keeps db n there (silently (confirmed_by at t o n))
      dispatch_keeps ready None e = quiet_keeps
      dispatch_keeps ready (Some d) e = confirms_keeps ready d e

      ready_keeps : (b : Bool) → is_ready_at t at ≡ b → Keeps db n there (silently (if b then confirmed_by at t (dispatch t at) n else n))
      ready_keeps true e = dispatch_keeps e (dispatch t at) refl
      ready_keeps false e = quiet_keeps

      pub receipt_keeps : Keeps db n there (silently (receipt_came at n))
      unfolding receipt_came
      receipt_keeps = ready_keeps (is_ready_at t at) refl

    -- ---- a flush, and a restart

    held_sent : (packet : Packet) → IsHeld db t packet → IsSent db (after_commits n.opening (take (length n.commits) n.commits)) packet
    held_sent (packets.Parcel p) h = absurd h
    held_sent (packets.Receipt at) h = (h.0, ap (λ cs. has_seen (after_commits n.opening cs) at) (take-length n.commits) ∙ h.1)

    pub flush_keeps : Keeps db n there (flushed n)
    unfolding flushed
    flush_keeps = record {
      node = record { db_is = k.db_is; opening_is = k.opening_is; right = k.right; durable = omega arith; latest = k.latest; moment = k.moment; held = λ packet c. absurd (nothing_in packet c) };
      seen = λ at h. ap (λ cs. has_seen (after_commits n.opening cs) at) (take-length n.commits) ∙ seen_first n.durable n.commits n.opening at h;
      done = λ at h. inl h;
      sent = λ packet c. held_sent packet (k.held packet c);
    }

    abbrev left : ℕ → List Commit
    left keep = take (max n.durable keep) n.commits

    kept_done : (keep : ℕ) (at : SlotRef) → list_any (is_done_of at) (changes_of (left keep)) ≡ true → list_any (is_done_of at) (changes_of n.commits) ≡ true
    kept_done keep at h =
        let rest = changes_of (drop (max n.durable keep) n.commits) in
        ap (λ cs. list_any (is_done_of at) (changes_of cs)) (sym (take-append-drop (max n.durable keep) n.commits)) ∙ ap (list_any (is_done_of at)) (changes_append (left keep) (drop (max n.durable keep) n.commits))
        ∙ list_any-append (is_done_of at) (changes_of (left keep)) rest ∙ or_left (list_any (is_done_of at) (changes_of (left keep))) (list_any (is_done_of at) rest) h

    pub restart_keeps : (keep : ℕ) → Keeps db n there (silently (restarted keep n))
    unfolding restarted
    restart_keeps keep =
        let right = first_right n.opening origin (max n.durable keep) n.commits k.right in
        record {
          node = record {
            db_is = k.db_is;
            opening_is = k.opening_is;
            right = right;
            durable = let a = k.durable in let b = length-take (max n.durable keep) n.commits in omega (arith, a, b);
            latest = omega arith;
            moment = latest_within (after_commits n.opening (left keep)) (right_valid n.opening origin (left keep) right (ap is_valid k.opening_is ∙ valid db));
            held = λ packet c. absurd (nothing_in packet c);
          };
          seen = λ at h. ap (λ cs. has_seen (after_commits n.opening cs) at) (take-take n.durable (max n.durable keep) n.commits (omega arith)) ∙ h;
          done = λ at h. inl (kept_done keep at h);
          sent = λ packet c. absurd (nothing_in packet c);
        }
