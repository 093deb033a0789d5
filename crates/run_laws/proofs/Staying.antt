-- While a slot can be taken, its message keeps its queue and its group, and the slot its name.
use Rattle.std.proofs.Common.{◌≡◌, ◌≢◌, ◌⊎◌, inl, inr, ℕ, List, [], ◌∷◌, Bool, true, false, not, refl, sym, ap, ◌∙◌, subst, Option, Some, None, ◌==◌, length}
use Rattle.std.specs.Prelude.{find, option_map, option_and_then, is_some, is_none, if◌then◌else◌}
use Rattle.std.specs.List.{list_any}
use Rattle.std.specs.Option.{option_map_or}
use Rattle.std.specs.Str.{bytes_eq}
use Rattle.std.proofs.lemmas.Bool.{cond_both, eqb-true, and_parts, or_parts, or_right, not-true, true≢false}
use Rattle.std.proofs.lemmas.Option.{none-some}
use Rattle.slot_marks.specs.declared.mark.Group.{Group}
use Rattle.queue_rows.specs.Rows.{find_message, find_queue, with_slot, slot_of}
use Rattle.queue_rows.specs.Tables.{after_change, after_all, after, in_state, retried, moved_to}
use Rattle.queue_rows.specs.Settling.{is_open, if_it, left_by}
use Rattle.queue_rows.specs.Groups.{consumer_of}
use Rattle.queue_rows.specs.World.{committed_tables}
use Rattle.queue_rows.specs.Valid.{is_valid}
use Rattle.queue_rows.specs.declared.tables.Tables.{Tables}
use Rattle.queue_rows.specs.declared.rows.MsgRow.{MsgRow}
use Rattle.queue_rows.specs.declared.rows.SlotRow.{SlotRow}
use Rattle.queue_rows.specs.declared.rows.SlotState.TheVariants as states
use Rattle.queue_rows.specs.declared.change.Change.{Change}
use Rattle.queue_rows.specs.declared.change.Change.TheVariants as changes
use Rattle.queue_rows.proofs.Sessions.{same_or_not}
use Rattle.row_laws.specs.RowLaws.{puts_new}
use Rattle.row_laws.proofs.Messages.{IsSingle, id_found, finds_left, finds_put_in, finds_without_queue, stays_single, new_may_be_put}
use Rattle.row_laws.proofs.Slots.{slot_of-with_same, slot_of-with_other, slot_of-moved_other, slot_of-zero}
use Rattle.row_laws.proofs.Distinctly.{single_if_distinct}
use Rattle.valid_laws.specs.Openness.{is_open_slot, is_open_at, is_finished, may_move}
use Rattle.valid_laws.specs.Touching.{puts_in, is_proper, are_proper}
use Rattle.valid_laws.proofs.Opened.{IsOpenIn, open_in, open_at, finished_closed}
use Rattle.valid_laws.proofs.Parts.{valid_distinct}
use Rattle.history_laws.proofs.SlotFates.{left_without}
use Rattle.history_laws.proofs.Agreeing.{finds_without_table}
use Rattle.history_laws.proofs.Holding.{proper_parts}
use Rattle.history_laws.proofs.Commits.{empty_if}

-- the group of a slot of a message, whatever its table
abbrev pub group_of_slot : ℕ → MsgRow → Group
group_of_slot slot m = record { queue = m.queue; number = m.group; consumer = consumer_of m slot }

module _ (slot : ℕ) (g : Group) where
  -- the message has the slot, which is final, or still in that group
  record Follows (m : MsgRow) : Type 0 where
    row : SlotRow
    there : slot_of m slot ≡ Some row
    so : (is_open row.state ≡ false) ⊎ (group_of_slot slot m ≡ g)

  abbrev AllFollow : Option MsgRow → Type 0
  AllFollow None = Unit {0}
  AllFollow (Some m) = Follows m

  -- a slot that can be taken is still in the group
  still_open : (m : MsgRow) (h : Follows m) → is_open h.row.state ≡ true → group_of_slot slot m ≡ g
  still_open m h o = by h.so
    where
      by : (is_open h.row.state ≡ false) ⊎ (group_of_slot slot m ≡ g) → group_of_slot slot m ≡ g
      by (inl closed) = absurd (true≢false (sym o ∙ closed))
      by (inr same) = same

  -- ---- one message

  same_row : (m : MsgRow) (x y : SlotRow) → slot_of m slot ≡ Some x → slot_of m slot ≡ Some y → x ≡ y
  same_row m x y e f = let h : Some x ≡ Some y = sym e ∙ f in cc

  grouped_alike : (m n : MsgRow) → n.queue ≡ m.queue → n.group ≡ m.group → consumer_of n slot ≡ consumer_of m slot → group_of_slot slot n ≡ group_of_slot slot m
  grouped_alike m n q k c =
      ap (λ x. record { queue = x; number = n.group; consumer = consumer_of n slot }) q ∙ ap (λ x. record { queue = m.queue; number = x; consumer = consumer_of n slot }) k ∙ ap (λ x. record { queue = m.queue; number = m.group; consumer = x }) c

  -- the slot is changed, which can be taken
  own_changed : (f : SlotRow → SlotRow) → ((s : SlotRow) → (f s).name ≡ s.name) → (m : MsgRow) → Follows m → is_open_slot slot m ≡ true → Follows (with_slot slot f m)
  own_changed f k m h o =
      let x = open_in m slot o in
      let same : x.row ≡ h.row = same_row m x.row h.row x.there h.there in
      let open_row : is_open h.row.state ≡ true = ap (λ s. is_open s.state) (sym same) ∙ x.is_open_row in
      let row_is : slot_of (with_slot slot f m) slot ≡ Some (f h.row) = slot_of-with_same slot f m ∙ ap (option_map f) h.there in
      let named : consumer_of (with_slot slot f m) slot ≡ consumer_of m slot =
      ap (λ y. option_and_then (λ s. s.name) y) row_is ∙ k h.row ∙ sym (ap (λ y. option_and_then (λ s. s.name) y) h.there) in
      record { row = f h.row; there = row_is; so = inr (grouped_alike m (with_slot slot f m) refl refl named ∙ still_open m h open_row) }

  other_changed : (f : SlotRow → SlotRow) (a : ℕ) (m : MsgRow) → a ≢ slot → Follows m → Follows (with_slot a f m)
  other_changed f a m d h =
      let same : slot_of (with_slot a f m) slot ≡ slot_of m slot = slot_of-with_other a slot f m d in
      record { row = h.row; there = same ∙ h.there; so = by h.so same }
    where
      by : (is_open h.row.state ≡ false) ⊎ (group_of_slot slot m ≡ g) → slot_of (with_slot a f m) slot ≡ slot_of m slot → (is_open h.row.state ≡ false) ⊎ (group_of_slot slot (with_slot a f m) ≡ g)
      by (inl closed) e = inl closed
      by (inr same) e = inr (grouped_alike m (with_slot a f m) refl refl (ap (λ y. option_and_then (λ s. s.name) y) e) ∙ same)

  changed_by : (f : SlotRow → SlotRow) → ((s : SlotRow) → (f s).name ≡ s.name) → (a : ℕ) (m : MsgRow) → (slot ≡ a) ⊎ (slot ≢ a) → is_open_slot a m ≡ true → Follows m → Follows (with_slot a f m)
  changed_by f k a m (inl e) o h = subst (λ n. Follows (with_slot n f m)) e (own_changed f k m h (ap (λ n. is_open_slot n m) e ∙ o))
  changed_by f k a m (inr d) o h = other_changed f a m (λ e. d (sym e)) h

  retried_name : (retries : ℕ) (until : Option ℕ) (at : ℕ) (s : SlotRow) → (retried retries until at s).name ≡ s.name
  retried_name retries None at s = refl
  retried_name retries (Some u) at s = refl

  if_changed : (f : SlotRow → SlotRow) → ((s : SlotRow) → (f s).name ≡ s.name) → (n a : ℕ) (m : MsgRow) (b : Bool) → (m.id == n) ≡ b → (b ≡ true → is_open_slot a m ≡ true) → Follows m → AllFollow (if b then Some (with_slot a f m) else Some m)
  if_changed f k n a m true e o h = changed_by f k a m (same_or_not a slot) (o refl) h
  if_changed f k n a m false e o h = h

  -- a message that is moved has no slot that can be taken
  moved_by : (m : MsgRow) (queue : List ℕ) (at : ℕ) (b : Bool) → (slot == 0) ≡ b → may_move m ≡ true → Follows m → Follows (moved_to queue at m)
  moved_by m queue at true e may h =
      let p = and_parts (not m.moved) (is_finished m) may in
      absurd (none-some h.row (sym (slot_of-zero m (not-true m.moved p.0)) ∙ ap (slot_of m) (sym (eqb-true slot 0 e)) ∙ h.there))
  moved_by m queue at false e may h =
      let p = and_parts (not m.moved) (is_finished m) may in
      record { row = h.row; there = slot_of-moved_other queue at m slot (not-true m.moved p.0) e ∙ h.there; so = inl (closed (is_open h.row.state) refl p.1) }
    where
      closed : (b : Bool) → is_open h.row.state ≡ b → is_finished m ≡ true → b ≡ false
      closed true o finished = finished_closed m slot finished (ap (λ y. option_map_or (λ s. is_open s.state) y false) h.there ∙ o)
      closed false o finished = refl

  if_moved : (m : MsgRow) (n : ℕ) (queue : List ℕ) (at : ℕ) (b : Bool) → (m.id == n) ≡ b → (b ≡ true → may_move m ≡ true) → Follows m → AllFollow (if b then Some (moved_to queue at m) else Some m)
  if_moved m n queue at true e may h = moved_by m queue at (slot == 0) refl (may refl) h
  if_moved m n queue at false e may h = h

  if_purged : (m : MsgRow) (b : Bool) → Follows m → AllFollow (if b then None else Some m)
  if_purged m true h = tt
  if_purged m false h = h

  left_follows : (o : Option MsgRow) (c : Change) → ((m : MsgRow) → o ≡ Some m → Follows m → AllFollow (left_by m c)) → AllFollow o → AllFollow (option_and_then (λ m. left_by m c) o)
  left_follows None c k h = tt
  left_follows (Some m) c k h = k m refl h

  without_follows : (name : List ℕ) (o : Option MsgRow) → AllFollow o → AllFollow (option_and_then (left_without name) o)
  without_follows name None h = tt
  without_follows name (Some m) h = cond_both (not (bytes_eq m.queue name)) (Some m) None AllFollow (λ e. h) (λ e. tt)

  -- ---- changes

  module _ (id : ℕ) where
    -- what is proper of the message that it names
    named_open : (t : Tables) (n a : ℕ) (m : MsgRow) → is_open_at t n a ≡ true → find_message t id ≡ Some m → (m.id == n) ≡ true → is_open_slot a m ≡ true
    named_open t n a m o f e =
        let same : find_message t n ≡ Some m = ap (find_message t) (sym (eqb-true m.id n e)) ∙ ap (find_message t) (id_found t id m f) ∙ f in
        sym (ap (λ y. option_map_or (is_open_slot a) y false) same) ∙ o

    named_may : (t : Tables) (n : ℕ) (m : MsgRow) → option_map_or may_move (find_message t n) false ≡ true → find_message t id ≡ Some m → (m.id == n) ≡ true → may_move m ≡ true
    named_may t n m o f e =
        let same : find_message t n ≡ Some m = ap (find_message t) (sym (eqb-true m.id n e)) ∙ ap (find_message t) (id_found t id m f) ∙ f in
        sym (ap (λ y. option_map_or may_move y false) same) ∙ o

    slot_follows : (t : Tables) (n a : ℕ) (f : SlotRow → SlotRow) → ((s : SlotRow) → (f s).name ≡ s.name) → is_open_at t n a ≡ true → (m : MsgRow) → find_message t id ≡ Some m → Follows m → AllFollow (if_it m n (Some (with_slot a f m)))
    slot_follows t n a f k p m e h = if_changed f k n a m (m.id == n) refl (λ b. named_open t n a m p e b) h

    one_follows : (t : Tables) (c : Change) → is_proper t c ≡ true → IsSingle t id → puts_in id c ≡ false → AllFollow (find_message t id) → AllFollow (find_message (after_change t c) id)
    one_follows t (changes.Enqueued row) p s none h =
        let q = and_parts (is_none (find_message t row.id)) (not row.moved) p in
        subst AllFollow (sym (finds_put_in t row id q.0 ∙ ap (λ b. if b then Some row else find_message t id) none)) h
    one_follows t (changes.DropQueue name) p s none h = subst AllFollow (sym (finds_without_queue t name id p s)) (without_follows name (find_message t id) h)
    one_follows t (changes.DropTable name) p s none h = subst AllFollow (sym (finds_without_table t name id)) h
    one_follows t (changes.Retried n a retries until at) p s none h =
        subst AllFollow (sym (finds_left t (changes.Retried n a retries until at) id s refl)) (left_follows (find_message t id) (changes.Retried n a retries until at) (slot_follows t n a (retried retries until at) (retried_name retries until at) p) h)
    one_follows t (changes.Ready n a at) p s none h =
        subst AllFollow (sym (finds_left t (changes.Ready n a at) id s refl)) (left_follows (find_message t id) (changes.Ready n a at) (slot_follows t n a (in_state states.Ready at) (λ x. refl) p) h)
    one_follows t (changes.Done n a at) p s none h =
        subst AllFollow (sym (finds_left t (changes.Done n a at) id s refl)) (left_follows (find_message t id) (changes.Done n a at) (slot_follows t n a (in_state states.Processed at) (λ x. refl) p) h)
    one_follows t (changes.Expired n a at) p s none h =
        subst AllFollow (sym (finds_left t (changes.Expired n a at) id s refl)) (left_follows (find_message t id) (changes.Expired n a at) (slot_follows t n a (in_state states.Expired at) (λ x. refl) p) h)
    one_follows t (changes.Dropped n a at) p s none h =
        subst AllFollow (sym (finds_left t (changes.Dropped n a at) id s refl)) (left_follows (find_message t id) (changes.Dropped n a at) (slot_follows t n a (in_state states.Dropped at) (λ x. refl) p) h)
    one_follows t (changes.Moved n queue at) p s none h =
        let q = and_parts (option_map_or may_move (find_message t n) false) (is_some (find_queue t queue)) p in
        subst AllFollow (sym (finds_left t (changes.Moved n queue at) id s (or_right (not (n == id)) (is_some (find_queue t queue)) q.1)))
        (left_follows (find_message t id) (changes.Moved n queue at) (λ m e k. if_moved m n queue at (m.id == n) refl (λ b. named_may t n m q.0 e b) k) h)
    one_follows t (changes.Purged n) p s none h =
        subst AllFollow (sym (finds_left t (changes.Purged n) id s refl)) (left_follows (find_message t id) (changes.Purged n) (λ m e k. if_purged m (m.id == n) k) h)
    one_follows t _ p s none h = h

    puts_new_if_proper : (t : Tables) (c : Change) → is_proper t c ≡ true → puts_new t c ≡ true
    puts_new_if_proper t (changes.Enqueued row) p = (and_parts (is_none (find_message t row.id)) (not row.moved) p).0
    puts_new_if_proper t (changes.PutTable row) p = refl
    puts_new_if_proper t _ p = refl

    all_follow : (cs : List Change) (t : Tables) → are_proper t cs ≡ true → IsSingle t id → list_any (puts_in id) cs ≡ false → AllFollow (find_message t id) → AllFollow (find_message (after_all t cs) id)
    all_follow [] t p s none h = h
    all_follow (c ∷ cs) t p s none h =
        let q = proper_parts t c cs p in
        let n = or_parts (puts_in id c) (list_any (puts_in id) cs) none in
        all_follow cs (after_change t c) q.1 (stays_single t c id s (new_may_be_put id t c (puts_new_if_proper t c q.0))) n.1 (one_follows t c q.0 s n.0 h)

-- a slot that can be taken before proper changes and after them is in the same group
pub group_stays : (t : Tables) (cs : List Change) (id slot : ℕ) (m n : MsgRow) → is_valid t ≡ true → are_proper t cs ≡ true → list_any (puts_in id) cs ≡ false → find_message t id ≡ Some m → is_open_at t id slot ≡ true
    → find_message (after_all t cs) id ≡ Some n → is_open_at (after_all t cs) id slot ≡ true → group_of_slot slot n ≡ group_of_slot slot m
group_stays t cs id slot m n v p none f o e k =
    let before = open_at t id slot o in
    let same : before.message ≡ m = (let x : Some before.message ≡ Some m = sym before.found ∙ f in cc) in
    let here : IsOpenIn m slot = subst (λ x. IsOpenIn x slot) same before.open_there in
    let end = all_follow slot (group_of_slot slot m) id cs t p (single_if_distinct t id (valid_distinct t v)) none
    (subst (AllFollow slot (group_of_slot slot m)) (sym f) (record { row = here.row; there = here.there; so = inr refl })) in
    let left : Follows slot (group_of_slot slot m) n = subst (AllFollow slot (group_of_slot slot m)) e end in
    let behind = open_in n slot (sym (ap (λ y. option_map_or (is_open_slot slot) y false) e) ∙ k) in
    let row : behind.row ≡ left.row = same_row slot (group_of_slot slot m) n behind.row left.row behind.there left.there in
    still_open slot (group_of_slot slot m) n left (ap (λ s. is_open s.state) (sym row) ∙ behind.is_open_row)

messages_by : (t : Tables) (moment : ℕ) (cs : List Change) (b : Bool) → (length cs == 0) ≡ b → (if b then t else after t (record { moment = moment; changes = cs })).messages ≡ (after_all t cs).messages
unfolding after
messages_by t moment cs true e = ap (λ ds. (after_all t ds).messages) (sym (empty_if cs e))
messages_by t moment cs false e = refl

-- a commit leaves the messages that its changes leave
pub committed_messages : (t : Tables) (moment : ℕ) (cs : List Change) → (committed_tables t cs moment).messages ≡ (after_all t cs).messages
committed_messages t moment cs = messages_by t moment cs (length cs == 0) refl

-- and so it is of a commit
pub committed_group : (t : Tables) (moment : ℕ) (cs : List Change) (id slot : ℕ) (m n : MsgRow) → is_valid t ≡ true → are_proper t cs ≡ true → list_any (puts_in id) cs ≡ false → is_open_at t id slot ≡ true → is_open_at (committed_tables t cs moment) id slot ≡ true
    → find_message t id ≡ Some m → find_message (committed_tables t cs moment) id ≡ Some n → group_of_slot slot n ≡ group_of_slot slot m
committed_group t moment cs id slot m n v p none o k f e =
    let same : find_message (after_all t cs) id ≡ find_message (committed_tables t cs moment) id = ap (find (λ x. x.id == id)) (sym (committed_messages t moment cs)) in
    group_stays t cs id slot m n v p none f o (same ∙ e) (ap (λ y. option_map_or (is_open_slot slot) y false) same ∙ k)
