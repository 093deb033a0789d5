-- Proper changes leave a slot at its database.
use Rattle.std.proofs.Common.{◌≡◌, ◌≢◌, ◌⊎◌, inl, inr, ℕ, List, [], ◌∷◌, Bool, true, false, not, refl, sym, ap, ◌∙◌, Option, Some, None, ◌==◌, ◌&&◌, length}
use Rattle.std.specs.Prelude.{option_map, option_and_then, is_some, is_none, if◌then◌else◌}
use Rattle.std.specs.List.{list_any}
use Rattle.std.specs.Option.{option_map_or}
use Rattle.std.specs.Str.{bytes_eq}
use Rattle.std.proofs.lemmas.Bool.{cond_both, eqb-true, and_parts, or_parts, or_right, not-true, true≢false}
use Rattle.queue_rows.specs.Rows.{find_message, find_queue, with_slot, slot_of}
use Rattle.queue_rows.specs.Tables.{after_change, after_all, after, in_state, retried, moved_to}
use Rattle.queue_rows.specs.Settling.{if_it, left_by}
use Rattle.queue_rows.specs.World.{committed_tables}
use Rattle.queue_rows.specs.Valid.{is_valid}
use Rattle.queue_rows.specs.declared.tables.Tables.{Tables}
use Rattle.queue_rows.specs.declared.rows.MsgRow.{MsgRow}
use Rattle.queue_rows.specs.declared.rows.SlotRow.{SlotRow}
use Rattle.queue_rows.specs.declared.rows.SlotState.TheVariants as states
use Rattle.queue_rows.specs.declared.change.Change.{Change}
use Rattle.queue_rows.specs.declared.change.Change.TheVariants as changes
use Rattle.queue_rows.proofs.Sessions.{same_or_not}
use Rattle.row_laws.specs.RowLaws.{puts_new}
use Rattle.row_laws.proofs.Messages.{IsSingle, id_found, finds_left, finds_put_in, finds_without_queue, stays_single, new_may_be_put}
use Rattle.row_laws.proofs.Slots.{slot_of-with_same, slot_of-with_other, slot_of-moved_zero, slot_of-moved_other}
use Rattle.valid_laws.specs.Openness.{is_finished, may_move}
use Rattle.valid_laws.specs.Touching.{puts_in, is_proper, are_proper}
use Rattle.history_laws.proofs.SlotFates.{left_without}
use Rattle.history_laws.proofs.Agreeing.{finds_without_table}
use Rattle.history_laws.proofs.Holding.{proper_parts}
use Rattle.row_laws.proofs.Distinctly.{single_if_distinct}
use Rattle.valid_laws.proofs.Parts.{valid_distinct}
use Rattle.history_laws.specs.LocalMarks.{is_remote_slot, is_remote_at}
use Rattle.history_laws.proofs.Commits.{empty_if}

module _ (slot : ℕ) where
  abbrev goes : MsgRow → Bool
  goes m = option_map_or (λ s. is_some s.address) (slot_of m slot) false

  abbrev is_remote : Option MsgRow → Bool
  is_remote o = option_map_or goes o false

  -- ---- one message

  same_address : (f : SlotRow → SlotRow) → ((s : SlotRow) → (f s).address ≡ s.address) → (o : Option SlotRow) → option_map_or (λ s. is_some s.address) (option_map f o) false ≡ option_map_or (λ s. is_some s.address) o false
  same_address f k None = refl
  same_address f k (Some s) = ap is_some (k s)

  with_slot_remote : (f : SlotRow → SlotRow) → ((s : SlotRow) → (f s).address ≡ s.address) → (a : ℕ) (m : MsgRow) → goes (with_slot a f m) ≡ goes m
  with_slot_remote f k a m = by (same_or_not a slot)
    where
      by : (slot ≡ a) ⊎ (slot ≢ a) → goes (with_slot a f m) ≡ goes m
      by (inl e) =
          ap (λ n. option_map_or (λ s. is_some s.address) (slot_of (with_slot a f m) n) false) e ∙ ap (λ o. option_map_or (λ s. is_some s.address) o false) (slot_of-with_same a f m) ∙ same_address f k (slot_of m a)
          ∙ ap (λ n. option_map_or (λ s. is_some s.address) (slot_of m n) false) (sym e)
      by (inr d) = ap (λ o. option_map_or (λ s. is_some s.address) o false) (slot_of-with_other a slot f m (λ e. d (sym e)))

  if_it_local : (b : Bool) (m : MsgRow) (left : Option MsgRow) → goes m ≡ false → is_remote left ≡ false → is_remote (if b then left else Some m) ≡ false
  if_it_local true m left h k = k
  if_it_local false m left h k = h

  slot_local : (m : MsgRow) (n a : ℕ) (f : SlotRow → SlotRow) → ((s : SlotRow) → (f s).address ≡ s.address) → goes m ≡ false → is_remote (if_it m n (Some (with_slot a f m))) ≡ false
  slot_local m n a f k h = if_it_local (m.id == n) m (Some (with_slot a f m)) h (with_slot_remote f k a m ∙ h)

  retried_address : (retries : ℕ) (until : Option ℕ) (at : ℕ) (s : SlotRow) → (retried retries until at s).address ≡ s.address
  retried_address retries None at s = refl
  retried_address retries (Some u) at s = refl

  moved_local : (m : MsgRow) (queue : List ℕ) (at : ℕ) (b : Bool) → (slot == 0) ≡ b → m.moved ≡ false → goes m ≡ false → goes (moved_to queue at m) ≡ false
  moved_local m queue at true e u h = ap (λ n. option_map_or (λ s. is_some s.address) (slot_of (moved_to queue at m) n) false) (eqb-true slot 0 e) ∙ ap (λ o. option_map_or (λ s. is_some s.address) o false) (slot_of-moved_zero queue at m)
  moved_local m queue at false e u h = ap (λ o. option_map_or (λ s. is_some s.address) o false) (slot_of-moved_other queue at m slot u e) ∙ h

  if_moved : (m : MsgRow) (n : ℕ) (queue : List ℕ) (at : ℕ) (b : Bool) → (m.id == n) ≡ b → (b ≡ true → m.moved ≡ false) → goes m ≡ false → is_remote (if b then Some (moved_to queue at m) else Some m) ≡ false
  if_moved m n queue at true e u h = moved_local m queue at (slot == 0) refl (u refl) h
  if_moved m n queue at false e u h = h

  left_local : (o : Option MsgRow) (c : Change) → ((m : MsgRow) → o ≡ Some m → goes m ≡ false → is_remote (left_by m c) ≡ false) → is_remote o ≡ false → is_remote (option_and_then (λ m. left_by m c) o) ≡ false
  left_local None c k h = refl
  left_local (Some m) c k h = k m refl h

  without_local : (name : List ℕ) (o : Option MsgRow) → is_remote o ≡ false → is_remote (option_and_then (left_without name) o) ≡ false
  without_local name None h = refl
  without_local name (Some m) h = cond_both (not (bytes_eq m.queue name)) (Some m) None (λ x. is_remote x ≡ false) (λ e. h) (λ e. refl)

  put_local : (row : MsgRow) (o : Option MsgRow) (b : Bool) → (b ≡ true → goes row ≡ false) → is_remote o ≡ false → is_remote (if b then Some row else o) ≡ false
  put_local row o true k h = k refl
  put_local row o false k h = h

  -- ---- one change

  module _ (id : ℕ) where
    found_unmoved : (t : Tables) (n : ℕ) (m : MsgRow) (o : Option MsgRow) → find_message t n ≡ o → option_map_or may_move o false ≡ true → find_message t id ≡ Some m → (m.id == n) ≡ true → m.moved ≡ false
    found_unmoved t n m None f h g e = absurd (true≢false (sym h))
    found_unmoved t n m (Some x) f h g e =
        let same : Some x ≡ Some m = sym f ∙ ap (find_message t) (sym (eqb-true m.id n e)) ∙ ap (find_message t) (id_found t id m g) ∙ g in
        let one : x ≡ m = cc in
        ap (λ y. y.moved) (sym one) ∙ not-true x.moved (and_parts (not x.moved) (is_finished x) h).0

    puts_new_if_proper : (t : Tables) (c : Change) → is_proper t c ≡ true → puts_new t c ≡ true
    puts_new_if_proper t (changes.Enqueued row) p = (and_parts (is_none (find_message t row.id)) (not row.moved) p).0
    puts_new_if_proper t (changes.PutTable row) p = refl
    puts_new_if_proper t _ p = refl

    row_local : (row : MsgRow) (cs : List Change) → list_any (puts_in id) (changes.Enqueued row ∷ cs) ≡ false → (row.id == id) ≡ true → goes row ≡ false
    row_local row cs none h = absurd (true≢false (sym h ∙ (or_parts (row.id == id) (list_any (puts_in id) cs) none).0))

    one_local : (t : Tables) (c : Change) (cs : List Change) → is_proper t c ≡ true → IsSingle t id → list_any (puts_in id) (c ∷ cs) ≡ false → is_remote (find_message t id) ≡ false → is_remote (find_message (after_change t c) id) ≡ false
    one_local t (changes.Enqueued row) cs p s k h =
        let q = and_parts (is_none (find_message t row.id)) (not row.moved) p in
        ap is_remote (finds_put_in t row id q.0) ∙ put_local row (find_message t id) (row.id == id) (row_local row cs k) h
    one_local t (changes.DropQueue name) cs p s k h = ap is_remote (finds_without_queue t name id p s) ∙ without_local name (find_message t id) h
    one_local t (changes.DropTable name) cs p s k h = ap is_remote (finds_without_table t name id) ∙ h
    one_local t (changes.Retried n a retries until at) cs p s k h =
        ap is_remote (finds_left t (changes.Retried n a retries until at) id s refl) ∙ left_local (find_message t id) (changes.Retried n a retries until at) (λ m e g. slot_local m n a (retried retries until at) (retried_address retries until at) g) h
    one_local t (changes.Ready n a at) cs p s k h = ap is_remote (finds_left t (changes.Ready n a at) id s refl) ∙ left_local (find_message t id) (changes.Ready n a at) (λ m e g. slot_local m n a (in_state states.Ready at) (λ x. refl) g) h
    one_local t (changes.Done n a at) cs p s k h = ap is_remote (finds_left t (changes.Done n a at) id s refl) ∙ left_local (find_message t id) (changes.Done n a at) (λ m e g. slot_local m n a (in_state states.Processed at) (λ x. refl) g) h
    one_local t (changes.Expired n a at) cs p s k h = ap is_remote (finds_left t (changes.Expired n a at) id s refl) ∙ left_local (find_message t id) (changes.Expired n a at) (λ m e g. slot_local m n a (in_state states.Expired at) (λ x. refl) g) h
    one_local t (changes.Dropped n a at) cs p s k h = ap is_remote (finds_left t (changes.Dropped n a at) id s refl) ∙ left_local (find_message t id) (changes.Dropped n a at) (λ m e g. slot_local m n a (in_state states.Dropped at) (λ x. refl) g) h
    one_local t (changes.Moved n queue at) cs p s k h =
        let q = and_parts (option_map_or may_move (find_message t n) false) (is_some (find_queue t queue)) p in
        ap is_remote (finds_left t (changes.Moved n queue at) id s (or_right (not (n == id)) (is_some (find_queue t queue)) q.1))
        ∙ left_local (find_message t id) (changes.Moved n queue at) (λ m e g. if_moved m n queue at (m.id == n) refl (λ b. found_unmoved t n m (find_message t n) refl q.0 e b) g) h
    one_local t (changes.Purged n) cs p s k h = ap is_remote (finds_left t (changes.Purged n) id s refl) ∙ left_local (find_message t id) (changes.Purged n) (λ m e g. if_it_local (m.id == n) m None g refl) h
    one_local t _ cs p s k h = h

    all_local : (cs : List Change) (t : Tables) → are_proper t cs ≡ true → IsSingle t id → list_any (puts_in id) cs ≡ false → is_remote (find_message t id) ≡ false → is_remote (find_message (after_all t cs) id) ≡ false
    all_local [] t p s k h = h
    all_local (c ∷ cs) t p s k h =
        let q = proper_parts t c cs p in
        all_local cs (after_change t c) q.1 (stays_single t c id s (new_may_be_put id t c (puts_new_if_proper t c q.0))) (or_parts (puts_in id c) (list_any (puts_in id) cs) k).1 (one_local t c cs q.0 s k h)

    -- slot 0 is nobody's
    zero_local : (o : Option MsgRow) → (slot == 0) ≡ true → option_map_or (is_remote_slot slot) o false ≡ false
    zero_local None e = refl
    zero_local (Some m) e = ap (λ b. not b && goes m) e

    other_goes : (o : Option MsgRow) → (slot == 0) ≡ false → option_map_or (is_remote_slot slot) o false ≡ is_remote o
    other_goes None e = refl
    other_goes (Some m) e = ap (λ b. not b && goes m) e

    by_zero : (b : Bool) → (slot == 0) ≡ b → (cs : List Change) (t : Tables) → are_proper t cs ≡ true → IsSingle t id → list_any (puts_in id) cs ≡ false → is_remote_at t id slot ≡ false → is_remote_at (after_all t cs) id slot ≡ false
    by_zero true e cs t p s k h = zero_local (find_message (after_all t cs) id) e
    by_zero false e cs t p s k h = other_goes (find_message (after_all t cs) id) e ∙ all_local cs t p s k (sym (other_goes (find_message t id) e) ∙ h)

    pub local_all : (cs : List Change) (t : Tables) → is_valid t ≡ true → are_proper t cs ≡ true → list_any (puts_in id) cs ≡ false → is_remote_at t id slot ≡ false → is_remote_at (after_all t cs) id slot ≡ false
    local_all cs t v p k h = by_zero (slot == 0) refl cs t p (single_if_distinct t id (valid_distinct t v)) k h

    committed_by : (t : Tables) (moment : ℕ) (cs : List Change) (b : Bool) → (length cs == 0) ≡ b → is_remote_at (after_all t cs) id slot ≡ false → is_remote_at (if b then t else after t (record { moment = moment; changes = cs })) id slot ≡ false
    unfolding after
    committed_by t moment cs true e h = ap (λ ds. is_remote_at (after_all t ds) id slot) (sym (empty_if cs e)) ∙ h
    committed_by t moment cs false e h = h

    pub local_committed : (t : Tables) (moment : ℕ) (cs : List Change) → is_valid t ≡ true → are_proper t cs ≡ true → list_any (puts_in id) cs ≡ false → is_remote_at t id slot ≡ false → is_remote_at (committed_tables t cs moment) id slot ≡ false
    local_committed t moment cs v p k h = committed_by t moment cs (length cs == 0) refl (local_all cs t v p k h)

pub local_stays : (t : Tables) (cs : List Change) (id slot : ℕ) → is_valid t ≡ true → are_proper t cs ≡ true → list_any (puts_in id) cs ≡ false → is_remote_at t id slot ≡ false → is_remote_at (after_all t cs) id slot ≡ false
local_stays t cs id slot v p none h = local_all slot id cs t v p none h
