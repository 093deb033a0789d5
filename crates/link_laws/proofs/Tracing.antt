-- A slot that goes to the other database keeps its message's facts and its expiry.
use Rattle.std.proofs.Common.{◌≡◌, ◌≢◌, ◌⊎◌, inl, inr, ℕ, List, [], ◌∷◌, Bool, true, false, not, refl, sym, ap, subst, ◌∙◌, Option, Some, None, ◌==◌}
use Rattle.std.specs.Prelude.{option_map, option_and_then, is_some, is_none, if◌then◌else◌}
use Rattle.std.specs.Option.{option_map_or}
use Rattle.std.specs.Str.{bytes_eq}
use Rattle.std.proofs.lemmas.Bool.{eqb-true, and_parts, or_right, not-true, false≢true}
use Rattle.std.proofs.lemmas.Option.{none-some}
use Rattle.queue_rows.specs.Rows.{find_message, find_queue, with_slot, slot_of}
use Rattle.queue_rows.specs.Tables.{after_change, after_all, after, in_state, retried, moved_to}
use Rattle.queue_rows.specs.Settling.{if_it, left_by}
use Rattle.queue_rows.specs.Valid.{is_valid}
use Rattle.queue_rows.specs.declared.tables.Tables.{Tables}
use Rattle.queue_rows.specs.declared.rows.MsgRow.{MsgRow}
use Rattle.queue_rows.specs.declared.rows.SlotRow.{SlotRow}
use Rattle.queue_rows.specs.declared.rows.SlotState.TheVariants as states
use Rattle.queue_rows.specs.declared.change.Change.{Change}
use Rattle.queue_rows.specs.declared.change.Change.TheVariants as changes
use Rattle.queue_rows.specs.declared.change.Commit.{Commit}
use Rattle.queue_rows.proofs.Sessions.{same_or_not}
use Rattle.row_laws.specs.RowLaws.{puts_new}
use Rattle.row_laws.proofs.Messages.{IsSingle, id_found, finds_left, finds_put_in, finds_without_queue, stays_single, new_may_be_put}
use Rattle.row_laws.proofs.Slots.{slot_of-with_same, slot_of-with_other, slot_of-moved_zero, slot_of-moved_other}
use Rattle.row_laws.proofs.Distinctly.{single_if_distinct}
use Rattle.valid_laws.specs.Openness.{is_finished, may_move}
use Rattle.valid_laws.specs.Touching.{is_proper, are_proper}
use Rattle.valid_laws.proofs.Parts.{valid_distinct}
use Rattle.history_laws.proofs.SlotFates.{left_without}
use Rattle.history_laws.proofs.Agreeing.{finds_without_table}
use Rattle.history_laws.proofs.Holding.{proper_parts}

-- the opening had that slot, with the same facts and expiry
pub record IsOriginal (opening : Tables) (id slot : ℕ) (m : MsgRow) (s : SlotRow) : Type 0 where
  pub message : MsgRow
  pub row : SlotRow
  pub message_is : find_message opening id ≡ Some message
  pub row_is : slot_of message slot ≡ Some row
  pub facts : m.facts ≡ message.facts
  pub expiry : s.expires ≡ row.expires

module _ (opening : Tables) (slot id : ℕ) where
  -- if the slot goes to the other database, the opening had it
  abbrev pub IsTracedIn : MsgRow → Type 0
  IsTracedIn m = (s : SlotRow) → slot_of m slot ≡ Some s → is_some s.address ≡ true → IsOriginal opening id slot m s

  abbrev IsTracedSome : Option MsgRow → Type 0
  IsTracedSome o = (m : MsgRow) → o ≡ Some m → IsTracedIn m

  abbrev pub IsTraced : Tables → Type 0
  IsTraced t = IsTracedSome (find_message t id)

  -- ---- one message

  none_traced : IsTracedSome None
  none_traced m e = absurd (none-some m e)

  one_traced : (m : MsgRow) → IsTracedIn m → IsTracedSome (Some m)
  one_traced m h x e = let same : m ≡ x = (let a : Some m ≡ Some x = e in cc) in subst IsTracedIn same h

  -- it keeps where the slot goes and when it expires
  record Keeps (f : SlotRow → SlotRow) : Type 0 where
    pub address : (s : SlotRow) → (f s).address ≡ s.address
    pub expiry : (s : SlotRow) → (f s).expires ≡ s.expires

  mapped : (f : SlotRow → SlotRow) (o : Option SlotRow) (s : SlotRow) → option_map f o ≡ Some s → (old : SlotRow) × (o ≡ Some old) × (f old ≡ s)
  mapped f None s e = absurd (none-some s e)
  mapped f (Some old) s e = (old, refl, let a : Some (f old) ≡ Some s = e in cc)

  with_slot_traced : (f : SlotRow → SlotRow) → Keeps f → (a : ℕ) (m : MsgRow) → IsTracedIn m → IsTracedIn (with_slot a f m)
  with_slot_traced f k a m h s e g = by (same_or_not a slot)
    where
      by : (slot ≡ a) ⊎ (slot ≢ a) → IsOriginal opening id slot (with_slot a f m) s
      by (inl same) =
          let x = mapped f (slot_of m a) s (sym (slot_of-with_same a f m) ∙ ap (slot_of (with_slot a f m)) (sym same) ∙ e) in
          let there : is_some x.0.address ≡ true = ap is_some (sym (k.address x.0)) ∙ ap (λ y. is_some y.address) x.2 ∙ g in
          let o = h x.0 (ap (slot_of m) same ∙ x.1) there in
          record { message = o.message; row = o.row; message_is = o.message_is; row_is = o.row_is; facts = o.facts; expiry = ap (λ y. y.expires) (sym x.2) ∙ k.expiry x.0 ∙ o.expiry }
      by (inr d) =
          let o = h s (sym (slot_of-with_other a slot f m (λ q. d (sym q))) ∙ e) g in
          record { message = o.message; row = o.row; message_is = o.message_is; row_is = o.row_is; facts = o.facts; expiry = o.expiry }

  if_it_traced : (b : Bool) (m : MsgRow) (left : Option MsgRow) → IsTracedIn m → IsTracedSome left → IsTracedSome (if b then left else Some m)
  if_it_traced true m left h k = k
  if_it_traced false m left h k = one_traced m h

  slot_traced : (m : MsgRow) (n a : ℕ) (f : SlotRow → SlotRow) → Keeps f → IsTracedIn m → IsTracedSome (if_it m n (Some (with_slot a f m)))
  slot_traced m n a f k h = if_it_traced (m.id == n) m (Some (with_slot a f m)) h (one_traced (with_slot a f m) (with_slot_traced f k a m h))

  retried_keeps : (retries : ℕ) (until : Option ℕ) (at : ℕ) → Keeps (retried retries until at)
  retried_keeps retries None at = record { address = λ s. refl; expiry = λ s. refl }
  retried_keeps retries (Some u) at = record { address = λ s. refl; expiry = λ s. refl }

  -- slot 0 of a moved message goes nowhere
  moved_traced : (m : MsgRow) (queue : List ℕ) (at : ℕ) (b : Bool) → (slot == 0) ≡ b → m.moved ≡ false → IsTracedIn m → IsTracedIn (moved_to queue at m)
  moved_traced m queue at true e u h s f g =
      absurd (false≢true (ap (λ o. option_map_or (λ x. is_some x.address) o false) (sym (slot_of-moved_zero queue at m) ∙ ap (slot_of (moved_to queue at m)) (sym (eqb-true slot 0 e)) ∙ f) ∙ g))
  moved_traced m queue at false e u h s f g =
      let o = h s (sym (slot_of-moved_other queue at m slot u e) ∙ f) g in
      record { message = o.message; row = o.row; message_is = o.message_is; row_is = o.row_is; facts = o.facts; expiry = o.expiry }

  if_moved : (m : MsgRow) (n : ℕ) (queue : List ℕ) (at : ℕ) (b : Bool) → (m.id == n) ≡ b → (b ≡ true → m.moved ≡ false) → IsTracedIn m → IsTracedSome (if b then Some (moved_to queue at m) else Some m)
  if_moved m n queue at true e u h = one_traced (moved_to queue at m) (moved_traced m queue at (slot == 0) refl (u refl) h)
  if_moved m n queue at false e u h = one_traced m h

  left_traced : (o : Option MsgRow) (c : Change) → ((m : MsgRow) → o ≡ Some m → IsTracedIn m → IsTracedSome (left_by m c)) → IsTracedSome o → IsTracedSome (option_and_then (λ m. left_by m c) o)
  left_traced None c k h = none_traced
  left_traced (Some m) c k h = k m refl (h m refl)

  without_traced : (name : List ℕ) (o : Option MsgRow) → IsTracedSome o → IsTracedSome (option_and_then (left_without name) o)
  without_traced name None h = none_traced
  without_traced name (Some m) h = by (not (bytes_eq m.queue name))
    where
      by : (b : Bool) → IsTracedSome (if b then Some m else None)
      by true = h
      by false = none_traced

  put_traced : (row : MsgRow) (o : Option MsgRow) (b : Bool) → (b ≡ true → IsTracedIn row) → IsTracedSome o → IsTracedSome (if b then Some row else o)
  put_traced row o true k h = one_traced row (k refl)
  put_traced row o false k h = h

  -- ---- one change

  -- a message that it puts in has no slot that goes to the other database
  abbrev pub PutsLocal : Change → Type 0
  PutsLocal (changes.Enqueued row) = (s : SlotRow) → slot_of row slot ≡ Some s → s.address ≡ None
  PutsLocal _ = Unit {0}

  found_unmoved : (t : Tables) (n : ℕ) (m : MsgRow) (o : Option MsgRow) → find_message t n ≡ o → option_map_or may_move o false ≡ true → find_message t id ≡ Some m → (m.id == n) ≡ true → m.moved ≡ false
  found_unmoved t n m None f h g e = absurd (false≢true h)
  found_unmoved t n m (Some x) f h g e =
      let same : Some x ≡ Some m = sym f ∙ ap (find_message t) (sym (eqb-true m.id n e)) ∙ ap (find_message t) (id_found t id m g) ∙ g in
      let one : x ≡ m = cc in
      ap (λ y. y.moved) (sym one) ∙ not-true x.moved (and_parts (not x.moved) (is_finished x) h).0

  puts_new_if_proper : (t : Tables) (c : Change) → is_proper t c ≡ true → puts_new t c ≡ true
  puts_new_if_proper t (changes.Enqueued row) p = (and_parts (is_none (find_message t row.id)) (not row.moved) p).0
  puts_new_if_proper t (changes.PutTable row) p = refl
  puts_new_if_proper t _ p = refl

  local_traced : (row : MsgRow) → PutsLocal (changes.Enqueued row) → IsTracedIn row
  local_traced row k s e g = absurd (false≢true (ap is_some (sym (k s e)) ∙ g))

  change_traced : (t : Tables) (c : Change) → is_proper t c ≡ true → IsSingle t id → PutsLocal c → IsTraced t → IsTraced (after_change t c)
  change_traced t (changes.Enqueued row) p s k h =
      let q = and_parts (is_none (find_message t row.id)) (not row.moved) p in
      subst IsTracedSome (sym (finds_put_in t row id q.0)) (put_traced row (find_message t id) (row.id == id) (λ e. local_traced row k) h)
  change_traced t (changes.DropQueue name) p s k h = subst IsTracedSome (sym (finds_without_queue t name id p s)) (without_traced name (find_message t id) h)
  change_traced t (changes.DropTable name) p s k h = subst IsTracedSome (sym (finds_without_table t name id)) h
  change_traced t (changes.Retried n a retries until at) p s k h =
      subst IsTracedSome (sym (finds_left t (changes.Retried n a retries until at) id s refl)) (left_traced (find_message t id) (changes.Retried n a retries until at) (λ m e g. slot_traced m n a (retried retries until at) (retried_keeps retries until at) g) h)
  change_traced t (changes.Ready n a at) p s k h =
      subst IsTracedSome (sym (finds_left t (changes.Ready n a at) id s refl)) (left_traced (find_message t id) (changes.Ready n a at) (λ m e g. slot_traced m n a (in_state states.Ready at) (record { address = λ x. refl; expiry = λ x. refl }) g) h)
  change_traced t (changes.Done n a at) p s k h =
      subst IsTracedSome (sym (finds_left t (changes.Done n a at) id s refl)) (left_traced (find_message t id) (changes.Done n a at) (λ m e g. slot_traced m n a (in_state states.Processed at) (record { address = λ x. refl; expiry = λ x. refl }) g) h)
  change_traced t (changes.Expired n a at) p s k h =
      subst IsTracedSome (sym (finds_left t (changes.Expired n a at) id s refl)) (left_traced (find_message t id) (changes.Expired n a at) (λ m e g. slot_traced m n a (in_state states.Expired at) (record { address = λ x. refl; expiry = λ x. refl }) g) h)
  change_traced t (changes.Dropped n a at) p s k h =
      subst IsTracedSome (sym (finds_left t (changes.Dropped n a at) id s refl)) (left_traced (find_message t id) (changes.Dropped n a at) (λ m e g. slot_traced m n a (in_state states.Dropped at) (record { address = λ x. refl; expiry = λ x. refl }) g) h)
  change_traced t (changes.Moved n queue at) p s k h =
      let q = and_parts (option_map_or may_move (find_message t n) false) (is_some (find_queue t queue)) p in
      subst IsTracedSome (sym (finds_left t (changes.Moved n queue at) id s (or_right (not (n == id)) (is_some (find_queue t queue)) q.1)))
      (left_traced (find_message t id) (changes.Moved n queue at) (λ m e g. if_moved m n queue at (m.id == n) refl (λ b. found_unmoved t n m (find_message t n) refl q.0 e b) g) h)
  change_traced t (changes.Purged n) p s k h =
      subst IsTracedSome (sym (finds_left t (changes.Purged n) id s refl)) (left_traced (find_message t id) (changes.Purged n) (λ m e g. if_it_traced (m.id == n) m None g none_traced) h)
  change_traced t _ p s k h = h

  -- ---- a commit

  abbrev pub AllPutLocal : List Change → Type 0
  AllPutLocal [] = Unit {0}
  AllPutLocal (c ∷ cs) = PutsLocal c × AllPutLocal cs

  all_traced : (cs : List Change) (t : Tables) → are_proper t cs ≡ true → IsSingle t id → AllPutLocal cs → IsTraced t → IsTraced (after_all t cs)
  all_traced [] t p s k h = h
  all_traced (c ∷ cs) t p s k h =
      let q = proper_parts t c cs p in
      all_traced cs (after_change t c) q.1 (stays_single t c id s (new_may_be_put id t c (puts_new_if_proper t c q.0))) k.1 (change_traced t c q.0 s k.0 h)

  pub commit_traced : (t : Tables) (c : Commit) → is_valid t ≡ true → are_proper t c.changes ≡ true → AllPutLocal c.changes → IsTraced t → IsTraced (after t c)
  unfolding after
  commit_traced t c v p k h = all_traced c.changes t p (single_if_distinct t id (valid_distinct t v)) k h

  pub opening_traced : IsTraced opening
  opening_traced m e s f g = record { message = m; row = s; message_is = e; row_is = f; facts = refl; expiry = refl }
