-- Through one proper change the fate of a slot stays what its message's row says.
use Rattle.std.proofs.Common.{◌≡◌, ◌≢◌, ℕ, List, Bool, true, false, not, refl, sym, ap, ◌∙◌, subst, Option, Some, None, ◌==◌, ◌&&◌}
use Rattle.std.specs.Prelude.{option_map, option_and_then, is_some, is_none, if◌then◌else◌}
use Rattle.std.specs.Option.{option_map_or}
use Rattle.std.specs.Str.{bytes_eq}
use Rattle.std.proofs.lemmas.Bool.{eqb-true, eqb-false, eq-eqb, ne_eqb, false≢true, and_parts, or_right, not-true}
use Rattle.std.proofs.lemmas.Option.{none-some}
use Rattle.queue_rows.specs.Rows.{find_message, find_queue, find_table, with_slot, slot_of}
use Rattle.queue_rows.specs.Tables.{after_change, in_state, retried, moved_to}
use Rattle.queue_rows.specs.Settling.{if_it, left_by}
use Rattle.history_laws.specs.Fates.{Fate, ready, processed, expired, dropped, fate_in, is_final, SlotFate, slot_fate_of, with_fate, in_queue, said, retried_fate, moved_slot_fate, without_queue, slot_fate_after}
use Rattle.valid_laws.specs.Openness.{is_open_at, is_finished, is_finished_at, may_move}
use Rattle.valid_laws.specs.Touching.{is_proper}
use Rattle.queue_rows.specs.declared.tables.Tables.{Tables}
use Rattle.queue_rows.specs.declared.rows.MsgRow.{MsgRow}
use Rattle.queue_rows.specs.declared.rows.SlotRow.{SlotRow}
use Rattle.queue_rows.specs.declared.rows.SlotState.TheVariants as states
use Rattle.queue_rows.specs.declared.change.Change.{Change}
use Rattle.queue_rows.specs.declared.change.Change.TheVariants as changes
use Rattle.row_laws.proofs.Slots.{slot_of-with_same, slot_of-with_other, slot_of-moved_zero, slot_of-moved_other}
use Rattle.row_laws.proofs.Messages.{IsSingle, id_found, finds_left, finds_put_in, finds_without_queue, and_then_some}
use Rattle.valid_laws.proofs.Opened.{open_at, found_with}
use Rattle.history_laws.proofs.SlotFates.{AgreesSo, final_slot_fate, left_without, finished_final}

-- ---- a slot in another state

module _ (f : SlotRow → SlotRow) (fate : Fate) (is : (s : SlotRow) → fate_in (f s).state ≡ fate) where
  same_slot_fate : (m : MsgRow) (slot : ℕ) (o : Option SlotRow) → slot_of m slot ≡ o → option_map (with_fate fate) (slot_fate_of slot m) ≡ slot_fate_of slot (with_slot slot f m)
  same_slot_fate m slot None e = rw (e, slot_of-with_same slot f m, e) refl
  same_slot_fate m slot (Some s) e = rw (e, slot_of-with_same slot f m, e, is s) refl

  other_slot_fate : (m : MsgRow) (a slot : ℕ) → a ≢ slot → slot_fate_of slot m ≡ slot_fate_of slot (with_slot a f m)
  other_slot_fate m a slot d = rw (slot_of-with_other a slot f m d) refl

  by_slot : (m : MsgRow) (a slot : ℕ) (b : Bool) → (a == slot) ≡ b → said b fate (slot_fate_of slot m) ≡ slot_fate_of slot (with_slot a f m)
  by_slot m a slot true e =
      subst (λ n. option_map (with_fate fate) (slot_fate_of slot m) ≡ slot_fate_of slot (with_slot n f m)) (sym (eqb-true a slot e)) (same_slot_fate m slot (slot_of m slot) refl)
  by_slot m a slot false e = other_slot_fate m a slot (eqb-false a slot e)

  -- the row that is left, where this is the message or another
  slot_agrees_by : (t : Tables) (named a id slot : ℕ) (slot_fate : Option SlotFate) (o : Option MsgRow) (b : Bool) → find_message t id ≡ o → (named == id) ≡ b → is_open_at t named a ≡ true
      → AgreesSo o slot slot_fate → AgreesSo (option_and_then (λ m. if_it m named (Some (with_slot a f m))) o) slot (said (b && (a == slot)) fate slot_fate)
  slot_agrees_by t named a id slot slot_fate None true e g h k =
      let o = open_at t named a h in
      absurd (none-some o.message (sym e ∙ ap (find_message t) (sym (eqb-true named id g)) ∙ o.found))
  slot_agrees_by t named a id slot slot_fate None false e g h k = k
  slot_agrees_by t named a id slot slot_fate (Some m) true e g h k =
      let same : named ≡ id = eqb-true named id g in
      let it : (m.id == named) ≡ true = eq-eqb m.id named (id_found t id m e ∙ sym same) in
      rw it (ap (said (a == slot) fate) k ∙ by_slot m a slot (a == slot) refl)
  slot_agrees_by t named a id slot slot_fate (Some m) false e g h k =
      let other : (m.id == named) ≡ false = ne_eqb m.id named (λ s. eqb-false named id g (sym s ∙ id_found t id m e)) in
      rw other k

  pub slot_agrees : (t : Tables) (named a id slot : ℕ) (slot_fate : Option SlotFate) → is_open_at t named a ≡ true → AgreesSo (find_message t id) slot slot_fate
      → AgreesSo (option_and_then (λ m. if_it m named (Some (with_slot a f m))) (find_message t id)) slot (said ((named == id) && (a == slot)) fate slot_fate)
  slot_agrees t named a id slot slot_fate h k = slot_agrees_by t named a id slot slot_fate (find_message t id) (named == id) refl refl h k

-- ---- a message is moved

moved_same : (queue : List ℕ) (at : ℕ) (m : MsgRow) (slot : ℕ) (o : Option SlotRow) → slot_of m slot ≡ o → slot_of (moved_to queue at m) slot ≡ o → option_map (in_queue queue) (slot_fate_of slot m) ≡ slot_fate_of slot (moved_to queue at m)
moved_same queue at m slot None e g = rw (e, g) refl
moved_same queue at m slot (Some s) e g = rw (e, g) refl

moved_slot_fate-no : (queue : List ℕ) (slot : ℕ) (slot_fate : Option SlotFate) → (slot == 0) ≡ false → moved_slot_fate queue slot slot_fate ≡ option_map (in_queue queue) slot_fate
moved_slot_fate-no queue slot slot_fate e = rw e refl

moved_by_slot : (queue : List ℕ) (at : ℕ) (m : MsgRow) (slot : ℕ) (b : Bool) → (slot == 0) ≡ b → m.moved ≡ false → moved_slot_fate queue slot (slot_fate_of slot m) ≡ slot_fate_of slot (moved_to queue at m)
moved_by_slot queue at m slot true e u =
    subst (λ n. moved_slot_fate queue n (slot_fate_of n m) ≡ slot_fate_of n (moved_to queue at m)) (sym (eqb-true slot 0 e)) (rw (slot_of-moved_zero queue at m) refl)
moved_by_slot queue at m slot false e u = moved_slot_fate-no queue slot (slot_fate_of slot m) e ∙ moved_same queue at m slot (slot_of m slot) refl (slot_of-moved_other queue at m slot u e)

moved_agrees_by : (t : Tables) (named id slot : ℕ) (queue : List ℕ) (at : ℕ) (slot_fate : Option SlotFate) (o : Option MsgRow) (b : Bool) → find_message t id ≡ o → (named == id) ≡ b
    → option_map_or may_move (find_message t named) false ≡ true → AgreesSo o slot slot_fate
    → AgreesSo (option_and_then (λ m. if_it m named (Some (moved_to queue at m))) o) slot (if b then moved_slot_fate queue slot slot_fate else slot_fate)
moved_agrees_by t named id slot queue at slot_fate None true e g h k =
    let o = found_with t named may_move h in
    absurd (none-some o.0 (sym e ∙ ap (find_message t) (sym (eqb-true named id g)) ∙ o.1))
moved_agrees_by t named id slot queue at slot_fate None false e g h k = k
moved_agrees_by t named id slot queue at slot_fate (Some m) true e g h k =
    let same : named ≡ id = eqb-true named id g in
    let it : (m.id == named) ≡ true = eq-eqb m.id named (id_found t id m e ∙ sym same) in
    let o = found_with t named may_move h in
    let row : o.0 ≡ m = (let s : Some o.0 ≡ Some m = sym o.1 ∙ ap (find_message t) same ∙ e in cc) in
    let unmoved : m.moved ≡ false = subst (λ x. x.moved ≡ false) row (not-true o.0.moved (and_parts (not o.0.moved) (is_finished o.0) o.2).0) in
    rw it (ap (moved_slot_fate queue slot) k ∙ moved_by_slot queue at m slot (slot == 0) refl unmoved)
moved_agrees_by t named id slot queue at slot_fate (Some m) false e g h k =
    let other : (m.id == named) ≡ false = ne_eqb m.id named (λ s. eqb-false named id g (sym s ∙ id_found t id m e)) in
    rw other k

-- ---- a message is purged

purged_agrees_by : (t : Tables) (named id slot : ℕ) (slot_fate : Option SlotFate) (o : Option MsgRow) (b : Bool) → find_message t id ≡ o → (named == id) ≡ b
    → is_finished_at t named ≡ true → AgreesSo o slot slot_fate → AgreesSo (option_and_then (λ m. if_it m named None) o) slot slot_fate
purged_agrees_by t named id slot slot_fate None b e g h k = k
purged_agrees_by t named id slot slot_fate (Some m) true e g h k =
    let same : named ≡ id = eqb-true named id g in
    let it : (m.id == named) ≡ true = eq-eqb m.id named (id_found t id m e ∙ sym same) in
    let o = found_with t named is_finished h in
    let row : o.0 ≡ m = (let s : Some o.0 ≡ Some m = sym o.1 ∙ ap (find_message t) same ∙ e in cc) in
    let done : is_finished m ≡ true = subst (λ x. is_finished x ≡ true) row o.2 in
    rw it (λ some. ap final_slot_fate k ∙ finished_final m slot done (sym (ap is_some k) ∙ some))
purged_agrees_by t named id slot slot_fate (Some m) false e g h k =
    let other : (m.id == named) ≡ false = ne_eqb m.id named (λ s. eqb-false named id g (sym s ∙ id_found t id m e)) in
    rw other k

-- ---- a queue is dropped

-- what is final stays so
without_final_by : (queue : List ℕ) (c : SlotFate) (b : Bool) → bytes_eq c.queue queue ≡ b → is_final c.fate ≡ true → is_final (without_queue queue c).fate ≡ true
without_final_by queue c true e h = rw (e, h) h
without_final_by queue c false e h = rw e h

pub without_final : (queue : List ℕ) (slot_fate : Option SlotFate) → final_slot_fate slot_fate ≡ true → final_slot_fate (option_map (without_queue queue) slot_fate) ≡ true
without_final queue None h = h
without_final queue (Some c) h = without_final_by queue c (bytes_eq c.queue queue) refl h

pub without_some : (queue : List ℕ) (slot_fate : Option SlotFate) → is_some (option_map (without_queue queue) slot_fate) ≡ is_some slot_fate
without_some queue None = refl
without_some queue (Some c) = refl

-- in the queue that goes each slot fate is final afterwards
gone_by : (queue : List ℕ) (c : SlotFate) (b : Bool) → is_final c.fate ≡ b → bytes_eq c.queue queue ≡ true → is_final (without_queue queue c).fate ≡ true
gone_by queue c true e h = rw (h, e) e
gone_by queue c false e h = rw (h, e) refl

gone_final : (queue : List ℕ) (m : MsgRow) (slot : ℕ) (o : Option SlotRow) → slot_of m slot ≡ o → bytes_eq m.queue queue ≡ true → is_some (option_map (without_queue queue) (slot_fate_of slot m)) ≡ true
    → final_slot_fate (option_map (without_queue queue) (slot_fate_of slot m)) ≡ true
gone_final queue m slot None e h g = absurd (false≢true (rw e at g))
gone_final queue m slot (Some s) e h g = rw e (gone_by queue (record { queue = m.queue; fate = fate_in s.state }) (is_final (fate_in s.state)) refl h)

kept_same : (queue : List ℕ) (m : MsgRow) (slot : ℕ) (o : Option SlotRow) → slot_of m slot ≡ o → bytes_eq m.queue queue ≡ false → option_map (without_queue queue) (slot_fate_of slot m) ≡ slot_fate_of slot m
kept_same queue m slot None e h = rw e refl
kept_same queue m slot (Some s) e h = rw (e, h) refl

dropped_by_queue : (queue : List ℕ) (m : MsgRow) (slot : ℕ) (slot_fate : Option SlotFate) (b : Bool) → bytes_eq m.queue queue ≡ b → slot_fate ≡ slot_fate_of slot m → AgreesSo (left_without queue m) slot (option_map (without_queue queue) slot_fate)
dropped_by_queue queue m slot slot_fate true e k =
    rw (e, k) (λ some. gone_final queue m slot (slot_of m slot) refl e some)
dropped_by_queue queue m slot slot_fate false e k = rw (e, k) (kept_same queue m slot (slot_of m slot) refl e)

drop_agrees : (queue : List ℕ) (slot : ℕ) (slot_fate : Option SlotFate) (o : Option MsgRow) → AgreesSo o slot slot_fate → AgreesSo (option_and_then (left_without queue) o) slot (option_map (without_queue queue) slot_fate)
drop_agrees queue slot slot_fate None k = λ some. without_final queue slot_fate (k (sym (without_some queue slot_fate) ∙ some))
drop_agrees queue slot slot_fate (Some m) k = dropped_by_queue queue m slot slot_fate (bytes_eq m.queue queue) refl k

-- ---- a message is put in

put_agrees_by : (t : Tables) (row : MsgRow) (id slot : ℕ) (slot_fate : Option SlotFate) (b : Bool) → AgreesSo (find_message t id) slot slot_fate
    → AgreesSo (if b then Some row else find_message t id) slot (if b then slot_fate_of slot row else slot_fate)
put_agrees_by t row id slot slot_fate true k = refl
put_agrees_by t row id slot slot_fate false k = k

-- ---- a table is dropped

without_table_by : (t : Tables) (name : List ℕ) (id : ℕ) (b : Bool) → is_some (find_table t name) ≡ b → find_message (after_change t (changes.DropTable name)) id ≡ find_message t id
without_table_by t name id true e = rw e refl
without_table_by t name id false e = rw e refl

pub finds_without_table : (t : Tables) (name : List ℕ) (id : ℕ) → find_message (after_change t (changes.DropTable name)) id ≡ find_message t id
finds_without_table t name id = without_table_by t name id (is_some (find_table t name)) refl

-- ---- any proper change

retried_is : (retries : ℕ) (until : Option ℕ) (at : ℕ) (s : SlotRow) → fate_in (retried retries until at s).state ≡ retried_fate until
retried_is retries None at s = refl
retried_is retries (Some moment) at s = refl

-- the row that is found afterwards is this one
pub agrees_along : (x y : Option MsgRow) (slot : ℕ) (slot_fate : Option SlotFate) → x ≡ y → AgreesSo y slot slot_fate → AgreesSo x slot slot_fate
agrees_along x y slot slot_fate e k = subst (λ o. AgreesSo o slot slot_fate) (sym e) k

stays_so : (t : Tables) (id slot : ℕ) (slot_fate : Option SlotFate) → AgreesSo (find_message t id) slot slot_fate → AgreesSo (option_and_then (λ m. Some m) (find_message t id)) slot slot_fate
stays_so t id slot slot_fate k = agrees_along (option_and_then (λ m. Some m) (find_message t id)) (find_message t id) slot slot_fate (and_then_some (find_message t id)) k

pub agrees_after : (t : Tables) (c : Change) (id slot : ℕ) (slot_fate : Option SlotFate) → IsSingle t id → is_proper t c ≡ true → AgreesSo (find_message t id) slot slot_fate
    → AgreesSo (find_message (after_change t c) id) slot (slot_fate_after id slot slot_fate c)
agrees_after t (changes.Enqueued row) id slot slot_fate s p k =
    let parts = and_parts (is_none (find_message t row.id)) (not row.moved) p in
    agrees_along (find_message (after_change t (changes.Enqueued row)) id) (if row.id == id then Some row else find_message t id) slot (if row.id == id then slot_fate_of slot row else slot_fate) (finds_put_in t row id parts.0) (put_agrees_by t row id slot slot_fate (row.id == id) k)
agrees_after t (changes.DropQueue name) id slot slot_fate s p k =
    agrees_along (find_message (after_change t (changes.DropQueue name)) id) (option_and_then (left_without name) (find_message t id)) slot (option_map (without_queue name) slot_fate) (finds_without_queue t name id p s) (drop_agrees name slot slot_fate (find_message t id) k)
agrees_after t (changes.Retried named a retries until at) id slot slot_fate s p k =
    let c = changes.Retried named a retries until at in
    agrees_along (find_message (after_change t c) id) (option_and_then (λ m. left_by m c) (find_message t id)) slot (slot_fate_after id slot slot_fate c) (finds_left t c id s refl)
    (slot_agrees (retried retries until at) (retried_fate until) (retried_is retries until at) t named a id slot slot_fate p k)
agrees_after t (changes.Ready named a at) id slot slot_fate s p k =
    let c = changes.Ready named a at in
    agrees_along (find_message (after_change t c) id) (option_and_then (λ m. left_by m c) (find_message t id)) slot (slot_fate_after id slot slot_fate c) (finds_left t c id s refl)
    (slot_agrees (in_state states.Ready at) ready (λ x. refl) t named a id slot slot_fate p k)
agrees_after t (changes.Done named a at) id slot slot_fate s p k =
    let c = changes.Done named a at in
    agrees_along (find_message (after_change t c) id) (option_and_then (λ m. left_by m c) (find_message t id)) slot (slot_fate_after id slot slot_fate c) (finds_left t c id s refl)
    (slot_agrees (in_state states.Processed at) processed (λ x. refl) t named a id slot slot_fate p k)
agrees_after t (changes.Expired named a at) id slot slot_fate s p k =
    let c = changes.Expired named a at in
    agrees_along (find_message (after_change t c) id) (option_and_then (λ m. left_by m c) (find_message t id)) slot (slot_fate_after id slot slot_fate c) (finds_left t c id s refl)
    (slot_agrees (in_state states.Expired at) expired (λ x. refl) t named a id slot slot_fate p k)
agrees_after t (changes.Dropped named a at) id slot slot_fate s p k =
    let c = changes.Dropped named a at in
    agrees_along (find_message (after_change t c) id) (option_and_then (λ m. left_by m c) (find_message t id)) slot (slot_fate_after id slot slot_fate c) (finds_left t c id s refl)
    (slot_agrees (in_state states.Dropped at) dropped (λ x. refl) t named a id slot slot_fate p k)
agrees_after t (changes.Moved named queue at) id slot slot_fate s p k =
    let c = changes.Moved named queue at in
    let parts = and_parts (option_map_or may_move (find_message t named) false) (is_some (find_queue t queue)) p in
    agrees_along (find_message (after_change t c) id) (option_and_then (λ m. left_by m c) (find_message t id)) slot (slot_fate_after id slot slot_fate c)
    (finds_left t c id s (or_right (not (named == id)) (is_some (find_queue t queue)) parts.1))
    (moved_agrees_by t named id slot queue at slot_fate (find_message t id) (named == id) refl refl parts.0 k)
agrees_after t (changes.Purged named) id slot slot_fate s p k =
    let c = changes.Purged named in
    agrees_along (find_message (after_change t c) id) (option_and_then (λ m. left_by m c) (find_message t id)) slot (slot_fate_after id slot slot_fate c) (finds_left t c id s refl)
    (purged_agrees_by t named id slot slot_fate (find_message t id) (named == id) refl refl p k)
agrees_after t (changes.DropTable name) id slot slot_fate s p k =
    agrees_along (find_message (after_change t (changes.DropTable name)) id) (find_message t id) slot slot_fate (finds_without_table t name id) k
agrees_after t _ id slot slot_fate s p k = k
