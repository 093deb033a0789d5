-- A message that a look may be given stands in its queue and has a ready slot for its consumer.
use Rattle.std.proofs.Common.{◌≡◌, ℕ, ◌+◌, ◌-◌, Bool, true, false, cond, not, List, [], ◌∷◌, length, Option, Some, None, refl, sym, ap, ◌∙◌, ◌==◌, ◌&&◌, zero, suc, arith}
use Rattle.std.proofs.lemmas.Bool.{and_from, and_parts, false≢true, ne_eqb, or_left, or_right}
use Rattle.std.proofs.lemmas.List.Folds.{find_at}
use Rattle.std.proofs.lemmas.Option.{cond_some, none-some}
use Rattle.std.specs.Prelude.{nat_lt, position, slice_get, if◌then◌else◌}
use Rattle.std.specs.List.{list_any, position_or_len}
use Rattle.std.specs.Str.{bytes_eq}
use Rattle.queue_rows.specs.Rows.{slot_of}
use Rattle.queue_rows.specs.Session.{has_removed}
use Rattle.queue_rows.specs.Settling.{is_exception, is_ready}
use Rattle.queue_rows.specs.Dequeueing.{Look, is_available, is_available_slot, is_free, is_local_for, is_ready_slot, slot_for, slot_in, slot_number}
use Rattle.queue_rows.specs.declared.rows.MsgRow.{MsgRow}
use Rattle.queue_rows.specs.declared.rows.SlotRow.{SlotRow}
use Rattle.row_laws.proofs.Finding.{found_is}
use Rattle.row_laws.proofs.Slots.{slot_at}
use Rattle.choice_laws.specs.Entries.{shows, stands_for}

-- ---- lists

any_at : {X : Type 0} (q : X → Bool) (xs : List X) (i : ℕ) (x : X) → slice_get xs i ≡ Some x → q x ≡ true → list_any q xs ≡ true
any_at q [] i x e h = absurd (none-some x e)
any_at q (y ∷ ys) zero x e h = let same : y ≡ x = cc in or_left (q y) (list_any q ys) (ap q same ∙ h)
any_at q (y ∷ ys) (suc i) x e h = or_right (q y) (list_any q ys) (any_at q ys i x e h)

-- what stands at the first place where one passes passes
at_position : {X : Type 0} (q : X → Bool) (xs : List X) (i : ℕ) (x : X) → position q xs ≡ Some i → slice_get xs i ≡ Some x → q x ≡ true
at_position q xs i x e h =
    let n = position_or_len q xs in
    let same : n ≡ i = (cond_some (nat_lt n (length xs)) n i e).1 in
    found_is q xs x (find_at q xs ∙ ap (slice_get xs) same ∙ h)

-- ---- slots

next_index : (n i : ℕ) → (if (i + 1) == 0 then n - 1 else (i + 1) - 1) ≡ i
next_index n i =
    let ne : ((i + 1) == 0) ≡ false = ne_eqb (i + 1) 0 (λ e. omega arith) in
    ap (λ b. cond b (n - 1) ((i + 1) - 1)) ne ∙ omega arith

available_is_ready : (l : Look) (m : MsgRow) (slot : ℕ) → is_available_slot l m (Some slot) ≡ true → is_ready_slot (slot_of m slot) ≡ true
available_is_ready l m slot h =
    let p = and_parts (is_ready_slot (slot_of m slot) && not (has_removed l.session m.id slot)) (is_free l m slot) h in
    (and_parts (is_ready_slot (slot_of m slot)) (not (has_removed l.session m.id slot)) p.0).0

shows_named : (m : MsgRow) (consumer : List ℕ) (i : ℕ) (o : Option SlotRow) → position (is_local_for consumer) m.slots ≡ Some i → slot_of m (i + 1) ≡ o → is_ready_slot o ≡ true
    → shows m (Some consumer) ≡ true
shows_named m consumer i None e f h = absurd (false≢true h)
shows_named m consumer i (Some s) e f h =
    let there : slice_get m.slots i ≡ Some s = ap (slice_get m.slots) (sym (next_index (length m.slots) i)) ∙ slot_at m (i + 1) s f in
    any_at (λ r. is_local_for consumer r && is_ready r.state) m.slots i s there (and_from (is_local_for consumer s) (is_ready s.state) (at_position (is_local_for consumer) m.slots i s e there) h)

shows_position : (l : Look) (m : MsgRow) (consumer : List ℕ) (o : Option ℕ) → position (is_local_for consumer) m.slots ≡ o → is_available_slot l m (slot_number o) ≡ true
    → shows m (Some consumer) ≡ true
shows_position l m consumer None e h = absurd (false≢true h)
shows_position l m consumer (Some i) e h = shows_named m consumer i (slot_of m (i + 1)) e refl (available_is_ready l m (i + 1) h)

shows_unnamed : (l : Look) (m : MsgRow) (b : Bool) → is_available_slot l m (if b then Some 0 else Some 1) ≡ true → shows m None ≡ true
shows_unnamed l m true h = or_right (is_ready_slot (slot_of m 1)) (is_ready_slot (slot_of m 0)) (available_is_ready l m 0 h)
shows_unnamed l m false h = or_left (is_ready_slot (slot_of m 1)) (is_ready_slot (slot_of m 0)) (available_is_ready l m 1 h)

shows_by : (l : Look) (m : MsgRow) (consumer : Option (List ℕ)) → is_available_slot l m (slot_for l.queue consumer m) ≡ true → shows m consumer ≡ true
shows_by l m None h = shows_unnamed l m (is_exception l.queue.kind) h
shows_by l m (Some consumer) h = shows_position l m consumer (position (is_local_for consumer) m.slots) refl h

pub available_stands : (l : Look) (m : MsgRow) → is_available l m ≡ true → stands_for l.queue.name l.ask.consumer m ≡ true
available_stands l m h =
    let p = and_parts (bytes_eq m.queue l.queue.name) (is_available_slot l m (slot_in l m)) h in
    and_from (bytes_eq m.queue l.queue.name) (shows m l.ask.consumer) p.0 (shows_by l m l.ask.consumer p.1)
