-- What due work does to a slot, and to all slots of a message.
use Rattle.std.proofs.Common.{◌≡◌, ◌≢◌, ◌≤◌, ◌+◌, ◌-◌, ℕ, zero, suc, List, [], ◌∷◌, ◌++◌, Bool, true, false, not, length, refl, sym, ap, ◌∙◌, subst, arith, Option, Some, None, ◌==◌, ◌&&◌, ◌||◌}
use Rattle.std.specs.Prelude.{fold, flat_map, option_map, nat_le, if◌then◌else◌}
use Rattle.std.specs.List.{list_any, list_all, range_with_len}
use Rattle.std.proofs.lemmas.Bool.{eqb-true, eqb-false, eq-eqb, ne_eqb, le-leb, and_parts, and_from, false≢true}
use Rattle.queue_rows.specs.Rows.{with_slot, has_slot, slot_of, recipient_count}
use Rattle.queue_rows.specs.Tables.{in_state}
use Rattle.queue_rows.specs.Settling.{is_open, is_ready}
use Rattle.queue_rows.specs.Due.{Watch, slot_numbers, is_over, due_change, is_left, due_slot, due_slots}
use Rattle.queue_rows.specs.declared.rows.MsgRow.{MsgRow}
use Rattle.queue_rows.specs.declared.rows.SlotRow.{SlotRow}
use Rattle.queue_rows.specs.declared.rows.SlotState.TheVariants as states
use Rattle.queue_rows.specs.declared.change.Change.{Change}
use Rattle.queue_rows.specs.declared.change.Change.TheVariants as changes
use Rattle.row_laws.proofs.Slots.{slot_of-with_same, slot_of-with_other, length-with_slot}
use Rattle.valid_laws.proofs.Runs.{run, run_append, is_of}

-- ---- kinds of due work

pub data Kind : Type 0 where
  nothing : Kind
  expires : Kind
  readies : Kind

abbrev pub effect : Kind → ℕ → SlotRow → SlotRow
effect nothing moment s = s
effect expires moment s = in_state states.Expired moment s
effect readies moment s = in_state states.Ready moment s

abbrev pub changes_by : Kind → ℕ → ℕ → ℕ → List Change
changes_by nothing id slot moment = []
changes_by expires id slot moment = changes.Expired id slot moment ∷ []
changes_by readies id slot moment = changes.Ready id slot moment ∷ []

abbrev pub with_kind : Kind → ℕ → ℕ → MsgRow → MsgRow
with_kind nothing slot moment m = m
with_kind expires slot moment m = with_slot slot (in_state states.Expired moment) m
with_kind readies slot moment m = with_slot slot (in_state states.Ready moment) m

abbrev pub kind_of : SlotRow → ℕ → Kind
kind_of s moment = if is_open s.state && is_over s moment then expires else (if is_open s.state && not (is_ready s.state) && nat_le s.at moment then readies else nothing)

abbrev pub kind_in : Watch → MsgRow → ℕ → Option SlotRow → Kind
kind_in w m slot None = nothing
kind_in w m slot (Some s) = if is_left w m slot then nothing else kind_of s w.moment

by_tests : (id slot moment : ℕ) (a b : Bool) → (if a then changes.Expired id slot moment ∷ [] else (if b then changes.Ready id slot moment ∷ [] else [])) ≡ changes_by (if a then expires else (if b then readies else nothing)) id slot moment
by_tests id slot moment true b = refl
by_tests id slot moment false true = refl
by_tests id slot moment false false = refl

by_left : (w : Watch) (m : MsgRow) (slot : ℕ) (s : SlotRow) (b : Bool) → (if b then [] else due_change m.id slot s w.moment) ≡ changes_by (if b then nothing else kind_of s w.moment) m.id slot w.moment
by_left w m slot s true = refl
by_left w m slot s false = by_tests m.id slot w.moment (is_open s.state && is_over s w.moment) (is_open s.state && not (is_ready s.state) && nat_le s.at w.moment)

pub due_slot_is : (w : Watch) (m : MsgRow) (slot : ℕ) (o : Option SlotRow) → due_slot w m slot o ≡ changes_by (kind_in w m slot o) m.id slot w.moment
due_slot_is w m slot None = refl
due_slot_is w m slot (Some s) = by_left w m slot s (is_left w m slot)

-- ---- its changes name the message

own_kind : (k : Kind) (id slot moment : ℕ) → list_all (is_of id) (changes_by k id slot moment) ≡ true
own_kind nothing id slot moment = refl
own_kind expires id slot moment = and_from (id == id) true (eq-eqb id id refl) refl
own_kind readies id slot moment = and_from (id == id) true (eq-eqb id id refl) refl

pub all-append : {X : Type 0} (q : X → Bool) (xs ys : List X) → list_all q xs ≡ true → list_all q ys ≡ true → list_all q (xs ++ ys) ≡ true
all-append q [] ys h g = g
all-append q (x ∷ xs) ys h g = let parts = and_parts (q x) (list_all q xs) h in and_from (q x) (list_all q (xs ++ ys)) parts.0 (all-append q xs ys parts.1 g)

pub all-flat : {X Y : Type 0} (q : Y → Bool) (F : X → List Y) → ((x : X) → list_all q (F x) ≡ true) → (xs : List X) → list_all q (flat_map F xs) ≡ true
all-flat q F h [] = refl
all-flat q F h (x ∷ xs) = all-append q (F x) (flat_map F xs) (h x) (all-flat q F h xs)

pub own_slots : (w : Watch) (m : MsgRow) → list_all (is_of m.id) (due_slots w m) ≡ true
own_slots w m = all-flat (is_of m.id) (λ slot. due_slot w m slot (slot_of m slot)) (λ slot. ap (list_all (is_of m.id)) (due_slot_is w m slot (slot_of m slot)) ∙ own_kind (kind_in w m slot (slot_of m slot)) m.id slot w.moment) (slot_numbers m)

-- ---- the message after them

abbrev pub slot_done : Watch → MsgRow → MsgRow → ℕ → MsgRow
slot_done w m r slot = with_kind (kind_in w m slot (slot_of m slot)) slot w.moment r

kind_run : (k : Kind) (id slot moment : ℕ) (r : MsgRow) → r.id ≡ id → run (Some r) (changes_by k id slot moment) ≡ Some (with_kind k slot moment r)
kind_run nothing id slot moment r e = refl
kind_run expires id slot moment r e = rw (eq-eqb r.id id e) refl
kind_run readies id slot moment r e = rw (eq-eqb r.id id e) refl

kind_id : (k : Kind) (slot moment : ℕ) (r : MsgRow) → (with_kind k slot moment r).id ≡ r.id
kind_id nothing slot moment r = refl
kind_id expires slot moment r = refl
kind_id readies slot moment r = refl

pub slots_run : (w : Watch) (m : MsgRow) (ns : List ℕ) (r : MsgRow) → r.id ≡ m.id → run (Some r) (flat_map (λ slot. due_slot w m slot (slot_of m slot)) ns) ≡ Some (fold (slot_done w m) r ns)
slots_run w m [] r e = refl
slots_run w m (n ∷ ns) r e =
    let F = λ (slot : ℕ). due_slot w m slot (slot_of m slot) in
    let k = kind_in w m n (slot_of m n) in
    run_append (Some r) (F n) (flat_map F ns)
    ∙ ap (λ cs. run (run (Some r) cs) (flat_map F ns)) (due_slot_is w m n (slot_of m n))
    ∙ ap (λ o. run o (flat_map F ns)) (kind_run k m.id n w.moment r e)
    ∙ slots_run w m ns (slot_done w m r n) (kind_id k n w.moment r ∙ e)

-- ---- what it keeps

pub record Alike (a b : MsgRow) : Type 0 where
  pub id : a.id ≡ b.id
  pub queue : a.queue ≡ b.queue
  pub group : a.group ≡ b.group
  pub moved : a.moved ≡ b.moved
  pub count : length a.slots ≡ length b.slots

alike_kind : (k : Kind) (slot moment : ℕ) (r m : MsgRow) → Alike r m → Alike (with_kind k slot moment r) m
alike_kind nothing slot moment r m a = a
alike_kind expires slot moment r m a = record { id = a.id; queue = a.queue; group = a.group; moved = a.moved; count = length-with_slot slot (in_state states.Expired moment) r ∙ a.count }
alike_kind readies slot moment r m a = record { id = a.id; queue = a.queue; group = a.group; moved = a.moved; count = length-with_slot slot (in_state states.Ready moment) r ∙ a.count }

pub alike_fold : (w : Watch) (m : MsgRow) (ns : List ℕ) (r : MsgRow) → Alike r m → Alike (fold (slot_done w m) r ns) m
alike_fold w m [] r a = a
alike_fold w m (n ∷ ns) r a = alike_fold w m ns (slot_done w m r n) (alike_kind (kind_in w m n (slot_of m n)) n w.moment r m a)

abbrev has_by : Bool → ℕ → ℕ → Bool
has_by moved n slot = if slot == 0 then moved else nat_le slot (if moved then n - 1 else n)

pub has_alike : (a b : MsgRow) (slot : ℕ) → Alike a b → has_slot a slot ≡ has_slot b slot
has_alike a b slot h = ap (λ x. has_by x (length a.slots) slot) h.moved ∙ ap (λ n. has_by b.moved n slot) h.count

numbers_by : Bool → ℕ → List ℕ
numbers_by moved n = range_with_len 1 (if moved then n - 1 else n) ++ (if moved then 0 ∷ [] else [])

pub numbers_alike : (a b : MsgRow) → Alike a b → slot_numbers a ≡ slot_numbers b
numbers_alike a b h = ap (λ x. range_with_len 1 (if x then length a.slots - 1 else length a.slots) ++ (if x then 0 ∷ [] else [])) h.moved
    ∙ ap (λ n. range_with_len 1 (if b.moved then n - 1 else n) ++ (if b.moved then 0 ∷ [] else [])) h.count

-- ---- one slot among them

map_same : (o : Option SlotRow) → o ≡ option_map (λ s. s) o
map_same None = refl
map_same (Some s) = refl

kind_same : (k : Kind) (slot moment : ℕ) (r : MsgRow) → slot_of (with_kind k slot moment r) slot ≡ option_map (effect k moment) (slot_of r slot)
kind_same nothing slot moment r = map_same (slot_of r slot)
kind_same expires slot moment r = slot_of-with_same slot (in_state states.Expired moment) r
kind_same readies slot moment r = slot_of-with_same slot (in_state states.Ready moment) r

kind_other : (k : Kind) (slot b moment : ℕ) (r : MsgRow) → slot ≢ b → has_slot r slot ≡ true → slot_of (with_kind k slot moment r) b ≡ slot_of r b
kind_other nothing slot b moment r d h = refl
kind_other expires slot b moment r d h = slot_of-with_other slot b (in_state states.Expired moment) r d
kind_other readies slot b moment r d h = slot_of-with_other slot b (in_state states.Ready moment) r d

twice : (k : Kind) (moment : ℕ) (o : Option SlotRow) → option_map (effect k moment) (option_map (effect k moment) o) ≡ option_map (effect k moment) o
twice k moment None = refl
twice nothing moment (Some s) = refl
twice expires moment (Some s) = refl
twice readies moment (Some s) = refl

module _ (w : Watch) (m : MsgRow) (b : ℕ) where
  abbrev pub kind_at : Kind
  kind_at = kind_in w m b (slot_of m b)

  -- the slot is as it was, or done
  abbrev IsOld : MsgRow → Type 0
  IsOld r = slot_of r b ≡ slot_of m b

  abbrev pub IsDone : MsgRow → Type 0
  IsDone r = slot_of r b ≡ option_map (effect (kind_in w m b (slot_of m b)) w.moment) (slot_of m b)

  own_step : (r : MsgRow) (n : ℕ) → (n == b) ≡ true → slot_of (slot_done w m r n) b ≡ option_map (effect (kind_in w m b (slot_of m b)) w.moment) (slot_of r b)
  own_step r n e = subst (λ k. slot_of (slot_done w m r k) b ≡ option_map (effect (kind_in w m b (slot_of m b)) w.moment) (slot_of r b)) (sym (eqb-true n b e)) (kind_same (kind_in w m b (slot_of m b)) b w.moment r)

  other_step : (r : MsgRow) (n : ℕ) → (n == b) ≡ false → has_slot r n ≡ true → slot_of (slot_done w m r n) b ≡ slot_of r b
  other_step r n e h = kind_other (kind_in w m n (slot_of m n)) n b w.moment r (eqb-false n b e) h

  done_step : (r : MsgRow) (n : ℕ) (c : Bool) → (n == b) ≡ c → has_slot r n ≡ true → IsDone r → IsDone (slot_done w m r n)
  done_step r n true e h d = own_step r n e ∙ ap (option_map (effect (kind_in w m b (slot_of m b)) w.moment)) d ∙ twice (kind_in w m b (slot_of m b)) w.moment (slot_of m b)
  done_step r n false e h d = other_step r n e h ∙ d

  done_stays : (ns : List ℕ) (r : MsgRow) → Alike r m → list_all (has_slot m) ns ≡ true → IsDone r → IsDone (fold (slot_done w m) r ns)
  done_stays [] r a h d = d
  done_stays (n ∷ ns) r a h d =
      let parts = and_parts (has_slot m n) (list_all (has_slot m) ns) h in
      done_stays ns (slot_done w m r n) (alike_kind (kind_in w m n (slot_of m n)) n w.moment r m a) parts.1 (done_step r n (n == b) refl (has_alike r m n a ∙ parts.0) d)

  reach_step : (n : ℕ) (ns : List ℕ) (r : MsgRow) (c : Bool) → (n == b) ≡ c → Alike r m → has_slot m n ≡ true → list_all (has_slot m) ns ≡ true → (c || list_any (λ k. k == b) ns) ≡ true → IsOld r
      → (list_any (λ k. k == b) ns ≡ true → IsOld (slot_done w m r n) → IsDone (fold (slot_done w m) (slot_done w m r n) ns)) → IsDone (fold (slot_done w m) (slot_done w m r n) ns)
  reach_step n ns r true e a h hs some old ih =
      done_stays ns (slot_done w m r n) (alike_kind (kind_in w m n (slot_of m n)) n w.moment r m a) hs (own_step r n e ∙ ap (option_map (effect (kind_in w m b (slot_of m b)) w.moment)) old)
  reach_step n ns r false e a h hs some old ih = ih some (other_step r n e (has_alike r m n a ∙ h) ∙ old)

  pub reaches : (ns : List ℕ) (r : MsgRow) → Alike r m → list_all (has_slot m) ns ≡ true → list_any (λ k. k == b) ns ≡ true → IsOld r → IsDone (fold (slot_done w m) r ns)
  reaches [] r a h some old = absurd (false≢true some)
  reaches (n ∷ ns) r a h some old =
      let parts = and_parts (has_slot m n) (list_all (has_slot m) ns) h in
      reach_step n ns r (n == b) refl a parts.0 parts.1 some old
      (λ g o. reaches ns (slot_done w m r n) (alike_kind (kind_in w m n (slot_of m n)) n w.moment r m a) parts.1 g o)

-- ---- the numbers of a message's slots are those of slots that it has

range_has : (m : MsgRow) (low n : ℕ) → 1 ≤ low → low + n ≤ recipient_count m + 1 → list_all (has_slot m) (range_with_len low n) ≡ true
range_has m low zero le top = refl
range_has m low (suc n) le top =
    let no : (low == 0) ≡ false = ne_eqb low 0 (λ e. absurd (omega arith)) in
    let yes : nat_le low (recipient_count m) ≡ true = le-leb low (recipient_count m) (omega arith) in
    and_from (has_slot m low) (list_all (has_slot m) (range_with_len (low + 1) n)) (rw no yes) (range_has m (low + 1) n (omega arith) (omega arith))

zero_has : (m : MsgRow) (b : Bool) → m.moved ≡ b → list_all (has_slot m) (if b then 0 ∷ [] else []) ≡ true
zero_has m true e = and_from m.moved true e refl
zero_has m false e = refl

pub numbers_have : (m : MsgRow) → list_all (has_slot m) (slot_numbers m) ≡ true
numbers_have m = all-append (has_slot m) (range_with_len 1 (recipient_count m)) (if m.moved then 0 ∷ [] else []) (range_has m 1 (recipient_count m) (omega arith) (omega arith)) (zero_has m m.moved refl)

-- the message after what is due of its slots
abbrev pub all_done : Watch → MsgRow → MsgRow
all_done w m = fold (slot_done w m) m (slot_numbers m)

pub alike_self : (m : MsgRow) → Alike m m
alike_self m = record { id = refl; queue = refl; group = refl; moved = refl; count = refl }

pub alike_done : (w : Watch) (m : MsgRow) → Alike (all_done w m) m
alike_done w m = alike_fold w m (slot_numbers m) m (alike_self m)

pub slot_is_done : (w : Watch) (m : MsgRow) (b : ℕ) → list_any (λ k. k == b) (slot_numbers m) ≡ true → slot_of (all_done w m) b ≡ option_map (effect (kind_in w m b (slot_of m b)) w.moment) (slot_of m b)
slot_is_done w m b some = reaches w m b (slot_numbers m) m (alike_self m) (numbers_have m) some refl

pub done_run : (w : Watch) (m : MsgRow) → run (Some m) (due_slots w m) ≡ Some (all_done w m)
done_run w m = slots_run w m (slot_numbers m) m refl
