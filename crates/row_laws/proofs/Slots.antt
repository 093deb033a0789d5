-- The slots of a message after one of them was changed, and after it was moved.
use Rattle.std.proofs.Common.{◌≡◌, ◌≢◌, ℕ, ◌-◌, ◌<◌, ◌≤◌, zero, suc, List, [], ◌∷◌, ◌++◌, Bool, true, false, length, refl, sym, ap, ◌∙◌, arith, Option, Some, None, ◌==◌, length-append}
use Rattle.std.specs.Prelude.{option_map, slice_get, if◌then◌else◌, nat_le}
use Rattle.std.proofs.lemmas.Bool.{eqb-true, eqb-false, leb-true, false≢true}
use Rattle.std.proofs.lemmas.Option.{none-some}
use Rattle.queue_rows.specs.Rows.{changed_nth, changed_some, set_some, slot_index, with_slot, has_slot, slot_of}
use Rattle.queue_rows.specs.Tables.{moved_to, slot_zero}
use Rattle.queue_rows.specs.declared.rows.MsgRow.{MsgRow}
use Rattle.queue_rows.specs.declared.rows.SlotRow.{SlotRow}

-- ---- an item of a list is changed

module _ {X : Type 0} (f : X → X) where
  set_next : (x : X) (xs : List X) (i : ℕ) (o : Option X) → set_some (x ∷ xs) (suc i) (changed_some f o) ≡ x ∷ set_some xs i (changed_some f o)
  set_next x xs i None = refl
  set_next x xs i (Some y) = refl

  pub changed_next : (x : X) (xs : List X) (i : ℕ) → changed_nth f (suc i) (x ∷ xs) ≡ x ∷ changed_nth f i xs
  changed_next x xs i = set_next x xs i (slice_get xs i)

  pub length-changed_nth : (xs : List X) (i : ℕ) → length (changed_nth f i xs) ≡ length xs
  length-changed_nth [] i = refl
  length-changed_nth (x ∷ xs) zero = refl
  length-changed_nth (x ∷ xs) (suc i) = ap length (changed_next x xs i) ∙ ap suc (length-changed_nth xs i)

  pub get_changed : (xs : List X) (i : ℕ) → slice_get (changed_nth f i xs) i ≡ option_map f (slice_get xs i)
  get_changed [] i = refl
  get_changed (x ∷ xs) zero = refl
  get_changed (x ∷ xs) (suc i) = ap (λ l. slice_get l (suc i)) (changed_next x xs i) ∙ get_changed xs i

  pub get_other_changed : (xs : List X) (i j : ℕ) → i ≢ j → slice_get (changed_nth f i xs) j ≡ slice_get xs j
  get_other_changed [] i j n = refl
  get_other_changed (x ∷ xs) zero zero n = absurd (n refl)
  get_other_changed (x ∷ xs) zero (suc j) n = refl
  get_other_changed (x ∷ xs) (suc i) zero n = ap (λ l. slice_get l zero) (changed_next x xs i)
  get_other_changed (x ∷ xs) (suc i) (suc j) n = ap (λ l. slice_get l (suc j)) (changed_next x xs i) ∙ get_other_changed xs i j (λ e. n (ap suc e))

  pub get_in_front : (xs ys : List X) (i : ℕ) → i < length xs → slice_get (xs ++ ys) i ≡ slice_get xs i
  get_in_front [] ys i h = absurd (let no : i < 0 = h in omega arith)
  get_in_front (x ∷ xs) ys zero h = refl
  get_in_front (x ∷ xs) ys (suc i) h = get_in_front xs ys i (let g : suc i < suc (length xs) = h in omega arith)

  pub get_behind : (xs : List X) (y : X) → slice_get (xs ++ y ∷ []) (length xs) ≡ Some y
  get_behind [] y = refl
  get_behind (x ∷ xs) y = get_behind xs y

-- ---- which slots a message has

-- has_slot and slot_index, by the flag and the number of slots
abbrev has_by : Bool → ℕ → ℕ → Bool
has_by moved n slot = if slot == 0 then moved else nat_le slot (if moved then n - 1 else n)

abbrev index_by : ℕ → ℕ → ℕ
index_by n slot = if slot == 0 then n - 1 else slot - 1

index_apart : (moved : Bool) (n a b : ℕ) (p q : Bool) → (a == 0) ≡ p → (b == 0) ≡ q → has_by moved n a ≡ true → has_by moved n b ≡ true → a ≢ b → index_by n a ≢ index_by n b
index_apart moved n a b true true e g h k d = absurd (d (eqb-true a 0 e ∙ sym (eqb-true b 0 g)))
index_apart true n a b true false e g h k d = λ same.
    let le : b ≤ n - 1 = leb-true b (n - 1) (rw g at k) in
    let ne : b ≢ 0 = eqb-false b 0 g in
    let at : n - 1 ≡ b - 1 = rw (e, g) at same in
    omega arith
index_apart false n a b true false e g h k d = absurd (false≢true (rw e at h))
index_apart true n a b false true e g h k d = λ same.
    let le : a ≤ n - 1 = leb-true a (n - 1) (rw e at h) in
    let ne : a ≢ 0 = eqb-false a 0 e in
    let at : a - 1 ≡ n - 1 = rw (e, g) at same in
    omega arith
index_apart false n a b false true e g h k d = absurd (false≢true (rw g at k))
index_apart moved n a b false false e g h k d = λ same.
    let ne : a ≢ 0 = eqb-false a 0 e in
    let nf : b ≢ 0 = eqb-false b 0 g in
    let at : a - 1 ≡ b - 1 = rw (e, g) at same in
    d (omega arith)

-- ---- one slot is changed

pub with_slot-has : (a : ℕ) (f : SlotRow → SlotRow) (m : MsgRow) → has_slot m a ≡ true → with_slot a f m ≡ record m { slots = changed_nth f (slot_index m a) m.slots }
with_slot-has a f m e = rw e refl

pub with_slot-hasnt : (a : ℕ) (f : SlotRow → SlotRow) (m : MsgRow) → has_slot m a ≡ false → with_slot a f m ≡ m
with_slot-hasnt a f m e = rw e refl

length_by : (f : SlotRow → SlotRow) (xs : List SlotRow) (i : ℕ) (b : Bool) → length (if b then changed_nth f i xs else xs) ≡ length xs
length_by f xs i true = length-changed_nth f xs i
length_by f xs i false = refl

pub length-with_slot : (a : ℕ) (f : SlotRow → SlotRow) (m : MsgRow) → length (with_slot a f m).slots ≡ length m.slots
length-with_slot a f m = length_by f m.slots (slot_index m a) (has_slot m a)

pub has_slot-with_slot : (a b : ℕ) (f : SlotRow → SlotRow) (m : MsgRow) → has_slot (with_slot a f m) b ≡ has_slot m b
has_slot-with_slot a b f m = ap (λ n. has_by m.moved n b) (length-with_slot a f m)

slot_index-with_slot : (a b : ℕ) (f : SlotRow → SlotRow) (m : MsgRow) → slot_index (with_slot a f m) b ≡ slot_index m b
slot_index-with_slot a b f m = ap (λ n. index_by n b) (length-with_slot a f m)

pub slot_of-has : (m : MsgRow) (slot : ℕ) → has_slot m slot ≡ true → slot_of m slot ≡ slice_get m.slots (slot_index m slot)
slot_of-has m slot e = rw e refl

pub slot_of-hasnt : (m : MsgRow) (slot : ℕ) → has_slot m slot ≡ false → slot_of m slot ≡ None
slot_of-hasnt m slot e = rw e refl

-- where a slot is found, the message has it, and it stands at its place
pub has_if_some : (m : MsgRow) (slot : ℕ) (s : SlotRow) (b : Bool) → has_slot m slot ≡ b → slot_of m slot ≡ Some s → has_slot m slot ≡ true
has_if_some m slot s true e h = e
has_if_some m slot s false e h = absurd (none-some s (sym (slot_of-hasnt m slot e) ∙ h))

pub slot_at : (m : MsgRow) (slot : ℕ) (s : SlotRow) → slot_of m slot ≡ Some s → slice_get m.slots (slot_index m slot) ≡ Some s
slot_at m slot s h = sym (slot_of-has m slot (has_if_some m slot s (has_slot m slot) refl h)) ∙ h

-- the slots of the message with one changed
slots_with : (a : ℕ) (f : SlotRow → SlotRow) (m : MsgRow) → has_slot m a ≡ true → (with_slot a f m).slots ≡ changed_nth f (slot_index m a) m.slots
slots_with a f m e = ap (λ r. r.slots) (with_slot-has a f m e)

with_same : (a : ℕ) (f : SlotRow → SlotRow) (m : MsgRow) (b : Bool) → has_slot m a ≡ b → slot_of (with_slot a f m) a ≡ option_map f (slot_of m a)
with_same a f m true e =
    slot_of-has (with_slot a f m) a (has_slot-with_slot a a f m ∙ e)
    ∙ ap (slice_get (with_slot a f m).slots) (slot_index-with_slot a a f m)
    ∙ ap (λ xs. slice_get xs (slot_index m a)) (slots_with a f m e)
    ∙ get_changed f m.slots (slot_index m a) ∙ sym (ap (option_map f) (slot_of-has m a e))
with_same a f m false e = slot_of-hasnt (with_slot a f m) a (has_slot-with_slot a a f m ∙ e) ∙ sym (ap (option_map f) (slot_of-hasnt m a e))

pub slot_of-with_same : (a : ℕ) (f : SlotRow → SlotRow) (m : MsgRow) → slot_of (with_slot a f m) a ≡ option_map f (slot_of m a)
slot_of-with_same a f m = with_same a f m (has_slot m a) refl

with_other : (a b : ℕ) (f : SlotRow → SlotRow) (m : MsgRow) (c : Bool) → has_slot m b ≡ c → a ≢ b → has_slot m a ≡ true → slot_of (with_slot a f m) b ≡ slot_of m b
with_other a b f m true e d h =
    slot_of-has (with_slot a f m) b (has_slot-with_slot a b f m ∙ e)
    ∙ ap (slice_get (with_slot a f m).slots) (slot_index-with_slot a b f m)
    ∙ ap (λ xs. slice_get xs (slot_index m b)) (slots_with a f m h)
    ∙ get_other_changed f m.slots (slot_index m a) (slot_index m b) (index_apart m.moved (length m.slots) a b (a == 0) (b == 0) refl refl h e d)
    ∙ sym (slot_of-has m b e)
with_other a b f m false e d h = slot_of-hasnt (with_slot a f m) b (has_slot-with_slot a b f m ∙ e) ∙ sym (slot_of-hasnt m b e)

other_by : (a b : ℕ) (f : SlotRow → SlotRow) (m : MsgRow) (c : Bool) → has_slot m a ≡ c → a ≢ b → slot_of (with_slot a f m) b ≡ slot_of m b
other_by a b f m true e d = with_other a b f m (has_slot m b) refl d e
other_by a b f m false e d = ap (λ r. slot_of r b) (with_slot-hasnt a f m e)

pub slot_of-with_other : (a b : ℕ) (f : SlotRow → SlotRow) (m : MsgRow) → a ≢ b → slot_of (with_slot a f m) b ≡ slot_of m b
slot_of-with_other a b f m d = other_by a b f m (has_slot m a) refl d

-- ---- a message is moved

pub slot_of-moved_zero : (queue : List ℕ) (at : ℕ) (m : MsgRow) → slot_of (moved_to queue at m) 0 ≡ Some (slot_zero m.slots at)
slot_of-moved_zero queue at m =
    let z = slot_zero m.slots at in
    let n : length (m.slots ++ z ∷ []) - 1 ≡ length m.slots = rw length-append (omega arith) in
    ap (slice_get (m.slots ++ z ∷ [])) n ∙ get_behind (λ s. s) m.slots z

pub has_slot-moved : (queue : List ℕ) (at : ℕ) (m : MsgRow) (slot : ℕ) → m.moved ≡ false → (slot == 0) ≡ false → has_slot (moved_to queue at m) slot ≡ has_slot m slot
has_slot-moved queue at m slot u e =
    let z = slot_zero m.slots at in
    let n : length (m.slots ++ z ∷ []) - 1 ≡ length m.slots = rw length-append (omega arith) in
    rw (e, u) (ap (nat_le slot) n)

moved_other : (queue : List ℕ) (at : ℕ) (m : MsgRow) (slot : ℕ) (c : Bool) → has_slot m slot ≡ c → m.moved ≡ false → (slot == 0) ≡ false → slot_of (moved_to queue at m) slot ≡ slot_of m slot
moved_other queue at m slot true h u e =
    let z = slot_zero m.slots at in
    let le : slot ≤ length m.slots = leb-true slot (length m.slots) (rw (e, u) at h) in
    let ne : slot ≢ 0 = eqb-false slot 0 e in
    let same : slice_get (m.slots ++ z ∷ []) (slot_index (moved_to queue at m) slot) ≡ slice_get m.slots (slot_index m slot) =
    rw e (get_in_front (λ s. s) m.slots (z ∷ []) (slot - 1) (omega arith)) in
    slot_of-has (moved_to queue at m) slot (has_slot-moved queue at m slot u e ∙ h) ∙ same ∙ sym (slot_of-has m slot h)
moved_other queue at m slot false h u e = slot_of-hasnt (moved_to queue at m) slot (has_slot-moved queue at m slot u e ∙ h) ∙ sym (slot_of-hasnt m slot h)

pub slot_of-moved_other : (queue : List ℕ) (at : ℕ) (m : MsgRow) (slot : ℕ) → m.moved ≡ false → (slot == 0) ≡ false → slot_of (moved_to queue at m) slot ≡ slot_of m slot
slot_of-moved_other queue at m slot u e = moved_other queue at m slot (has_slot m slot) refl u e

-- a message that was not moved has no slot 0
pub slot_of-zero : (m : MsgRow) → m.moved ≡ false → slot_of m 0 ≡ None
slot_of-zero m u = rw u refl
