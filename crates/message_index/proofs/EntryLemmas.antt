-- Messages under stamps: what edits of both lists make of the entries, and what becomes of an index of their slots.
use Rattle.std.proofs.Common.{◌≡◌, ℕ, zero, suc, ◌==◌, ◌<◌, List, [], ◌∷◌, ◌++◌, ◌+◌, length, take, Bool, true, false, cond, Option, Some, None, nat_lt, refl, sym, ap, ◌∙◌, subst, arith, inl, inr, ◌≤◌}
use Rattle.std.specs.Prelude.{insert, option_and_then, position, remove, slice_get, slice_set}
use Rattle.std.specs.List.{AllByRecursion, position_or_len}
use Rattle.std.proofs.lemmas.Bool.{cases_Bool, ltb-false}
use Rattle.std.proofs.lemmas.List.Edits.{insert_end}
use Rattle.std.proofs.Math.Seq.{take-suc, take-length}
use Rattle.std.proofs.lemmas.List.{append_assoc, append-nil, length-append, length-map, length-take-le}
use Rattle.std.proofs.lemmas.Option.{get_or_from_slice_get, none-some, slice_get_past, slice_get_within}
use Rattle.queue_rows.specs.declared.rows.MsgRow.{MsgRow}
use Rattle.choice_laws.specs.Entries.{Entry, AreAbove, AreRising, message_at, messages_of}
use Rattle.remote_slots.specs.ReadyEdits.{entry}
use Rattle.remote_slots.proofs.Inserting.{replaced}
use Rattle.sort_index.specs.declared.group.Group.{Group}
use Rattle.message_index.specs.Messages.{ids_of}
use Rattle.message_index.specs.Stamped.{AreStamps, Rise, entries_of, IfIndexed, Forgets, Notes}

-- ---- the entries

-- there is a message for each stamp
pub messages_are : (ss : List ℕ) (ms : List MsgRow) → length ss ≡ length ms → messages_of (entries_of ss ms) ≡ ms
messages_are [] [] long = refl
messages_are [] (m ∷ ms) long = absurd (omega (arith, long))
messages_are (s ∷ ss) [] long = absurd (omega (arith, long))
messages_are (s ∷ ss) (m ∷ ms) long = ap (λ rest. m ∷ rest) (messages_are ss ms (omega (arith, long)))

above : (n : ℕ) (ss : List ℕ) (ms : List MsgRow) → AllByRecursion (λ later. n < later) ss → AreAbove n (entries_of ss ms)
above n [] ms all = tt
above n (s ∷ ss) [] all = tt
above n (s ∷ ss) (m ∷ ms) all = (all.0, above n ss ms all.1)

pub entries_rise : (ss : List ℕ) (ms : List MsgRow) → Rise ss → AreRising (entries_of ss ms)
entries_rise [] ms rise = tt
entries_rise (s ∷ ss) [] rise = tt
entries_rise (s ∷ ss) (m ∷ ms) rise = (above s ss ms rise.0, entries_rise ss ms rise.1)

pub entry_there : (ss : List ℕ) (ms : List MsgRow) (at s : ℕ) (m : MsgRow) → slice_get ss at ≡ Some s → slice_get ms at ≡ Some m
    → slice_get (entries_of ss ms) at ≡ Some (entry s m)
entry_there [] ms at s m stamp there = absurd (none-some s stamp)
entry_there (x ∷ ss) [] at s m stamp there = absurd (none-some m there)
entry_there (x ∷ ss) (y ∷ ms) zero s m stamp there = cc
entry_there (x ∷ ss) (y ∷ ms) (suc at) s m stamp there = entry_there ss ms at s m stamp there

pub entry_removed : (ss : List ℕ) (ms : List MsgRow) (at : ℕ) → length ss ≡ length ms → remove (entries_of ss ms) at ≡ entries_of (remove ss at) (remove ms at)
entry_removed [] [] zero long = refl
entry_removed [] [] (suc at) long = refl
entry_removed [] (m ∷ ms) at long = absurd (omega (arith, long))
entry_removed (s ∷ ss) [] at long = absurd (omega (arith, long))
entry_removed (s ∷ ss) (m ∷ ms) zero long = refl
entry_removed (s ∷ ss) (m ∷ ms) (suc at) long = ap (λ rest. entry s m ∷ rest) (entry_removed ss ms at (omega (arith, long)))

pub entry_set : (ss : List ℕ) (ms : List MsgRow) (at s : ℕ) (n : MsgRow) → slice_get ss at ≡ Some s
    → slice_set (entries_of ss ms) at (entry s n) ≡ entries_of ss (slice_set ms at n)
entry_set [] ms at s n stamp = absurd (none-some s stamp)
entry_set (x ∷ ss) [] at s n stamp = refl
entry_set (x ∷ ss) (y ∷ ms) zero s n stamp = cc
entry_set (x ∷ ss) (y ∷ ms) (suc at) s n stamp = ap (λ rest. entry x y ∷ rest) (entry_set ss ms at s n stamp)

pub entry_last : (ss : List ℕ) (ms : List MsgRow) (s : ℕ) (m : MsgRow) → length ss ≡ length ms
    → entries_of (ss ++ s ∷ []) (ms ++ m ∷ []) ≡ entries_of ss ms ++ entry s m ∷ []
entry_last [] [] s m long = refl
entry_last [] (y ∷ ms) s m long = absurd (omega (arith, long))
entry_last (x ∷ ss) [] s m long = absurd (omega (arith, long))
entry_last (x ∷ ss) (y ∷ ms) s m long = ap (λ rest. entry x y ∷ rest) (entry_last ss ms s m (omega (arith, long)))

-- ---- the message of a stamp

further : (m : MsgRow) (ms : List MsgRow) (n : ℕ) → slice_get (m ∷ ms) (1 + n) ≡ slice_get ms n
further m ms n = let next : 1 + n ≡ suc n = omega arith in ap (slice_get (m ∷ ms)) next

found : (ss : List ℕ) (ms : List MsgRow) (stamp : ℕ) → length ss ≡ length ms → message_at (entries_of ss ms) stamp ≡ slice_get ms (position_or_len (λ s. s == stamp) ss)
found [] [] stamp long = refl
found [] (m ∷ ms) stamp long = absurd (omega (arith, long))
found (s ∷ ss) [] stamp long = absurd (omega (arith, long))
found (s ∷ ss) (m ∷ ms) stamp long = elim (cases_Bool (s == stamp)) [
  | inl same ↦ rw same refl
  | inr other ↦ rw other (found ss ms stamp (omega (arith, long)) ∙ sym (further m ms (position_or_len (λ s. s == stamp) ss)))
]

-- what is found at the place of a stamp is the message that is kept under it
pub message_is : (ss : List ℕ) (ms : List MsgRow) (stamp : ℕ) → length ss ≡ length ms → (place : Option ℕ) → place ≡ position (λ s. s == stamp) ss
    → option_and_then (slice_get ms) place ≡ message_at (entries_of ss ms) stamp
message_is ss ms stamp long place is =
    let n = position_or_len (λ s. s == stamp) ss in
    ap (option_and_then (slice_get ms)) is ∙ by (nat_lt n (length ss)) refl ∙ sym (found ss ms stamp long)
  where
    by : (b : Bool) → nat_lt (position_or_len (λ s. s == stamp) ss) (length ss) ≡ b
        → option_and_then (slice_get ms) (cond b (Some (position_or_len (λ s. s == stamp) ss)) None) ≡ slice_get ms (position_or_len (λ s. s == stamp) ss)
    by true within = refl
    by false past =
        let n = position_or_len (λ s. s == stamp) ss in
        let least : length ss ≤ n = ltb-false n (length ss) past in
        sym (slice_get_past ms n (omega (arith, long, least)))

-- ---- edits, and an index of slots

-- there is a stamp for each message
pub as_long : (ids ss : List ℕ) (ms : List MsgRow) → ids ≡ ids_of ms → AreStamps (length ids) ss → length ss ≡ length ms
as_long ids ss ms is stamps = stamps.long ∙ ap length is ∙ length-map ms (λ m. m.id)

-- whichever rows an index of messages has
module _ (Indexes : List Entry → List Group → Type 0) where
  -- the message at an index goes
  pub index_removed : (ss : List ℕ) (ms : List MsgRow) (at s : ℕ) (m : MsgRow) (before after : Option (List Group))
      → length ss ≡ length ms → Rise ss → slice_get ss at ≡ Some s → slice_get ms at ≡ Some m
      → Forgets Indexes s m before after → IfIndexed Indexes (entries_of ss ms) before → IfIndexed Indexes (entries_of (remove ss at) (remove ms at)) after
  index_removed ss ms at s m before after long rise stamp there forgets ready =
      subst (λ (es : List Entry). IfIndexed Indexes es after) (entry_removed ss ms at long)
      (forgets (entries_of ss ms) at (entries_rise ss ms rise) (entry_there ss ms at s m stamp there) ready)

  -- the message at an index is another one
  pub index_changed : (ss : List ℕ) (ms : List MsgRow) (at s : ℕ) (m n : MsgRow) (before between after : Option (List Group))
      → Rise ss → slice_get ss at ≡ Some s → slice_get ms at ≡ Some m
      → Forgets Indexes s m before between → Notes Indexes s n between after
      → IfIndexed Indexes (entries_of ss ms) before → IfIndexed Indexes (entries_of ss (slice_set ms at n)) after
  index_changed ss ms at s m n before between after rise stamp there forgets notes ready =
      let es = entries_of ss ms in
      let one = entry_there ss ms at s m stamp there in
      let same : insert (remove es at) at (entry s n) ≡ entries_of ss (slice_set ms at n) = replaced es at (entry s m) (entry s n) one ∙ entry_set ss ms at s n stamp in
      let left = forgets es at (entries_rise ss ms rise) one ready in
      let rises : AreRising (insert (remove es at) at (entry s n)) = subst AreRising (sym same) (entries_rise ss (slice_set ms at n) rise) in
      subst (λ (es : List Entry). IfIndexed Indexes es after) same (notes (remove es at) at rises left)

  -- a message comes last
  pub index_pushed : (ss now : List ℕ) (ms : List MsgRow) (s : ℕ) (m : MsgRow) (before after : Option (List Group))
      → length ss ≡ length ms → now ≡ ss ++ s ∷ [] → Rise now
      → Notes Indexes s m before after → IfIndexed Indexes (entries_of ss ms) before → IfIndexed Indexes (entries_of now (ms ++ m ∷ [])) after
  index_pushed ss now ms s m before after long is rise notes ready =
      let es = entries_of ss ms in
      let same : insert es (length es) (entry s m) ≡ entries_of now (ms ++ m ∷ []) =
      insert_end es (entry s m) ∙ sym (entry_last ss ms s m long) ∙ ap (λ stamps. entries_of stamps (ms ++ m ∷ [])) (sym is) in
      let rises : AreRising (insert es (length es) (entry s m)) = subst AreRising (sym same) (entries_rise now (ms ++ m ∷ []) rise) in
      subst (λ (es : List Entry). IfIndexed Indexes es after) same (notes es (length es) rises ready)

-- ---- an index of all

all_taken : (n k : ℕ) (xs : List ℕ) → AllByRecursion (λ later. n < later) xs → AllByRecursion (λ later. n < later) (take k xs)
all_taken n zero xs all = tt
all_taken n (suc k) [] all = tt
all_taken n (suc k) (x ∷ xs) all = (all.0, all_taken n k xs all.1)

rise_taken : (k : ℕ) (xs : List ℕ) → Rise xs → Rise (take k xs)
rise_taken zero xs rise = tt
rise_taken (suc k) [] rise = tt
rise_taken (suc k) (x ∷ xs) rise = (all_taken x k xs rise.0, rise_taken k xs rise.1)

take_next : (xs : List ℕ) (at s : ℕ) → slice_get xs at ≡ Some s → take (at + 1) xs ≡ take at xs ++ s ∷ []
take_next xs at s there =
    let next : at + 1 ≡ suc at = omega arith in
    ap (λ k. take k xs) next ∙ take-suc xs at s (slice_get_within xs at s there) ∙ ap (λ x. take at xs ++ x ∷ []) (get_or_from_slice_get xs at s s there)

module _ (Indexes : List Entry → List Group → Type 0) where
  -- of the stamps and messages that were gone over, those with one more
  pub index_grown : (all : List ℕ) (ms : List MsgRow) (done : List MsgRow) (at s : ℕ) (m : MsgRow) (before after : Option (List Group))
      → Rise all → at ≡ length done → slice_get all at ≡ Some s → Notes Indexes s m before after
      → IfIndexed Indexes (entries_of (take at all) done) before → IfIndexed Indexes (entries_of (take (at + 1) all) (done ++ m ∷ [])) after
  index_grown all ms done at s m before after rise count there notes ready =
      let within : at < length all = slice_get_within all at s there in
      let long : length (take at all) ≡ length done = length-take-le at all (omega (arith, within)) ∙ count in
      index_pushed Indexes (take at all) (take (at + 1) all) done s m before after long (take_next all at s there) (rise_taken (at + 1) all rise) notes ready

pub split_on : (m : MsgRow) (done rest more all : List MsgRow) → more ≡ m ∷ rest → done ++ more ≡ all → (done ++ m ∷ []) ++ rest ≡ all
split_on m done rest more all steps so = append_assoc done (m ∷ []) rest ∙ ap (λ ms. done ++ ms) (sym steps) ∙ so

pub longer : (at : ℕ) (m : MsgRow) (done : List MsgRow) → at ≡ length done → at + 1 ≡ length (done ++ m ∷ [])
longer at m done is = let long = length-append done (m ∷ []) in omega (arith, long, is)

-- while messages are left, there is a stamp for the next
pub stamp_left : (count at : ℕ) (m : MsgRow) (done rest more all : List MsgRow) → more ≡ m ∷ rest → done ++ more ≡ all → at ≡ length done → count ≡ length all → at < count
stamp_left count at m done rest more all steps so is long =
    let both = length-append done more in
    let left = ap length steps in
    omega (arith, both, left, ap length so, is, long)

module _ (Indexes : List Entry → List Group → Type 0) where
  -- at the end all were gone over
  pub all_gone : (ss : List ℕ) (at : ℕ) (done more ms : List MsgRow) (index : Option (List Group)) → more ≡ [] → done ++ more ≡ ms → at ≡ length done → length ss ≡ length ms
      → IfIndexed Indexes (entries_of (take at ss) done) index → IfIndexed Indexes (entries_of ss ms) index
  all_gone ss at done more ms index none so is long ready =
      let same : done ≡ ms = sym (append-nil done) ∙ ap (λ ms. done ++ ms) (sym none) ∙ so in
      let count : at ≡ length ss = is ∙ ap length same ∙ sym long in
      let stamps : take at ss ≡ ss = ap (λ k. take k ss) count ∙ take-length ss in
      subst (λ (es : List Entry). IfIndexed Indexes es index) (λ i. entries_of (stamps i) (same i)) ready
