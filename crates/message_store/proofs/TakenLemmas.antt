-- What is changed of a message that then goes is lost with it.
use Rattle.std.proofs.Common.{◌≡◌, ◌==◌, ◌||◌, ◌&&◌, ℕ, Bool, true, false, List, [], ◌∷◌, ◌++◌, take, drop, suc, inl, inr, refl, sym, ap, ◌∙◌, arith}
use Rattle.std.specs.List.{list_all}
use Rattle.std.proofs.lemmas.List.{take-append-drop}
use Rattle.std.proofs.lemmas.Bool.Decides.{nat_tests}
use Rattle.queue_rows.specs.Rows.{changed_first, removed_first, with_slot}
use Rattle.queue_rows.specs.Tables.{after_all, after_change, in_state}
use Rattle.queue_rows.specs.declared.change.Change.{Change}
use Rattle.queue_rows.specs.declared.change.Change.TheVariants as changes
use Rattle.queue_rows.specs.declared.rows.SlotState.TheVariants as states
use Rattle.queue_rows.specs.declared.rows.MsgRow.{MsgRow}
use Rattle.queue_rows.specs.declared.tables.Tables.{Tables}
use Rattle.row_laws.proofs.Firsts.{changed_first-yes, changed_first-no, removed_first-yes, removed_first-no}
use Rattle.message_store.specs.Prepared.{AreReady}
use Rattle.message_store.specs.Room.{Room}
use Rattle.message_store.specs.Taken.{goes_with, are_taken, TakesWhole}

both_true : (a b : Bool) → (a && b) ≡ true → (a ≡ true) × (b ≡ true)
both_true true b h = (refl, h)
both_true false b h = absurd cc

joined_true : (a b : Bool) → a ≡ true → b ≡ true → (a && b) ≡ true
joined_true a b e h = rw (e, h) refl

or_first : (a b : Bool) → a ≡ true → (a || b) ≡ true
or_first a b e = rw e refl

or_later : (a b : Bool) → b ≡ true → (a || b) ≡ true
or_later true b h = refl
or_later false b h = h

turned : (id gone : ℕ) → (id == gone) ≡ true → (gone == id) ≡ true
turned id gone e = grind (arith, nat_tests)

module _ {X : Type 0} (p : X → Bool) (f : X → X) (keeps : (y : X) → p (f y) ≡ p y) where
  step : (x : X) (xs : List X) (b : Bool) → p x ≡ b → removed_first p (changed_first p f xs) ≡ removed_first p xs → removed_first p (changed_first p f (x ∷ xs)) ≡ removed_first p (x ∷ xs)
  step x xs true e rest = ap (removed_first p) (changed_first-yes p f x xs e) ∙ removed_first-yes p (f x) xs (keeps x ∙ e) ∙ sym (removed_first-yes p x xs e)
  step x xs false e rest =
      ap (removed_first p) (changed_first-no p f x xs e)
      ∙ removed_first-no p x (changed_first p f xs) e
      ∙ ap (λ ys. x ∷ ys) rest
      ∙ sym (removed_first-no p x xs e)

  -- the first that passes goes, whatever became of it before
  pub gone_all_the_same : (xs : List X) → removed_first p (changed_first p f xs) ≡ removed_first p xs
  gone_all_the_same [] = refl
  gone_all_the_same (x ∷ xs) = step x xs (p x) refl (gone_all_the_same xs)

module _ {X : Type 0} (p q : X → Bool) (f : X → X) (keeps : (y : X) → q (f y) ≡ q y) (apart : (y : X) → p y ≡ true → q y ≡ false) where
  here : (x : X) (xs : List X) (b c : Bool) → p x ≡ b → q x ≡ c
      → removed_first q (changed_first p f xs) ≡ changed_first p f (removed_first q xs)
      → removed_first q (changed_first p f (x ∷ xs)) ≡ changed_first p f (removed_first q (x ∷ xs))
  here x xs true c is other rest =
      let no : q x ≡ false = apart x is in
      ap (removed_first q) (changed_first-yes p f x xs is)
      ∙ removed_first-no q (f x) xs (keeps x ∙ no)
      ∙ sym (ap (changed_first p f) (removed_first-no q x xs no) ∙ changed_first-yes p f x (removed_first q xs) is)
  here x xs false true is other rest =
      ap (removed_first q) (changed_first-no p f x xs is)
      ∙ removed_first-yes q x (changed_first p f xs) other
      ∙ sym (ap (changed_first p f) (removed_first-yes q x xs other))
  here x xs false false is other rest =
      ap (removed_first q) (changed_first-no p f x xs is)
      ∙ removed_first-no q x (changed_first p f xs) other
      ∙ ap (λ ys. x ∷ ys) rest
      ∙ sym (ap (changed_first p f) (removed_first-no q x xs other) ∙ changed_first-no p f x (removed_first q xs) is)

  -- one that goes is another than the one that is changed
  pub gone_beside : (xs : List X) → removed_first q (changed_first p f xs) ≡ changed_first p f (removed_first q xs)
  gone_beside [] = refl
  gone_beside (x ∷ xs) = here x xs (p x) (q x) refl refl (gone_beside xs)

-- ---- changes of messages that go

-- a message of that number goes
abbrev goes_in : ℕ → List Change → Bool
goes_in id [] = false
goes_in id (changes.Purged gone ∷ goes) = (gone == id) || goes_in id goes
goes_in id (_ ∷ goes) = goes_in id goes

abbrev all_go : List Change → Bool
all_go [] = true
all_go (changes.Purged gone ∷ goes) = all_go goes
all_go (_ ∷ goes) = false

abbrev is_done_of : List Change → Change → Bool
is_done_of goes (changes.Done id slot at) = goes_in id goes
is_done_of goes _ = false

-- what a slot's end changes of a message
abbrev done_in : ℕ → ℕ → MsgRow → MsgRow
done_in slot at = with_slot slot (in_state states.Processed at)

apart_ids : (id gone : ℕ) → (gone == id) ≡ false → (m : MsgRow) → (m.id == id) ≡ true → (m.id == gone) ≡ false
apart_ids id gone differ m is = grind (arith, nat_tests)

same_id : (gone id : ℕ) → (gone == id) ≡ true → gone ≡ id
same_id gone id e = grind (arith, nat_tests)

-- a message is done and goes
lost : (t : Tables) (id slot at gone : ℕ) → gone ≡ id → after_change (after_change t (changes.Done id slot at)) (changes.Purged gone) ≡ after_change t (changes.Purged gone)
lost t id slot at gone same = rw same (ap (λ ms. record t { messages = ms }) (gone_all_the_same (λ m. m.id == id) (done_in slot at) (λ m. refl) t.messages))

-- or another one goes
later : (t : Tables) (id slot at gone : ℕ) → (gone == id) ≡ false
    → after_change (after_change t (changes.Done id slot at)) (changes.Purged gone) ≡ after_change (after_change t (changes.Purged gone)) (changes.Done id slot at)
later t id slot at gone differ =
    ap (λ ms. record t { messages = ms }) (gone_beside (λ m. m.id == id) (λ m. m.id == gone) (done_in slot at) (λ m. refl) (apart_ids id gone differ) t.messages)

absorbed_by : (id slot at gone : ℕ) (goes : List Change)
    → (goes_in id goes ≡ true → (t : Tables) → after_all (after_change t (changes.Done id slot at)) goes ≡ after_all t goes)
    → (b : Bool) → (gone == id) ≡ b → (b || goes_in id goes) ≡ true → (t : Tables)
    → after_all (after_change (after_change t (changes.Done id slot at)) (changes.Purged gone)) goes ≡ after_all (after_change t (changes.Purged gone)) goes
absorbed_by id slot at gone goes rest true e is t = ap (λ u. after_all u goes) (lost t id slot at gone (same_id gone id e))
absorbed_by id slot at gone goes rest false e is t = ap (λ u. after_all u goes) (later t id slot at gone e) ∙ rest is (after_change t (changes.Purged gone))

absorbed : (id slot at : ℕ) (goes : List Change) → all_go goes ≡ true → goes_in id goes ≡ true → (t : Tables)
    → after_all (after_change t (changes.Done id slot at)) goes ≡ after_all t goes
absorbed id slot at [] all is t = absurd cc
absorbed id slot at (changes.Purged gone ∷ goes) all is t = absorbed_by id slot at gone goes (absorbed id slot at goes all) (gone == id) refl is t
absorbed id slot at (_ ∷ goes) all is t = absurd cc

-- ---- of the changes of a commit

dropped : (dones goes : List Change) → all_go goes ≡ true → list_all (is_done_of goes) dones ≡ true → (t : Tables) → after_all t (dones ++ goes) ≡ after_all t goes
dropped [] goes all done t = refl
dropped (changes.Done id slot at ∷ dones) goes all done t =
    let parts = both_true (goes_in id goes) (list_all (is_done_of goes) dones) done in
    dropped dones goes all parts.1 (after_change t (changes.Done id slot at)) ∙ absorbed id slot at goes all parts.0 t
dropped (_ ∷ dones) goes all done t = absurd cc

-- what one more change that lets a message go makes of them
more_go : (gone : ℕ) (goes dones : List Change) → list_all (is_done_of goes) dones ≡ true → list_all (is_done_of (changes.Purged gone ∷ goes)) dones ≡ true
more_go gone goes [] done = refl
more_go gone goes (changes.Done id slot at ∷ dones) done =
    let parts = both_true (goes_in id goes) (list_all (is_done_of goes) dones) done in
    joined_true ((gone == id) || goes_in id goes) (list_all (is_done_of (changes.Purged gone ∷ goes)) dones) (or_later (gone == id) (goes_in id goes) parts.0) (more_go gone goes dones parts.1)
more_go gone goes (_ ∷ dones) done = absurd cc

-- changes of which each takes a slot of a message that then goes
taken_go : (dones goes : List Change) → are_taken dones goes ≡ true → (all_go goes ≡ true) × (list_all (is_done_of goes) dones ≡ true)
taken_go [] [] taken = (refl, refl)
taken_go [] (gone ∷ goes) taken = absurd cc
taken_go (done ∷ dones) [] taken = absurd cc
taken_go (changes.Done id slot at ∷ dones) (changes.Purged gone ∷ goes) taken =
    let parts = both_true (id == gone) (are_taken dones goes) taken in
    let rest = taken_go dones goes parts.1 in
    (rest.0, joined_true ((gone == id) || goes_in id goes) (list_all (is_done_of (changes.Purged gone ∷ goes)) dones) (or_first (gone == id) (goes_in id goes) (turned id gone parts.0)) (more_go gone goes dones rest.1))
taken_go (changes.Done id slot at ∷ dones) (_ ∷ goes) taken = absurd cc
taken_go (_ ∷ dones) (gone ∷ goes) taken = absurd cc

pub taken_are_gone : (t : Tables) (dones goes : List Change) → are_taken dones goes ≡ true → after_all t (dones ++ goes) ≡ after_all t goes
taken_are_gone t dones goes taken = let parts = taken_go dones goes taken in dropped dones goes parts.0 parts.1 t

-- to let messages go needs no memory
go_ready : (t : Tables) (r : Room) (goes : List Change) → all_go goes ≡ true → AreReady t r goes
go_ready t r [] all = tt
go_ready t r (changes.Purged gone ∷ goes) all = (record { numbers = tt; place = tt; slots = tt }, go_ready (after_change t (changes.Purged gone)) r goes all)
go_ready t r (_ ∷ goes) all = absurd cc

pub taken_are_ready : (t : Tables) (r : Room) (dones goes : List Change) → are_taken dones goes ≡ true → AreReady t r goes
taken_are_ready t r dones goes taken = go_ready t r goes (taken_go dones goes taken).0

-- ---- of the first changes of a list

one_more : (dones goes : List Change) (done gone : Change) (at : ℕ) → drop at dones ≡ done ∷ drop (suc at) dones → drop at goes ≡ gone ∷ drop (suc at) goes
    → goes_with done gone ≡ true → are_taken (drop (suc at) dones) (drop (suc at) goes) ≡ true → are_taken (drop at dones) (drop at goes) ≡ true
one_more dones goes done gone at first second with_it rest = rw (first, second) (joined_true (goes_with done gone) (are_taken (drop (suc at) dones) (drop (suc at) goes)) with_it rest)

-- what is behind the first changes says what all say
pub behind_is_all : (t : Tables) (cs : List Change) (count : ℕ) → TakesWhole count cs → after_all t (drop count cs) ≡ after_all t cs
behind_is_all t cs count (inl none) = rw none refl
behind_is_all t cs count (inr taken) = sym (taken_are_gone t (take count cs) (drop count cs) taken) ∙ ap (after_all t) (take-append-drop count cs)

pub behind_is_ready : (t : Tables) (r : Room) (cs : List Change) (count : ℕ) → TakesWhole count cs → AreReady t r cs → AreReady t r (drop count cs)
behind_is_ready t r cs count (inl none) ready = rw none ready
behind_is_ready t r cs count (inr taken) ready = taken_are_ready t r (take count cs) (drop count cs) taken
