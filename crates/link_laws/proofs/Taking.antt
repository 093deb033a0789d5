-- What a destination takes in of a slot that was sent: a copy that fits, with the facts that the origin had as it began.
use Rattle.std.proofs.Common.{◌≡◌, ◌≤◌, ◌⊎◌, inl, inr, ℕ, suc, zero, List, [], ◌∷◌, Bool, true, false, not, refl, sym, ap, subst, ◌∙◌, arith, Option, Some, None, ◌==◌, ◌||◌, ◌++◌, length}
use Rattle.std.specs.Prelude.{option_and_then, is_some, slice_get, Contains, if◌then◌else◌}
use Rattle.std.specs.List.{list_any, list_all}
use Rattle.std.specs.Option.{option_map_or}
use Rattle.std.proofs.lemmas.Bool.{and_parts, and_from, or_right, eq-eqb}
use Rattle.std.proofs.lemmas.List.Elements.{Contains-push, Contains-push_cases}
use Rattle.std.proofs.lemmas.Option.{none-some}
use Rattle.aq_base.specs.declared.limits.TheConstants.{MOMENT_LIMIT}
use Rattle.queue_rows.specs.Rows.{find_table, slot_of, slot_index}
use Rattle.queue_rows.specs.Tables.{after, after_all}
use Rattle.queue_rows.specs.Fits.{fits}
use Rattle.queue_rows.specs.Propagating.{Parcel, Dispatch, dispatch, cause_of, copy_of, copy_slot, taken_in, taken_in_by, arriving_by, arriving, has_seen, is_pair}
use Rattle.queue_rows.specs.World.{committed_tables}
use Rattle.queue_rows.specs.Valid.{is_valid}
use Rattle.queue_rows.specs.declared.tables.Tables.{Tables}
use Rattle.queue_rows.specs.declared.rows.SeenRow.{SeenRow}
use Rattle.queue_rows.specs.declared.rows.SlotRow.{SlotRow}
use Rattle.queue_rows.specs.declared.rows.MsgRow.{MsgRow}
use Rattle.queue_rows.specs.declared.change.Change.{Change}
use Rattle.queue_rows.specs.declared.change.Change.TheVariants as changes
use Rattle.queue_rows.specs.declared.change.Commit.{Commit}
use Rattle.queue_rows.specs.declared.history.SlotRef.{SlotRef}
use Rattle.queue_rows.specs.declared.history.Cause.{Cause}
use Rattle.queue_rows.specs.declared.history.Arrival.TheVariants.{Copied, Seen}
use Rattle.row_laws.proofs.Slots.{slot_at}
use Rattle.statement_laws.proofs.Among.{any_last}
use Rattle.valid_laws.specs.Touching.{are_proper}
use Rattle.valid_laws.specs.ArrivalLaws.{MayTakeIn}
use Rattle.valid_laws.proofs.Arriving.{arrival_fits}
use Rattle.history_laws.specs.Arrivals.{IsCopy}
use Rattle.history_laws.specs.LocalMarks.{is_remote_slot}
use Rattle.history_laws.proofs.Admitting.{copy_may_be_taken_in}
use Rattle.history_laws.proofs.Committing.{arrival_is_proper}
use Rattle.history_laws.proofs.Copying.{arriving_copies}
use Rattle.history_laws.proofs.Plain.{is_plain, committed_latest}
use Rattle.history_laws.proofs.Sending.{sent_is_remote}
use Rattle.propagation.specs.Taking.{known, refused, takes, taking_by, taking_in}
use Rattle.link_laws.specs.Laws.{IsSeenWith}
use Rattle.link_laws.proofs.Tracing.{IsTraced, AllPutLocal, commit_traced}
use Rattle.link_laws.proofs.Commits.{IsRightCommit}

-- ---- what is taken in

-- it was not seen, no cause stands against it, and these are the changes
record IsTaken (there : Tables) (at : SlotRef) (p : Parcel) (next moment : ℕ) (cs : List Change) : Type 0 where
  pub unseen : has_seen there at ≡ false
  pub none : cause_of there p next ≡ None
  pub changes_are : taken_in there at p next moment ≡ cs

module _ (there : Tables) (at : SlotRef) (p : Parcel) (next moment : ℕ) (cs : List Change) where
  taken_by_cause : has_seen there at ≡ false → (o : Option Cause) → cause_of there p next ≡ o → taking_by there at p next moment o ≡ takes cs → IsTaken there at p next moment cs
  taken_by_cause u (Some cause) f e = absurd (let no : refused cause ≡ takes cs = e in cc)
  taken_by_cause u None f e = record { unseen = u; none = f; changes_are = let a : takes (taken_in there at p next moment) ≡ takes cs = e in cc }

  taken_by_seen : (b : Bool) → has_seen there at ≡ b → (if b then known else taking_by there at p next moment (cause_of there p next)) ≡ takes cs → IsTaken there at p next moment cs
  taken_by_seen true f e = absurd (let no : known ≡ takes cs = e in cc)
  taken_by_seen false f e = taken_by_cause f (cause_of there p next) refl e

  taken : taking_in there at p next moment ≡ takes cs → IsTaken there at p next moment cs
  unfolding taking_in
  taken e = taken_by_seen (has_seen there at) refl e

  -- what was known was seen
  known_by_seen : (b : Bool) → has_seen there at ≡ b → (if b then known else taking_by there at p next moment (cause_of there p next)) ≡ known → has_seen there at ≡ true
  known_by_seen true f e = f
  known_by_seen false f e = absurd (unknown (cause_of there p next) e)
    where
      unknown : (o : Option Cause) → taking_by there at p next moment o ≡ known → ⊥
      unknown None a = let no : takes (taken_in there at p next moment) ≡ known = a in cc
      unknown (Some cause) a = let no : refused cause ≡ known = a in cc

pub known_is_seen : (there : Tables) (at : SlotRef) (p : Parcel) (next moment : ℕ) → taking_in there at p next moment ≡ known → has_seen there at ≡ true
unfolding taking_in
known_is_seen there at p next moment e = known_by_seen there at p next moment [] (has_seen there at) refl e

-- ---- as an arrival that ends with a copy

module _ (there : Tables) (at : SlotRef) (d : Dispatch) (next moment : ℕ) (cs : List Change) (k : IsTaken there at d.parcel next moment cs) where
  arrives_so : arriving there at d next moment ≡ arriving_by there at d next moment None
  unfolding arriving
  arrives_so =
      ap (λ b. if b then record { outcome = Seen; origin = []; there = [] } else arriving_by there at d next moment (cause_of there d.parcel next)) k.unseen ∙ ap (arriving_by there at d next moment) k.none

  outcome_is : (arriving there at d next moment).outcome ≡ Copied next
  outcome_is = ap (λ a. a.outcome) arrives_so

  there_is : (arriving there at d next moment).there ≡ cs
  there_is = ap (λ a. a.there) arrives_so ∙ k.changes_are

-- ---- of a slot that the origin had as it began

-- the slot was sent of valid tables, and traced in them
pub record IsSentOf (origin : Tables) (at : SlotRef) (p : Parcel) : Type 0 where
  pub tables : Tables
  pub valid : is_valid tables ≡ true
  pub traced : IsTraced origin at.slot at.id tables
  pub dispatched : Dispatch
  pub dispatch_is : dispatch tables at ≡ Some dispatched
  pub parcel_is : p ≡ dispatched.parcel

copy_of_opening : (origin there : Tables) (at : SlotRef) (p : Parcel) (id : ℕ) (cs : List Change) → (s : IsSentOf origin at p) → IsCopy s.tables there at id cs → IsCopy origin there at id cs
copy_of_opening origin there at p id cs s k =
    let remote : is_remote_slot at.slot k.message ≡ true = ap (λ o. option_map_or (is_remote_slot at.slot) o false) (sym k.message_is) ∙ sent_is_remote s.tables at s.dispatched s.valid s.dispatch_is in
    let goes = (and_parts (not (at.slot == 0)) (option_map_or (λ x. is_some x.address) (slot_of k.message at.slot) false) remote).1 in
    let addressed : is_some k.slot.address ≡ true = ap (λ o. option_map_or (λ x. is_some x.address) o false) (sym k.slot_is) ∙ goes in
    let o = s.traced k.message k.message_is k.slot k.slot_is addressed in
    record {
      message = o.message;
      slot = o.row;
      copy = k.copy;
      copied = k.copied;
      message_is = o.message_is;
      slot_is = o.row_is;
      commits = k.commits;
      number = k.number;
      facts = k.facts ∙ o.facts;
      slots = k.slots;
      expiry = k.expiry ∙ o.expiry;
      unseen = k.unseen;
    }

-- it is the copy of any slot of those numbers
copy_alike : (origin there : Tables) (at other : SlotRef) (id copy : ℕ) (cs : List Change) → other.id ≡ at.id → other.slot ≡ at.slot → copy ≡ id → IsCopy origin there at id cs → IsCopy origin there other copy cs
copy_alike origin there at other id copy cs e f g k =
    let here : SlotRef = record { id = at.id; slot = at.slot; db = other.db } in
    let same : here ≡ other = ap (λ n. record { id = n; slot = at.slot; db = other.db }) (sym e) ∙ ap (λ n. record { id = other.id; slot = n; db = other.db }) (sym f) in
    let so : IsCopy origin there here id cs =
    record { message = k.message; slot = k.slot; copy = k.copy; copied = k.copied; message_is = k.message_is; slot_is = k.slot_is; commits = k.commits; number = k.number; facts = k.facts; slots = k.slots; expiry = k.expiry; unseen = k.unseen } in
    subst (λ n. IsCopy origin there other n cs) (sym g) (subst (λ a. IsCopy origin there a id cs) same so)

-- ---- the commit

only_slot : (x : SlotRow) (i : ℕ) (s : SlotRow) → slice_get (x ∷ []) i ≡ Some s → s ≡ x
only_slot x zero s e = let a : Some x ≡ Some s = e in cc
only_slot x (suc i) s e = absurd (none-some s e)

-- a pair of changes of which the first puts in a message has no other seen pair than its second
pair_says : (copy : MsgRow) (row other : SeenRow) → Contains (changes.Enqueued copy ∷ changes.Seen row ∷ []) (changes.Seen other) → other ≡ row
pair_says copy row other c = by (Contains-push_cases (changes.Enqueued copy ∷ []) (changes.Seen row) (changes.Seen other) c)
  where
    first : Contains ([] ++ changes.Enqueued copy ∷ []) (changes.Seen other) → ⊥
    first a = no (Contains-push_cases [] (changes.Enqueued copy) (changes.Seen other) a)
      where
        no : Contains [] (changes.Seen other) ⊎ (changes.Enqueued copy ≡ changes.Seen other) → ⊥
        no (inl n) = let lt = n.1 in omega (arith, lt)
        no (inr e) = let x = e in cc

    by : Contains (changes.Enqueued copy ∷ []) (changes.Seen other) ⊎ (changes.Seen row ≡ changes.Seen other) → other ≡ row
    by (inl a) = absurd (first a)
    by (inr e) = let x = e in cc

-- and puts in no other message than its first
pair_puts : (copy other : MsgRow) (row : SeenRow) → Contains (changes.Enqueued copy ∷ changes.Seen row ∷ []) (changes.Enqueued other) → other ≡ copy
pair_puts copy other row c = by (Contains-push_cases (changes.Enqueued copy ∷ []) (changes.Seen row) (changes.Enqueued other) c)
  where
    first : Contains [] (changes.Enqueued other) ⊎ (changes.Enqueued copy ≡ changes.Enqueued other) → other ≡ copy
    first (inl n) = absurd (let lt = n.1 in omega (arith, lt))
    first (inr e) = let x = e in cc

    by : Contains (changes.Enqueued copy ∷ []) (changes.Enqueued other) ⊎ (changes.Seen row ≡ changes.Enqueued other) → other ≡ copy
    by (inl a) = first (Contains-push_cases [] (changes.Enqueued copy) (changes.Enqueued other) a)
    by (inr e) = absurd (let x = e in cc)

module _ (opening origin there : Tables) (at : SlotRef) (p : Parcel) (moment : ℕ) (cs : List Change) (v : is_valid there ≡ true) (le : there.latest ≤ moment) (top : moment ≤ MOMENT_LIMIT)
    (s : IsSentOf origin at p) (e : taking_in there at p there.next moment ≡ takes cs) where
  abbrev d : Dispatch
  d = s.dispatched

  is_taken : IsTaken there at d.parcel there.next moment cs
  is_taken = taken there at d.parcel there.next moment cs (ap (λ x. taking_in there at x there.next moment) (sym s.parcel_is) ∙ e)

  may : MayTakeIn there at d.parcel there.next moment
  may = copy_may_be_taken_in s.tables there at d there.next moment there.next s.valid (omega arith) s.dispatch_is (outcome_is there at d there.next moment cs is_taken)

  put_in : cs ≡ changes.Enqueued (copy_of may.table d.parcel there.next there.transaction moment) ∷ changes.Seen (record { id = at.id; slot = at.slot; copy = there.next }) ∷ []
  unfolding taken_in
  put_in = sym is_taken.changes_are ∙ ap (taken_in_by there at d.parcel there.next moment) (ap (option_and_then (λ q. find_table there q.table)) may.queue_is ∙ may.table_is)

  copies_so : IsCopy origin there at there.next cs
  copies_so =
      copy_of_opening origin there at p there.next cs s
      (subst (IsCopy s.tables there at there.next) (there_is there at d there.next moment cs is_taken) (arriving_copies s.tables there at d there.next moment there.next s.dispatch_is (outcome_is there at d there.next moment cs is_taken)))

  puts_local : (slot id : ℕ) → AllPutLocal opening slot id cs
  puts_local slot id =
      let m = copy_of may.table d.parcel there.next there.transaction moment in
      let none : (x : SlotRow) → slot_of m slot ≡ Some x → x.address ≡ None = λ x f. ap (λ y. y.address) (only_slot (copy_slot may.table d.parcel moment) (slot_index m slot) x (slot_at m slot x f)) in
      subst (AllPutLocal opening slot id) (sym put_in) (none, (tt, tt))

  abbrev made : Commit
  made = record { moment = moment; changes = cs }

  -- the message that it puts in is the copy of the slot that it has seen
  seen_with : (row : MsgRow) → Contains cs (changes.Enqueued row) → IsSeenWith (record { moment = moment; changes = cs }) row
  seen_with row c =
      let m = copy_of may.table d.parcel there.next there.transaction moment in
      let pair : SeenRow = record { id = at.id; slot = at.slot; copy = there.next } in
      let same : row ≡ m = pair_puts m row pair (subst (λ xs. Contains xs (changes.Enqueued row)) put_in c) in
      let last : Contains cs (changes.Seen pair) = subst (λ xs. Contains xs (changes.Seen pair)) (sym put_in) (Contains-push (changes.Enqueued m ∷ []) (changes.Seen pair)) in
      record { id = at.id; slot = at.slot; seen = subst (λ n. Contains cs (changes.Seen (record { id = at.id; slot = at.slot; copy = n }))) (ap (λ x. x.id) (sym same)) last }

  pub take_in_right : IsRightCommit opening origin there made
  take_in_right = record {
    fit = ap (λ xs. fits there (record { moment = moment; changes = xs })) (sym is_taken.changes_are) ∙ arrival_fits there at d.parcel there.next moment v le top may;
    keeps = λ id slot h.
        commit_traced opening slot id there made v (ap (λ xs. are_proper there xs) (sym is_taken.changes_are) ∙ (arrival_is_proper there at d.parcel there.next moment v le top may).proper) (puts_local slot id) h;
    copies = λ other copy c.
        let row = pair_says (copy_of may.table d.parcel there.next there.transaction moment) (record { id = at.id; slot = at.slot; copy = there.next }) (record { id = other.id; slot = other.slot; copy = copy })
        (subst (λ xs. Contains xs (changes.Seen (record { id = other.id; slot = other.slot; copy = copy }))) put_in c) in
        copy_alike origin there at other there.next copy cs (ap (λ r. r.id) row) (ap (λ r. r.slot) row) (ap (λ r. r.copy) row) copies_so;
    seen = seen_with;
  }

  -- it is no empty list
  pub take_in_some : (length cs == 0) ≡ false
  take_in_some = ap (λ xs. length xs == 0) put_in

  -- its pair is seen after it
  pub take_in_seen : has_seen (after there made) at ≡ true
  unfolding after
  take_in_seen =
      let row : SeenRow = record { id = at.id; slot = at.slot; copy = there.next } in
      ap (λ xs. has_seen (after_all there xs) at) put_in ∙ any_last (is_pair at.id at.slot) there.seen row
      ∙ or_right (list_any (is_pair at.id at.slot) there.seen) (is_pair at.id at.slot row) (and_from (at.id == at.id) (at.slot == at.slot) (eq-eqb at.id at.id refl) (eq-eqb at.slot at.slot refl))

  pub take_in_latest : (after there made).latest ≤ moment
  take_in_latest =
      let le = committed_latest there moment cs (ap (list_all is_plain) put_in) le in
      let same : (committed_tables there cs moment).latest ≡ (after there made).latest = ap (λ b. (if b then there else after there made).latest) take_in_some in
      omega (arith, le, same)

  -- and it has nothing done
  pub take_in_does_none : (q : Change → Bool) → ((m : MsgRow) → q (changes.Enqueued m) ≡ false) → ((r : SeenRow) → q (changes.Seen r) ≡ false) → list_any q cs ≡ false
  take_in_does_none q f g = ap (list_any q) put_in ∙ ap (λ b. b || (q (changes.Seen (record { id = at.id; slot = at.slot; copy = there.next })) || false)) (f (copy_of may.table d.parcel there.next there.transaction moment)) ∙ ap (λ b. b || false) (g (record { id = at.id; slot = at.slot; copy = there.next }))
