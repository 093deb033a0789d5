-- What a rollback commits goes well: a retry, or a retry too many with the expiry behind it.
use Rattle.std.proofs.Common.{◌≡◌, ◌≤◌, ◌<◌, ◌+◌, ◌-◌, ◌^◌, ℕ, zero, suc, List, [], ◌∷◌, Bool, true, false, not, length, refl, sym, ap, ◌∙◌, subst, arith, Option, Some, None, ◌==◌, ◌&&◌, ◌||◌}
use Rattle.std.specs.Prelude.{flat_map, nat_le, nat_lt, slice_get, option_and_then, All, AllPairs, get_or, if◌then◌else◌}
use Rattle.std.specs.Option.{option_map_or}
use Rattle.std.proofs.lemmas.Bool.{eq-eqb, and_parts, and_from, or_parts, le-leb, leb-true, ltb-false, not_from_false, true≢false}
use Rattle.std.proofs.lemmas.Option.{slice_get_within}
use Rattle.std.proofs.lemmas.List.Elements.{All-head, All-tail}
use Rattle.aq_base.specs.declared.limits.TheConstants.{MAX_RETRIES_LIMIT, MOMENT_LIMIT}
use Rattle.queue_rows.specs.Rows.{find_message, find_queue, slot_of, slot_index, has_slot, with_slot, changed_nth, changed_first, recipient_slots, recipient_count}
use Rattle.queue_rows.specs.Tables.{after_change, after_all, changed_slot, in_state, retried}
use Rattle.queue_rows.specs.Settling.{is_exception, is_open, if_it}
use Rattle.queue_rows.specs.Transactions.{retry_until, retry_slot, retry_in, retry_message, retry_of, rollback_of}
use Rattle.queue_rows.specs.Valid.{is_valid, is_valid_message_in, is_right_queue, has_right_cells, has_right_ids, has_right_place, has_right_lane, has_right_props, has_right_slots, has_allowed_retries}
use Rattle.queue_rows.specs.Fits.{fits, has_slot_at, is_unmoved_at, all_name_what_is_there}
use Rattle.queue_rows.specs.declared.tables.Tables.{Tables}
use Rattle.queue_rows.specs.declared.rows.MsgRow.{MsgRow}
use Rattle.queue_rows.specs.declared.rows.SlotRow.{SlotRow}
use Rattle.queue_rows.specs.declared.rows.QueueRow.{QueueRow}
use Rattle.queue_rows.specs.declared.rows.TableRow.{TableRow}
use Rattle.queue_rows.specs.declared.rows.SlotState.TheVariants as states
use Rattle.queue_rows.specs.declared.session.Pending.{Pending}
use Rattle.queue_rows.specs.declared.session.Pending.TheVariants.{Add, Remove}
use Rattle.queue_rows.specs.declared.change.Change.{Change}
use Rattle.queue_rows.specs.declared.change.Change.TheVariants as changes
use Rattle.row_laws.proofs.Firsts.{changed_first-yes, changed_first-no}
use Rattle.row_laws.proofs.Latest.{at_latest}
use Rattle.row_laws.proofs.Slots.{changed_next, with_slot-has, with_slot-hasnt, length-with_slot, has_slot-with_slot, slot_at}
use Rattle.row_laws.proofs.Messages.{id_found, finds_changed}
use Rattle.row_laws.proofs.Distinctly.{finds_after_all}
use Rattle.valid_laws.specs.Openness.{is_open_at}
use Rattle.valid_laws.specs.ValidLaws.{MayBeChanged, ChangesUnmoved, Retries}
use Rattle.valid_laws.specs.RollbackLaws.{IsRemovalOpen, AreOther, MayRollBack}
use Rattle.valid_laws.proofs.Parts.{valid_distinct}
use Rattle.valid_laws.specs.Touching.{are_proper}
use Rattle.valid_laws.proofs.Framing.{lowered_self}
use Rattle.valid_laws.proofs.Opened.{open_at, open_stays, open_still, none_stays, finished_apart, finished_stays}
use Rattle.valid_laws.proofs.Keeping.{later_is_valid}
use Rattle.valid_laws.proofs.Slotted.{slot_keeps_valid}
use Rattle.valid_laws.proofs.Exceptions.{home_of}
use Rattle.valid_laws.proofs.Leaving.{all_leave}
use Rattle.valid_laws.proofs.Calming.{all_get, take_get}
use Rattle.valid_laws.proofs.Fitting.{slots_known, max_retries_of, open_has_slot, unmoved_row, retried_name, retried_address, retried_retries}
use Rattle.valid_laws.proofs.Going.{GoesWell, nothing_goes, goes_on, goes_one, goes_settled, fits_if_goes}
use Rattle.valid_laws.proofs.Pending.{pairs-head, pairs-tail}

-- ---- one slot is changed twice

module _ {X : Type 0} (f g : X → X) where
  nth_twice : (xs : List X) (i : ℕ) → changed_nth g i (changed_nth f i xs) ≡ changed_nth (λ x. g (f x)) i xs
  nth_twice [] i = refl
  nth_twice (x ∷ xs) zero = refl
  nth_twice (x ∷ xs) (suc i) =
      ap (changed_nth g (suc i)) (changed_next f x xs i) ∙ changed_next g x (changed_nth f i xs) i ∙ ap (λ ys. x ∷ ys) (nth_twice xs i) ∙ sym (changed_next (λ y. g (f y)) x xs i)

module _ {X : Type 0} (p : X → Bool) (f g h : X → X) (keeps : (x : X) → p (f x) ≡ p x) (both : (x : X) → g (f x) ≡ h x) where
  twice_step : (x : X) (xs : List X) (b : Bool) → p x ≡ b → changed_first p g (changed_first p f xs) ≡ changed_first p h xs → changed_first p g (changed_first p f (x ∷ xs)) ≡ changed_first p h (x ∷ xs)
  twice_step x xs true e ih =
      ap (changed_first p g) (changed_first-yes p f x xs e) ∙ changed_first-yes p g (f x) xs (keeps x ∙ e) ∙ ap (λ y. y ∷ xs) (both x) ∙ sym (changed_first-yes p h x xs e)
  twice_step x xs false e ih =
      ap (changed_first p g) (changed_first-no p f x xs e) ∙ changed_first-no p g x (changed_first p f xs) e ∙ ap (λ ys. x ∷ ys) ih ∙ sym (changed_first-no p h x xs e)

  first_twice : (xs : List X) → changed_first p g (changed_first p f xs) ≡ changed_first p h xs
  first_twice [] = refl
  first_twice (x ∷ xs) = twice_step x xs (p x) refl (first_twice xs)

index_same : (m r : MsgRow) (slot : ℕ) → length m.slots ≡ length r.slots → slot_index m slot ≡ slot_index r slot
index_same m r slot e = ap (λ n. if slot == 0 then n - 1 else slot - 1) e

slot_twice_by : (slot : ℕ) (f g : SlotRow → SlotRow) (m : MsgRow) (b : Bool) → has_slot m slot ≡ b → with_slot slot g (with_slot slot f m) ≡ with_slot slot (λ s. g (f s)) m
slot_twice_by slot f g m true e =
    let r : MsgRow = record m { slots = changed_nth f (slot_index m slot) m.slots } in
    let once : with_slot slot f m ≡ r = with_slot-has slot f m e in
    let there : has_slot r slot ≡ true = ap (λ x. has_slot x slot) (sym once) ∙ has_slot-with_slot slot slot f m ∙ e in
    let long : length r.slots ≡ length m.slots = ap (λ x. length x.slots) (sym once) ∙ length-with_slot slot f m in
    ap (with_slot slot g) once ∙ with_slot-has slot g r there
    ∙ ap (λ i. record m { slots = changed_nth g i (changed_nth f (slot_index m slot) m.slots) }) (index_same r m slot long)
    ∙ ap (λ xs. record m { slots = xs }) (nth_twice f g m.slots (slot_index m slot))
    ∙ sym (with_slot-has slot (λ s. g (f s)) m e)
slot_twice_by slot f g m false e = ap (with_slot slot g) (with_slot-hasnt slot f m e) ∙ with_slot-hasnt slot g m e ∙ sym (with_slot-hasnt slot (λ s. g (f s)) m e)

slot_twice : (slot : ℕ) (f g : SlotRow → SlotRow) (m : MsgRow) → with_slot slot g (with_slot slot f m) ≡ with_slot slot (λ s. g (f s)) m
slot_twice slot f g m = slot_twice_by slot f g m (has_slot m slot) refl

changed_twice : (t : Tables) (id slot : ℕ) (f g : SlotRow → SlotRow) → changed_slot (changed_slot t id slot f) id slot g ≡ changed_slot t id slot (λ s. g (f s))
changed_twice t id slot f g =
    ap (λ ms. record t { messages = ms }) (first_twice (λ m. m.id == id) (with_slot slot f) (with_slot slot g) (with_slot slot (λ s. g (f s))) (λ m. refl) (slot_twice slot f g) t.messages)

-- ---- a retry too many

retried_open : (retries : ℕ) (until : Option ℕ) (at : ℕ) (s : SlotRow) → is_open (retried retries until at s).state ≡ true
retried_open retries None at s = refl
retried_open retries (Some n) at s = refl

module _ (t : Tables) (id slot retries : ℕ) (until : Option ℕ) (at : ℕ) (v : is_valid t ≡ true) (k : ChangesUnmoved t id slot at) (most : retries ≤ 2 ^ 31) where
  given_up : (m : MsgRow) (queue : QueueRow) → find_message t id ≡ Some m → find_queue t m.queue ≡ Some queue → MayBeChanged t.latest queue m slot (λ s. in_state states.Expired at (retried retries until at s))
  given_up m queue e g = record {
    name = λ s. retried_name retries until at s;
    address = λ s. retried_address retries until at s;
    retries = λ s h. ap (λ n. nat_le n (2 ^ 31)) (retried_retries retries until at s) ∙ le-leb retries (2 ^ 31) most;
    allowed = λ u s h. refl;
    begun = λ s h. le-leb at t.latest k.changes_open.in_time;
    zero = λ u. absurd (true≢false (sym u ∙ unmoved_row t id m k.unmoved e));
  }

  gives_up : is_valid (after_all t (changes.Retried id slot retries until at ∷ changes.Expired id slot at ∷ [])) ≡ true
  gives_up =
      ap is_valid (changed_twice t id slot (retried retries until at) (in_state states.Expired at))
      ∙ slot_keeps_valid t id slot (λ s. in_state states.Expired at (retried retries until at s)) v given_up

  there_still : has_slot_at (after_change t (changes.Retried id slot retries until at)) id slot ≡ true
  there_still =
      let x = open_at t id slot k.changes_open.is_open_there in
      let m = x.message in
      let f = retried retries until at in
      let it : if_it m id (Some (with_slot slot f m)) ≡ Some (with_slot slot f m) = rw (eq-eqb m.id id (id_found t id m x.found)) refl in
      ap (λ o. option_map_or (λ r. has_slot r slot) o false)
      (finds_changed t (with_slot slot f) (λ r. refl) id id ∙ ap (option_and_then (λ r. if_it r id (Some (with_slot slot f r)))) x.found ∙ it)
      ∙ has_slot-with_slot slot slot f m ∙ sym (ap (λ o. option_map_or (λ r. has_slot r slot) o false) x.found) ∙ open_has_slot t id slot k.changes_open.is_open_there

  names_both : all_name_what_is_there t (changes.Retried id slot retries until at ∷ changes.Expired id slot at ∷ []) ≡ true
  names_both =
      and_from (has_slot_at t id slot) (has_slot_at (after_change t (changes.Retried id slot retries until at)) id slot && true) (open_has_slot t id slot k.changes_open.is_open_there)
      (and_from (has_slot_at (after_change t (changes.Retried id slot retries until at)) id slot) true there_still refl)

  abbrev once : Tables
  once = after_change t (changes.Retried id slot retries until at)

  pub both_go : GoesWell true t (changes.Retried id slot retries until at ∷ changes.Expired id slot at ∷ [])
  unfolding are_proper
  both_go = record {
    valid = gives_up;
    names = names_both;
    uncounted = refl;
    in_time = let le = le-leb at t.latest k.changes_open.in_time in and_from (nat_le at t.latest) (nat_le at t.latest && true) le (and_from (nat_le at t.latest) true le refl);
    queues = λ name. refl;
    found = λ n r h. finds_after_all t (changes.Retried id slot retries until at ∷ changes.Expired id slot at ∷ []) n (valid_distinct t v) (all_leave t (changes.Retried id slot retries until at ∷ changes.Expired id slot at ∷ []) n refl refl) ∙ h;
    tables = refl;
    lower = λ name q f. lowered_self (after_all t (changes.Retried id slot retries until at ∷ changes.Expired id slot at ∷ [])) name q f;
    new = λ n h p. none_stays (in_state states.Expired at) once id slot n (none_stays (retried retries until at) t id slot n h);
    rests = λ n p h. let o = k.changes_open.is_open_there in let d = finished_apart t n id slot h o in finished_stays (in_state states.Expired at) once id slot n d (finished_stays (retried retries until at) t id slot n d h);
    next = λ n le p. le;
    room = λ p held r. record { lanes = r.lanes; groups = r.groups };
    spares = λ yes n a p h. let d = (or_parts ((id == n) && (slot == a)) (((id == n) && (slot == a)) || false) p).0 in open_stays (in_state states.Expired at) once id slot n a d (open_stays (retried retries until at) t id slot n a d h);
    proper = λ yes. and_from (is_open_at t id slot) (is_open_at once id slot && true) k.changes_open.is_open_there (and_from (is_open_at once id slot) true (open_still (retried retries until at) t id slot (retried_open retries until at) k.changes_open.is_open_there) refl);
  }

pub giving_up : (t : Tables) (id slot retries : ℕ) (until : Option ℕ) (at : ℕ) → is_valid t ≡ true → ChangesUnmoved t id slot at → retries ≤ 2 ^ 31
    → (is_valid (after_all t (changes.Retried id slot retries until at ∷ changes.Expired id slot at ∷ [])) ≡ true)
    × (all_name_what_is_there t (changes.Retried id slot retries until at ∷ changes.Expired id slot at ∷ []) ≡ true)
giving_up t id slot retries until at v k most = let g = both_go t id slot retries until at v k most in (g.valid, g.names)

-- ---- what other changes of slots leave

-- the message is as it was, but for slots
pub record IsLike (m : MsgRow) (o : Option MsgRow) : Type 0 where
  pub row : MsgRow
  pub is_row : o ≡ Some row
  pub queue : row.queue ≡ m.queue
  pub moved : row.moved ≡ m.moved

-- of other tables: the same queues, and messages that are as they were but for slots
pub record IsAlike (t u : Tables) : Type 0 where
  pub queues : (name : List ℕ) → find_queue u name ≡ find_queue t name
  pub rows : (id : ℕ) (m : MsgRow) → find_message t id ≡ Some m → IsLike m (find_message u id)

pub alike_self : (t : Tables) → IsAlike t t
alike_self t = record { queues = λ name. refl; rows = λ id m e. record { row = m; is_row = e; queue = refl; moved = refl } }

like_by : (named a : ℕ) (f : SlotRow → SlotRow) (m r : MsgRow) (b : Bool) → (r.id == named) ≡ b → r.queue ≡ m.queue → r.moved ≡ m.moved → IsLike m (if_it r named (Some (with_slot a f r)))
like_by named a f m r true e q u = record { row = with_slot a f r; is_row = rw e refl; queue = q; moved = u }
like_by named a f m r false e q u = record { row = r; is_row = rw e refl; queue = q; moved = u }

pub alike_changed : (t u : Tables) (named a : ℕ) (f : SlotRow → SlotRow) → IsAlike t u → IsAlike t (changed_slot u named a f)
alike_changed t u named a f k = record {
  queues = k.queues;
  rows = λ id m e.
      let x = k.rows id m e in
      let y = like_by named a f m x.row (x.row.id == named) refl x.queue x.moved in
      record {
        row = y.row;
        is_row = finds_changed u (with_slot a f) (λ r. refl) named id ∙ ap (option_and_then (λ r. if_it r named (Some (with_slot a f r)))) x.is_row ∙ y.is_row;
        queue = y.queue;
        moved = y.moved;
      };
}

-- ---- what is rolled back

-- of what is still pending, in tables that are like those before
pub record Waits (t : Tables) (moment : ℕ) (rest : List Pending) (u : Tables) : Type 0 where
  pub valid : is_valid u ≡ true
  pub latest : u.latest ≡ moment
  pub alike : IsAlike t u
  pub open_all : All (IsRemovalOpen u) rest

-- after a change of that slot alone, those behind wait
open_behind : (u : Tables) (id slot : ℕ) (f : SlotRow → SlotRow) (p : Pending) → IsRemovalOpen u p → AreOther (Remove id slot) p → IsRemovalOpen (changed_slot u id slot f) p
open_behind u id slot f (Add m) h d = tt
open_behind u id slot f (Remove other behind) h d = open_stays f u id slot other behind d h

-- ---- one removal

-- a message in a normal queue was never moved
normal_unmoved : (m : MsgRow) (q : QueueRow) (b : Bool) → m.moved ≡ b → (if b then is_exception q.kind else not (is_exception q.kind)) ≡ true → is_exception q.kind ≡ false → b ≡ false
normal_unmoved m q true u h e = absurd (true≢false (sym h ∙ e))
normal_unmoved m q false u h e = refl

right_part : (t : Tables) (q : QueueRow) (table : TableRow) (m : MsgRow) → is_valid_message_in t q (Some table) m ≡ true → is_right_queue m q ≡ true
right_part t q table m h =
    let p7 = and_parts (is_right_queue m q && has_right_cells table m && has_right_ids t m && has_right_place table m && has_right_lane table q m && has_right_props m && nat_le m.enq t.latest) (has_right_slots t table q m) h in
    let p6 = and_parts (is_right_queue m q && has_right_cells table m && has_right_ids t m && has_right_place table m && has_right_lane table q m && has_right_props m) (nat_le m.enq t.latest) p7.0 in
    let p5 = and_parts (is_right_queue m q && has_right_cells table m && has_right_ids t m && has_right_place table m && has_right_lane table q m) (has_right_props m) p6.0 in
    let p4 = and_parts (is_right_queue m q && has_right_cells table m && has_right_ids t m && has_right_place table m) (has_right_lane table q m) p5.0 in
    let p3 = and_parts (is_right_queue m q && has_right_cells table m && has_right_ids t m) (has_right_place table m) p4.0 in
    let p2 = and_parts (is_right_queue m q && has_right_cells table m) (has_right_ids t m) p3.0 in
    (and_parts (is_right_queue m q) (has_right_cells table m) p2.0).0

pub in_normal_unmoved : (t : Tables) (id : ℕ) (m : MsgRow) (q : QueueRow) → is_valid t ≡ true → find_message t id ≡ Some m → find_queue t m.queue ≡ Some q → is_exception q.kind ≡ false → m.moved ≡ false
in_normal_unmoved t id m q v e g n =
    let home = home_of t id m v e in
    let same : home.queue ≡ q = (let s : Some home.queue ≡ Some q = sym home.queue_is ∙ g in cc) in
    let h : is_right_queue m q ≡ true = subst (λ x. is_right_queue m x ≡ true) same (right_part t home.queue home.table m home.valid) in
    normal_unmoved m q m.moved refl h n

-- an open slot of it was not rolled back more often than its queue allows
few_by : (q : QueueRow) (s : SlotRow) → is_open s.state ≡ true → has_allowed_retries q s ≡ true → s.retries ≤ q.max_retries
few_by q s o h = let g : nat_le s.retries q.max_retries ≡ true = rw o at h in leb-true s.retries q.max_retries g

few_retries : (t : Tables) (id slot : ℕ) (m : MsgRow) (q : QueueRow) (s : SlotRow) → is_valid t ≡ true → find_message t id ≡ Some m → find_queue t m.queue ≡ Some q → m.moved ≡ false → slot_of m slot ≡ Some s → is_open s.state ≡ true → s.retries ≤ q.max_retries
few_retries t id slot m q s v e g u h o =
    let known = slots_known t id m q v e g in
    let count : recipient_count m ≡ length m.slots = rw u refl in
    let at : slice_get m.slots (slot_index m slot) ≡ Some s = slot_at m slot s h in
    let lt : slot_index m slot < length m.slots = slice_get_within m.slots (slot_index m slot) s at in
    few_by q s o (all_get (has_allowed_retries q) (recipient_slots m) (slot_index m slot) s known.allowed (take_get m.slots (recipient_count m) (slot_index m slot) s (omega (arith, count, lt)) at))

pub unmoved_of : (u : Tables) (id : ℕ) (m : MsgRow) → find_message u id ≡ Some m → m.moved ≡ false → is_unmoved_at u id ≡ true
unmoved_of u id m e h = ap (λ o. option_map_or (λ r. not r.moved) o false) e ∙ not_from_false m.moved h

retries_top : (n most : ℕ) → n ≤ most → most ≤ MAX_RETRIES_LIMIT → n + 1 ≤ 2 ^ 31
retries_top n most a b = omega arith

module _ (t u : Tables) (moment id slot : ℕ) (more : List Pending) (v : is_valid t ≡ true) (w : Waits t moment (Remove id slot ∷ more) u) (other : All (AreOther (Remove id slot)) more) where
  here_open : is_open_at u id slot ≡ true
  here_open = All-head (IsRemovalOpen u) (Remove id slot) more w.open_all

  rest_open : All (IsRemovalOpen u) more
  rest_open = All-tail (IsRemovalOpen u) (Remove id slot) more w.open_all

  -- the changes go well, and the others wait behind them
  pub record GoesAndWaits (cs : List Change) : Type 0 where
    pub goes : GoesWell true u cs
    pub waits : Waits t moment more (after_all u cs)

  none_goes : GoesAndWaits []
  none_goes = record { goes = nothing_goes true u w.valid; waits = record { valid = w.valid; latest = w.latest; alike = w.alike; open_all = rest_open } }

  unmoved_there : (m : MsgRow) (q : QueueRow) (s : SlotRow) → find_message t id ≡ Some m → m.moved ≡ false → ChangesUnmoved u id slot moment
  unmoved_there m q s e un =
      let x = w.alike.rows id m e in
      record { changes_open = record { is_open_there = here_open; in_time = omega (arith, w.latest) }; unmoved = unmoved_of u id x.row x.is_row (x.moved ∙ un) }

  retry_goes : (m : MsgRow) (q : QueueRow) (s : SlotRow) → find_message t id ≡ Some m → find_queue t m.queue ≡ Some q → m.moved ≡ false → (until : Option ℕ) → s.retries + 1 ≤ q.max_retries
      → GoesAndWaits (changes.Retried id slot (s.retries + 1) until moment ∷ [])
  retry_goes m q s e g un until few =
      let x = w.alike.rows id m e in
      let f = retried (s.retries + 1) until moment in
      let keeps : Retries u id slot (s.retries + 1) moment = record {
        changes_unmoved = unmoved_there m q s e un;
        few = λ r queue h k.
            let same : x.row ≡ r = (let a : Some x.row ≡ Some r = sym x.is_row ∙ h in cc) in
            let named : find_queue u r.queue ≡ Some q = ap (find_queue u) (sym (ap (λ y. y.queue) same) ∙ x.queue) ∙ w.alike.queues m.queue ∙ g in
            let it : q ≡ queue = (let a : Some q ≡ Some queue = sym named ∙ k in cc) in
            subst (λ y. s.retries + 1 ≤ y.max_retries) it few;
      } in
      let goes = goes_one true u (changes.Retried id slot (s.retries + 1) until moment) w.valid keeps refl (λ _. refl) in
      record {
        goes = goes;
        waits = record {
          valid = goes.valid;
          latest = w.latest;
          alike = alike_changed t u id slot f w.alike;
          open_all = λ k d lt. open_behind u id slot f (get_or more k d) (rest_open k d lt) (other k d lt);
        };
      }

  give_up_goes : (m : MsgRow) (q : QueueRow) (s : SlotRow) → find_message t id ≡ Some m → m.moved ≡ false → (until : Option ℕ) → s.retries + 1 ≤ 2 ^ 31
      → GoesAndWaits (changes.Retried id slot (s.retries + 1) until moment ∷ changes.Expired id slot moment ∷ [])
  give_up_goes m q s e un until most =
      let f = retried (s.retries + 1) until moment in
      let g = in_state states.Expired moment in
      let goes = both_go u id slot (s.retries + 1) until moment w.valid (unmoved_there m q s e un) most in
      record {
        goes = goes;
        waits = record {
          valid = goes.valid;
          latest = w.latest;
          alike = alike_changed t (changed_slot u id slot f) id slot g (alike_changed t u id slot f w.alike);
          open_all = λ k d lt. open_behind (changed_slot u id slot f) id slot g (get_or more k d) (open_behind u id slot f (get_or more k d) (rest_open k d lt) (other k d lt)) (other k d lt);
        };
      }

  retried_by : (m : MsgRow) (q : QueueRow) (s : SlotRow) → find_message t id ≡ Some m → find_queue t m.queue ≡ Some q → m.moved ≡ false → s.retries ≤ q.max_retries → q.max_retries ≤ MAX_RETRIES_LIMIT → (until : Option ℕ) → (b : Bool) → nat_lt q.max_retries (s.retries + 1) ≡ b
      → GoesAndWaits (changes.Retried id slot (s.retries + 1) until moment ∷ (if b then changes.Expired id slot moment ∷ [] else []))
  retried_by m q s e g un few top until true h = give_up_goes m q s e un until (retries_top s.retries q.max_retries few top)
  retried_by m q s e g un few top until false h = retry_goes m q s e g un until (let x = ltb-false q.max_retries (s.retries + 1) h in omega arith)

  slot_goes : (m : MsgRow) (q : QueueRow) (o : Option SlotRow) → find_message t id ≡ Some m → find_queue t m.queue ≡ Some q → m.moved ≡ false → slot_of m slot ≡ o → ((s : SlotRow) → o ≡ Some s → is_open s.state ≡ true) → GoesAndWaits (retry_slot q o moment id slot)
  slot_goes m q None e g un h o = none_goes
  slot_goes m q (Some s) e g un h o =
      retried_by m q s e g un (few_retries t id slot m q s v e g un h (o s refl)) (max_retries_of t id m q v g) (retry_until q (s.retries + 1) moment) (nat_lt q.max_retries (s.retries + 1)) refl

  queue_goes : (m : MsgRow) (q : QueueRow) (b : Bool) → is_exception q.kind ≡ b → find_message t id ≡ Some m → find_queue t m.queue ≡ Some q → ((s : SlotRow) → slot_of m slot ≡ Some s → is_open s.state ≡ true)
      → GoesAndWaits (if b then [] else retry_slot q (slot_of m slot) moment id slot)
  queue_goes m q true n e g o = none_goes
  queue_goes m q false n e g o = slot_goes m q (slot_of m slot) e g (in_normal_unmoved t id m q v e g n) refl o

  in_goes : (m : MsgRow) (o : Option QueueRow) → find_message t id ≡ Some m → find_queue t m.queue ≡ o → ((s : SlotRow) → slot_of m slot ≡ Some s → is_open s.state ≡ true) → GoesAndWaits (retry_in o m moment id slot)
  in_goes m None e g o = none_goes
  in_goes m (Some q) e g o = queue_goes m q (is_exception q.kind) refl e g o

  message_goes : (o : Option MsgRow) → find_message t id ≡ o → ((m : MsgRow) (s : SlotRow) → o ≡ Some m → slot_of m slot ≡ Some s → is_open s.state ≡ true) → GoesAndWaits (retry_message t o moment id slot)
  message_goes None e o = none_goes
  message_goes (Some m) e o = in_goes m (find_queue t m.queue) e refl (λ s h. o m s refl h)

-- in the tables before
open_row : (t : Tables) (id slot : ℕ) → is_open_at t id slot ≡ true → (m : MsgRow) (s : SlotRow) → find_message t id ≡ Some m → slot_of m slot ≡ Some s → is_open s.state ≡ true
open_row t id slot o m s e h =
    let x = open_at t id slot o in
    let same : x.message ≡ m = (let a : Some x.message ≡ Some m = sym x.found ∙ e in cc) in
    let row : x.open_there.row ≡ s = (let a : Some x.open_there.row ≡ Some s = sym x.open_there.there ∙ ap (λ y. slot_of y slot) same ∙ h in cc) in
    ap (λ y. is_open y.state) (sym row) ∙ x.open_there.is_open_row

rollback_goes : (t : Tables) → is_valid t ≡ true → (moment : ℕ) (rest : List Pending) (u : Tables) → Waits t moment rest u → All (IsRemovalOpen t) rest → AllPairs AreOther rest → GoesWell true u (flat_map (retry_of t moment) rest)
rollback_goes t v moment [] u w o d = nothing_goes true u w.valid
rollback_goes t v moment (Add m ∷ more) u w o d =
    rollback_goes t v moment more u (record { valid = w.valid; latest = w.latest; alike = w.alike; open_all = All-tail (IsRemovalOpen u) (Add m) more w.open_all }) (All-tail (IsRemovalOpen t) (Add m) more o) (pairs-tail AreOther (Add m) more d)
rollback_goes t v moment (Remove id slot ∷ more) u w o d =
    let was_open : is_open_at t id slot ≡ true = All-head (IsRemovalOpen t) (Remove id slot) more o in
    let one = message_goes t u moment id slot more v w (pairs-head AreOther (Remove id slot) more d) (find_message t id) refl (λ m s e h. open_row t id slot was_open m s e h) in
    let cs = retry_message t (find_message t id) moment id slot in
    goes_on true u cs (flat_map (retry_of t moment) more) one.goes
    (rollback_goes t v moment more (after_all u cs) one.waits (All-tail (IsRemovalOpen t) (Remove id slot) more o) (pairs-tail AreOther (Remove id slot) more d))

-- ---- a rollback

open_later : (t : Tables) (moment : ℕ) (p : Pending) → IsRemovalOpen t p → IsRemovalOpen (at_latest moment t) p
open_later t moment (Add m) h = h
open_later t moment (Remove id slot) h = h

pub alike_later : (t : Tables) (moment : ℕ) → IsAlike t (at_latest moment t)
alike_later t moment = record { queues = λ name. refl; rows = λ id m e. record { row = m; is_row = e; queue = refl; moved = refl } }

pub rollback_goes_well : (t : Tables) (moment : ℕ) (pending : List Pending) → is_valid t ≡ true → t.latest ≤ moment → moment ≤ MOMENT_LIMIT → MayRollBack t pending → GoesWell true (at_latest moment t) (rollback_of t moment pending)
rollback_goes_well t moment pending v le top k =
    goes_settled true (at_latest moment t) (flat_map (retry_of t moment) pending)
    (rollback_goes t v moment pending (at_latest moment t)
    (record { valid = later_is_valid t moment le v top; latest = refl; alike = alike_later t moment; open_all = λ i d lt. open_later t moment (get_or pending i d) (k.open_all i d lt) }) k.open_all k.other)

pub rollback_fits : (t : Tables) (moment : ℕ) (pending : List Pending) → is_valid t ≡ true → t.latest ≤ moment → moment ≤ MOMENT_LIMIT → MayRollBack t pending
    → fits t (record { moment = moment; changes = rollback_of t moment pending }) ≡ true
rollback_fits t moment pending v le top k = fits_if_goes true t moment (rollback_of t moment pending) le (rollback_goes_well t moment pending v le top k)
