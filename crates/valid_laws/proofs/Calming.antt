-- Of a message whose slots were done nothing is due any more; nor of one that was moved.
use Rattle.std.proofs.Common.{◌≡◌, ◌≢◌, ◌≤◌, ◌<◌, ◌+◌, ◌-◌, ℕ, zero, suc, List, [], ◌∷◌, ◌++◌, Bool, true, false, not, take, refl, sym, ap, ◌∙◌, arith, Option, Some, None, ◌==◌, ◌&&◌, ◌||◌, ◌⊎◌, inl, inr}
use Rattle.std.specs.Prelude.{fold, flat_map, option_map, option_and_then, is_none, nat_le, slice_get, if◌then◌else◌}
use Rattle.std.specs.List.{list_any, list_all}
use Rattle.std.specs.Option.{option_map_or}
use Rattle.std.proofs.lemmas.Bool.{eqb-true, eqb-false, eq-eqb, leb-true, and_parts, and_from, and_left, and_right, and_cases, or_parts, or_left, or_right, not-true, not_from_false, false≢true, true≢false}
use Rattle.std.proofs.lemmas.Option.{none-some}
use Rattle.slot_marks.specs.declared.mark.Group.{Group}
use Rattle.queue_rows.specs.Rows.{with_slot, has_slot, slot_of, slot_index, recipient_count, recipient_slots, changed_nth, table_of}
use Rattle.queue_rows.specs.Tables.{in_state, moved_to, slot_zero}
use Rattle.queue_rows.specs.Settling.{is_open, is_ready, is_processed, is_gone, is_handled, is_lost, is_expired, is_slot_processed, retention_of}
use Rattle.queue_rows.specs.Groups.{consumer_of}
use Rattle.queue_rows.specs.Due.{Watch, slot_numbers, is_over, due_change, is_left, is_sent, is_held_by_any, group_in, due_slot, due_slots, is_spent, is_taken, last_taken, due_purge}
use Rattle.queue_rows.specs.declared.tables.Tables.{Tables}
use Rattle.queue_rows.specs.declared.rows.TableRow.{TableRow}
use Rattle.queue_rows.specs.declared.rows.MsgRow.{MsgRow}
use Rattle.queue_rows.specs.declared.rows.SlotRow.{SlotRow}
use Rattle.queue_rows.specs.declared.rows.SlotState.{SlotState}
use Rattle.queue_rows.specs.declared.rows.SlotState.TheVariants as states
use Rattle.row_laws.proofs.Slots.{changed_next, slot_at, with_slot-has, with_slot-hasnt, slot_of-with_same, slot_of-with_other, slot_of-moved_zero}
use Rattle.valid_laws.proofs.Doing.{Kind, nothing, expires, readies, effect, with_kind, kind_of, kind_in, slot_done, all_done, alike_done, numbers_alike, numbers_have, slot_is_done, all-append}

-- ---- lists

pub flat_none : {X : Type 0} (G : ℕ → List X) (ns : List ℕ) → ((b : ℕ) → list_any (λ k. k == b) ns ≡ true → G b ≡ []) → flat_map G ns ≡ []
flat_none G [] h = refl
flat_none G (n ∷ ns) h =
    ap (λ xs. xs ++ flat_map G ns) (h n (or_left (n == n) (list_any (λ k. k == n) ns) (eq-eqb n n refl)))
    ∙ flat_none G ns (λ b e. h b (or_right (n == b) (list_any (λ k. k == b) ns) e))

among_by : (q : ℕ → Bool) (n b : ℕ) (ns : List ℕ) (c : Bool) → (n == b) ≡ c → (c || list_any (λ k. k == b) ns) ≡ true → q n ≡ true → (list_any (λ k. k == b) ns ≡ true → q b ≡ true) → q b ≡ true
among_by q n b ns true e some h ih = ap q (sym (eqb-true n b e)) ∙ h
among_by q n b ns false e some h ih = ih some

pub among : (q : ℕ → Bool) (ns : List ℕ) (b : ℕ) → list_all q ns ≡ true → list_any (λ k. k == b) ns ≡ true → q b ≡ true
among q [] b h some = absurd (false≢true some)
among q (n ∷ ns) b h some = let parts = and_parts (q n) (list_all q ns) h in among_by q n b ns (n == b) refl some parts.0 (λ g. among q ns b parts.1 g)

pub all_get : (q : SlotRow → Bool) (xs : List SlotRow) (i : ℕ) (s : SlotRow) → list_all q xs ≡ true → slice_get xs i ≡ Some s → q s ≡ true
all_get q [] i s h e = absurd (none-some s e)
all_get q (x ∷ xs) zero s h e = let same : x ≡ s = cc in ap q (sym same) ∙ (and_parts (q x) (list_all q xs) h).0
all_get q (x ∷ xs) (suc i) s h e = all_get q xs i s (and_parts (q x) (list_all q xs) h).1 e

pub take_get : (xs : List SlotRow) (n i : ℕ) (s : SlotRow) → i < n → slice_get xs i ≡ Some s → slice_get (take n xs) i ≡ Some s
take_get [] n i s lt e = absurd (none-some s e)
take_get (x ∷ xs) zero i s lt e = absurd (let no : i < 0 = lt in omega arith)
take_get (x ∷ xs) (suc n) zero s lt e = e
take_get (x ∷ xs) (suc n) (suc i) s lt e = take_get xs n i s (let g : suc i < suc n = lt in omega arith) e

-- ---- a slot that was done

calm_by_tests : (id slot moment : ℕ) (s : SlotRow) (a b : Bool) → (is_open s.state && is_over s moment) ≡ a → (is_open s.state && not (is_ready s.state) && nat_le s.at moment) ≡ b
    → due_change id slot (effect (if a then expires else (if b then readies else nothing)) moment s) moment ≡ []
calm_by_tests id slot moment s true b e g = refl
calm_by_tests id slot moment s false true e g =
    let open_now : is_open s.state ≡ true = (and_parts (is_open s.state) (not (is_ready s.state)) (and_parts (is_open s.state && not (is_ready s.state)) (nat_le s.at moment) g).0).0 in
    let over : is_over s moment ≡ false = rw open_now at e in
    rw over refl
calm_by_tests id slot moment s false false e g = rw (e, g) refl

calm_slot : (id slot moment : ℕ) (s : SlotRow) → due_change id slot (effect (kind_of s moment) moment s) moment ≡ []
calm_slot id slot moment s = calm_by_tests id slot moment s (is_open s.state && is_over s moment) (is_open s.state && not (is_ready s.state) && nat_le s.at moment) refl refl

effect_name : (k : Kind) (moment : ℕ) (s : SlotRow) → (effect k moment s).name ≡ s.name
effect_name nothing moment s = refl
effect_name expires moment s = refl
effect_name readies moment s = refl

name_of : (k : Kind) (moment : ℕ) (o : Option SlotRow) → option_and_then (λ s. s.name) (option_map (effect k moment) o) ≡ option_and_then (λ s. s.name) o
name_of k moment None = refl
name_of k moment (Some s) = effect_name k moment s

abbrev group_by : List ℕ → ℕ → Option (List ℕ) → TableRow → Option Group
group_by queue number consumer table = if table.grouped then Some (record { queue = queue; number = number; consumer = consumer }) else None

module _ (w : Watch) (u : Tables) (same_table : (name : List ℕ) → table_of u name ≡ table_of w.tables name) (same_kept : (m : MsgRow) → retention_of u m ≡ retention_of w.tables m) where
  -- the slot of the message when all was done
  done_slot_of : (m : MsgRow) (b : ℕ) → list_any (λ k. k == b) (slot_numbers m) ≡ true → slot_of (all_done w m) b ≡ option_map (effect (kind_in w m b (slot_of m b)) w.moment) (slot_of m b)
  done_slot_of m b some = slot_is_done w m b some

  group_same : (m : MsgRow) (b : ℕ) → list_any (λ k. k == b) (slot_numbers m) ≡ true → group_in u (all_done w m) b ≡ group_in w.tables m b
  group_same m b some =
      let r = all_done w m in
      let a = alike_done w m in
      let names : consumer_of r b ≡ consumer_of m b = ap (option_and_then (λ s. s.name)) (done_slot_of m b some) ∙ name_of (kind_in w m b (slot_of m b)) w.moment (slot_of m b) in
      ap (λ q. option_and_then (group_by q r.group (consumer_of r b)) (table_of u q)) a.queue
      ∙ ap (λ n. option_and_then (group_by m.queue n (consumer_of r b)) (table_of u m.queue)) a.group
      ∙ ap (λ c. option_and_then (group_by m.queue m.group c) (table_of u m.queue)) names
      ∙ ap (option_and_then (group_by m.queue m.group (consumer_of m b))) (same_table m.queue)

  left_same : (m : MsgRow) (b : ℕ) → list_any (λ k. k == b) (slot_numbers m) ≡ true → is_left (record w { tables = u }) (all_done w m) b ≡ is_left w m b
  left_same m b some =
      let r = all_done w m in
      ap (λ n. is_sent w.sent w.db n b || is_held_by_any w.sessions w.db n b (group_in u r b)) (alike_done w m).id
      ∙ ap (λ g. is_sent w.sent w.db m.id b || is_held_by_any w.sessions w.db m.id b g) (group_same m b some)

  calm_if : (id slot : ℕ) (s : SlotRow) (b c : Bool) → b ≡ c → (if b then [] else due_change id slot (effect (if c then nothing else kind_of s w.moment) w.moment s) w.moment) ≡ []
  calm_if id slot s true c e = refl
  calm_if id slot s false true e = absurd (false≢true e)
  calm_if id slot s false false e = calm_slot id slot w.moment s

  calm_at_by : (m : MsgRow) (b : ℕ) (o : Option SlotRow) → list_any (λ k. k == b) (slot_numbers m) ≡ true → due_slot (record w { tables = u }) (all_done w m) b (option_map (effect (kind_in w m b o) w.moment) o) ≡ []
  calm_at_by m b None some = refl
  calm_at_by m b (Some s) some = calm_if (all_done w m).id b s (is_left (record w { tables = u }) (all_done w m) b) (is_left w m b) (left_same m b some)

  calm_at : (m : MsgRow) (b : ℕ) → list_any (λ k. k == b) (slot_numbers m) ≡ true → due_slot (record w { tables = u }) (all_done w m) b (slot_of (all_done w m) b) ≡ []
  calm_at m b some = ap (due_slot (record w { tables = u }) (all_done w m) b) (done_slot_of m b some) ∙ calm_at_by m b (slot_of m b) some

  -- nothing is due of its slots
  pub calm_slots : (m : MsgRow) → due_slots (record w { tables = u }) (all_done w m) ≡ []
  calm_slots m =
      let r = all_done w m in
      ap (flat_map (λ slot. due_slot (record w { tables = u }) r slot (slot_of r slot))) (numbers_alike r m (alike_done w m))
      ∙ flat_none (λ slot. due_slot (record w { tables = u }) r slot (slot_of r slot)) (slot_numbers m) (calm_at m)

-- ---- whether all have taken it

module _ (f : SlotRow → SlotRow) (q : SlotRow → Bool) (no : (s : SlotRow) → q (f s) ≡ false) where
  all_changed : (xs : List SlotRow) (i : ℕ) → list_all q xs ≡ false → list_all q (changed_nth f i xs) ≡ false
  all_changed [] i h = absurd (true≢false h)
  all_changed (x ∷ xs) zero h = and_left (q (f x)) (list_all q xs) (no x)
  all_changed (x ∷ xs) (suc i) h = ap (list_all q) (changed_next f x xs i) ∙ by_head (and_cases (q x) (list_all q xs) h) (λ g. all_changed xs i g)
    where
      by_head : (q x ≡ false) ⊎ (list_all q xs ≡ false) → (list_all q xs ≡ false → list_all q (changed_nth f i xs) ≡ false) → (q x && list_all q (changed_nth f i xs)) ≡ false
      by_head (inl e) ih = and_left (q x) (list_all q (changed_nth f i xs)) e
      by_head (inr e) ih = and_right (q x) (list_all q (changed_nth f i xs)) (ih e)

-- slot 0 was not taken before, and neither after a slot became what is not taken
zero_no : (f : SlotRow → SlotRow) (a : ℕ) (r : MsgRow) (c : Bool) → (a == 0) ≡ c → ((s : SlotRow) → is_processed (f s).state ≡ false) → is_slot_processed r 0 ≡ false → is_slot_processed (with_slot a f r) 0 ≡ false
zero_no f a r true e p h =
    ap (λ n. option_map_or (λ s. is_processed s.state) (slot_of (with_slot n f r) 0) false) (eqb-true a 0 e)
    ∙ ap (λ o. option_map_or (λ s. is_processed s.state) o false) (slot_of-with_same 0 f r) ∙ changed_no (slot_of r 0)
  where
    changed_no : (o : Option SlotRow) → option_map_or (λ s. is_processed s.state) (option_map f o) false ≡ false
    changed_no None = refl
    changed_no (Some s) = p s
zero_no f a r false e p h = ap (λ o. option_map_or (λ s. is_processed s.state) o false) (slot_of-with_other a 0 f r (eqb-false a 0 e)) ∙ h

slots_no : (f : SlotRow → SlotRow) (a : ℕ) (r : MsgRow) (c : Bool) → has_slot r a ≡ c → ((s : SlotRow) → is_gone (f s).state ≡ false) → list_all (λ s. is_gone s.state) r.slots ≡ false → list_all (λ s. is_gone s.state) (with_slot a f r).slots ≡ false
slots_no f a r true e g h = ap (λ x. list_all (λ s. is_gone s.state) x.slots) (with_slot-has a f r e) ∙ all_changed f (λ s. is_gone s.state) g r.slots (slot_index r a) h
slots_no f a r false e g h = ap (λ x. list_all (λ s. is_gone s.state) x.slots) (with_slot-hasnt a f r e) ∙ h

unhandled_by : (f : SlotRow → SlotRow) (a : ℕ) (r : MsgRow) (b : Bool) → ((s : SlotRow) → is_processed (f s).state ≡ false) → ((s : SlotRow) → is_gone (f s).state ≡ false)
    → (if b then is_slot_processed r 0 else list_all (λ s. is_gone s.state) r.slots) ≡ false → (if b then is_slot_processed (with_slot a f r) 0 else list_all (λ s. is_gone s.state) (with_slot a f r).slots) ≡ false
unhandled_by f a r true p g h = zero_no f a r (a == 0) refl p h
unhandled_by f a r false p g h = slots_no f a r (has_slot r a) refl g h

kind_unhandled : (k : Kind) (a moment : ℕ) (r : MsgRow) → is_handled r ≡ false → is_handled (with_kind k a moment r) ≡ false
kind_unhandled nothing a moment r h = h
kind_unhandled expires a moment r h = unhandled_by (in_state states.Expired moment) a r r.moved (λ s. refl) (λ s. refl) h
kind_unhandled readies a moment r h = unhandled_by (in_state states.Ready moment) a r r.moved (λ s. refl) (λ s. refl) h

fold_unhandled : (w : Watch) (m : MsgRow) (ns : List ℕ) (r : MsgRow) → is_handled r ≡ false → is_handled (fold (slot_done w m) r ns) ≡ false
fold_unhandled w m [] r h = h
fold_unhandled w m (n ∷ ns) r h = fold_unhandled w m ns (slot_done w m r n) (kind_unhandled (kind_in w m n (slot_of m n)) n w.moment r h)

-- ---- a message that all have taken has no slot to do

pub gone_closed : (state : SlotState) → is_gone state ≡ true → is_open state ≡ false
gone_closed states.Ready e = absurd (false≢true e)
gone_closed states.Waiting e = absurd (false≢true e)
gone_closed states.Processed e = refl
gone_closed states.Expired e = absurd (false≢true e)
gone_closed states.Dropped e = refl

processed_closed : (state : SlotState) → is_processed state ≡ true → is_open state ≡ false
processed_closed states.Ready e = absurd (false≢true e)
processed_closed states.Waiting e = absurd (false≢true e)
processed_closed states.Processed e = refl
processed_closed states.Expired e = absurd (false≢true e)
processed_closed states.Dropped e = absurd (false≢true e)

-- no slot of a moved message but slot 0 is open
abbrev pub HasClosedRecipients : MsgRow → Type 0
HasClosedRecipients m = m.moved ≡ true → list_all (λ s. not (is_open s.state)) (recipient_slots m) ≡ true

closed_kind : (w : Watch) (m : MsgRow) (b : ℕ) (s : SlotRow) (c : Bool) → is_open s.state ≡ false → (if c then nothing else kind_of s w.moment) ≡ nothing
closed_kind w m b s true e = refl
closed_kind w m b s false e = rw e refl

closed_at : (w : Watch) (m : MsgRow) (b : ℕ) (o : Option SlotRow) → ((s : SlotRow) → o ≡ Some s → is_open s.state ≡ false) → kind_in w m b o ≡ nothing
closed_at w m b None h = refl
closed_at w m b (Some s) h = closed_kind w m b s (is_left w m b) (h s refl)

pub zero_closed : (o : Option SlotRow) (s : SlotRow) → option_map_or (λ x. is_processed x.state) o false ≡ true → o ≡ Some s → is_open s.state ≡ false
zero_closed None s h e = absurd (none-some s e)
zero_closed (Some x) s h e = let same : x ≡ s = cc in ap (λ y. is_open y.state) (sym same) ∙ processed_closed x.state h

recipient_closed : (m : MsgRow) (b : ℕ) (s : SlotRow) (c : Bool) → (b == 0) ≡ c → m.moved ≡ true → HasClosedRecipients m → is_slot_processed m 0 ≡ true → has_slot m b ≡ true → slot_of m b ≡ Some s → is_open s.state ≡ false
recipient_closed m b s true e u k p h g = zero_closed (slot_of m 0) s p (sym (ap (slot_of m) (eqb-true b 0 e)) ∙ g)
recipient_closed m b s false e u k p h g =
    let le : b ≤ recipient_count m = leb-true b (recipient_count m) (rw e at h) in
    let ne : b ≢ 0 = eqb-false b 0 e in
    let there : slice_get m.slots (slot_index m b) ≡ Some s = slot_at m b s g in
    let at : slice_get m.slots (b - 1) ≡ Some s = rw e at there in
    not-true (is_open s.state) (all_get (λ x. not (is_open x.state)) (recipient_slots m) (b - 1) s (k u) (take_get m.slots (recipient_count m) (b - 1) s (omega arith) at))

handled_closed : (m : MsgRow) (b : ℕ) (s : SlotRow) (c : Bool) → m.moved ≡ c → HasClosedRecipients m → (if c then is_slot_processed m 0 else list_all (λ x. is_gone x.state) m.slots) ≡ true → has_slot m b ≡ true → slot_of m b ≡ Some s → is_open s.state ≡ false
handled_closed m b s true u k h has g = recipient_closed m b s (b == 0) refl u k h has g
handled_closed m b s false u k h has g = gone_closed s.state (all_get (λ x. is_gone x.state) m.slots (slot_index m b) s h (slot_at m b s g))

fold_same : (w : Watch) (m : MsgRow) (ns : List ℕ) → list_all (has_slot m) ns ≡ true → ((b : ℕ) → has_slot m b ≡ true → kind_in w m b (slot_of m b) ≡ nothing) → fold (slot_done w m) m ns ≡ m
fold_same w m [] h k = refl
fold_same w m (n ∷ ns) h k =
    let parts = and_parts (has_slot m n) (list_all (has_slot m) ns) h in
    ap (λ j. fold (slot_done w m) (with_kind j n w.moment m) ns) (k n parts.0) ∙ fold_same w m ns parts.1 k

pub handled_same : (w : Watch) (m : MsgRow) → HasClosedRecipients m → is_handled m ≡ true → all_done w m ≡ m
handled_same w m k h = fold_same w m (slot_numbers m) (numbers_have m) (λ b has. closed_at w m b (slot_of m b) (λ s e. handled_closed m b s m.moved refl k h has e))

-- ---- whether it goes

module _ (w : Watch) (u : Tables) (same_kept : (m : MsgRow) → retention_of u m ≡ retention_of w.tables m) where
  spent_same : (m : MsgRow) → is_spent (record w { tables = u }) m ≡ is_spent w m
  spent_same m = ap (λ n. is_handled m && (not (is_taken m) || nat_le (last_taken m + n) w.moment)) (same_kept m)

  spent_by : (m : MsgRow) (b : Bool) → is_handled m ≡ b → HasClosedRecipients m → is_spent w m ≡ false → is_spent (record w { tables = u }) (all_done w m) ≡ false
  spent_by m true e k h = ap (is_spent (record w { tables = u })) (handled_same w m k e) ∙ spent_same m ∙ h
  spent_by m false e k h = let r = all_done w m in and_left (is_handled r) (not (is_taken r) || nat_le (last_taken r + retention_of u r) w.moment) (fold_unhandled w m (slot_numbers m) m e)

  pub calm_purge : (m : MsgRow) → HasClosedRecipients m → is_spent w m ≡ false → due_purge (record w { tables = u }) (all_done w m) ≡ []
  calm_purge m k h = rw (spent_by m (is_handled m) refl k h) refl

-- ---- a message that is moved

abbrev pub is_quiet : SlotRow → Bool
is_quiet s = not (is_open s.state) || (is_ready s.state && is_none s.expires)

abbrev pub IsQuiet : MsgRow → Type 0
IsQuiet m = list_all is_quiet m.slots ≡ true

none_over : (o : Option ℕ) (moment : ℕ) → is_none o ≡ true → option_map_or (λ expiry. nat_le expiry moment) o false ≡ false
none_over None moment e = refl
none_over (Some n) moment e = absurd (false≢true e)

quiet_open : (id slot moment : ℕ) (s : SlotRow) (b : Bool) → is_open s.state ≡ b → (not b || (is_ready s.state && is_none s.expires)) ≡ true → due_change id slot s moment ≡ []
quiet_open id slot moment s true e h =
    let parts = and_parts (is_ready s.state) (is_none s.expires) h in
    let over : is_over s moment ≡ false = none_over s.expires moment parts.1 in
    rw (e, over, parts.0) refl
quiet_open id slot moment s false e h = rw e refl

pub quiet_if : (id slot moment : ℕ) (s : SlotRow) (b : Bool) → is_quiet s ≡ true → (if b then [] else due_change id slot s moment) ≡ []
quiet_if id slot moment s true h = refl
quiet_if id slot moment s false h = quiet_open id slot moment s (is_open s.state) refl h

quiet_at : (v : Watch) (m : MsgRow) (b : ℕ) (o : Option SlotRow) → slot_of m b ≡ o → IsQuiet m → due_slot v m b o ≡ []
quiet_at v m b None e h = refl
quiet_at v m b (Some s) e h = quiet_if m.id b v.moment s (is_left v m b) (all_get is_quiet m.slots (slot_index m b) s h (slot_at m b s e))

pub quiet_slots : (v : Watch) (m : MsgRow) → IsQuiet m → due_slots v m ≡ []
quiet_slots v m h = flat_none (λ slot. due_slot v m slot (slot_of m slot)) (slot_numbers m) (λ b some. quiet_at v m b (slot_of m b) refl h)

pub quiet_moved : (queue : List ℕ) (at : ℕ) (m : MsgRow) → IsQuiet m → IsQuiet (moved_to queue at m)
quiet_moved queue at m h = all-append is_quiet m.slots (slot_zero m.slots at ∷ []) h refl

pub unhandled_moved : (queue : List ℕ) (at : ℕ) (m : MsgRow) → is_handled (moved_to queue at m) ≡ false
unhandled_moved queue at m = ap (λ o. option_map_or (λ s. is_processed s.state) o false) (slot_of-moved_zero queue at m)

pub moved_purge : (v : Watch) (queue : List ℕ) (at : ℕ) (m : MsgRow) → due_purge v (moved_to queue at m) ≡ []
moved_purge v queue at m =
    let r = moved_to queue at m in
    let no : is_spent v r ≡ false = and_left (is_handled r) (not (is_taken r) || nat_le (last_taken r + retention_of v.tables r) v.moment) (unhandled_moved queue at m) in
    rw no refl

none_open : (xs : List SlotRow) → list_any (λ s. is_open s.state) xs ≡ false → list_all is_quiet xs ≡ true
none_open [] h = refl
none_open (x ∷ xs) h =
    let parts = or_parts (is_open x.state) (list_any (λ s. is_open s.state) xs) h in
    and_from (is_quiet x) (list_all is_quiet xs) (or_left (not (is_open x.state)) (is_ready x.state && is_none x.expires) (not_from_false (is_open x.state) parts.0)) (none_open xs parts.1)

closed_part : (m : MsgRow) → is_lost m ≡ true → not (list_any (λ s. is_open s.state) m.slots) ≡ true
closed_part m h =
    (and_parts (not m.moved) (not (list_any (λ s. is_open s.state) m.slots)) (and_parts (not m.moved && not (list_any (λ s. is_open s.state) m.slots)) (list_any (λ s. is_expired s.state) m.slots) h).0).1

pub lost_quiet : (m : MsgRow) → is_lost m ≡ true → IsQuiet m
lost_quiet m h = none_open m.slots (not-true (list_any (λ s. is_open s.state) m.slots) (closed_part m h))
