-- What names a slot: it finds it open, it gives it a fate, and it comes no more after a final one.
use Rattle.std.proofs.Common.{◌≡◌, ◌≢◌, ◌≤◌, ◌+◌, ◌⊎◌, inl, inr, ℕ, zero, suc, List, [], ◌∷◌, Bool, true, false, not, cond, length, refl, sym, ap, ◌∙◌, subst, arith, Option, Some, None, ◌==◌, ◌&&◌, ◌-◌, ◌<◌}
use Rattle.std.specs.Prelude.{find, fold, option_map, is_some, is_none, if◌then◌else◌, count_by, slice_get}
use Rattle.std.specs.List.{list_any}
use Rattle.std.specs.Option.{option_map_or}
use Rattle.std.proofs.lemmas.Bool.{eqb-true, eqb-false, leb-true, false≢true, true≢false, and_parts, and_from, and_left, not-true, or_cases}
use Rattle.std.proofs.lemmas.Option.{none-some}
use Rattle.std.proofs.lemmas.List.Sums.{sum_by-cons}
use Rattle.queue_rows.specs.Rows.{find_message, find_queue, has_slot, slot_of}
use Rattle.queue_rows.specs.Tables.{after_change}
use Rattle.history_laws.specs.Fates.{Fate, ready, processed, fate_in, is_final, SlotFate, slot_fate_of, with_fate, in_queue, said, retried_fate, moved_slot_fate, without_queue, slot_fate_after, is_made_of, names, is_done}
use Rattle.history_laws.specs.Fates as fates
use Rattle.valid_laws.specs.Openness.{is_open_at, is_finished, may_move}
use Rattle.history_laws.specs.Proper.{ids_put_in}
use Rattle.valid_laws.specs.Touching.{is_proper, are_proper}
use Rattle.queue_rows.specs.declared.tables.Tables.{Tables}
use Rattle.queue_rows.specs.declared.rows.MsgRow.{MsgRow}
use Rattle.queue_rows.specs.declared.rows.SlotRow.{SlotRow}
use Rattle.queue_rows.specs.declared.change.Change.{Change}
use Rattle.queue_rows.specs.declared.change.Change.TheVariants as changes
use Rattle.row_laws.proofs.Finding.{find-yes}
use Rattle.row_laws.proofs.Slots.{slot_of-has, slot_of-zero}
use Rattle.valid_laws.proofs.Opened.{open_at, found_with}
use Rattle.history_laws.proofs.SlotFates.{AgreesSo, final_slot_fate, final_is_some, open_slot_fate}
use Rattle.history_laws.proofs.Agreeing.{without_final, without_some}
use Rattle.history_laws.proofs.Holding.{Holds, holds_after, proper_parts, said_some}

-- ---- an open slot has a slot fate that is not final

slot_fate_at : (o : Option MsgRow) (m : MsgRow) (slot : ℕ) (slot_fate : Option SlotFate) → o ≡ Some m → AgreesSo o slot slot_fate → slot_fate ≡ slot_fate_of slot m
slot_fate_at o m slot slot_fate e k = let h : AgreesSo (Some m) slot slot_fate = subst (λ x. AgreesSo x slot slot_fate) e k in h

pub open_isnt_final : (t : Tables) (id slot : ℕ) (slot_fate : Option SlotFate) → AgreesSo (find_message t id) slot slot_fate → is_open_at t id slot ≡ true → final_slot_fate slot_fate ≡ false
open_isnt_final t id slot slot_fate k p =
    let o = open_at t id slot p in ap final_slot_fate (slot_fate_at (find_message t id) o.message slot slot_fate o.found k) ∙ open_slot_fate o.message slot o.open_there

open_some : (t : Tables) (id slot : ℕ) (slot_fate : Option SlotFate) → AgreesSo (find_message t id) slot slot_fate → is_open_at t id slot ≡ true → is_some slot_fate ≡ true
open_some t id slot slot_fate k p =
    let o = open_at t id slot p in
    ap is_some (slot_fate_at (find_message t id) o.message slot slot_fate o.found k) ∙ rw (o.open_there.there) refl

-- the change names this slot
pair_is : (named a id slot : ℕ) (t : Tables) → ((named == id) && (a == slot)) ≡ true → is_open_at t named a ≡ true → is_open_at t id slot ≡ true
pair_is named a id slot t e p =
    let parts = and_parts (named == id) (a == slot) e in
    subst (λ n. is_open_at t n slot ≡ true) (eqb-true named id parts.0) (subst (λ n. is_open_at t named n ≡ true) (eqb-true a slot parts.1) p)

-- ---- after a final fate no change names the slot

slot_unnamed : (t : Tables) (named a id slot : ℕ) (slot_fate : Option SlotFate) (b : Bool) → ((named == id) && (a == slot)) ≡ b → AgreesSo (find_message t id) slot slot_fate → is_open_at t named a ≡ true
    → final_slot_fate slot_fate ≡ true → ((named == id) && (a == slot)) ≡ false
slot_unnamed t named a id slot slot_fate true e k p f = absurd (true≢false (sym f ∙ open_isnt_final t id slot slot_fate k (pair_is named a id slot t e p)))
slot_unnamed t named a id slot slot_fate false e k p f = e

zero_unnamed : (t : Tables) (named id slot : ℕ) (slot_fate : Option SlotFate) (b : Bool) → ((named == id) && (slot == 0)) ≡ b → AgreesSo (find_message t id) slot slot_fate
    → option_map_or may_move (find_message t named) false ≡ true → final_slot_fate slot_fate ≡ true → ((named == id) && (slot == 0)) ≡ false
zero_unnamed t named id slot slot_fate true e k p f =
    let parts = and_parts (named == id) (slot == 0) e in
    let o = found_with t named may_move p in
    let found : find_message t id ≡ Some o.0 = ap (find_message t) (sym (eqb-true named id parts.0)) ∙ o.1 in
    let unmoved : o.0.moved ≡ false = not-true o.0.moved (and_parts (not o.0.moved) (is_finished o.0) o.2).0 in
    let none : slot_of o.0 slot ≡ None = ap (slot_of o.0) (eqb-true slot 0 parts.1) ∙ slot_of-zero o.0 unmoved in
    let no : final_slot_fate slot_fate ≡ false = ap final_slot_fate (slot_fate_at (find_message t id) o.0 slot slot_fate found k) ∙ rw none refl in
    absurd (true≢false (sym f ∙ no))
zero_unnamed t named id slot slot_fate false e k p f = e

put_unnamed : (row : MsgRow) (id slot : ℕ) (ns : List ℕ) (b : Bool) → (row.id == id) ≡ b → find (λ k. k == id) (row.id ∷ ns) ≡ None → is_made_of id slot row ≡ false
put_unnamed row id slot ns true e h = absurd (none-some row.id (sym h ∙ find-yes (λ k. k == id) row.id ns e))
put_unnamed row id slot ns false e h = and_left (row.id == id) (has_slot row slot) e

pub unnamed : (t : Tables) (c : Change) (cs : List Change) (id slot : ℕ) (slot_fate : Option SlotFate) → is_proper t c ≡ true → Holds id slot t slot_fate (c ∷ cs) → final_slot_fate slot_fate ≡ true → names id slot c ≡ false
unnamed t (changes.Enqueued row) cs id slot slot_fate p h f = put_unnamed row id slot (ids_put_in cs) (row.id == id) refl (h.slot_fate_is_new (final_is_some slot_fate f))
unnamed t (changes.Retried named a retries until at) cs id slot slot_fate p h f = slot_unnamed t named a id slot slot_fate ((named == id) && (a == slot)) refl h.agrees p f
unnamed t (changes.Ready named a at) cs id slot slot_fate p h f = slot_unnamed t named a id slot slot_fate ((named == id) && (a == slot)) refl h.agrees p f
unnamed t (changes.Done named a at) cs id slot slot_fate p h f = slot_unnamed t named a id slot slot_fate ((named == id) && (a == slot)) refl h.agrees p f
unnamed t (changes.Expired named a at) cs id slot slot_fate p h f = slot_unnamed t named a id slot slot_fate ((named == id) && (a == slot)) refl h.agrees p f
unnamed t (changes.Dropped named a at) cs id slot slot_fate p h f = slot_unnamed t named a id slot slot_fate ((named == id) && (a == slot)) refl h.agrees p f
unnamed t (changes.Moved named queue at) cs id slot slot_fate p h f = zero_unnamed t named id slot slot_fate ((named == id) && (slot == 0)) refl h.agrees (and_parts (option_map_or may_move (find_message t named) false) (is_some (find_queue t queue)) p).0 f
unnamed t _ cs id slot slot_fate p h f = refl

-- ---- what is final stays so

said_same : (b : Bool) (fate : Fate) (slot_fate : Option SlotFate) → b ≡ false → said b fate slot_fate ≡ slot_fate
said_same b fate slot_fate e = rw e refl

in_queue_final : (queue : List ℕ) (slot_fate : Option SlotFate) → final_slot_fate (option_map (in_queue queue) slot_fate) ≡ final_slot_fate slot_fate
in_queue_final queue None = refl
in_queue_final queue (Some c) = refl

moved_final : (named id slot : ℕ) (queue : List ℕ) (slot_fate : Option SlotFate) (b c : Bool) → (named == id) ≡ b → (slot == 0) ≡ c → ((named == id) && (slot == 0)) ≡ false → final_slot_fate slot_fate ≡ true
    → final_slot_fate (if b then (if c then Some (record { queue = queue; fate = ready }) else option_map (in_queue queue) slot_fate) else slot_fate) ≡ true
moved_final named id slot queue slot_fate false c e g h f = f
moved_final named id slot queue slot_fate true true e g h f = absurd (false≢true (sym h ∙ and_from (named == id) (slot == 0) e g))
moved_final named id slot queue slot_fate true false e g h f = in_queue_final queue slot_fate ∙ f

put_final : (row : MsgRow) (id slot : ℕ) (ns : List ℕ) (slot_fate : Option SlotFate) (b : Bool) → (row.id == id) ≡ b → find (λ k. k == id) (row.id ∷ ns) ≡ None → (if b then slot_fate_of slot row else slot_fate) ≡ slot_fate
put_final row id slot ns slot_fate true e h = absurd (none-some row.id (sym h ∙ find-yes (λ k. k == id) row.id ns e))
put_final row id slot ns slot_fate false e h = refl

pub stays_final : (t : Tables) (c : Change) (cs : List Change) (id slot : ℕ) (slot_fate : Option SlotFate) → is_proper t c ≡ true → Holds id slot t slot_fate (c ∷ cs) → final_slot_fate slot_fate ≡ true → final_slot_fate (slot_fate_after id slot slot_fate c) ≡ true
stays_final t (changes.Enqueued row) cs id slot slot_fate p h f = ap final_slot_fate (put_final row id slot (ids_put_in cs) slot_fate (row.id == id) refl (h.slot_fate_is_new (final_is_some slot_fate f))) ∙ f
stays_final t (changes.DropQueue name) cs id slot slot_fate p h f = without_final name slot_fate f
stays_final t (changes.Retried named a retries until at) cs id slot slot_fate p h f =
    ap final_slot_fate (said_same ((named == id) && (a == slot)) (retried_fate until) slot_fate (unnamed t (changes.Retried named a retries until at) cs id slot slot_fate p h f)) ∙ f
stays_final t (changes.Ready named a at) cs id slot slot_fate p h f = ap final_slot_fate (said_same ((named == id) && (a == slot)) ready slot_fate (unnamed t (changes.Ready named a at) cs id slot slot_fate p h f)) ∙ f
stays_final t (changes.Done named a at) cs id slot slot_fate p h f = ap final_slot_fate (said_same ((named == id) && (a == slot)) processed slot_fate (unnamed t (changes.Done named a at) cs id slot slot_fate p h f)) ∙ f
stays_final t (changes.Expired named a at) cs id slot slot_fate p h f = ap final_slot_fate (said_same ((named == id) && (a == slot)) fates.expired slot_fate (unnamed t (changes.Expired named a at) cs id slot slot_fate p h f)) ∙ f
stays_final t (changes.Dropped named a at) cs id slot slot_fate p h f = ap final_slot_fate (said_same ((named == id) && (a == slot)) fates.dropped slot_fate (unnamed t (changes.Dropped named a at) cs id slot slot_fate p h f)) ∙ f
stays_final t (changes.Moved named queue at) cs id slot slot_fate p h f = moved_final named id slot queue slot_fate (named == id) (slot == 0) refl refl (unnamed t (changes.Moved named queue at) cs id slot slot_fate p h f) f
stays_final t _ cs id slot slot_fate p h f = f

-- ---- a slot that was named has a slot fate

in_queue_some : (queue : List ℕ) (slot_fate : Option SlotFate) → is_some (option_map (in_queue queue) slot_fate) ≡ is_some slot_fate
in_queue_some queue None = refl
in_queue_some queue (Some c) = refl

moved_some : (slot : ℕ) (queue : List ℕ) (slot_fate : Option SlotFate) (b c : Bool) → is_some slot_fate ≡ true → is_some (if b then (if c then Some (record { queue = queue; fate = ready }) else option_map (in_queue queue) slot_fate) else slot_fate) ≡ true
moved_some slot queue slot_fate false c h = h
moved_some slot queue slot_fate true true h = refl
moved_some slot queue slot_fate true false h = in_queue_some queue slot_fate ∙ h

pub stays_some : (t : Tables) (c : Change) (cs : List Change) (id slot : ℕ) (slot_fate : Option SlotFate) → Holds id slot t slot_fate (c ∷ cs) → is_some slot_fate ≡ true → is_some (slot_fate_after id slot slot_fate c) ≡ true
stays_some t (changes.Enqueued row) cs id slot slot_fate h s = ap is_some (put_final row id slot (ids_put_in cs) slot_fate (row.id == id) refl (h.slot_fate_is_new s)) ∙ s
stays_some t (changes.DropQueue name) cs id slot slot_fate h s = without_some name slot_fate ∙ s
stays_some t (changes.Retried named a retries until at) cs id slot slot_fate h s = said_some ((named == id) && (a == slot)) (retried_fate until) slot_fate ∙ s
stays_some t (changes.Ready named a at) cs id slot slot_fate h s = said_some ((named == id) && (a == slot)) ready slot_fate ∙ s
stays_some t (changes.Done named a at) cs id slot slot_fate h s = said_some ((named == id) && (a == slot)) processed slot_fate ∙ s
stays_some t (changes.Expired named a at) cs id slot slot_fate h s = said_some ((named == id) && (a == slot)) fates.expired slot_fate ∙ s
stays_some t (changes.Dropped named a at) cs id slot slot_fate h s = said_some ((named == id) && (a == slot)) fates.dropped slot_fate ∙ s
stays_some t (changes.Moved named queue at) cs id slot slot_fate h s = moved_some slot queue slot_fate (named == id) (slot == 0) s
stays_some t _ cs id slot slot_fate h s = s

slot_named : (t : Tables) (named a id slot : ℕ) (fate : Fate) (slot_fate : Option SlotFate) → AgreesSo (find_message t id) slot slot_fate → is_open_at t named a ≡ true → ((named == id) && (a == slot)) ≡ true
    → is_some (said ((named == id) && (a == slot)) fate slot_fate) ≡ true
slot_named t named a id slot fate slot_fate k p e = said_some ((named == id) && (a == slot)) fate slot_fate ∙ open_some t id slot slot_fate k (pair_is named a id slot t e p)

zero_named : (slot : ℕ) (queue : List ℕ) (slot_fate : Option SlotFate) (b c : Bool) → (b && c) ≡ true → is_some (if b then (if c then Some (record { queue = queue; fate = ready }) else option_map (in_queue queue) slot_fate) else slot_fate) ≡ true
zero_named slot queue slot_fate true true e = refl
zero_named slot queue slot_fate true false e = absurd (false≢true e)
zero_named slot queue slot_fate false c e = absurd (false≢true e)

get_some : (xs : List SlotRow) (i : ℕ) → i < length xs → (s : SlotRow) × (slice_get xs i ≡ Some s)
get_some [] i h = absurd (let no : i < 0 = h in omega arith)
get_some (x ∷ xs) zero h = (x, refl)
get_some (x ∷ xs) (suc i) h = get_some xs i (let g : suc i < suc (length xs) = h in omega arith)

-- a row that was not moved has the slots that it says
made_slot : (row : MsgRow) (slot : ℕ) (b : Bool) → (slot == 0) ≡ b → row.moved ≡ false → has_slot row slot ≡ true → (s : SlotRow) × (slot_of row slot ≡ Some s)
made_slot row slot true e u h = absurd (false≢true (rw (e, u) at h))
made_slot row slot false e u h =
    let le : slot ≤ length row.slots = leb-true slot (length row.slots) (rw (e, u) at h) in
    let ne : slot ≢ 0 = eqb-false slot 0 e in
    let s = get_some row.slots (slot - 1) (omega arith) in
    (s.0, slot_of-has row slot h ∙ rw e (s.1))

put_named : (row : MsgRow) (id slot : ℕ) (slot_fate : Option SlotFate) (b : Bool) → (row.id == id) ≡ b → (b && has_slot row slot) ≡ true → row.moved ≡ false → is_some (if b then slot_fate_of slot row else slot_fate) ≡ true
put_named row id slot slot_fate true e h u = let s = made_slot row slot (slot == 0) refl u h in rw (s.1) refl
put_named row id slot slot_fate false e h u = absurd (false≢true h)

pub named_some : (t : Tables) (c : Change) (cs : List Change) (id slot : ℕ) (slot_fate : Option SlotFate) → is_proper t c ≡ true → Holds id slot t slot_fate (c ∷ cs) → names id slot c ≡ true → is_some (slot_fate_after id slot slot_fate c) ≡ true
named_some t (changes.Enqueued row) cs id slot slot_fate p h e = put_named row id slot slot_fate (row.id == id) refl e (not-true row.moved (and_parts (is_none (find_message t row.id)) (not row.moved) p).1)
named_some t (changes.Retried named a retries until at) cs id slot slot_fate p h e = slot_named t named a id slot (retried_fate until) slot_fate h.agrees p e
named_some t (changes.Ready named a at) cs id slot slot_fate p h e = slot_named t named a id slot ready slot_fate h.agrees p e
named_some t (changes.Done named a at) cs id slot slot_fate p h e = slot_named t named a id slot processed slot_fate h.agrees p e
named_some t (changes.Expired named a at) cs id slot slot_fate p h e = slot_named t named a id slot fates.expired slot_fate h.agrees p e
named_some t (changes.Dropped named a at) cs id slot slot_fate p h e = slot_named t named a id slot fates.dropped slot_fate h.agrees p e
named_some t (changes.Moved named queue at) cs id slot slot_fate p h e = zero_named slot queue slot_fate (named == id) (slot == 0) e
named_some t _ cs id slot slot_fate p h e = absurd (false≢true e)

-- ---- a slot that was removed has a final fate

with_fate_final : (slot_fate : Option SlotFate) → is_some slot_fate ≡ true → final_slot_fate (option_map (with_fate processed) slot_fate) ≡ true
with_fate_final None h = h
with_fate_final (Some c) h = refl

done_by : (t : Tables) (named a id slot : ℕ) (slot_fate : Option SlotFate) → is_some slot_fate ≡ true → ((named == id) && (a == slot)) ≡ true → final_slot_fate (said ((named == id) && (a == slot)) processed slot_fate) ≡ true
done_by t named a id slot slot_fate s e = rw e (with_fate_final slot_fate s)

pub done_is_final : (t : Tables) (c : Change) (cs : List Change) (id slot : ℕ) (slot_fate : Option SlotFate) → is_proper t c ≡ true → Holds id slot t slot_fate (c ∷ cs) → is_done id slot c ≡ true → final_slot_fate (slot_fate_after id slot slot_fate c) ≡ true
done_is_final t (changes.Done named a at) cs id slot slot_fate p h e = done_by t named a id slot slot_fate (open_some t id slot slot_fate h.agrees (pair_is named a id slot t e p)) e
done_is_final t _ cs id slot slot_fate p h e = absurd (false≢true e)

pub done_names : (id slot : ℕ) (c : Change) → is_done id slot c ≡ true → names id slot c ≡ true
done_names id slot (changes.Done named a at) e = e
done_names id slot _ e = absurd (false≢true e)

-- ---- over all changes

-- a slot fate that is there stays
pub some_to_end : (cs : List Change) (t : Tables) (id slot : ℕ) (slot_fate : Option SlotFate) → are_proper t cs ≡ true → Holds id slot t slot_fate cs → is_some slot_fate ≡ true → is_some (fold (slot_fate_after id slot) slot_fate cs) ≡ true
some_to_end [] t id slot slot_fate p h s = s
some_to_end (c ∷ cs) t id slot slot_fate p h s =
    let parts = proper_parts t c cs p in
    some_to_end cs (after_change t c) id slot (slot_fate_after id slot slot_fate c) parts.1 (holds_after t c cs id slot slot_fate parts.0 h) (stays_some t c cs id slot slot_fate h s)

named_by_one : (c : Change) (cs : List Change) (t : Tables) (id slot : ℕ) (slot_fate : Option SlotFate) → is_proper t c ≡ true → are_proper (after_change t c) cs ≡ true → Holds id slot t slot_fate (c ∷ cs)
    → (names id slot c ≡ true) ⊎ (list_any (names id slot) cs ≡ true) → (list_any (names id slot) cs ≡ true → is_some (fold (slot_fate_after id slot) (slot_fate_after id slot slot_fate c) cs) ≡ true)
    → is_some (fold (slot_fate_after id slot) (slot_fate_after id slot slot_fate c) cs) ≡ true
named_by_one c cs t id slot slot_fate p q h (inl e) ih = some_to_end cs (after_change t c) id slot (slot_fate_after id slot slot_fate c) q (holds_after t c cs id slot slot_fate p h) (named_some t c cs id slot slot_fate p h e)
named_by_one c cs t id slot slot_fate p q h (inr e) ih = ih e

pub each_named : (cs : List Change) (t : Tables) (id slot : ℕ) (slot_fate : Option SlotFate) → are_proper t cs ≡ true → Holds id slot t slot_fate cs → list_any (names id slot) cs ≡ true → is_some (fold (slot_fate_after id slot) slot_fate cs) ≡ true
each_named [] t id slot slot_fate p h e = absurd (false≢true e)
each_named (c ∷ cs) t id slot slot_fate p h e =
    let parts = proper_parts t c cs p in
    named_by_one c cs t id slot slot_fate parts.0 parts.1 h (or_cases (names id slot c) (list_any (names id slot) cs) e)
    (λ g. each_named cs (after_change t c) id slot (slot_fate_after id slot slot_fate c) parts.1 (holds_after t c cs id slot slot_fate parts.0 h) g)

-- ---- how often it is removed

count-cons : (q : Change → Bool) (c : Change) (cs : List Change) → count_by q (c ∷ cs) ≡ cond (q c) 1 0 + count_by q cs
count-cons q c cs = sum_by-cons (λ x. cond (q x) 1 0) c cs

count-no : (q : Change → Bool) (c : Change) (cs : List Change) → q c ≡ false → count_by q (c ∷ cs) ≡ count_by q cs
count-no q c cs e = count-cons q c cs ∙ rw e (omega arith)

count-yes : (q : Change → Bool) (c : Change) (cs : List Change) → q c ≡ true → count_by q (c ∷ cs) ≡ 1 + count_by q cs
count-yes q c cs e = count-cons q c cs ∙ rw e (omega arith)

not_done : (id slot : ℕ) (c : Change) (b : Bool) → is_done id slot c ≡ b → names id slot c ≡ false → is_done id slot c ≡ false
not_done id slot c true e n = absurd (false≢true (sym n ∙ done_names id slot c e))
not_done id slot c false e n = e

pub none_done : (cs : List Change) (t : Tables) (id slot : ℕ) (slot_fate : Option SlotFate) → are_proper t cs ≡ true → Holds id slot t slot_fate cs → final_slot_fate slot_fate ≡ true → count_by (is_done id slot) cs ≡ 0
none_done [] t id slot slot_fate p h f = refl
none_done (c ∷ cs) t id slot slot_fate p h f =
    let parts = proper_parts t c cs p in
    count-no (is_done id slot) c cs (not_done id slot c (is_done id slot c) refl (unnamed t c cs id slot slot_fate parts.0 h f))
    ∙ none_done cs (after_change t c) id slot (slot_fate_after id slot slot_fate c) parts.1 (holds_after t c cs id slot slot_fate parts.0 h) (stays_final t c cs id slot slot_fate parts.0 h f)

once_by : (c : Change) (cs : List Change) (t : Tables) (id slot : ℕ) (slot_fate : Option SlotFate) (b : Bool) → is_done id slot c ≡ b → is_proper t c ≡ true → are_proper (after_change t c) cs ≡ true → Holds id slot t slot_fate (c ∷ cs)
    → count_by (is_done id slot) cs ≤ 1 → count_by (is_done id slot) (c ∷ cs) ≤ 1
once_by c cs t id slot slot_fate true e p q h le =
    let n = count-yes (is_done id slot) c cs e in
    let z = none_done cs (after_change t c) id slot (slot_fate_after id slot slot_fate c) q (holds_after t c cs id slot slot_fate p h) (done_is_final t c cs id slot slot_fate p h e) in
    omega (arith, n, z)
once_by c cs t id slot slot_fate false e p q h le = let n = count-no (is_done id slot) c cs e in omega (arith, n, le)

pub done_once : (cs : List Change) (t : Tables) (id slot : ℕ) (slot_fate : Option SlotFate) → are_proper t cs ≡ true → Holds id slot t slot_fate cs → count_by (is_done id slot) cs ≤ 1
done_once [] t id slot slot_fate p h = omega arith
done_once (c ∷ cs) t id slot slot_fate p h =
    let parts = proper_parts t c cs p in
    once_by c cs t id slot slot_fate (is_done id slot c) refl parts.0 parts.1 h
    (done_once cs (after_change t c) id slot (slot_fate_after id slot slot_fate c) parts.1 (holds_after t c cs id slot slot_fate parts.0 h))
