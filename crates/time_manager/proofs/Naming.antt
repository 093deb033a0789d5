-- Of a message that no row at or before the moment names nothing is due.
use Rattle.std.proofs.Common.{◌≡◌, ◌<◌, ◌+◌, ◌++◌, ◌==◌, ◌^◌, ℕ, zero, suc, Bool, true, false, not, cond, List, [], ◌∷◌, slice_get, length, nat_le, nat_lt, Option, Some, None, refl, sym, ap, ◌∙◌, subst, arith, inl, inr, eq-eqb}
use Rattle.std.specs.Prelude.{◌||◌, ◌&&◌, filter, find, flat_map, if◌then◌else◌}
use Rattle.std.specs.List.{list_any, position_or_len, cons_option, range_with_len}
use Rattle.std.proofs.lemmas.Bool.{false≢true, true≢false, or_cases, or_left, or_right, and_parts, and_from, eqb-true, not-true, false_from_ne_true, both_ways}
use Rattle.std.proofs.lemmas.Bool.Decides.{nat_tests}
use Rattle.std.proofs.lemmas.List.Folds.{find_at}
use Rattle.std.proofs.lemmas.Option.{none-some, slice_get_within}
use Rattle.due_index.specs.Due.{is_due}
use Rattle.due_index.specs.declared.row.DueRow.{DueRow}
use Rattle.due_slots.specs.Named.{is_slot_due, is_purge_due, has_row, NamesDue}
use Rattle.queue_rows.specs.Rows.{find_message, slot_of}
use Rattle.queue_rows.specs.Settling.{is_open, is_ready}
use Rattle.queue_rows.specs.Distinct.{are_distinct}
use Rattle.queue_rows.specs.Due.{Watch, is_over, is_left, due_change, due_slot, due_slots, due_purge, is_spent, slot_numbers, watched}
use Rattle.queue_rows.specs.Valid.{is_same_message}
use Rattle.queue_rows.specs.declared.tables.Tables.{Tables}
use Rattle.queue_rows.specs.declared.rows.MsgRow.{MsgRow}
use Rattle.queue_rows.specs.declared.rows.SlotRow.{SlotRow}
use Rattle.queue_rows.specs.declared.change.Change.{Change}
use Rattle.queue_rows.specs.declared.change.Change.TheVariants as changes
use Rattle.time_manager.specs.Own.{own_settling, settled_of}
use Rattle.time_manager.specs.Ranks.{AreDueRanks, GiveAll, rank_of, ranks_of, given}
use Rattle.time_manager.proofs.Gathering.{has, has_from, contains_from, rises, gives_all, by_place}
use Rattle.time_manager.proofs.Owning.{watched_by_own}

-- ---- slots whose time has not come

nothing_by : (expires ready : Change) (is_open over is_ready come : Bool) → (is_open && (over || (not is_ready && come))) ≡ false
    → (if is_open && over then expires ∷ [] else (if is_open && not is_ready && come then ready ∷ [] else [])) ≡ []
nothing_by expires ready false over is_ready come e = refl
nothing_by expires ready true true is_ready come e = absurd (true≢false e)
nothing_by expires ready true false true come e = refl
nothing_by expires ready true false false true e = absurd (true≢false e)
nothing_by expires ready true false false false e = refl

pub nothing_due : (id slot : ℕ) (s : SlotRow) (moment : ℕ) → is_slot_due s moment ≡ false → due_change id slot s moment ≡ []
nothing_due id slot s moment e =
    nothing_by (changes.Expired id slot moment) (changes.Ready id slot moment) (is_open s.state) (is_over s moment) (is_ready s.state) (nat_le s.at moment) e

if_either : (b : Bool) (cs : List Change) → cs ≡ [] → (if b then [] else cs) ≡ []
if_either true cs e = refl
if_either false cs e = e

all_empty : (G : ℕ → List Change) (ns : List ℕ) → ((n : ℕ) → G n ≡ []) → flat_map G ns ≡ []
all_empty G [] none = refl
all_empty G (n ∷ ns) none = ap (λ cs. cs ++ flat_map G ns) (none n) ∙ all_empty G ns none

-- ---- where messages stand

module _ {X : Type 0} (p : X → Bool) where
  any_at : (xs : List X) (i : ℕ) (x : X) → slice_get xs i ≡ Some x → p x ≡ true → list_any p xs ≡ true
  any_at [] i x e h = absurd (none-some x e)
  any_at (y ∷ ys) zero x e h = let same : y ≡ x = cc e in or_left (p y) (list_any p ys) (ap p same ∙ h)
  any_at (y ∷ ys) (suc i) x e h = or_right (p y) (list_any p ys) (any_at ys i x e h)

position_within : (q n i : ℕ) (b : Bool) → nat_lt q n ≡ b → cond b (Some q) None ≡ Some i → i < n
position_within q n i true e at = let same : q ≡ i = cc at in let below : q < n = grind (arith, nat_tests) in omega arith
position_within q n i false e at = absurd (none-some i at)

position_is : (q n i : ℕ) → q ≡ i → i < n → cond (nat_lt q n) (Some q) None ≡ Some i
position_is q n i same below =
    let passes : nat_lt q n ≡ true = grind (arith, nat_tests) in
    ap (λ b. cond b (Some q) None) passes ∙ ap Some same

place_by : (x : MsgRow) (xs : List MsgRow) (i : ℕ) (m : MsgRow) (b : Bool) → (x.id == m.id) ≡ b → b ≡ false → position_or_len (λ y. y.id == m.id) xs ≡ i
    → position_or_len (λ y. y.id == m.id) (x ∷ xs) ≡ suc i
place_by x xs i m b is no_match ih = let e : 1 + i ≡ suc i = omega arith in rw (is ∙ no_match) (ap (λ n. 1 + n) ih ∙ e)

place_in : (ms : List MsgRow) (i : ℕ) (m : MsgRow) → are_distinct is_same_message ms ≡ true → slice_get ms i ≡ Some m → position_or_len (λ x. x.id == m.id) ms ≡ i
place_in [] i m distinct at = absurd (none-some m at)
place_in (x ∷ xs) zero m distinct at =
    let same : x ≡ m = cc at in
    let here : (x.id == m.id) ≡ true = eq-eqb x.id m.id (ap (λ (y : MsgRow). y.id) same) in
    rw here refl
place_in (x ∷ xs) (suc i) m distinct at =
    let parts = and_parts (not (list_any (is_same_message x) xs)) (are_distinct is_same_message xs) distinct in
    place_by x xs i m (x.id == m.id) refl
    (false_from_ne_true (x.id == m.id) (λ same. both_ways (list_any (is_same_message x) xs) (not-true (list_any (is_same_message x) xs) parts.0) (any_at (is_same_message x) xs i m at same)))
    (place_in xs i m parts.1 at)

found_in : (ms : List MsgRow) (i : ℕ) (m : MsgRow) → are_distinct is_same_message ms ≡ true → slice_get ms i ≡ Some m → find (λ x. x.id == m.id) ms ≡ Some m
found_in ms i m distinct at = find_at (λ x. x.id == m.id) ms ∙ ap (slice_get ms) (place_in ms i m distinct at) ∙ at

rank_is : (ms : List MsgRow) (i : ℕ) (m : MsgRow) → are_distinct is_same_message ms ≡ true → slice_get ms i ≡ Some m → rank_of ms m.id ≡ Some i
rank_is ms i m distinct at = position_is (position_or_len (λ x. x.id == m.id) ms) (length ms) i (place_in ms i m distinct at) (slice_get_within ms i m at)

-- ---- what rows name

has_later : (o : Option ℕ) (xs : List ℕ) (i : ℕ) → has xs i ≡ true → has (cons_option o xs) i ≡ true
has_later None xs i some = some
has_later (Some p) xs i some = or_right (p == i) (has xs i) some

has_first : (o : Option ℕ) (xs : List ℕ) (i : ℕ) → o ≡ Some i → has (cons_option o xs) i ≡ true
has_first o xs i e = ap (λ o. has (cons_option o xs) i) e ∙ or_left (i == i) (has xs i) (eq-eqb i i refl)

module _ (messages : List MsgRow) (moment : ℕ) where
  abbrev names : ℕ → DueRow → Bool
  names id row = (row.id == id) && is_due moment row

  kept_row : (row : DueRow) (rest : List DueRow) (i : ℕ) (b : Bool) → has (ranks_of messages rest) i ≡ true → has (ranks_of messages (cond b (row ∷ rest) rest)) i ≡ true
  kept_row row rest i true some = has_later (rank_of messages row.id) (ranks_of messages rest) i some
  kept_row row rest i false some = some

  named_some : (rows : List DueRow) (id i : ℕ) → rank_of messages id ≡ Some i → list_any (names id) rows ≡ true → has (ranks_of messages (filter (is_due moment) rows)) i ≡ true
  named_some [] id i is some = absurd (false≢true some)
  named_some (row ∷ rows) id i is some = elim (or_cases (names id row) (list_any (names id) rows) some) [
    | inl here ↦
        let parts = and_parts (row.id == id) (is_due moment row) here in
        ap (λ b. has (ranks_of messages (cond b (row ∷ filter (is_due moment) rows) (filter (is_due moment) rows))) i) parts.1
        ∙ has_first (rank_of messages row.id) (ranks_of messages (filter (is_due moment) rows)) i (ap (rank_of messages) (eqb-true row.id id parts.0) ∙ is)
    | inr later ↦ kept_row row (filter (is_due moment) rows) i (is_due moment row) (named_some rows id i is later)
  ]

  within_by : (o : Option ℕ) (xs : List ℕ) (i n : ℕ) → ((p : ℕ) → o ≡ Some p → p < n) → (has xs i ≡ true → i < n) → has (cons_option o xs) i ≡ true → i < n
  within_by None xs i n first ih some = ih some
  within_by (Some p) xs i n first ih some = elim (or_cases (p == i) (has xs i) some) [
    | inl here ↦ let same = eqb-true p i here in let below = first p refl in omega arith
    | inr later ↦ ih later
  ]

  ranks_within : (rows : List DueRow) (i : ℕ) → has (ranks_of messages rows) i ≡ true → i < length messages
  ranks_within [] i some = absurd (false≢true some)
  ranks_within (row ∷ rows) i some =
      within_by (rank_of messages row.id) (ranks_of messages rows) i (length messages)
      (λ p at. position_within (position_or_len (λ m. m.id == row.id) messages) (length messages) p (nat_lt (position_or_len (λ m. m.id == row.id) messages) (length messages)) refl at)
      (ranks_within rows i) some

any_weaker : (p q : DueRow → Bool) (xs : List DueRow) → ((x : DueRow) → p x ≡ true → q x ≡ true) → list_any p xs ≡ true → list_any q xs ≡ true
any_weaker p q [] weaker some = some
any_weaker p q (x ∷ xs) weaker some = elim (or_cases (p x) (list_any p xs) some) [
  | inl here ↦ or_left (q x) (list_any q xs) (weaker x here)
  | inr later ↦ or_right (q x) (list_any q xs) (any_weaker p q xs weaker later)
]

-- ---- messages that no row names

module _ (w : Watch) (rows : List DueRow) (names_due : NamesDue w.tables rows) (m : MsgRow) (known : find_message w.tables m.id ≡ Some m)
    (unnamed : list_any (λ row. (row.id == m.id) && is_due w.moment row) rows ≡ false) where
  no_row : (slot : ℕ) → has_row rows m.id slot w.moment ≡ true → ⊥
  no_row slot some = both_ways (list_any (λ row. (row.id == m.id) && is_due w.moment row) rows) unnamed
      (any_weaker (λ row. (row.id == m.id) && (row.slot == slot) && nat_le row.moment w.moment) (λ row. (row.id == m.id) && is_due w.moment row) rows (λ row e.
      let outer = and_parts ((row.id == m.id) && (row.slot == slot)) (nat_le row.moment w.moment) e in
      let inner = and_parts (row.id == m.id) (row.slot == slot) outer.0 in
      and_from (row.id == m.id) (is_due w.moment row) inner.0 outer.1) some)

  quiet_slot : (slot : ℕ) (o : Option SlotRow) → slot_of m slot ≡ o → due_slot w m slot o ≡ []
  quiet_slot slot None e = refl
  quiet_slot slot (Some s) e = if_either (is_left w m slot) (due_change m.id slot s w.moment) (nothing_due m.id slot s w.moment
      (false_from_ne_true (is_slot_due s w.moment) (λ due. no_row slot (names_due.slots m slot s w.moment known e due))))

  quiet_slots : due_slots w m ≡ []
  quiet_slots = all_empty (λ slot. due_slot w m slot (slot_of m slot)) (slot_numbers m) (λ slot. quiet_slot slot (slot_of m slot) refl)

  quiet_purge : w.moment < 2 ^ 64 → due_purge w m ≡ []
  quiet_purge bound =
      let kept : is_spent w m ≡ false = false_from_ne_true (is_purge_due w.tables m w.moment) (λ due. no_row 0 (names_due.purges m w.moment bound known due)) in
      ap (λ b. if b then changes.Purged m.id ∷ [] else []) kept

-- ---- all messages

module _ (w : Watch) (rows : List DueRow) (ranks : List ℕ) (names_due : NamesDue w.tables rows) (distinct : are_distinct is_same_message w.tables.messages ≡ true)
    (are : AreDueRanks w.tables.messages rows w.moment ranks) where
  module _ (f : MsgRow → List Change)
      (quiet : (m : MsgRow) → find_message w.tables m.id ≡ Some m → list_any (λ row. (row.id == m.id) && is_due w.moment row) rows ≡ false → f m ≡ []) where
    absent_by : (i : ℕ) (o : Option MsgRow) → slice_get w.tables.messages i ≡ o → has ranks i ≡ false → given f o ≡ []
    absent_by i None at absent = refl
    absent_by i (Some m) at absent =
        quiet m (found_in w.tables.messages i m distinct at)
        (false_from_ne_true (list_any (λ row. (row.id == m.id) && is_due w.moment row) rows) (λ some.
        both_ways (has ranks i) absent
        (has_from ranks i ((are.each i).1 (contains_from (ranks_of w.tables.messages (filter (is_due w.moment) rows)) i
        (named_some w.tables.messages w.moment rows m.id i (rank_is w.tables.messages i m distinct at) some))))))

    pub gathered_all : flat_map (λ rank. given f (slice_get w.tables.messages rank)) ranks ≡ flat_map f w.tables.messages
    gathered_all =
        gives_all (λ rank. given f (slice_get w.tables.messages rank)) (length w.tables.messages) 0 ranks (rises ranks are.rising)
        (λ i some.
        let below = ranks_within w.tables.messages w.moment (filter (is_due w.moment) rows) i (has_from (ranks_of w.tables.messages (filter (is_due w.moment) rows)) i ((are.each i).0 (contains_from ranks i some))) in
        let bound : i < 0 + length w.tables.messages = omega arith in
        bound)
        (λ i least absent. absent_by i (slice_get w.tables.messages i) refl absent)
        ∙ by_place f w.tables.messages

  pub all_slots : flat_map (λ rank. given (due_slots w) (slice_get w.tables.messages rank)) ranks ≡ flat_map (due_slots w) w.tables.messages
  all_slots = gathered_all (due_slots w) (λ m known unnamed. quiet_slots w rows names_due m known unnamed)

  pub all_purges : w.moment < 2 ^ 64 → flat_map (λ rank. given (due_purge w) (slice_get w.tables.messages rank)) ranks ≡ flat_map (due_purge w) w.tables.messages
  all_purges bound = gathered_all (due_purge w) (λ m known unnamed. quiet_purge w rows names_due m known unnamed bound)

  pub all_settlings : flat_map (λ rank. given (own_settling w) (slice_get w.tables.messages rank)) ranks ≡ flat_map (own_settling w) w.tables.messages
  all_settlings = gathered_all (own_settling w) (λ m known unnamed.
      if_either (is_spent w m) (settled_of w.tables (due_slots w m)) (ap (settled_of w.tables) (quiet_slots w rows names_due m known unnamed)))

-- what is due of the messages that rows name is what is due of all
pub rows_give_all : (w : Watch) (t : Tables) (rows : List DueRow) (ranks : List ℕ) → w.tables ≡ t → NamesDue t rows → are_distinct is_same_message t.messages ≡ true
    → AreDueRanks t.messages rows w.moment ranks → w.moment < 2 ^ 64 → GiveAll w ranks
rows_give_all w t rows ranks same names_due distinct are bound =
    let names_own = subst (λ (u : Tables). NamesDue u rows) (sym same) names_due in
    let distinct_own = subst (λ (u : Tables). are_distinct is_same_message u.messages ≡ true) (sym same) distinct in
    let are_own = subst (λ (u : Tables). AreDueRanks u.messages rows w.moment ranks) (sym same) are in
    record { slots = all_slots w rows ranks names_own distinct_own are_own; purges = all_purges w rows ranks names_own distinct_own are_own bound; settlings = all_settlings w rows ranks names_own distinct_own are_own }

-- at all places it is what is due of all
pub places_give_all : (w : Watch) (ranks : List ℕ) → ranks ≡ range_with_len 0 (length w.tables.messages) → GiveAll w ranks
places_give_all w ranks is = subst (GiveAll w) (sym is) (record { slots = by_place (due_slots w) w.tables.messages; purges = by_place (due_purge w) w.tables.messages; settlings = by_place (own_settling w) w.tables.messages })

-- what is due of the messages at these places, with what each settles, is what is due of all
pub watched_is : (w : Watch) (ranks : List ℕ) → are_distinct is_same_message w.tables.messages ≡ true → GiveAll w ranks
    → (flat_map (λ rank. given (due_slots w) (slice_get w.tables.messages rank)) ranks ++ flat_map (λ rank. given (due_purge w) (slice_get w.tables.messages rank)) ranks)
    ++ flat_map (λ rank. given (own_settling w) (slice_get w.tables.messages rank)) ranks ≡ watched w
watched_is w ranks distinct all = (λ i. (all.slots i ++ all.purges i) ++ all.settlings i) ∙ sym (watched_by_own w distinct)
