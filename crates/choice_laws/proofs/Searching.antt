-- What a search in the rows of a queue and consumer finds.
use Rattle.std.proofs.Common.{◌≡◌, ℕ, ◌<◌, ℤ, Bool, true, false, cond, List, [], ◌∷◌, filter, Option, Some, None, refl, sym, ap, ◌∙◌, ◌&&◌}
use Rattle.std.proofs.lemmas.Bool.{false≢true, and_parts}
use Rattle.std.specs.Prelude.{find, option_and_then}
use Rattle.std.specs.List.{AllByRecursion}
use Rattle.std.specs.Option.{option_map_or}
use Rattle.std.specs.Ordering.{is_lt}
use Rattle.place_keys.specs.Place.{stands_before}
use Rattle.queue_rows.specs.Dequeueing.{least}
use Rattle.queue_rows.specs.declared.rows.MsgRow.{MsgRow}
use Rattle.choice_laws.specs.Entries.{Entry, Row, AreRising, message_at, messages_of, row_cmp, row_of, rows_for, rows_past, stands_for, with_row}
use Rattle.choice_laws.specs.Choosing.{first_passing}
use Rattle.choice_laws.specs.ChoiceLaws.{AreAllIn}
use Rattle.choice_laws.proofs.Nearest.{least_first, nearest_of}
use Rattle.choice_laws.proofs.Orders.{less_by_place, row_cmp_total}
use Rattle.choice_laws.proofs.Putting.{HoldsOf, all_found, earlier_of, find_put}
use Rattle.choice_laws.proofs.Standing.{AreFound, HasMessage, are_found, rows_above, rows_have, rows_rise}

-- ---- two tests

pub filter_both : {T : Type 0} (p q : T → Bool) (xs : List T) → filter q (filter p xs) ≡ filter (λ x. p x && q x) xs
filter_both p q [] = refl
filter_both {T} p q (x ∷ xs) =
    let rest = filter (λ y. p y && q y) xs in
    let Q : Bool → Type 0 = λ b. filter q (cond b (x ∷ filter p xs) (filter p xs)) ≡ cond (b && q x) (x ∷ rest) rest in
    elim (p x) as Q [
      | true ↦ ap (λ ys. cond (q x) (x ∷ ys) ys) (filter_both p q xs)
      | false ↦ filter_both p q xs
    ]

-- a test that follows from another keeps what that kept
pub filter_implied : {T : Type 0} (p q : T → Bool) → ((x : T) → p x ≡ true → q x ≡ true) → (xs : List T) → filter q (filter p xs) ≡ filter p xs
filter_implied p q follows [] = refl
filter_implied {T} p q follows (x ∷ xs) =
    let Q : Bool → Type 0 = λ b. p x ≡ b → filter q (cond b (x ∷ filter p xs) (filter p xs)) ≡ cond b (x ∷ filter p xs) (filter p xs) in
    elim (p x) as Q [
      | true ↦ λ e. ap (λ b. cond b (x ∷ filter q (filter p xs)) (filter q (filter p xs))) (follows x e) ∙ ap (λ ys. x ∷ ys) (filter_implied p q follows xs)
      | false ↦ λ e. filter_implied p q follows xs
    ] refl

-- ---- messages by their stamps

module _ (look : ℕ → Option MsgRow) where
  -- the message of the row passes
  abbrev Passes : (MsgRow → Bool) → Row → Bool
  Passes p r = option_map_or p (look r.stamp) false

  abbrev message_of : Option Row → Option MsgRow
  message_of f = option_and_then (λ r. look r.stamp) f

  -- of the first entry and a row behind it the one that stands first has the nearer message
  nearest_seen : (e : Entry) → look e.stamp ≡ Some e.message → (f : Option Row) → HoldsOf (λ r. e.stamp < r.stamp) f → HoldsOf (HasMessage look) f
      → message_of (earlier_of row_cmp (row_of e) f) ≡ nearest_of e.message (message_of f)
  nearest_seen e is None above has = is
  nearest_seen e is (Some y) above has =
      let m = has.message in
      let same : is_lt (row_cmp y (row_of e)) ≡ stands_before m.place e.message.place = less_by_place y (row_of e) above ∙ ap (λ place. stands_before place e.message.place) (sym has.place) in
      ap (λ b. message_of (cond b (Some y) (Some (row_of e)))) same ∙ by_place (stands_before m.place e.message.place) ∙ ap (nearest_of e.message) (sym has.is)
    where
      by_place : (b : Bool) → message_of (cond b (Some y) (Some (row_of e))) ≡ cond b (Some has.message) (Some e.message)
      by_place true = has.is
      by_place false = is

  module _ (p : MsgRow → Bool) (queue : List ℕ) (consumer : Option (List ℕ)) (all_in : AreAllIn queue consumer p) where
    found_step : (e : Entry) (es : List Entry) → look e.stamp ≡ Some e.message → AreRising (e ∷ es) → AreFound look es
        → message_of (find (Passes p) (rows_for queue consumer es)) ≡ least (filter p (messages_of es))
        → (b s : Bool) → p e.message ≡ b → stands_for queue consumer e.message ≡ s → (b ≡ true → s ≡ true)
        → message_of (find (Passes p) (rows_for queue consumer (e ∷ es))) ≡ least (filter p (messages_of (e ∷ es)))
    found_step e es is rising found ih true true h g both =
        let rows = rows_for queue consumer es in
        let kept = filter p (messages_of es) in
        let here : Passes p (row_of e) ≡ true = ap (λ o. option_map_or p o false) is ∙ h in
        let first = find (Passes p) rows in
        ap (λ t. message_of (find (Passes p) (with_row t (row_of e) rows))) g
        ∙ ap message_of (find_put row_cmp_total (Passes p) (row_of e) rows (rows_rise queue consumer es rising.1) ∙ ap (λ t. cond t (earlier_of row_cmp (row_of e) first) first) here)
        ∙ nearest_seen e is first (all_found (λ r. e.stamp < r.stamp) (Passes p) rows (rows_above queue consumer e.stamp es rising.0)) (all_found (HasMessage look) (Passes p) rows (rows_have queue consumer look es found))
        ∙ ap (nearest_of e.message) ih ∙ sym (ap (λ t. least (cond t (e.message ∷ kept) kept)) h ∙ least_first e.message kept)
    found_step e es is rising found ih true false h g both = absurd (false≢true (both refl))
    found_step e es is rising found ih false true h g both =
        let rows = rows_for queue consumer es in
        let kept = filter p (messages_of es) in
        let here : Passes p (row_of e) ≡ false = ap (λ o. option_map_or p o false) is ∙ h in
        let first = find (Passes p) rows in
        ap (λ t. message_of (find (Passes p) (with_row t (row_of e) rows))) g
        ∙ ap message_of (find_put row_cmp_total (Passes p) (row_of e) rows (rows_rise queue consumer es rising.1) ∙ ap (λ t. cond t (earlier_of row_cmp (row_of e) first) first) here)
        ∙ ih ∙ sym (ap (λ t. least (cond t (e.message ∷ kept) kept)) h)
    found_step e es is rising found ih false false h g both =
        let rows = rows_for queue consumer es in
        let kept = filter p (messages_of es) in
        ap (λ t. message_of (find (Passes p) (with_row t (row_of e) rows))) g ∙ ih ∙ sym (ap (λ t. least (cond t (e.message ∷ kept) kept)) h)

    found_is_least : (es : List Entry) → AreRising es → AreFound look es → message_of (find (Passes p) (rows_for queue consumer es)) ≡ least (filter p (messages_of es))
    found_is_least [] rising found = refl
    found_is_least (e ∷ es) rising found =
        found_step e es found.0 rising found.1 (found_is_least es rising.1 found.1) (p e.message) (stands_for queue consumer e.message) refl refl (all_in e.message)

  -- ---- past a place

  past_step : (P R : Row → Bool) (r : Row) (xs rs : List Row) (b c : Bool) → P r ≡ c → R r ≡ (c && b) → find P xs ≡ find R rs
      → find P (cond b (r ∷ xs) xs) ≡ find R (r ∷ rs)
  past_step P R r xs rs true true e f ih = ap (λ t. cond t (Some r) (find P xs)) e ∙ sym (ap (λ t. cond t (Some r) (find R rs)) f)
  past_step P R r xs rs true false e f ih = ap (λ t. cond t (Some r) (find P xs)) e ∙ ih ∙ sym (ap (λ t. cond t (Some r) (find R rs)) f)
  past_step P R r xs rs false true e f ih = ih ∙ sym (ap (λ t. cond t (Some r) (find R rs)) f)
  past_step P R r xs rs false false e f ih = ih ∙ sym (ap (λ t. cond t (Some r) (find R rs)) f)

  -- the first that passes past a place is the first that passes and stands past it
  found_past : (p : MsgRow → Bool) (place : List ℤ) (rows : List Row) → AllByRecursion (HasMessage look) rows
      → find (Passes p) (rows_past place rows) ≡ find (Passes (λ m. p m && stands_before place m.place)) rows
  found_past p place [] has = refl
  found_past p place (r ∷ rs) has =
      let h = has.0 in
      let m = h.message in
      past_step (Passes p) (Passes (λ x. p x && stands_before place x.place)) r (rows_past place rs) rs (stands_before place r.place) (p m)
      (ap (λ o. option_map_or p o false) h.is)
      (ap (λ o. option_map_or (λ x. p x && stands_before place x.place) o false) h.is ∙ ap (λ q. p m && stands_before place q) h.place)
      (found_past p place rs has.1)

-- ---- the laws

pub first_is_least : (queue : List ℕ) (consumer : Option (List ℕ)) (entries : List Entry) (test : MsgRow → Bool) → AreRising entries → AreAllIn queue consumer test
    → first_passing entries test (rows_for queue consumer entries) ≡ least (filter test (messages_of entries))
first_is_least queue consumer entries test rising all_in = found_is_least (message_at entries) test queue consumer all_in entries rising (are_found entries rising)

pub first_past_is_least : (queue : List ℕ) (consumer : Option (List ℕ)) (entries : List Entry) (test : MsgRow → Bool) (place : List ℤ) → AreRising entries → AreAllIn queue consumer test
    → first_passing entries test (rows_past place (rows_for queue consumer entries)) ≡ least (filter (λ m. stands_before place m.place) (filter test (messages_of entries)))
first_past_is_least queue consumer entries test place rising all_in =
    let past : MsgRow → Bool = λ m. stands_before place m.place in
    let look = message_at entries in
    ap (message_of look) (found_past look test place (rows_for queue consumer entries) (rows_have queue consumer look entries (are_found entries rising)))
    ∙ first_is_least queue consumer entries (λ m. test m && past m) rising (λ m h. all_in m (and_parts (test m) (past m) h).0)
    ∙ ap least (sym (filter_both test past (messages_of entries)))
