-- How many rows are looked at.
use Rattle.std.proofs.Common.{◌≡◌, ℕ, ◌+◌, ◌*◌, ◌≤◌, suc, ℤ, Bool, true, false, cond, not, List, [], ◌∷◌, filter, length, Option, Some, refl, ap, ◌∙◌, ◌&&◌, arith}
use Rattle.std.specs.Option.{option_map_or}
use Rattle.std.specs.Ordering.{is_lt}
use Rattle.std.specs.declared.cmp.Ordering.{Ordering}
use Rattle.row_tree.specs.Order.{put_in_order}
use Rattle.place_keys.specs.Place.{stands_before}
use Rattle.queue_rows.specs.declared.rows.MsgRow.{MsgRow}
use Rattle.choice_laws.specs.Entries.{Entry, Row, AreRising, message_at, messages_of, row_cmp, row_of, rows_for, rows_past, stands_for, with_row}
use Rattle.choice_laws.specs.Choosing.{looks, passes}
use Rattle.choice_laws.specs.LookLaws.{passed_over}
use Rattle.choice_laws.proofs.Standing.{AreFound, are_found}

-- how many fail
abbrev failing : {T : Type 0} → (T → Bool) → List T → ℕ
failing test xs = length (filter (λ x. not (test x)) xs)

looks_few : (test : Row → Bool) (rows : List Row) → looks test rows ≤ failing test rows + 1
looks_few test [] = omega arith
looks_few test (r ∷ rs) =
    let rest = filter (λ x. not (test x)) rs in
    let ih : looks test rs ≤ length rest + 1 = looks_few test rs in
    let Q : Bool → Type 0 = λ b. cond b 1 (1 + looks test rs) ≤ length (cond (not b) (r ∷ rest) rest) + 1 in
    elim (test r) as Q [ true ↦ omega arith | false ↦ omega arith ]

fewer_kept : {T : Type 0} (p q : T → Bool) (xs : List T) → length (filter p (filter q xs)) ≤ length (filter p xs)
fewer_kept p q [] = omega arith
fewer_kept p q (x ∷ xs) =
    let ih : length (filter p (filter q xs)) ≤ length (filter p xs) = fewer_kept p q xs in
    let Q : Bool → Type 0 = λ b. length (filter p (cond b (x ∷ filter q xs) (filter q xs))) ≤ length (cond (p x) (x ∷ filter p xs) (filter p xs)) in
    let R : Bool → Type 0 = λ c. length (cond c (x ∷ filter p (filter q xs)) (filter p (filter q xs))) ≤ length (cond c (x ∷ filter p xs) (filter p xs)) in
    let S : Bool → Type 0 = λ c. length (filter p (filter q xs)) ≤ length (cond c (x ∷ filter p xs) (filter p xs)) in
    elim (q x) as Q [
      | true ↦ elim (p x) as R [ true ↦ omega arith | false ↦ ih ]
      | false ↦ elim (p x) as S [ true ↦ omega arith | false ↦ ih ]
    ]

count_behind : {T : Type 0} (x y : T) (ks zs : List T) (b c : Bool) → length zs ≡ length (cond b (x ∷ ks) ks)
    → length (cond c (y ∷ zs) zs) ≡ length (cond b (x ∷ cond c (y ∷ ks) ks) (cond c (y ∷ ks) ks))
count_behind x y ks zs true true e = ap suc e
count_behind x y ks zs true false e = e
count_behind x y ks zs false true e = ap suc e
count_behind x y ks zs false false e = e

-- a row that is put in counts as one in front
count_put : {T : Type 0} (order : T → T → Ordering) (p : T → Bool) (x : T) (xs : List T) → length (filter p (put_in_order order x xs)) ≡ length (filter p (x ∷ xs))
count_put order p x [] = refl
count_put order p x (y ∷ ys) =
    let Q : Bool → Type 0 = λ b. length (filter p (cond b (y ∷ put_in_order order x ys) (x ∷ y ∷ ys))) ≡ length (filter p (x ∷ y ∷ ys)) in
    elim (is_lt (order y x)) as Q [
      | true ↦ count_behind x y (filter p ys) (filter p (put_in_order order x ys)) (p x) (p y) (count_put order p x ys)
      | false ↦ refl
    ]

same_step : {A B : Type 0} (x : A) (y : B) (xs : List A) (ys : List B) (b : Bool) → length xs ≡ length ys → length (cond b (x ∷ xs) xs) ≡ length (cond b (y ∷ ys) ys)
same_step x y xs ys true h = ap suc h
same_step x y xs ys false h = h

-- the rows that fail are those of the messages that stand there and fail
module _ (queue : List ℕ) (consumer : Option (List ℕ)) (look : ℕ → Option MsgRow) (test : MsgRow → Bool) where
  abbrev Passes : Row → Bool
  Passes r = option_map_or test (look r.stamp) false

  over_step : (e : Entry) (es : List Entry) (s : Bool) → look e.stamp ≡ Some e.message → failing Passes (rows_for queue consumer es) ≡ passed_over queue consumer test (messages_of es)
      → failing Passes (with_row s (row_of e) (rows_for queue consumer es))
      ≡ length (cond (s && not (test e.message)) (e.message ∷ filter (λ m. stands_for queue consumer m && not (test m)) (messages_of es)) (filter (λ m. stands_for queue consumer m && not (test m)) (messages_of es)))
  over_step e es true is ih =
      let rows = rows_for queue consumer es in
      let rest = filter (λ r. not (Passes r)) rows in
      let passed = filter (λ m. stands_for queue consumer m && not (test m)) (messages_of es) in
      count_put row_cmp (λ r. not (Passes r)) (row_of e) rows
      ∙ ap (λ o. length (cond (not (option_map_or test o false)) (row_of e ∷ rest) rest)) is
      ∙ same_step (row_of e) e.message rest passed (not (test e.message)) ih
  over_step e es false is ih = ih

  over_all : (es : List Entry) → AreFound look es → failing Passes (rows_for queue consumer es) ≡ passed_over queue consumer test (messages_of es)
  over_all [] found = refl
  over_all (e ∷ es) found = over_step e es (stands_for queue consumer e.message) found.0 (over_all es found.1)

module _ (queue : List ℕ) (consumer : Option (List ℕ)) (entries : List Entry) (test : MsgRow → Bool) where
  over : AreRising entries → failing (passes entries test) (rows_for queue consumer entries) ≡ passed_over queue consumer test (messages_of entries)
  over rising = over_all queue consumer (message_at entries) test entries (are_found entries rising)

  pub looks_are_few : AreRising entries → looks (passes entries test) (rows_for queue consumer entries) ≤ passed_over queue consumer test (messages_of entries) + 1
  looks_are_few rising = let few = looks_few (passes entries test) (rows_for queue consumer entries) in let same = over rising in omega arith

  pub looks_past_are_few : (place : List ℤ) → AreRising entries → looks (passes entries test) (rows_past place (rows_for queue consumer entries)) ≤ passed_over queue consumer test (messages_of entries) + 1
  looks_past_are_few place rising =
      let rows = rows_for queue consumer entries in
      let few = looks_few (passes entries test) (rows_past place rows) in
      let fewer = fewer_kept (λ r. not (passes entries test r)) (λ r. stands_before place r.place) rows in
      let same = over rising in
      omega arith

  pub both_searches_are_short : (place : List ℤ) → AreRising entries
      → looks (passes entries test) (rows_past place (rows_for queue consumer entries)) + looks (passes entries test) (rows_for queue consumer entries)
      ≤ 2 * (passed_over queue consumer test (messages_of entries) + 1)
  both_searches_are_short place rising = let whole = looks_are_few rising in let part = looks_past_are_few place rising in omega arith
