-- What holds of all rows of a queue and consumer.
use Rattle.std.proofs.Common.{◌≡◌, ◌≢◌, ℕ, ◌<◌, Bool, true, false, List, [], ◌∷◌, Option, Some, refl, ap, ◌∙◌, arith, ◌==◌, cond}
use Rattle.std.proofs.lemmas.Bool.{eq-eqb, ne_eqb}
use Rattle.std.proofs.lemmas.List.Elements.{All-from_recursion}
use Rattle.std.specs.Prelude.{find, option_map}
use Rattle.std.specs.List.{All, AllByRecursion}
use Rattle.std.specs.declared.cmp.Ordering.TheVariants.{Equal}
use Rattle.row_tree.specs.Order.{IsRising}
use Rattle.row_tree.proofs.Rising.{rising_put}
use Rattle.queue_rows.specs.declared.rows.MsgRow.{MsgRow}
use Rattle.choice_laws.specs.Entries.{Entry, Row, AreAbove, AreRising, message_at, row_cmp, row_of, rows_for, stands_for, with_row}
use Rattle.choice_laws.specs.ChoiceLaws.{LeadsTo}
use Rattle.choice_laws.proofs.Orders.{row_cmp_total, untied}
use Rattle.choice_laws.proofs.Putting.{all_put, all_weaker}

module _ (queue : List ℕ) (consumer : Option (List ℕ)) where
  -- what holds of the row of each entry holds of each row
  pub rows_all : (P : Row → Type 0) (es : List Entry) → AllByRecursion (λ e. P (row_of e)) es → AllByRecursion P (rows_for queue consumer es)
  rows_all P [] h = tt
  rows_all P (e ∷ es) h =
      let Q : Bool → Type 0 = λ b. AllByRecursion P (with_row b (row_of e) (rows_for queue consumer es)) in
      elim (stands_for queue consumer e.message) as Q [
        | true ↦ all_put P row_cmp (row_of e) (rows_for queue consumer es) h.0 (rows_all P es h.1)
        | false ↦ rows_all P es h.1
      ]

  -- and what holds of the row of each entry that stands there
  pub rows_all_standing : (P : Row → Type 0) (es : List Entry) → AllByRecursion (λ e. stands_for queue consumer e.message ≡ true → P (row_of e)) es → AllByRecursion P (rows_for queue consumer es)
  rows_all_standing P [] h = tt
  rows_all_standing P (e ∷ es) h =
      let Q : Bool → Type 0 = λ b. stands_for queue consumer e.message ≡ b → AllByRecursion P (with_row b (row_of e) (rows_for queue consumer es)) in
      elim (stands_for queue consumer e.message) as Q [
        | true ↦ λ stands. all_put P row_cmp (row_of e) (rows_for queue consumer es) (h.0 stands) (rows_all_standing P es h.1)
        | false ↦ λ stands. rows_all_standing P es h.1
      ] refl

  pub rows_above : (n : ℕ) (es : List Entry) → AreAbove n es → AllByRecursion (λ r. n < r.stamp) (rows_for queue consumer es)
  rows_above n es h = rows_all (λ r. n < r.stamp) es h

-- a row ties with none whose stamp is another
pub all_untied : (row : Row) (rows : List Row) → AllByRecursion (λ r. r.stamp ≢ row.stamp) rows → All (λ r. row_cmp r row ≢ Equal) rows
all_untied row rows h = All-from_recursion (λ r. row_cmp r row ≢ Equal) rows (all_weaker (λ r. r.stamp ≢ row.stamp) (λ r. row_cmp r row ≢ Equal) (λ r differ. untied r row differ) rows h)

pub other_stamps : (n : ℕ) (rows : List Row) → AllByRecursion (λ r. n < r.stamp) rows → AllByRecursion (λ r. r.stamp ≢ n) rows
other_stamps n rows h = all_weaker (λ r. n < r.stamp) (λ r. r.stamp ≢ n) (λ r above e. omega arith) rows h

-- the rows stand in their order
pub rows_rise : (queue : List ℕ) (consumer : Option (List ℕ)) (es : List Entry) → AreRising es → IsRising row_cmp (rows_for queue consumer es)
rows_rise queue consumer [] h = tt
rows_rise queue consumer (e ∷ es) h =
    let rows = rows_for queue consumer es in
    let free = all_untied (row_of e) rows (other_stamps e.stamp rows (rows_above queue consumer e.stamp es h.0)) in
    let Q : Bool → Type 0 = λ b. IsRising row_cmp (with_row b (row_of e) rows) in
    elim (stands_for queue consumer e.message) as Q [
      | true ↦ rising_put row_cmp_total (row_of e) rows free (rows_rise queue consumer es h.1)
      | false ↦ rows_rise queue consumer es h.1
    ]

-- ---- the message of a row

-- the message with the row's stamp stands at its place
pub record HasMessage (look : ℕ → Option MsgRow) (r : Row) : Type 0 where
  pub message : MsgRow
  pub is : look r.stamp ≡ Some message
  pub place : message.place ≡ r.place

-- each entry is found by its stamp
abbrev pub AreFound : (ℕ → Option MsgRow) → List Entry → Type 0
AreFound look es = AllByRecursion (λ e. look e.stamp ≡ Some e.message) es

found_first : (e : Entry) (es : List Entry) (stamp : ℕ) (b : Bool) → (e.stamp == stamp) ≡ b → message_at (e ∷ es) stamp ≡ option_map (λ x. x.message) (cond b (Some e) (find (λ x. x.stamp == stamp) es))
found_first e es stamp b is = ap (λ t. option_map (λ x. x.message) (cond t (Some e) (find (λ x. x.stamp == stamp) es))) is

found_behind : (e : Entry) (es xs : List Entry) → AreAbove e.stamp xs → AreFound (message_at es) xs → AreFound (message_at (e ∷ es)) xs
found_behind e es [] above found = tt
found_behind e es (x ∷ xs) above found =
    let h : e.stamp < x.stamp = above.0 in
    (found_first e es x.stamp false (ne_eqb e.stamp x.stamp (λ same. omega arith)) ∙ found.0, found_behind e es xs above.1 found.1)

-- where stamps rise each entry is the one that is found by its stamp
pub are_found : (es : List Entry) → AreRising es → AreFound (message_at es) es
are_found [] h = tt
are_found (e ∷ es) h = (found_first e es e.stamp true (eq-eqb e.stamp e.stamp refl), found_behind e es es h.0 (are_found es h.1))

pub rows_have : (queue : List ℕ) (consumer : Option (List ℕ)) (look : ℕ → Option MsgRow) (es : List Entry) → AreFound look es → AllByRecursion (HasMessage look) (rows_for queue consumer es)
rows_have queue consumer look es found =
    rows_all queue consumer (HasMessage look) es
    (all_weaker (λ e. look e.stamp ≡ Some e.message) (λ e. HasMessage look (row_of e)) (λ e is. record { message = e.message; is = is; place = refl }) es found)

-- each row leads to its message
pub rows_lead : (queue : List ℕ) (consumer : Option (List ℕ)) (entries : List Entry) → AreRising entries → All (LeadsTo queue consumer entries) (rows_for queue consumer entries)
rows_lead queue consumer entries rising =
    All-from_recursion (LeadsTo queue consumer entries) (rows_for queue consumer entries)
    (rows_all_standing queue consumer (LeadsTo queue consumer entries) entries
    (all_weaker (λ e. message_at entries e.stamp ≡ Some e.message) (λ e. stands_for queue consumer e.message ≡ true → LeadsTo queue consumer entries (row_of e))
    (λ e is stands. record { message = e.message; is = is; place = refl; stands = stands }) entries (are_found entries rising)))
