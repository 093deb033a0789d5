-- What edits of entries make of the rows of a queue and consumer.
use Rattle.std.proofs.Common.{◌≡◌, ◌≢◌, ℕ, ◌<◌, ℤ, zero, suc, Bool, true, false, cond, not, List, [], ◌∷◌, ◌++◌, filter, remove, Option, Some, refl, sym, ap, ◌∙◌, subst, arith}
use Rattle.std.proofs.lemmas.Bool.{and_left, false_from_ne_true}
use Rattle.std.proofs.lemmas.Option.{none-some, same_Some}
use Rattle.std.proofs.lemmas.Slice.Eq.{bytes_eq-Decides}
use Rattle.std.specs.Prelude.{slice_get, slice_set, if◌then◌else◌}
use Rattle.std.specs.List.{AllByRecursion}
use Rattle.std.specs.Ordering.{is_eq}
use Rattle.std.specs.Str.{bytes_eq}
use Rattle.row_tree.specs.Order.{IsRising, put_in_order}
use Rattle.queue_rows.specs.declared.rows.MsgRow.{MsgRow}
use Rattle.choice_laws.specs.Entries.{Entry, Row, AreAbove, AreBelow, AreRising, moved_row, row_cmp, row_of, rows_for, shows, stands_for, with_message, with_row, without_queue, without_row}
use Rattle.choice_laws.specs.EditLaws.{IsFree, StampsRise, StampsStayBelow}
use Rattle.choice_laws.proofs.Orders.{kept_apart, not_kept_itself, row_cmp_total, untied}
use Rattle.choice_laws.proofs.Putting.{all_kept, all_put, all_weaker, filter_put, kept_whole, put_either}
use Rattle.choice_laws.proofs.Standing.{all_untied, other_stamps, rows_above, rows_all, rows_rise}

-- ---- what holds of each item of a list that is edited

module _ {T : Type 0} (P : T → Type 0) where
  all_at : (xs : List T) (i : ℕ) (x : T) → AllByRecursion P xs → slice_get xs i ≡ Some x → P x
  all_at [] i x h e = absurd (none-some x e)
  all_at (y ∷ ys) zero x h e = subst P (same_Some y x e) h.0
  all_at (y ∷ ys) (suc i) x h e = all_at ys i x h.1 e

  all_last : (xs : List T) (x : T) → AllByRecursion P xs → P x → AllByRecursion P (xs ++ x ∷ [])
  all_last [] x h k = (k, tt)
  all_last (y ∷ ys) x h k = (h.0, all_last ys x h.1 k)

  all_removed : (xs : List T) (i : ℕ) → AllByRecursion P xs → AllByRecursion P (remove xs i)
  all_removed [] zero h = tt
  all_removed [] (suc i) h = tt
  all_removed (y ∷ ys) zero h = h.1
  all_removed (y ∷ ys) (suc i) h = (h.0, all_removed ys i h.1)

  all_set : (xs : List T) (i : ℕ) (x : T) → AllByRecursion P xs → P x → AllByRecursion P (slice_set xs i x)
  all_set [] i x h k = tt
  all_set (y ∷ ys) zero x h k = (k, h.1)
  all_set (y ∷ ys) (suc i) x h k = (h.0, all_set ys i x h.1 k)

-- ---- a row among others

-- no row has the stamp of that one
abbrev AreOthers : Row → List Row → Type 0
AreOthers row rows = AllByRecursion (λ r. r.stamp ≢ row.stamp) rows

none_taken : (row : Row) (rows : List Row) → AreOthers row rows → without_row row rows ≡ rows
none_taken row rows others =
    kept_whole (λ r. not (is_eq (row_cmp r row))) rows (all_weaker (λ r. r.stamp ≢ row.stamp) (λ r. not (is_eq (row_cmp r row)) ≡ true) (λ r differ. kept_apart r row differ) rows others)

take_own : (b : Bool) (row : Row) (rows : List Row) → IsRising row_cmp rows → AreOthers row rows → without_row row (with_row b row rows) ≡ rows
take_own true row rows rising others =
    let p : Row → Bool = λ r. not (is_eq (row_cmp r row)) in
    filter_put row_cmp_total p row rows rising
    ∙ ap (λ t. cond t (put_in_order row_cmp row (filter p rows)) (filter p rows)) (not_kept_itself row) ∙ none_taken row rows others
take_own false row rows rising others = none_taken row rows others

take_other : (b : Bool) (x row : Row) (rows : List Row) → IsRising row_cmp rows → x.stamp ≢ row.stamp → without_row row (with_row b x rows) ≡ with_row b x (without_row row rows)
take_other true x row rows rising differ =
    let p : Row → Bool = λ r. not (is_eq (row_cmp r row)) in
    filter_put row_cmp_total p x rows rising ∙ ap (λ t. cond t (put_in_order row_cmp x (filter p rows)) (filter p rows)) (kept_apart x row differ)
take_other false x row rows rising differ = refl

put_both : (a b : Bool) (x y : Row) (rows : List Row) → x.stamp ≢ y.stamp → with_row a x (with_row b y rows) ≡ with_row b y (with_row a x rows)
put_both true true x y rows differ = put_either row_cmp_total x y rows (untied x y differ)
put_both true false x y rows differ = refl
put_both false true x y rows differ = refl
put_both false false x y rows differ = refl

-- the row is the first entry's own
move_own : (before now : Bool) (row : Row) (rows : List Row) → IsRising row_cmp rows → AreOthers row rows → with_row now row rows ≡ moved_row before now row (with_row before row rows)
move_own true true row rows rising others = refl
move_own true false row rows rising others = sym (take_own true row rows rising others)
move_own false now row rows rising others = refl

-- the row is that of an entry behind
move_other : (before now b : Bool) (x row : Row) (rows : List Row) → IsRising row_cmp rows → x.stamp ≢ row.stamp → with_row b x (moved_row before now row rows) ≡ moved_row before now row (with_row b x rows)
move_other true true b x row rows rising differ = refl
move_other true false b x row rows rising differ = sym (take_other b x row rows rising differ)
move_other false now b x row rows rising differ = put_both b now x row rows differ

-- ---- the rows of a queue and consumer

module _ (queue : List ℕ) (consumer : Option (List ℕ)) where
  abbrev rows : List Entry → List Row
  rows es = rows_for queue consumer es

  abbrev stands : Entry → Bool
  stands e = stands_for queue consumer e.message

  differs : (x : Entry) (xs : List Entry) (i : ℕ) (e : Entry) → AreAbove x.stamp xs → slice_get xs i ≡ Some e → x.stamp ≢ e.stamp
  differs x xs i e above there same = let h : x.stamp < e.stamp = all_at (λ y. x.stamp < y.stamp) xs i e above there in omega arith

  others : (x : Entry) (xs : List Entry) → AreAbove x.stamp xs → AreOthers (row_of x) (rows xs)
  others x xs above = other_stamps x.stamp (rows xs) (rows_above queue consumer x.stamp xs above)

  pub rows_after_push : (entries : List Entry) (e : Entry) → AreBelow e.stamp entries → rows (entries ++ e ∷ []) ≡ with_row (stands e) (row_of e) (rows entries)
  rows_after_push [] e below = refl
  rows_after_push (x ∷ xs) e below =
      let h : x.stamp < e.stamp = below.0 in
      ap (with_row (stands x) (row_of x)) (rows_after_push xs e below.1) ∙ put_both (stands x) (stands e) (row_of x) (row_of e) (rows xs) (λ same. omega arith)

  pub rows_after_removal : (entries : List Entry) (at : ℕ) (e : Entry) → AreRising entries → slice_get entries at ≡ Some e → rows (remove entries at) ≡ without_row (row_of e) (rows entries)
  rows_after_removal [] at e rising there = absurd (none-some e there)
  rows_after_removal (x ∷ xs) zero e rising there =
      sym (take_own (stands x) (row_of x) (rows xs) (rows_rise queue consumer xs rising.1) (others x xs rising.0))
      ∙ ap (λ y. without_row (row_of y) (rows (x ∷ xs))) (same_Some x e there)
  rows_after_removal (x ∷ xs) (suc i) e rising there =
      ap (with_row (stands x) (row_of x)) (rows_after_removal xs i e rising.1 there)
      ∙ sym (take_other (stands x) (row_of x) (row_of e) (rows xs) (rows_rise queue consumer xs rising.1) (differs x xs i e rising.0 there))

  abbrev IsChanged : List Entry → ℕ → MsgRow → Entry → Type 0
  IsChanged entries at m e = m.place ≡ e.message.place → rows (with_message entries at e m) ≡ moved_row (stands e) (stands_for queue consumer m) (row_of e) (rows entries)

  first_changed : (x : Entry) (xs : List Entry) (m : MsgRow) → AreRising (x ∷ xs) → IsChanged (x ∷ xs) zero m x
  first_changed x xs m rising keeps =
      let now = stands_for queue consumer m in
      let row_at : List ℤ → Row = λ place. record { place = place; stamp = x.stamp } in
      ap (λ place. with_row now (row_at place) (rows xs)) keeps
      ∙ move_own (stands x) now (row_of x) (rows xs) (rows_rise queue consumer xs rising.1) (others x xs rising.0)

  pub rows_after_change : (entries : List Entry) (at : ℕ) (e : Entry) (m : MsgRow) → AreRising entries → slice_get entries at ≡ Some e → IsChanged entries at m e
  rows_after_change [] at e m rising there = absurd (none-some e there)
  rows_after_change (x ∷ xs) zero e m rising there = subst (IsChanged (x ∷ xs) zero m) (same_Some x e there) (first_changed x xs m rising)
  rows_after_change (x ∷ xs) (suc i) e m rising there = λ keeps.
      ap (with_row (stands x) (row_of x)) (rows_after_change xs i e m rising.1 there keeps)
      ∙ move_other (stands e) (stands_for queue consumer m) (stands x) (row_of x) (row_of e) (rows xs) (rows_rise queue consumer xs rising.1) (differs x xs i e rising.0 there)

  moved_nowhere : (b : Bool) (row : Row) (xs : List Row) → moved_row b b row xs ≡ xs
  moved_nowhere true row xs = refl
  moved_nowhere false row xs = refl

  pub rows_stay : (entries : List Entry) (at : ℕ) (e : Entry) (m : MsgRow) → AreRising entries → slice_get entries at ≡ Some e → m.place ≡ e.message.place
      → stands_for queue consumer m ≡ stands e → rows (with_message entries at e m) ≡ rows entries
  rows_stay entries at e m rising there keeps alike =
      rows_after_change entries at e m rising there keeps ∙ ap (λ b. moved_row (stands e) b (row_of e) (rows entries)) alike ∙ moved_nowhere (stands e) (row_of e) (rows entries)

  -- ---- a queue's messages go

  module _ (dropped : List ℕ) where
    apart : (m : MsgRow) → bytes_eq m.queue dropped ≢ bytes_eq queue dropped → stands_for queue consumer m ≡ false
    apart m differ =
        and_left (bytes_eq m.queue queue) (shows m consumer) (false_from_ne_true (bytes_eq m.queue queue) (λ e. differ (ap (λ q. bytes_eq q dropped) ((bytes_eq-Decides m.queue queue).0 e))))

    drop_step : (x : Entry) (xs : List Entry) (t s : Bool) → bytes_eq x.message.queue dropped ≡ t → bytes_eq queue dropped ≡ s
        → rows (without_queue dropped xs) ≡ (if s then [] else rows xs) → rows (cond (not t) (x ∷ without_queue dropped xs) (without_queue dropped xs)) ≡ (if s then [] else rows (x ∷ xs))
    drop_step x xs true true e f ih = ih
    drop_step x xs true false e f ih =
        let gone = apart x.message (λ same. let both : true ≡ false = sym e ∙ same ∙ f in cc both) in
        ih ∙ sym (ap (λ b. with_row b (row_of x) (rows xs)) gone)
    drop_step x xs false true e f ih =
        let gone = apart x.message (λ same. let both : false ≡ true = sym e ∙ same ∙ f in cc both) in
        ap (λ b. with_row b (row_of x) (rows (without_queue dropped xs))) gone ∙ ih
    drop_step x xs false false e f ih = ap (with_row (stands x) (row_of x)) ih

    pub rows_after_drop : (entries : List Entry) → rows (without_queue dropped entries) ≡ (if bytes_eq queue dropped then [] else rows entries)
    rows_after_drop [] =
        let Q : Bool → Type 0 = λ b. [] ≡ cond b [] (rows []) in
        elim (bytes_eq queue dropped) as Q [ true ↦ refl | false ↦ refl ]
    rows_after_drop (x ∷ xs) = drop_step x xs (bytes_eq x.message.queue dropped) (bytes_eq queue dropped) refl refl (rows_after_drop xs)

  -- ---- rows that are not there

  pub new_row_is_free : (entries : List Entry) (e : Entry) → AreBelow e.stamp entries → IsFree (row_of e) (rows entries)
  new_row_is_free entries e below =
      all_untied (row_of e) (rows entries) (rows_all queue consumer (λ r. r.stamp ≢ e.stamp) entries (all_weaker (λ x. x.stamp < e.stamp) (λ x. x.stamp ≢ e.stamp) (λ x less same. omega arith) entries below))

  others_behind : (b : Bool) (x e : Entry) (xs : List Entry) → x.stamp ≢ e.stamp → AreOthers (row_of e) (rows xs) → AreOthers (row_of e) (with_row b (row_of x) (rows xs))
  others_behind true x e xs differ h = all_put (λ r. r.stamp ≢ e.stamp) row_cmp (row_of x) (rows xs) differ h
  others_behind false x e xs differ h = h

  missing : (entries : List Entry) (at : ℕ) (e : Entry) → AreRising entries → slice_get entries at ≡ Some e → stands e ≡ false → AreOthers (row_of e) (rows entries)
  missing [] at e rising there none = absurd (none-some e there)
  missing (x ∷ xs) zero e rising there none =
      let gone : stands x ≡ false = ap stands (same_Some x e there) ∙ none in
      subst (λ y. AreOthers (row_of y) (rows (x ∷ xs))) (same_Some x e there)
      (subst (AreOthers (row_of x)) (sym (ap (λ b. with_row b (row_of x) (rows xs)) gone)) (others x xs rising.0))
  missing (x ∷ xs) (suc i) e rising there none = others_behind (stands x) x e xs (differs x xs i e rising.0 there) (missing xs i e rising.1 there none)

  pub missing_row_is_free : (entries : List Entry) (at : ℕ) (e : Entry) → AreRising entries → slice_get entries at ≡ Some e → stands e ≡ false → IsFree (row_of e) (rows entries)
  missing_row_is_free entries at e rising there none = all_untied (row_of e) (rows entries) (missing entries at e rising there none)

-- ---- stamps

rise_pushed : (entries : List Entry) (e : Entry) → AreRising entries → AreBelow e.stamp entries → AreRising (entries ++ e ∷ [])
rise_pushed [] e rising below = (tt, tt)
rise_pushed (x ∷ xs) e rising below = (all_last (λ y. x.stamp < y.stamp) xs e rising.0 below.0, rise_pushed xs e rising.1 below.1)

rise_removed : (entries : List Entry) (at : ℕ) → AreRising entries → AreRising (remove entries at)
rise_removed [] zero rising = tt
rise_removed [] (suc i) rising = tt
rise_removed (x ∷ xs) zero rising = rising.1
rise_removed (x ∷ xs) (suc i) rising = (all_removed (λ y. x.stamp < y.stamp) xs i rising.0, rise_removed xs i rising.1)

rise_changed : (entries : List Entry) (at : ℕ) (e : Entry) (m : MsgRow) → AreRising entries → slice_get entries at ≡ Some e → AreRising (with_message entries at e m)
rise_changed [] at e m rising there = absurd (none-some e there)
rise_changed (x ∷ xs) zero e m rising there = (subst (λ y. AreAbove y.stamp xs) (same_Some x e there) rising.0, rising.1)
rise_changed (x ∷ xs) (suc i) e m rising there =
    (all_set (λ y. x.stamp < y.stamp) xs i (record { stamp = e.stamp; message = m }) rising.0 (all_at (λ y. x.stamp < y.stamp) xs i e rising.0 there), rise_changed xs i e m rising.1 there)

rise_kept : (p : Entry → Bool) (entries : List Entry) → AreRising entries → AreRising (filter p entries)
rise_kept p [] rising = tt
rise_kept p (x ∷ xs) rising =
    let Q : Bool → Type 0 = λ b. AreRising (cond b (x ∷ filter p xs) (filter p xs)) in
    elim (p x) as Q [ true ↦ (all_kept (λ y. x.stamp < y.stamp) p xs rising.0, rise_kept p xs rising.1) | false ↦ rise_kept p xs rising.1 ]

pub stamps_rise : StampsRise
stamps_rise =
    record { push = rise_pushed; removal = rise_removed; change = rise_changed; drop = λ entries dropped rising. rise_kept (λ e. not (bytes_eq e.message.queue dropped)) entries rising }

pub stamps_stay_below : StampsStayBelow
stamps_stay_below = record {
  push = λ n entries e below less. all_last (λ x. x.stamp < n) entries e below less;
  later = λ n more entries le below. all_weaker (λ x. x.stamp < n) (λ x. x.stamp < more) (λ x less. omega arith) entries below;
  removal = λ n entries at below. all_removed (λ x. x.stamp < n) entries at below;
  change = λ n entries at e m below there. all_set (λ x. x.stamp < n) entries at (record { stamp = e.stamp; message = m }) below (all_at (λ x. x.stamp < n) entries at e below there);
  drop = λ n entries dropped below. all_kept (λ x. x.stamp < n) (λ e. not (bytes_eq e.message.queue dropped)) entries below;
}
