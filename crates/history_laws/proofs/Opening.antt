-- How the slot fates begin, in an opening that is valid.
use Rattle.std.proofs.Common.{◌≡◌, ◌≤◌, ◌<◌, ℕ, suc, List, [], ◌∷◌, Bool, true, false, refl, sym, ap, ◌∙◌, arith, Option, Some, None, ◌==◌}
use Rattle.std.specs.Prelude.{find, option_and_then, is_some, is_none, AllPairs, All, get_or}
use Rattle.std.proofs.lemmas.Bool.{eqb-true, eqb-false, ne_eqb, false≢true}
use Rattle.std.proofs.lemmas.List.Elements.{All-head, All-tail}
use Rattle.queue_rows.specs.Rows.{find_message}
use Rattle.queue_rows.specs.Valid.{is_valid}
use Rattle.history_laws.specs.Fates.{slot_fate_of, slot_fate_in}
use Rattle.history_laws.specs.Proper.{ids_put_in, AreProper}
use Rattle.queue_rows.specs.declared.tables.Tables.{Tables}
use Rattle.queue_rows.specs.declared.rows.MsgRow.{MsgRow}
use Rattle.queue_rows.specs.declared.change.Change.{Change}
use Rattle.row_laws.proofs.Finding.{is_single, single-yes, single-no, find-no, some_is}
use Rattle.row_laws.proofs.Distinctly.{single_if_distinct}
use Rattle.valid_laws.proofs.Parts.{valid_distinct, valid_id}
use Rattle.history_laws.proofs.SlotFates.{AgreesSo}
use Rattle.history_laws.proofs.Holding.{Holds, IsNew}

-- ---- ids that are put in

pairs-head : (R : ℕ → ℕ → Type 0) (x : ℕ) (xs : List ℕ) → AllPairs R (x ∷ xs) → All (R x) xs
pairs-head R x xs h = λ k d lt. h 0 (suc k) d (omega arith) (omega (arith, lt))

pairs-tail : (R : ℕ → ℕ → Type 0) (x : ℕ) (xs : List ℕ) → AllPairs R (x ∷ xs) → AllPairs R xs
pairs-tail R x xs h = λ i j d lt le. h (suc i) (suc j) d (omega (arith, lt)) (omega (arith, le))

none_if_apart : (id : ℕ) (xs : List ℕ) → All (λ n. (n == id) ≡ false) xs → find (λ n. n == id) xs ≡ None
none_if_apart id [] h = refl
none_if_apart id (x ∷ xs) h = find-no (λ n. n == id) x xs (All-head (λ n. (n == id) ≡ false) x xs h) ∙ none_if_apart id xs (All-tail (λ n. (n == id) ≡ false) x xs h)

single_step : (id x : ℕ) (xs : List ℕ) (b : Bool) → (x == id) ≡ b → All (λ n. (x == n) ≡ false) xs → is_single (λ n. n == id) xs ≡ true → is_single (λ n. n == id) (x ∷ xs) ≡ true
single_step id x xs true e h ih =
    single-yes (λ n. n == id) x xs e ∙ ap is_none (none_if_apart id xs (λ k d lt. ne_eqb (get_or xs k d) id (λ same. eqb-false x (get_or xs k d) (h k d lt) (eqb-true x id e ∙ sym same))))
single_step id x xs false e h ih = single-no (λ n. n == id) x xs e ∙ ih

single_if_apart : (id : ℕ) (xs : List ℕ) → AllPairs (λ a b. (a == b) ≡ false) xs → is_single (λ n. n == id) xs ≡ true
single_if_apart id [] h = refl
single_if_apart id (x ∷ xs) h =
    single_step id x xs (x == id) refl (pairs-head (λ a b. (a == b) ≡ false) x xs h) (single_if_apart id xs (pairs-tail (λ a b. (a == b) ≡ false) x xs h))

none_below : (id next : ℕ) (xs : List ℕ) → id < next → All (λ n. next ≤ n) xs → find (λ n. n == id) xs ≡ None
none_below id next xs lt h = none_if_apart id xs (λ k d l. let le = h k d l in ne_eqb (get_or xs k d) id (λ same. absurd (omega (arith, le, lt, same))))

-- ---- the beginning

slot_fate_in_is : (t : Tables) (id slot : ℕ) (o : Option MsgRow) → AgreesSo o slot (option_and_then (slot_fate_of slot) o)
slot_fate_in_is t id slot None = λ some. absurd (false≢true some)
slot_fate_in_is t id slot (Some m) = refl

some_slot_fate : (slot : ℕ) (o : Option MsgRow) → is_some (option_and_then (slot_fate_of slot) o) ≡ true → is_some o ≡ true
some_slot_fate slot None h = h
some_slot_fate slot (Some m) h = refl

row_new : (opening : Tables) (cs : List Change) (id : ℕ) → is_valid opening ≡ true → AreProper opening cs → is_some (find_message opening id) ≡ true → IsNew id cs
row_new opening cs id v p s = let m = some_is (find_message opening id) s in none_below id opening.next (ids_put_in cs) (valid_id opening id m.0 v m.1) p.new.later

pub holds_at_first : (opening : Tables) (cs : List Change) (id slot : ℕ) → is_valid opening ≡ true → AreProper opening cs → Holds id slot opening (slot_fate_in opening id slot) cs
holds_at_first opening cs id slot v p = record {
  single = single_if_distinct opening id (valid_distinct opening v);
  agrees = slot_fate_in_is opening id slot (find_message opening id);
  once = single_if_apart id (ids_put_in cs) p.new.distinct;
  row_is_new = row_new opening cs id v p;
  slot_fate_is_new = λ s. row_new opening cs id v p (some_slot_fate slot (find_message opening id) s);
}
