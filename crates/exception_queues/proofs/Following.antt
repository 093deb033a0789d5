-- How outcomes follow changes one by one, and what they settle.
use Rattle.std.proofs.Common.{◌≡◌, ℕ, List, [], ◌∷◌, ◌++◌, Bool, true, false, cond, Option, Some, None, Result, Ok, Err, IfSome, OnOk, inl, inr, refl, sym, ◌∙◌, ap, subst, append_assoc, append-nil}
use Rattle.std.specs.Prelude.{◌==◌, ◌||◌, fold, find, is_some}
use Rattle.std.specs.List.{flat_map, list_any}
use Rattle.std.specs.Option.{unwrap_or}
use Rattle.std.proofs.lemmas.Bool.{cases_Bool, cases_eq, cond-false, cond_both, eqb-true, eq-eqb, ne_eqb, or_left, or_parts, or_right}
use Rattle.std.proofs.lemmas.List.Folds.{list_any-append}
use Rattle.std.proofs.lemmas.List.Sums.{fold_push}
use Rattle.queue_rows.specs.Rows.{find_message, with_slot}
use Rattle.queue_rows.specs.Tables.{in_state, retried, moved_to}
use Rattle.queue_rows.specs.Settling.{named_by, with_name, names_of, if_it, left_by, message_after, moment_by, last_moment, settling}
use Rattle.queue_rows.specs.declared.tables.Tables.{Tables}
use Rattle.queue_rows.specs.declared.rows.MsgRow.{MsgRow}
use Rattle.queue_rows.specs.declared.rows.SlotState.TheVariants as states
use Rattle.queue_rows.specs.declared.change.Change.{Change}
use Rattle.queue_rows.specs.declared.change.Change.TheVariants as changes
use Rattle.exception_queues.specs.Left.{left_some}
use Rattle.exception_queues.specs.Outcomes.{outcome_of, outcome_after, next_outcome, outcome_if_named, named_with, settling_by, AreOutcomes, IsFollowed}
use Rattle.exception_queues.specs.declared.outcomes.Outcomes.{Outcomes}

-- ---- a change that names another message, or none

abbrev is_named : ℕ → Option ℕ → Bool
is_named q None = false
is_named q (Some id) = q == id

left_other : (m : MsgRow) (c : Change) → is_named m.id (named_by c) ≡ false → left_by m c ≡ Some m
left_other m (changes.Retried id slot retries until at) h = cond-false (m.id == id) (Some (with_slot slot (retried retries until at) m)) (Some m) h
left_other m (changes.Ready id slot at) h = cond-false (m.id == id) (Some (with_slot slot (in_state states.Ready at) m)) (Some m) h
left_other m (changes.Done id slot at) h = cond-false (m.id == id) (Some (with_slot slot (in_state states.Processed at) m)) (Some m) h
left_other m (changes.Expired id slot at) h = cond-false (m.id == id) (Some (with_slot slot (in_state states.Expired at) m)) (Some m) h
left_other m (changes.Dropped id slot at) h = cond-false (m.id == id) (Some (with_slot slot (in_state states.Dropped at) m)) (Some m) h
left_other m (changes.Moved id queue at) h = cond-false (m.id == id) (Some (moved_to queue at m)) (Some m) h
left_other m (changes.Purged id) h = cond-false (m.id == id) None (Some m) h
left_other m _ h = refl

either_way : (a b : ℕ) → (a == b) ≡ (b == a)
either_way a b = elim (cases_eq a b) [
  | inl same ↦ eq-eqb a b same ∙ sym (eq-eqb b a (sym same))
  | inr other ↦ ne_eqb a b other ∙ sym (ne_eqb b a (λ same. other (sym same)))
]

moment_other : (q before : ℕ) (c : Change) → is_named q (named_by c) ≡ false → moment_by q before c ≡ before
moment_other q before (changes.Retried id slot retries until at) h = cond-false (id == q) at before (either_way id q ∙ h)
moment_other q before (changes.Ready id slot at) h = cond-false (id == q) at before (either_way id q ∙ h)
moment_other q before (changes.Done id slot at) h = cond-false (id == q) at before (either_way id q ∙ h)
moment_other q before (changes.Expired id slot at) h = cond-false (id == q) at before (either_way id q ∙ h)
moment_other q before (changes.Dropped id slot at) h = cond-false (id == q) at before (either_way id q ∙ h)
moment_other q before (changes.Moved id queue at) h = cond-false (id == q) at before (either_way id q ∙ h)
moment_other q before _ h = refl

-- ---- a message keeps its number

abbrev HasNumber : ℕ → Option MsgRow → Type 0
HasNumber q m = IfSome m (λ row. row.id ≡ q)

it_keeps : (q : ℕ) (m : MsgRow) (id : ℕ) (left : Option MsgRow) → m.id ≡ q → HasNumber q left → HasNumber q (if_it m id left)
it_keeps q m id left is h = cond_both (m.id == id) left (Some m) (HasNumber q) (λ _. h) (λ _. is)

left_keeps : (q : ℕ) (m : MsgRow) (c : Change) → m.id ≡ q → HasNumber q (left_by m c)
left_keeps q m (changes.Retried id slot retries until at) is = it_keeps q m id (Some (with_slot slot (retried retries until at) m)) is is
left_keeps q m (changes.Ready id slot at) is = it_keeps q m id (Some (with_slot slot (in_state states.Ready at) m)) is is
left_keeps q m (changes.Done id slot at) is = it_keeps q m id (Some (with_slot slot (in_state states.Processed at) m)) is is
left_keeps q m (changes.Expired id slot at) is = it_keeps q m id (Some (with_slot slot (in_state states.Expired at) m)) is is
left_keeps q m (changes.Dropped id slot at) is = it_keeps q m id (Some (with_slot slot (in_state states.Dropped at) m)) is is
left_keeps q m (changes.Moved id queue at) is = it_keeps q m id (Some (moved_to queue at m)) is is
left_keeps q m (changes.Purged id) is = it_keeps q m id None is tt
left_keeps q m _ is = is

some_keeps : (q : ℕ) (m : Option MsgRow) (c : Change) → HasNumber q m → HasNumber q (left_some m c)
some_keeps q None c h = tt
some_keeps q (Some m) c h = left_keeps q m c h

all_keep : (q : ℕ) (m : Option MsgRow) (cs : List Change) → HasNumber q m → HasNumber q (fold left_some m cs)
all_keep q m [] h = h
all_keep q m (c ∷ cs) h = all_keep q (left_some m c) cs (some_keeps q m c h)

pub found_is : (q : ℕ) (ms : List MsgRow) → HasNumber q (find (λ m. m.id == q) ms)
found_is q [] = tt
found_is q (m ∷ ms) = elim (cases_Bool (m.id == q)) [
  | inl here ↦ rw here (eqb-true m.id q here)
  | inr elsewhere ↦ rw elsewhere (found_is q ms)
]

after_is : (t : Tables) (cs : List Change) (q : ℕ) → HasNumber q (message_after t cs q)
after_is t cs q = all_keep q (find_message t q) cs (found_is q t.messages)

some_other : (q : ℕ) (m : Option MsgRow) (c : Change) → HasNumber q m → is_named q (named_by c) ≡ false → left_some m c ≡ m
some_other q None c is h = refl
some_other q (Some m) c is h = left_other m c (ap (λ k. is_named k (named_by c)) is ∙ h)

-- ---- names

or_false : (b : Bool) → b ≡ (b || false)
or_false true = refl
or_false false = refl

named_more : (q : ℕ) (ids : List ℕ) (id : Option ℕ) → list_any (λ n. n == q) (with_name ids id) ≡ (list_any (λ n. n == q) ids || is_named q id)
named_more q ids None = or_false (list_any (λ n. n == q) ids)
named_more q ids (Some id) = elim (cases_Bool (list_any (λ n. n == id) ids)) [
  | inl there ↦ rw there (elim (cases_Bool (q == id)) [
    | inl same ↦
        let it : list_any (λ n. n == q) ids ≡ true = ap (λ k. list_any (λ n. n == k) ids) (eqb-true q id same) ∙ there in
        it ∙ sym (or_left (list_any (λ n. n == q) ids) (q == id) it)
    | inr other ↦ rw other (or_false (list_any (λ n. n == q) ids))
  ])
  | inr absent ↦
      rw absent
      (list_any-append (λ n. n == q) ids (id ∷ []) ∙ ap (λ b. list_any (λ n. n == q) ids || b) (sym (or_false (id == q)) ∙ either_way id q))
]

-- a message that was not named by more names was not by these
none_before : (q : ℕ) (ids : List ℕ) (cs : List Change) → list_any (λ n. n == q) (fold (λ ns c. with_name ns (named_by c)) ids cs) ≡ false → list_any (λ n. n == q) ids ≡ false
none_before q ids [] h = h
none_before q ids (c ∷ cs) h =
    (or_parts (list_any (λ n. n == q) ids) (is_named q (named_by c)) (sym (named_more q ids (named_by c)) ∙ none_before q (with_name ids (named_by c)) cs h)).0

-- ---- a message that no change names

stays : (q : ℕ) (m : Option MsgRow) (n : ℕ) (ids : List ℕ) (cs : List Change) → HasNumber q m → list_any (λ n. n == q) (fold (λ ns c. with_name ns (named_by c)) ids cs) ≡ false
    → (fold left_some m cs ≡ m) × (fold (moment_by q) n cs ≡ n)
stays q m n ids [] is h = (refl, refl)
stays q m n ids (c ∷ cs) is h =
    let other : is_named q (named_by c) ≡ false =
    (or_parts (list_any (λ n. n == q) ids) (is_named q (named_by c)) (sym (named_more q ids (named_by c)) ∙ none_before q (with_name ids (named_by c)) cs h)).1 in
    let left = some_other q m c is other in
    let moment = moment_other q n c other in
    let more = stays q m n (with_name ids (named_by c)) cs is h in
    (ap (λ m. fold left_some m cs) left ∙ more.0, ap (λ n. fold (moment_by q) n cs) moment ∙ more.1)

unnamed : (t : Tables) (cs : List Change) (q : ℕ) → list_any (λ n. n == q) (names_of cs) ≡ false → outcome_after t cs q ≡ outcome_after t [] q
unnamed t cs q h = let both = stays q (find_message t q) 0 [] cs (found_is q t.messages) h in λ i. record { id = q; message = both.0 i; moment = both.1 i }

-- ---- one more change

names_push : (cs : List Change) (c : Change) → names_of (cs ++ c ∷ []) ≡ with_name (names_of cs) (named_by c)
names_push cs c = fold_push (λ ns c. with_name ns (named_by c)) [] cs c

after_push : (t : Tables) (cs : List Change) (c : Change) (q : ℕ) → outcome_after t (cs ++ c ∷ []) q ≡ next_outcome c (outcome_after t cs q)
after_push t cs c q =
    let left = fold_push left_some (find_message t q) cs c in
    let moment = fold_push (moment_by q) 0 cs c in
    λ i. record { id = q; message = left i; moment = moment i }

next_other : (t : Tables) (cs : List Change) (c : Change) (q : ℕ) → is_named q (named_by c) ≡ false → outcome_after t (cs ++ c ∷ []) q ≡ outcome_after t cs q
next_other t cs c q h =
    let left = some_other q (message_after t cs q) c (after_is t cs q) h in
    let moment = moment_other q (last_moment cs q) c h in
    after_push t cs c q ∙ (λ i. record { id = q; message = left i; moment = moment i })

-- what holds of a message that the change does not name
if_other : (t : Tables) (cs : List Change) (c : Change) (q : ℕ) → is_named q (named_by c) ≡ false → outcome_if_named t cs q ≡ outcome_if_named t (cs ++ c ∷ []) q
if_other t cs c q h =
    let same : list_any (λ n. n == q) (names_of (cs ++ c ∷ [])) ≡ list_any (λ n. n == q) (names_of cs) =
    ap (list_any (λ n. n == q)) (names_push cs c) ∙ named_more q (names_of cs) (named_by c) ∙ ap (λ b. list_any (λ n. n == q) (names_of cs) || b) h ∙ sym (or_false _) in
    λ i. cond (sym same i) (Some (sym (next_other t cs c q h) i)) None

pub after_unnaming : (t : Tables) (cs : List Change) (c : Change) (all : Outcomes) → named_by c ≡ None → AreOutcomes t cs all → AreOutcomes t (cs ++ c ∷ []) all
after_unnaming t cs c all none are = record {
  names = are.names ∙ sym (names_push cs c ∙ ap (with_name (names_of cs)) none);
  each = λ q. are.each q ∙ if_other t cs c q (ap (is_named q) none);
}

-- the outcome of a message that the change names, once it is begun
begun : (t : Tables) (cs : List Change) (id : ℕ) → unwrap_or (outcome_if_named t cs id) (outcome_after t [] id) ≡ outcome_after t cs id
begun t cs id = elim (cases_Bool (list_any (λ n. n == id) (names_of cs))) [
  | inl there ↦ rw there refl
  | inr absent ↦ rw absent (sym (unnamed t cs id absent))
]

is_some_if : {X : Type 0} (b : Bool) (x : X) → is_some (cond b (Some x) None) ≡ b
is_some_if true x = refl
is_some_if false x = refl

after_naming : (t : Tables) (cs : List Change) (c : Change) (id : ℕ) (old new : Outcomes) → named_by c ≡ Some id
    → new.names.items ≡ named_with id old
    → IsFollowed t id c old new
    → AreOutcomes t cs old → AreOutcomes t (cs ++ c ∷ []) new
after_naming t cs c id old new named names each are = record {
  names =
      names ∙ ap (λ b. cond b old.names.items (old.names.items ++ id ∷ [])) (ap is_some (are.each id) ∙ is_some_if (list_any (λ n. n == id) (names_of cs)) (outcome_after t cs id))
      ∙ ap (λ ns. cond (list_any (λ n. n == id) (names_of cs)) ns (ns ++ id ∷ [])) are.names
      ∙ sym (names_push cs c ∙ ap (with_name (names_of cs)) named);
  each = λ q. each q ∙ elim (cases_Bool (id == q)) [
    | inl same ↦ rw same (here q (eqb-true id q same))
    | inr other ↦ rw other (are.each q ∙ if_other t cs c q (ap (is_named q) named ∙ either_way q id ∙ other))
  ];
}
  where
    there : list_any (λ n. n == id) (names_of (cs ++ c ∷ [])) ≡ true
    there =
        ap (list_any (λ n. n == id)) (names_push cs c ∙ ap (with_name (names_of cs)) named) ∙ named_more id (names_of cs) (Some id)
        ∙ or_right (list_any (λ n. n == id) (names_of cs)) (id == id) (eq-eqb id id refl)

    here : (q : ℕ) → id ≡ q → Some (next_outcome c (unwrap_or (outcome_of old id) (outcome_after t [] id))) ≡ outcome_if_named t (cs ++ c ∷ []) q
    here q same =
        ap (λ o. Some (next_outcome c (unwrap_or o (outcome_after t [] id)))) (are.each id) ∙ ap (λ o. Some (next_outcome c o)) (begun t cs id) ∙ ap Some (sym (after_push t cs c id))
        ∙ sym (ap (λ b. cond b (Some (outcome_after t (cs ++ c ∷ []) id)) None) there) ∙ ap (outcome_if_named t (cs ++ c ∷ [])) same

on_ok : {A E P Q R : Type 0} (made : Result A E) → (P → Q → R) → OnOk made P → OnOk made Q → OnOk made R
on_ok (Ok _) step p q = step p q
on_ok (Err _) step p q = tt

-- where it was named, and the outcome followed
pub follows : {E : Type 0} (t : Tables) (cs : List Change) (c : Change) (id : ℕ) (old new : Outcomes) (made : Result (Unit {0}) E) → named_by c ≡ Some id
    → OnOk made (new.names.items ≡ named_with id old)
    → OnOk made (IsFollowed t id c old new)
    → AreOutcomes t cs old → OnOk made (AreOutcomes t (cs ++ c ∷ []) new)
follows t cs c id old new made named names each are = on_ok made (λ n e. after_naming t cs c id old new named n e are) names each

-- the list of outcomes goes on by the first of the changes that are left
pub goes_on : (t : Tables) (cs rest more all : List Change) (c : Change) (old new : Outcomes) → rest ≡ c ∷ more → cs ++ rest ≡ all → AreOutcomes t (cs ++ c ∷ []) new
    → (done : List Change) × (done ++ more ≡ all) × AreOutcomes t done new
goes_on t cs rest more all c old new split whole are = (cs ++ c ∷ [], append_assoc cs (c ∷ []) more ∙ ap (λ r. cs ++ r) (sym split) ∙ whole, are)

pub ends : (t : Tables) (cs rest all : List Change) (outcomes : Outcomes) → rest ≡ [] → cs ++ rest ≡ all → AreOutcomes t cs outcomes → AreOutcomes t all outcomes
ends t cs rest all outcomes none whole are = subst (λ done. AreOutcomes t done outcomes) (sym (append-nil cs) ∙ ap (λ r. cs ++ r) (sym none) ∙ whole) are

-- ---- what is settled

same_each : (f g : ℕ → List Change) (ids : List ℕ) → ((id : ℕ) → list_any (λ n. n == id) ids ≡ true → f id ≡ g id) → flat_map f ids ≡ flat_map g ids
same_each f g [] same = refl
same_each f g (id ∷ ids) same =
    ap (λ here. here ++ flat_map f ids) (same id (or_left (id == id) (list_any (λ n. n == id) ids) (eq-eqb id id refl)))
    ∙ ap (λ rest. g id ++ rest) (same_each f g ids (λ q there. same q (or_right (id == q) (list_any (λ n. n == q) ids) there)))

-- what the changes settle, of each message that they name by its outcome
pub settles : (t : Tables) (cs : List Change) (all : Outcomes) → AreOutcomes t cs all
    → flat_map (λ id. settling_by t (outcome_of all id)) all.names.items ≡ flat_map (settling t cs) (names_of cs)
settles t cs all are =
    ap (flat_map (λ id. settling_by t (outcome_of all id))) are.names
    ∙ same_each (λ id. settling_by t (outcome_of all id)) (settling t cs) (names_of cs)
    (λ id named. ap (settling_by t) (are.each id ∙ ap (λ b. cond b (Some (outcome_after t cs id)) None) named))
