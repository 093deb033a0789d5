-- What changes settle that take the only slot of a message, and do nothing else.
use Rattle.std.proofs.Common.{◌≡◌, ℕ, List, [], ◌∷◌, ◌++◌, Bool, true, false, not, cond, length, Option, Some, None, IfSome, inl, inr, refl, sym, ◌∙◌, ap, subst, append-nil, arith}
use Rattle.std.specs.Prelude.{◌==◌, option_and_then}
use Rattle.std.proofs.Math.Bool.{or-false}
use Rattle.std.proofs.lemmas.Bool.{cases_Bool, and_parts, eqb-true, eq-eqb, false≢true, not-true}
use Rattle.std.proofs.lemmas.Option.{cond_some, none-some}
use Rattle.queue_rows.specs.Rows.{find_message, with_slot}
use Rattle.queue_rows.specs.Tables.{in_state}
use Rattle.queue_rows.specs.Settling.{left_by, message_after, retention_of, settling, settling_of, settled}
use Rattle.queue_rows.specs.declared.tables.Tables.{Tables}
use Rattle.queue_rows.specs.declared.rows.MsgRow.{MsgRow}
use Rattle.queue_rows.specs.declared.rows.SlotRow.{SlotRow}
use Rattle.queue_rows.specs.declared.rows.SlotState.TheVariants as states
use Rattle.queue_rows.specs.declared.change.Change.{Change}
use Rattle.queue_rows.specs.declared.change.Change.TheVariants as changes
use Rattle.exception_queues.specs.Sole.{has_one_slot, if_one_slot, purge_of, taken_by, taken_whole}
use Rattle.exception_queues.proofs.Following.{found_is}

too_long : {X : Type 0} (x y : X) (more : List X) → (length (x ∷ y ∷ more) == 1) ≡ true → ⊥
too_long x y more one = omega (arith, eqb-true (length (x ∷ y ∷ more)) 1 one)

-- ---- the message with its slot taken

abbrev taken : ℕ → MsgRow → MsgRow
taken at m = with_slot 1 (in_state states.Processed at) m

-- what is settled of it, by whether it was moved and by its slots
abbrev settled_with : Tables → ℕ → MsgRow → Bool → List SlotRow → List Change
settled_with t at m moved slots = settling_of t at (Some (taken at (record m { moved = moved; slots = slots })))

one_goes : (t : Tables) (at : ℕ) (m : MsgRow) (s : SlotRow) → settled_with t at m false (s ∷ []) ≡ purge_of t m
one_goes t at m s = ap (λ b. cond b (changes.Purged m.id ∷ []) []) (or-false (retention_of t m == 0))

taken_goes : (t : Tables) (at : ℕ) (m : MsgRow) (slots : List SlotRow) → m.moved ≡ false → m.slots ≡ slots → (length slots == 1) ≡ true
    → settling_of t at (Some (taken at m)) ≡ purge_of t m
taken_goes t at m [] still is one = absurd (false≢true one)
taken_goes t at m (s ∷ []) still is one = ap (λ b. settled_with t at m b m.slots) still ∙ ap (settled_with t at m false) is ∙ one_goes t at m s
taken_goes t at m (s ∷ z ∷ more) still is one = absurd (too_long s z more one)

sole_goes : (t : Tables) (at : ℕ) (m : MsgRow) → has_one_slot m ≡ true → settling_of t at (Some (taken at m)) ≡ purge_of t m
sole_goes t at m sole =
    let parts = and_parts (not m.moved) (length m.slots == 1) sole in
    taken_goes t at m m.slots (not-true m.moved parts.0) refl parts.1

-- ---- the change that takes it

left_of : (m : MsgRow) (id at : ℕ) → m.id ≡ id → left_by m (changes.Done id 1 at) ≡ Some (taken at m)
left_of m id at is = ap (λ b. cond b (Some (taken at m)) (Some m)) (eq-eqb m.id id is)

sole_settled : (t : Tables) (m : MsgRow) (id at : ℕ) → find_message t id ≡ Some m → has_one_slot m ≡ true
    → settled t (changes.Done id 1 at ∷ []) ≡ changes.Done id 1 at ∷ purge_of t m
sole_settled t m id at found sole =
    let c : Change = changes.Done id 1 at in
    let is : m.id ≡ id = subst (λ o. IfSome o (λ row. row.id ≡ id)) found (found_is id t.messages) in
    let after : message_after t (c ∷ []) id ≡ Some (taken at m) = ap (option_and_then (λ row. left_by row c)) found ∙ left_of m id at is in
    let settles : settling t (c ∷ []) id ≡ purge_of t m =
    ap (λ b. settling_of t (cond b at 0) (message_after t (c ∷ []) id)) (eq-eqb id id refl)
    ∙ ap (settling_of t at) after
    ∙ sole_goes t at m sole in
    ap (λ more. c ∷ more) (append-nil (settling t (c ∷ []) id) ∙ settles)

-- ---- the changes that take it alone

by_found : (t : Tables) (m : MsgRow) (id at : ℕ) (o : Option MsgRow) → find_message t id ≡ o → option_and_then (λ row. if_one_slot row) o ≡ Some m
    → settled t (changes.Done id 1 at ∷ []) ≡ changes.Done id 1 at ∷ purge_of t m
by_found t m id at None found e = absurd (none-some m e)
by_found t m id at (Some row) found e =
    let parts = cond_some (has_one_slot row) row m e in
    subst (λ r. settled t (changes.Done id 1 at ∷ []) ≡ changes.Done id 1 at ∷ purge_of t r) parts.1 (sole_settled t row id at found parts.0)

abbrev whole_by : Tables → Option ℕ → Option MsgRow
whole_by t id = option_and_then (λ m. if_one_slot m) (option_and_then (λ n. find_message t n) id)

by_change : (t : Tables) (m : MsgRow) (c : Change) → whole_by t (taken_by c) ≡ Some m → settled t (c ∷ []) ≡ c ∷ purge_of t m
by_change t m (changes.Done id slot at) e = elim (cases_Bool (slot == 1)) [
  | inl first ↦
      let found = sym (ap (λ b. whole_by t (cond b (Some id) None)) first) ∙ e in
      subst (λ n. settled t (changes.Done id n at ∷ []) ≡ changes.Done id n at ∷ purge_of t m) (sym (eqb-true slot 1 first))
      (by_found t m id at (find_message t id) refl found)
  | inr other ↦ absurd (none-some m (sym (ap (λ b. whole_by t (cond b (Some id) None)) other) ∙ e))
]
by_change t m _ e = absurd (none-some m e)

pub taken_settles : (t : Tables) (cs : List Change) (m : MsgRow) → taken_whole t cs ≡ Some m → settled t cs ≡ cs ++ purge_of t m
taken_settles t [] m e = absurd (none-some m e)
taken_settles t (c ∷ []) m e = by_change t m c e
taken_settles t (c ∷ d ∷ cs) m e = elim (cases_Bool (length (c ∷ d ∷ cs) == 1)) [
  | inl one ↦ absurd (too_long c d cs one)
  | inr more ↦ absurd (none-some m (sym (ap (λ b. whole_by t (cond b (taken_by c) None)) more) ∙ e))
]
