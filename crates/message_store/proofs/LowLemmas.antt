-- A queue whose lowest lane follows a message, or stays.
use Rattle.std.proofs.Common.{◌≡◌, ℕ, Bool, true, false, cond, List, [], ◌∷◌, Option, Some, None, length, refl, ap, ◌∙◌, inl, inr}
use Rattle.std.specs.Prelude.{ℤ, find, slice_get, slice_set}
use Rattle.std.specs.Option.{option_map_or}
use Rattle.std.proofs.lemmas.Bool.{cases_Bool}
use Rattle.row_tree.specs.Edits.{edit_at}
use Rattle.queue_rows.specs.Rows.{changed_first, changed_nth, changed_some, set_some}
use Rattle.queue_rows.specs.Tables.{is_grouped, lowered_to}
use Rattle.queue_rows.specs.declared.rows.TableRow.{TableRow}
use Rattle.queue_rows.specs.declared.rows.QueueRow.{QueueRow}
use Rattle.open_rows.proofs.NamedLemmas.{edited_len}
use Rattle.row_laws.proofs.Firsts.{changed_first-yes, changed_first-no}

module _ {X : Type 0} (p : X → Bool) (f : X → X) (q : X) (stays : f q ≡ q) where
  here : (x : X) (xs : List X) (b : Bool) → p x ≡ b → cond b (Some x) (find p xs) ≡ Some q → (find p xs ≡ Some q → changed_first p f xs ≡ xs)
      → changed_first p f (x ∷ xs) ≡ x ∷ xs
  here x xs true is found rest = let same : x ≡ q = cc found in changed_first-yes p f x xs is ∙ ap (λ y. y ∷ xs) (ap f same ∙ stays ∙ cc same)
  here x xs false is found rest = changed_first-no p f x xs is ∙ ap (λ ys. x ∷ ys) (rest found)

  -- the first of a kind is changed by what leaves it as it is
  pub unchanged : (xs : List X) → find p xs ≡ Some q → changed_first p f xs ≡ xs
  unchanged [] found = refl
  unchanged (x ∷ xs) found = here x xs (p x) refl found (unchanged xs)

-- the row at an index, changed
pub edited_at : {X : Type 0} (rows : List X) (at : ℕ) (change : X → X) → edit_at rows at change ≡ changed_nth change at rows
edited_at {X} rows at change =
    let Q : Option X → Type 0 = λ o. option_map_or (λ row. slice_set rows at (change row)) o rows ≡ set_some rows at (changed_some change o) in
    elim (slice_get rows at) as Q [ None ↦ refl | Some row ↦ refl ]

-- a queue that is lowered keeps its name
pub name_lowered : (tables : List TableRow) (place : List ℤ) (queue : QueueRow) → (lowered_to tables place queue).name ≡ queue.name
name_lowered tables place queue = elim (cases_Bool (is_grouped tables queue)) [ inl grouped ↦ rw grouped refl | inr single ↦ rw single refl ]

-- a row that is changed leaves as many
pub length_edited : {X : Type 0} (rows : List X) (at : ℕ) (change : X → X) → length (edit_at rows at change) ≡ length rows
length_edited rows at change = edited_len rows at change
