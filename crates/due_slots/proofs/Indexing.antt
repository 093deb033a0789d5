-- An index of messages stays one when a message goes with its rows, and when one comes.
use Rattle.std.proofs.Common.{◌≡◌, ◌≢◌, ℕ, Bool, true, false, List, [], ◌∷◌, Option, Some, None, refl, sym, ap, ◌∙◌, inl, inr}
use Rattle.std.specs.Prelude.{◌&&◌, ◌||◌, not, flat_map, option_and_then, if◌then◌else◌}
use Rattle.std.proofs.lemmas.Bool.{false≢true, or_cases, false_from_ne_true, cases_eq}
use Rattle.std.proofs.lemmas.List.Folds.{list_any-append}
use Rattle.due_index.specs.Due.{due_row}
use Rattle.due_index.specs.declared.row.DueRow.{DueRow}
use Rattle.queue_rows.specs.Rows.{slot_of}
use Rattle.queue_rows.specs.Settling.{is_handled}
use Rattle.queue_rows.specs.Due.{slot_numbers}
use Rattle.queue_rows.specs.declared.rows.MsgRow.{MsgRow}
use Rattle.due_slots.specs.Edits.{without, joined}
use Rattle.due_slots.specs.Indexed.{is_row, has, is_row_of, IndexesDue, DiffersAt}
use Rattle.due_slots.specs.Rows.{slot_moment, slot_row, row_at, purge_row, purge_moment, rows_of}
use Rattle.due_slots.proofs.Telling.{same_row, without_tells, joined_tells}

-- ---- the rows of a message have its number

one_has : (x row : DueRow) → has (x ∷ []) row ≡ true → x ≡ row
one_has x row some = elim (or_cases (is_row row x) false some) [
  | inl here ↦ same_row x row here
  | inr later ↦ absurd (false≢true later)
]

slot_has : (id slot : ℕ) (o : Option ℕ) (row : DueRow) → has (row_at id slot o) row ≡ true → id ≡ row.id
slot_has id slot None row some = absurd (false≢true some)
slot_has id slot (Some moment) row some = ap (λ (x : DueRow). x.id) (one_has (due_row moment id slot) row some)

slots_have : (m : MsgRow) (ns : List ℕ) (row : DueRow) → has (flat_map (slot_row m) ns) row ≡ true → m.id ≡ row.id
slots_have m [] row some = absurd (false≢true some)
slots_have m (n ∷ ns) row some =
    elim (or_cases (has (slot_row m n) row) (has (flat_map (slot_row m) ns) row) (sym (list_any-append (is_row row) (slot_row m n) (flat_map (slot_row m) ns)) ∙ some)) [
      | inl here ↦ slot_has m.id n (option_and_then slot_moment (slot_of m n)) row here
      | inr later ↦ slots_have m ns row later
    ]

purge_has : (retention : ℕ) (m : MsgRow) (row : DueRow) → has (purge_row retention m) row ≡ true → m.id ≡ row.id
purge_has retention m row some = by (is_handled m) some
  where
    by : (b : Bool) → has (if b then due_row (purge_moment retention m) m.id 0 ∷ [] else []) row ≡ true → m.id ≡ row.id
    by true e = ap (λ (x : DueRow). x.id) (one_has (due_row (purge_moment retention m) m.id 0) row e)
    by false e = absurd (false≢true e)

pub rows_have : (retention : ℕ) (m : MsgRow) (row : DueRow) → has (rows_of retention m) row ≡ true → m.id ≡ row.id
rows_have retention m row some =
    elim (or_cases (has (flat_map (slot_row m) (slot_numbers m)) row) (has (purge_row retention m) row)
    (sym (list_any-append (is_row row) (flat_map (slot_row m) (slot_numbers m)) (purge_row retention m)) ∙ some)) [
      | inl here ↦ slots_have m (slot_numbers m) row here
      | inr later ↦ purge_has retention m row later
    ]

-- ---- edits

none_both : (b : Bool) → (b && not b) ≡ false
none_both true = refl
none_both false = refl

and_not_false : (b : Bool) → (b && not false) ≡ b
and_not_false true = refl
and_not_false false = refl

or_false : (b : Bool) → (b || false) ≡ b
or_false true = refl
or_false false = refl

module _ (keeps : List ℕ → ℕ) (before after : ℕ → Option MsgRow) (m : MsgRow) (rows : List DueRow) (indexed : IndexesDue keeps before rows) where
  others : (row : DueRow) → row.id ≢ m.id → has (rows_of (keeps m.queue) m) row ≡ false
  others row other = false_from_ne_true (has (rows_of (keeps m.queue) m) row) (λ some. other (sym (rows_have (keeps m.queue) m row some)))

  pub removing : DiffersAt before after m.id (Some m) None → IndexesDue keeps after (without rows (rows_of (keeps m.queue) m))
  removing differs row = without_tells rows (rows_of (keeps m.queue) m) row ∙ elim (cases_eq row.id m.id) [
    | inl same ↦
        (λ i. (indexed row ∙ ap (λ o. is_row_of keeps o row) (ap before same ∙ differs.here_before)) i && not (has (rows_of (keeps m.queue) m) row))
        ∙ none_both (has (rows_of (keeps m.queue) m) row)
        ∙ sym (ap (λ o. is_row_of keeps o row) (ap after same ∙ differs.here_after))
    | inr other ↦
        ap (λ b. has rows row && not b) (others row other)
        ∙ and_not_false (has rows row)
        ∙ indexed row
        ∙ sym (ap (λ o. is_row_of keeps o row) (differs.elsewhere row.id other))
  ]

  pub adding : DiffersAt before after m.id None (Some m) → IndexesDue keeps after (joined rows (rows_of (keeps m.queue) m))
  adding differs row = joined_tells rows (rows_of (keeps m.queue) m) row ∙ elim (cases_eq row.id m.id) [
    | inl same ↦
        (λ i. (indexed row ∙ ap (λ o. is_row_of keeps o row) (ap before same ∙ differs.here_before)) i || has (rows_of (keeps m.queue) m) row)
        ∙ sym (ap (λ o. is_row_of keeps o row) (ap after same ∙ differs.here_after))
    | inr other ↦
        ap (λ b. has rows row || b) (others row other)
        ∙ or_false (has rows row)
        ∙ indexed row
        ∙ sym (ap (λ o. is_row_of keeps o row) (differs.elsewhere row.id other))
  ]
