-- What edits make of the rows of a queue and a consumer.
use Rattle.std.specs.Prelude.{◌≡◌, ◌≢◌, ℕ, ℤ, Bool, true, false, cond, not, List, [], ◌∷◌, Option, refl}
use Rattle.std.proofs.Common.{ap, ◌∙◌}
use Rattle.std.proofs.lemmas.Cmp.{tied_itself}
use Rattle.std.proofs.lemmas.List.Elements.{All-head, All-tail, All-weaker}
use Rattle.std.specs.List.{All}
use Rattle.std.specs.Ordering.{is_eq, is_lt}
use Rattle.std.specs.declared.cmp.Ordering.{Ordering}
use Rattle.std.specs.declared.cmp.Ordering.TheVariants.{Less, Equal, Greater}
use Rattle.row_tree.specs.Free.{none_at}
use Rattle.sort_index.specs.Ready.{names_cmp, ready_cmp, row_cmp, key, is_of, rows_of, with_row, without_row, EditsRows, IsFree}
use Rattle.sort_index.specs.ReadyLaws.{ready_cmp_total, group_cmp_total, names_exact, row_exact}
use Rattle.sort_index.specs.declared.group.Ready.{Ready}
use Rattle.sort_index.specs.declared.group.Group.{Group}

-- what an edit of the rows of a queue and a consumer makes of them
pub own_rows : (queue : List ℕ) (consumer : Option (List ℕ)) (edit : List Ready → List Ready) (before after : List Group) → EditsRows queue consumer edit before after
    → rows_of queue consumer after ≡ edit (rows_of queue consumer before)
own_rows queue consumer edit before after edits =
    edits queue consumer
    ∙ ap (λ (o : Bool). cond o (edit (rows_of queue consumer before)) (rows_of queue consumer before)) (ap is_eq (tied_itself group_cmp_total (key queue consumer)))

is_Equal : (o : Ordering) → is_eq o ≡ true → o ≡ Equal
is_Equal Less e = cc e
is_Equal Equal e = refl
is_Equal Greater e = cc e

-- every other queue and consumer keeps its rows
pub other_rows : (queue : List ℕ) (consumer : Option (List ℕ)) (edit : List Ready → List Ready) (before after : List Group) → EditsRows queue consumer edit before after
    → (q : List ℕ) (c : Option (List ℕ)) → ((queue ≡ q) × (consumer ≡ c) → ⊥) → rows_of q c after ≡ rows_of q c before
other_rows queue consumer edit before after edits q c other =
    let own = edit (rows_of queue consumer before) in
    let kept = rows_of q c before in
    let P : Bool → Type 0 = λ b. is_of q c (key queue consumer) ≡ b → cond b own kept ≡ kept in
    edits q c
    ∙ elim (is_of q c (key queue consumer)) as P [
      | true ↦ λ e. absurd (other (names_exact queue consumer q c (is_Equal (names_cmp queue consumer q c) e)))
      | false ↦ λ e. refl
    ] refl

-- once a row was taken out, its place is free for its id
pub free_once_taken : (place : List ℤ) (id : ℕ) (rows : List Ready) → IsFree place id (without_row place id rows)
free_once_taken place id rows = none_at (λ row. row_cmp row place id) rows

-- a place is free for an id that no row has
pub free_by_id : (place : List ℤ) (id : ℕ) (rows : List Ready) → All (λ row. row.id ≢ id) rows → IsFree place id rows
free_by_id place id rows others = All-weaker (λ (row : Ready). row.id ≢ id) (λ row. row_cmp row place id ≢ Equal) (λ row other tied. other (row_exact row place id tied).1) rows others

kept_by_other : (o : Ordering) → o ≢ Equal → not (is_eq o) ≡ true
kept_by_other Less other = refl
kept_by_other Equal other = absurd (other refl)
kept_by_other Greater other = refl

-- nothing is taken from where none stands
pub none_taken : (place : List ℤ) (id : ℕ) (rows : List Ready) → IsFree place id rows → without_row place id rows ≡ rows
none_taken place id [] free = refl
none_taken place id (x ∷ xs) free =
    let others = without_row place id xs in
    let first = All-head (λ row. row_cmp row place id ≢ Equal) x xs free in
    let rest = All-tail (λ row. row_cmp row place id ≢ Equal) x xs free in
    ap (λ b. cond b (x ∷ others) others) (kept_by_other (row_cmp x place id) first) ∙ ap (λ rows. x ∷ rows) (none_taken place id xs rest)

-- a row that is put in and taken out leaves the rows as they were
pub put_and_taken : (place : List ℤ) (id slot : ℕ) (rows : List Ready) → IsFree place id rows → without_row place id (with_row place id slot rows) ≡ rows
put_and_taken place id slot [] free =
    let row : Ready = record { place = place; id = id; slot = slot } in
    ap (λ o. cond (not (is_eq o)) (row ∷ []) []) (tied_itself ready_cmp_total row)
put_and_taken place id slot (x ∷ xs) free =
    let row : Ready = record { place = place; id = id; slot = slot } in
    let more = with_row place id slot xs in
    let stays = without_row place id more in
    let first = All-head (λ row. row_cmp row place id ≢ Equal) x xs free in
    let rest = All-tail (λ row. row_cmp row place id ≢ Equal) x xs free in
    let P : Bool → Type 0 = λ b. without_row place id (cond b (x ∷ more) (row ∷ x ∷ xs)) ≡ (x ∷ xs) in
    elim (is_lt (ready_cmp x row)) as P [
      | true ↦ ap (λ b. cond b (x ∷ stays) stays) (kept_by_other (row_cmp x place id) first) ∙ ap (λ rows. x ∷ rows) (put_and_taken place id slot xs rest)
      | false ↦ ap (λ o. cond (not (is_eq o)) (row ∷ without_row place id (x ∷ xs)) (without_row place id (x ∷ xs))) (tied_itself ready_cmp_total row)
          ∙ none_taken place id (x ∷ xs) free
    ]
