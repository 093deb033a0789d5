-- Rows of one slot after the other.
use Rattle.std.proofs.Common.{◌≡◌, ◌<◌, ◌+◌, ◌-◌, ◌++◌, ℕ, suc, List, sym, ap, ◌∙◌, length, length-append, arith}
use Rattle.std.specs.Prelude.{flat_map, filter}
use Rattle.std.specs.List.{range_with_len}
use Rattle.std.proofs.lemmas.List.Sums.{fold-append}
use Rattle.row_tree.specs.Order.{put_in_order}
use Rattle.due_index.specs.Due.{due_cmp, is_other}
use Rattle.due_index.specs.declared.row.DueRow.{DueRow}
use Rattle.due_slots.specs.Edits.{without, joined}

module _ (G : ℕ → List DueRow) (n end : ℕ) (below : n < end) where
  next : flat_map G (range_with_len n (end - n)) ≡ G n ++ flat_map G (range_with_len (n + 1) (end - (n + 1)))
  next =
      let more : end - n ≡ suc (end - (n + 1)) = omega arith in
      ap (λ k. flat_map G (range_with_len n k)) more

  pub without_next : (rows left : List DueRow) → left ≡ without rows (G n)
      → without left (flat_map G (range_with_len (n + 1) (end - (n + 1)))) ≡ without rows (flat_map G (range_with_len n (end - n)))
  without_next rows left is =
      let rest = flat_map G (range_with_len (n + 1) (end - (n + 1))) in
      ap (λ r. without r rest) is
      ∙ sym (fold-append (λ l row. filter (is_other row) l) rows (G n) rest)
      ∙ sym (ap (without rows) next)

  pub joined_next : (rows more : List DueRow) → more ≡ joined rows (G n)
      → joined more (flat_map G (range_with_len (n + 1) (end - (n + 1)))) ≡ joined rows (flat_map G (range_with_len n (end - n)))
  joined_next rows more is =
      let rest = flat_map G (range_with_len (n + 1) (end - (n + 1))) in
      ap (λ r. joined r rest) is
      ∙ sym (fold-append (λ all row. put_in_order due_cmp row (filter (is_other row) all)) rows (G n) rest)
      ∙ sym (ap (joined rows) next)

  pub length_next : length (flat_map G (range_with_len n (end - n))) ≡ length (G n) + length (flat_map G (range_with_len (n + 1) (end - (n + 1))))
  length_next = ap length next ∙ length-append (G n) (flat_map G (range_with_len (n + 1) (end - (n + 1))))

pub room_next : (before now all first rest whole mine : ℕ) → before + all ≡ first + whole → before ≡ now + mine → whole ≡ mine + rest → now + all ≡ first + rest
room_next before now all first rest whole mine held used more = omega arith
