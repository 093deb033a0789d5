use Rattle.std.proofs.Common.{sym, ◌∙◌, ap, slice_range, rules}
use Rattle.payload_records.proofs.InPlace.{same_by_parts}
use Rattle.payload_records.proofs.small_text.are_same_bytes.Goals.{then-is_same_word, else-is_same_word}
use Rattle.payload_records.proofs.small_text.are_same_bytes.Goals as goal

pub returns-then-is_same_word-2 : goal.returns-then-is_same_word-2
returns-then-is_same_word-2 c =
    let a = c.args.left.now in
    let b = c.args.right.now in
    elim c.if-is_same_word.branch [
      | then-is_same_word w ↦
          let first = c.is_same_word.ensures.0 w.if-is_same_word.true in
          let second = w.is_same_word-then-is_same_word.ensures.0 (sym w.value-is ∙ c.if-is_same_word-2.true) in
          let last = c.is_same_word-then-is_same_word-2.ensures in
          (λ e. same_by_parts a b c.told-left c.told-right first second (last.0 e), λ e. last.1 (ap (λ l. slice_range l 14 22) e))
      | else-is_same_word w ↦ search rules
    ]
