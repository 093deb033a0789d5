use Rattle.std.proofs.Common.{arith}
use Rattle.payload_records.proofs.InPlace.{same_word}
use Rattle.payload_records.proofs.small_text.is_same_word.Goals as goal

pub returns : goal.returns
returns c =
    same_word c.args.left.now c.args.right.now c.args.at c.requires.0 c.requires.1 (λ i. omega (arith, c.type_inv.left i)) (λ i. omega (arith, c.type_inv.right i))
    c.word_at.result c.word_at-2.result c.word_at.ensures c.word_at-2.ensures
