use Rattle.std.proofs.Common.{◌∙◌, arith}
use Rattle.std.proofs.lemmas.Grind.{common_steps}
use Rattle.payload_records.proofs.InPlace.{zeros_behind}
use Rattle.payload_records.proofs.small_text.InlineText.of.Goals as goal

pub invariant_of-result : goal.invariant_of-result
invariant_of-result c =
    let is = c.copy_from_slice.ensures.after ∙ c.as_bytes.ensures.value in
    (c.requires, grind (arith, common_steps), zeros_behind c.args.text.now c.copy_from_slice.new.self is)
