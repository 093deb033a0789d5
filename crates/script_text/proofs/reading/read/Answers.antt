use Rattle.std.proofs.Common.{sym, arith}
use Rattle.std.proofs.lemmas.List.{length-take-le}
use Rattle.script_text.proofs.reading.read.Goals as goal

pub slice_bounds-past_limit-end : goal.slice_bounds-past_limit-end
slice_bounds-past_limit-end c = sym (length-take-le 67108864 c.args.bytes.now (omega arith))

pub past_limit-requires : goal.past_limit-requires
past_limit-requires c = omega (arith, length-take-le 67108864 c.args.bytes.now (omega arith))
