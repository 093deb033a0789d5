use Rattle.std.proofs.Common.{◌<◌, sym, ◌∙◌, arith}
use Rattle.queue_rows.specs.Rows.{recipient_count}
use Rattle.valid_tables.proofs.Recipients.{distinct_again, distinct_more}
use Rattle.valid_tables.proofs.slots.are_distinct_recipients.Goals as goal

pub returns-then-is_repeated : goal.returns-then-is_repeated
returns-then-is_repeated c =
    let m = c.args.message.now in
    let within : c.loop-at.at < recipient_count m = omega (arith, c.recipient_count-at-end.ensures) in
    sym (distinct_again m.slots c.loop-at.at (recipient_count m) within (sym c.is_repeated.ensures ∙ c.if-is_repeated.true))

pub loop-at-preserved : goal.loop-at-preserved
loop-at-preserved c = distinct_more c.args.message.now.slots c.loop-at.at (sym c.is_repeated.ensures ∙ c.if-is_repeated.false) c.loop-at.invariant
