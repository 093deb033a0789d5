use Rattle.std.proofs.Common.{rules, length, take, ◌+◌, ◌≤◌}
use Rattle.aq_base.proofs.Consuming.{consumes_more}
use Rattle.aq_base.proofs.reading.read_up_to.Goals as goal

-- What was read last is gone too.
pub returns-in_err-extend_from_slice-in-Ok-clause-consumed : goal.returns-in_err-extend_from_slice-in-Ok-clause-consumed
returns-in_err-extend_from_slice-in-Ok-clause-consumed g c =
    let left = g.I.Source.left in
    let all = c.loop-piece.all.items in
    let piece = take c.in-Ok.count c.read.new.into in
    let few : length all + length piece ≤ c.args.limit = search rules in
    consumes_more c.args.limit (left c.args.input.now) (left c.loop-piece.input) (left c.read.new.self) all piece few c.loop-piece.invariant.consumed c.in-Ok.ensures.bytes.0
