use Rattle.std.proofs.Common.{arith, ◌++◌, ◌∙◌}
use Rattle.redo_journal.specs.Num.{num}
use Rattle.redo_journal.proofs.Numbers.{length-num}
use Rattle.redo_records.proofs.Septets.{put_goes_on, put_ends, room_goes_on}
use Rattle.redo_records.proofs.numbers.put_septets.Goals as goal

pub push_reserved-requires : goal.push_reserved-requires
push_reserved-requires c = omega (arith, c.loop-rest.invariant.room, length-num c.loop-rest.rest)

pub loop-rest-preserved : goal.loop-rest-preserved
loop-rest-preserved c = record {
  bytes = rw c.push_reserved.ensures.items (put_goes_on c.loop-rest.out.items (c.args.out.now.items ++ num c.args.number) c.loop-rest.rest c.loop-rest-test.true (omega arith) c.loop-rest.invariant.bytes);
  room = rw (c.push_reserved.ensures.items, c.push_reserved.ensures.capacity) (room_goes_on c.loop-rest.out.items c.loop-rest.rest _ c.loop-rest-test.true (omega arith) c.loop-rest.invariant.room);
}

pub push_reserved-requires-2 : goal.push_reserved-requires-2
push_reserved-requires-2 c = omega (arith, c.loop-rest.invariant.room, length-num c.loop-rest.rest)

pub returns : goal.returns
returns c =
    c.push_reserved-2.ensures.items ∙ put_ends c.loop-rest.out.items (c.args.out.now.items ++ num c.args.number) c.loop-rest.rest c.loop-rest-test.false c.loop-rest.invariant.bytes
