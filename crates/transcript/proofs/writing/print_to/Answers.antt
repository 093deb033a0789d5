use Rattle.std.proofs.Common.{◌≡◌, ◌++◌, string_bytes, arith}
use Rattle.std.proofs.lemmas.Grind.{common_steps}
use Rattle.std.specs.List.{flat_map}
use Rattle.transcript.specs.Print.{entry_line, print}
use Rattle.transcript.proofs.Pieces.{put, sends, front_then, front_so_far, front_whole}
use Rattle.transcript.proofs.writing.print_to.Goals as goal

pub loop-entry-preserved : goal.loop-entry-preserved
loop-entry-preserved g c =
    let print_entry = entry_line c.args.history.now in
    let line = print_entry c.in-Some.entry.now in
    let after = flat_map print_entry c.next.new.self in
    let line_is : flat_map print_entry c.loop-entry.entry-iterator ≡ line ++ after = grind (arith, common_steps) in
    let held = put c.loop-entry.invariant.way line (string_bytes c.put_entry.new.out) after c.in_ok-put_entry.ensures line_is in
    record {
      way = sends held (g.O.Sink.taken c.put_piece.new.out) (string_bytes c.put_piece.new.text) c.in_ok-put_piece.ensures.sent;
      later = omega (arith, c.put_piece.ensures.cause.later);
    }

pub returns-in_err-put_entry-clause-front : goal.returns-in_err-put_entry-clause-front
unfolding print
returns-in_err-put_entry-clause-front g c = front_so_far c.loop-entry.invariant.way

pub returns-in_err-put_piece-clause-front : goal.returns-in_err-put_piece-clause-front
unfolding print
returns-in_err-put_piece-clause-front g c =
    let print_entry = entry_line c.args.history.now in
    let line = print_entry c.in-Some.entry.now in
    let after = flat_map print_entry c.next.new.self in
    let line_is : flat_map print_entry c.loop-entry.entry-iterator ≡ line ++ after = grind (arith, common_steps) in
    let held = put c.loop-entry.invariant.way line (string_bytes c.put_entry.new.out) after c.in_ok-put_entry.ensures line_is in
    front_then held (g.O.Sink.taken c.put_piece.new.out) c.in_err-put_piece.ensures.front

pub returns-in_err-put_out-clause-front : goal.returns-in_err-put_out-clause-front
unfolding print
returns-in_err-put_out-clause-front g c =
    front_then c.loop-entry.invariant.way (g.O.Sink.taken c.put_out.new.out) c.in_err-put_out.ensures.front

pub returns-clause-front : goal.returns-clause-front
unfolding print
returns-clause-front g c =
    let after = g.O.Sink.taken c.put_out.new.out in
    let all = front_whole (g.O.Sink.taken c.loop-entry.out) after (string_bytes c.loop-entry.text) c.in_ok-put_out.ensures.ok in
    front_then c.loop-entry.invariant.way after all
