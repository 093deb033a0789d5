use Rattle.std.proofs.Common.{◌≡◌, length, ap, ◌∙◌, arith}
use Rattle.std.specs.Prelude.{map}
use Rattle.queue_rows.specs.Session.{not_standing_in}
use Rattle.session_registry.specs.Sessions.{session_of, changed_at}
use Rattle.session_registry.proofs.Leaving.{first_mapped, one_more, all_mapped}
use Rattle.session_registry.proofs.States.{count_states}
use Rattle.session_registry.proofs.session_states.leave_one.Goals as goal

pub loop-at-preserved : goal.loop-at-preserved
loop-at-preserved c =
    let f = not_standing_in c.args.db c.args.queue.now in
    let ss = map session_of c.args.states.now in
    c.leave_at.ensures ∙ ap (changed_at c.loop-at.at f) c.loop-at.invariant ∙ one_more f c.loop-at.at ss

pub returns : goal.returns
returns c =
    let f = not_standing_in c.args.db c.args.queue.now in
    let ss = map session_of c.args.states.now in
    let count = count_states c.args.states.now in
    let all : c.loop-at.at ≡ length ss = omega (arith, count, c.len-at-end.ensures) in
    c.loop-at.invariant ∙ ap (λ n. first_mapped n f ss) all ∙ all_mapped f ss
