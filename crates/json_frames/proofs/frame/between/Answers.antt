use Rattle.std.proofs.Common.{◌≡◌, length, arith}
use Rattle.json_frames.proofs.frame.between.Goals as goal
use Rattle.json_frames.proofs.Inner.{front_is, back_is, unlike}

-- src/frame.rt:95:9
pub returns-then-ne-clause-none : goal.returns-then-ne-clause-none
returns-then-ne-clause-none c = λ inner e.
    unlike c.split_at.result.0.now c.args.front.now c.if-ne.ensures
    (front_is _ _ _ _ _ inner c.split_at.ensures.by_index.0 c.split_at.ensures.front_len e)

-- src/frame.rt:98:9
pub returns-then-ne-2-clause-none : goal.returns-then-ne-2-clause-none
returns-then-ne-2-clause-none c = λ inner e.
    (let behind = c.split_at-2.result.1.now in
    let long : length behind ≡ length c.args.back.now = omega (arith, c.split_at-2.ensures.back_len, c.split_at.ensures.back_len, c.if-text-front.false) in
    unlike behind c.args.back.now c.if-ne-2.ensures
    (back_is _ _ _ _ _ inner _ behind c.split_at.ensures.by_index.0 c.split_at.ensures.front_len c.split_at-2.ensures.by_index.0 long e))
