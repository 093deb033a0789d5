use Rattle.std.proofs.Common.{subst, IfSome}
use Rattle.json_frames.specs.Frame.{IsFrame}
use Rattle.script_text.proofs.alike.frame_alike.Goals as goal
use Rattle.script_text.proofs.Enqueues.{alike_from}

pub returns-then-branch-3 : goal.returns-then-branch-3
returns-then-branch-3 c = λ session ask said.
    (let frame = subst (λ o. IfSome o (λ f. IsFrame f.0 f.1)) c.in-Some.is c.in_ok-frame.ensures.frame in
    alike_from _ _ _ c.in-Some-inner.inner.now session ask frame c.in-Some-inner.ensures.some.0 c.in-Some-inner.ensures.some.1
    (c.in_ok-is_object.ensures c.if-branch.true) (c.in_ok-is_around_payload.ensures c.if-branch-2.true) (c.in_ok-is_plain.ensures c.if-branch-3.true) said)
