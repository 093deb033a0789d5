use Rattle.std.proofs.Common.{◌++◌, ap, ap₂, sym, ◌∙◌}
use Rattle.json_frames.proofs.frame.Frame.inner.Goals as goal
use Rattle.json_frames.proofs.Inner.{one_part}

-- src/frame.rt:170:5
pub returns-else-is_flat-clause-none : goal.returns-else-is_flat-clause-none
returns-else-is_flat-clause-none c =
    let front = c.deref.ensures.value ∙ ap (λ p. p.0) c.self.view_is in
    let back = c.deref-2.ensures.value ∙ ap (λ p. p.1) c.self.view_is in
    let inner = c.in_ok-inner.inner.now in
    let here = c.in_ok-inner.ensures.some ∙ ap₂ (λ f b. f ++ (inner ++ b)) front back in
    λ other there. one_part _ _ _ inner here (sym c.if-is_flat.ensures) other there
