use Rattle.std.proofs.Common.{◌≡◌, ◌⊎◌, ℕ, sym, subst, ◌∙◌}
use Rattle.aq_run.specs.Outcomes.{IsRun}
use Rattle.aq_run.proofs.compact.told.Goals as goal

pub returns-clause-known : goal.returns-clause-known
returns-clause-known g c = subst (λ (status : ℕ). IsRun status ⊎ (status ≡ 4)) (sym c.without_run.ensures.status) c.show_frames-status.ensures.known

pub returns-clause-nothing : goal.returns-clause-nothing
returns-clause-nothing g c = λ four. c.show_frames-status.ensures.nothing (sym c.without_run.ensures.status ∙ four)
