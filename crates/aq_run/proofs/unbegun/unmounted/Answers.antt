use Rattle.std.proofs.Common.{◌≡◌, ◌⊎◌, ℕ, inl, inr, sym, subst, ◌∙◌}
use Rattle.aq_run.specs.Outcomes.{IsStatusOf}
use Rattle.aq_run.proofs.Leaving.{answers_unmounted, leaves_unmounted}
use Rattle.aq_run.proofs.unbegun.unmounted.Goals as goal

so : {P : Type 0} (s t : ℕ) → s ≡ t → ((t ≡ 4) ⊎ (t ≡ 5) → P) → (s ≡ 4) ⊎ (s ≡ 5) → P
so s t e f (inl four) = f (inl (sym e ∙ four))
so s t e f (inr five) = f (inr (sym e ∙ five))

pub returns-clause-answers : goal.returns-clause-answers
returns-clause-answers g c = λ home away u.
    let cause = c.tell_cause-status.ensures in
    let none = c.without_run.ensures.none in
    let status = c.without_run.ensures.status in
    answers_unmounted g.D.Disk home away c.args.fault c.without_run.result u (subst (λ (s : ℕ). IsStatusOf c.args.fault.cause s) (sym status) cause.status) none.home_is none.away_is
    g.O.Sink c.args.out.now c.tell_cause-status.new.out (λ six. cause.damaged (sym status ∙ six))
    (so c.without_run.result.status c.tell_cause-status.result status cause.nothing) none.history

pub returns-clause-disks : goal.returns-clause-disks
returns-clause-disks g c = λ home away u.
    let cause = c.tell_cause-status.ensures in
    let none = c.without_run.ensures.none in
    let status = c.without_run.ensures.status in
    leaves_unmounted g.D.Disk home away c.args.fault c.without_run.result u (subst (λ (s : ℕ). IsStatusOf c.args.fault.cause s) (sym status) cause.status) none.home_is none.away_is
    g.O.Sink c.args.out.now c.tell_cause-status.new.out (λ six. cause.damaged (sym status ∙ six))
