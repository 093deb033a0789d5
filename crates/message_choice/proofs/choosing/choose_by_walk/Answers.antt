use Rattle.std.proofs.Common.{◌≤◌, ◌+◌, ℕ, sym, subst, ◌∙◌}
use Rattle.message_choice.specs.declared.asking.Asking.{Asking}
use Rattle.message_choice.proofs.Asked.{chosen-alike, looks-alike}
use Rattle.message_choice.proofs.choosing.choose_by_walk.Goals as goal

pub returns-clause-choice : goal.returns-clause-choice
returns-clause-choice g c =
    let a : Asking = record { locks = c.args.locks; actor = c.args.actor; pick = c.args.pick } in
    λ l is. chosen-alike a c.args.messages.now l is ∙ sym c.choose_asked.ensures.choice

pub returns-clause-steps : goal.returns-clause-steps
returns-clause-steps g c =
    let a : Asking = record { locks = c.args.locks; actor = c.args.actor; pick = c.args.pick } in
    λ l is. subst (λ (n : ℕ). c.choose_asked.new.steps ≤ c.args.steps.now + n) (sym (looks-alike a c.args.messages.now l is)) c.choose_asked.ensures.steps
