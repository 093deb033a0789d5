use Rattle.std.proofs.Common.{All, sym, subst}
use Rattle.std.proofs.lemmas.List.Elements.{All-cons}
use Rattle.message_store.specs.Numbers.{HasNumbers}
use Rattle.message_store.proofs.numbers.check_numbers.Goals as goal

pub loop-change-preserved : goal.loop-change-preserved
loop-change-preserved c = λ h.
    c.loop-change.invariant (subst (All HasNumbers) (sym c.in-Some.ensures.steps) (All-cons HasNumbers _ c.next.new.self c.in_ok-check_number.ensures h))
