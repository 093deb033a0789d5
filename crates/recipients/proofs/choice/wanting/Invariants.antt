use Rattle.std.proofs.Common.{◌≡◌, ◌++◌, map}
use Rattle.std.specs.Prelude.{filter}
use Rattle.queue_rows.specs.Conditions.{is_met}
use Rattle.queue_rows.specs.Recipients.{subscribed, wanting}
use Rattle.recipients.proofs.choice.wanting.Given as goal

-- those so far, and those among the subscribers of the queue that are left
abbrev pub invariant-loop-sub : goal.invariant-loop-sub
invariant-loop-sub l =
    l.agents ++ map subscribed (filter (λ s. is_met l.kind l.facts s.rule) l.sub-iterator)
    ≡ map subscribed (wanting l.tables l.queue l.kind l.facts)
