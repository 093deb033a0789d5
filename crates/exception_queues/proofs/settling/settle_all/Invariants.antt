use Rattle.std.proofs.Common.{◌≡◌, ◌++◌, drop}
use Rattle.std.specs.List.{flat_map}
use Rattle.exception_queues.specs.Outcomes.{outcome_of, settling_by}
use Rattle.exception_queues.proofs.settling.settle_all.Given as goal

abbrev pub invariant-loop-id : goal.invariant-loop-id
invariant-loop-id l =
    l.changes ++ flat_map (λ id. settling_by l.tables (outcome_of l.outcomes id)) (drop l.id-index l.id-items)
    ≡ l.fn.changes ++ flat_map (λ id. settling_by l.tables (outcome_of l.outcomes id)) l.outcomes.names.items
