use Rattle.std.proofs.Common.{◌≡◌, ◌++◌, List, IfOk, ◌∙◌, ap, subst}
use Rattle.std.specs.List.{flat_map}
use Rattle.queue_rows.specs.declared.change.Change.{Change}
use Rattle.exception_queues.specs.Outcomes.{outcome_of, settling_by}
use Rattle.exception_queues.proofs.Following.{settles}
use Rattle.exception_queues.proofs.settling.settle_each.Goals as goal

pub returns : goal.returns
returns g c =
    let outcomes = c.in_ok-outcomes.outcomes in
    let same = ap (λ t. flat_map (λ id. settling_by t (outcome_of outcomes id)) outcomes.names.items) c.tables.ensures
    ∙ settles (g.T.MessageTables.tables c.args.tables.now) c.args.changes outcomes c.in_ok-outcomes.ensures in
    subst (λ (all : List Change). IfOk c.settle_all.result (λ made. made ≡ c.args.changes ++ all)) same c.settle_all.ensures
