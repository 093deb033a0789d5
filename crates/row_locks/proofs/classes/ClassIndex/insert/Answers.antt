use Rattle.row_locks.proofs.classes.ClassIndex.insert.Goals as goal

pub returns-clause-cells : goal.returns-clause-cells
returns-clause-cells c = λ k r. c.in-Ok.ensures.updates.0 (k, r)
