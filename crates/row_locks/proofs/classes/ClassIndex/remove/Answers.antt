use Rattle.row_locks.proofs.classes.ClassIndex.remove.Goals as goal

pub returns-in-None-clause-cells : goal.returns-in-None-clause-cells
returns-in-None-clause-cells c = λ k r. c.remove.ensures.updates.0 (k, r)

pub returns-in-Some-clause-cells : goal.returns-in-Some-clause-cells
returns-in-Some-clause-cells c = λ k r. c.remove.ensures.updates.0 (k, r)
