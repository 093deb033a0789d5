use Rattle.row_locks.proofs.classes.ClassIndex.reserve.Goals as goal

pub returns-clause-cells : goal.returns-clause-cells
returns-clause-cells c = λ names rank. c.reserve.ensures.entries.2 (names, rank)
