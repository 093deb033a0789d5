use Rattle.std.proofs.Common.{◌≡◌}
use Rattle.std.specs.List.{list_all}
use Rattle.fit_laws.specs.FitLaws.{leaves_right}
use Rattle.commit_fits.proofs.named.all_leave_right.Given as goal

-- the rest tells of all what is asked
abbrev pub invariant-loop-change : goal.invariant-loop-change
invariant-loop-change g l = list_all (leaves_right (g.T.MessageTables.tables l.tables)) l.change-iterator ≡ list_all (leaves_right (g.T.MessageTables.tables l.tables)) l.changes
