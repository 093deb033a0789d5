use Rattle.row_tree.proofs.Ahead.{rest_ahead}
use Rattle.row_tree.proofs.iter.row_at.Goals as goal

pub returns-in_default-clause-rest : goal.returns-in_default-clause-rest
returns-in_default-clause-rest g c =
    rest_ahead c.args.tree.now c.args.path.now c.step.new.self c.args.at c.step.result c.requires c.step.ensures.row c.in_default.not-None c.step.ensures.rest
