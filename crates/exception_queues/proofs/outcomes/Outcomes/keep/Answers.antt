use Rattle.std.specs.Prelude.{nat_eq}
use Rattle.std.specs.HashMap.{get}
use Rattle.exception_queues.proofs.Keeping.{keeps_in_list}
use Rattle.exception_queues.proofs.outcomes.Outcomes.keep.Goals as goal

pub returns-then-len-lt-FEW-clause-outcomes : goal.returns-then-len-lt-FEW-clause-outcomes
returns-then-len-lt-FEW-clause-outcomes c =
    keeps_in_list c.push.result c.args.self.now.few c.push.new.self c.args.outcome (λ id. get nat_eq c.args.self.now.many id) c.requires c.push.ensures.ok
