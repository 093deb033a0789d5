use Rattle.std.proofs.Common.{sym, ◌∙◌}
use Rattle.exception_queues.proofs.Following.{after_unnaming, follows}
use Rattle.exception_queues.proofs.outcomes.Outcomes.follow.Goals as goal

pub returns-in-Some : goal.returns-in-Some
returns-in-Some g c = λ cs are.
    follows (g.T.MessageTables.tables c.args.tables.now) cs c.args.change.now c.in-Some.id c.args.self.now c.follow_named.new.self c.follow_named.result
    (sym c.named_by.ensures ∙ c.in-Some.is) c.follow_named.ensures.names c.follow_named.ensures.outcomes are

pub returns-in-None : goal.returns-in-None
returns-in-None g c = λ cs are. after_unnaming (g.T.MessageTables.tables c.args.tables.now) cs c.args.change.now c.args.self.now (sym c.named_by.ensures ∙ c.in-None.is) are
