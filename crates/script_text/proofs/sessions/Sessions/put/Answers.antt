use Rattle.std.proofs.Common.{◌∙◌, ap, rules}
use Rattle.script_text.specs.Script.{with_statement_at}
use Rattle.script_text.proofs.Growth.{grown}
use Rattle.script_text.proofs.sessions.Sessions.put.Goals as goal

pub invariant_of-self-2 : goal.invariant_of-self-2
invariant_of-self-2 c =
    grown c.self.inside.names.keys c.self.inside.asked c.self.inside.list.len c.args.at c.args.statement c.self.inside.list.items c.push_statement_at.new.sessions c.requires.readable c.self.invariant (search rules) (rw c.self.view_is c.requires.within) (c.in_ok-push_statement_at.ensures.ok ∙ ap (λ sessions. with_statement_at c.args.statement sessions c.args.at) c.deref_mut.ensures.value) (search rules)
