use Rattle.script_text.proofs.Growth.{begun}
use Rattle.script_text.proofs.sessions.Sessions.new.Goals as goal

pub invariant_of-result : goal.invariant_of-result
invariant_of-result c = begun c.new.result.keys c.new-2.result.items c.new.ensures.empty c.new-2.ensures.items
