use Rattle.session_registry.proofs.ShownSessions.{fresh-shown}
use Rattle.session_registry.proofs.registry.SessionRegistry.fresh.Goals as goal

pub returns : goal.returns
returns c = fresh-shown c.new.result c.in_ok-fresh.field-0 c.args.scripts.now c.new.ensures.home c.new.ensures.away c.in_ok-fresh.ensures
