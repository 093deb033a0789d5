-- The first agent that is served of those that are left is the first one of all.
use Rattle.std.proofs.Common.{◌≡◌, ◌+◌, List, length}
use Rattle.queue_rows.specs.Session.{Session}
use Rattle.queue_rows.specs.Listening.{is_served, served_from}
use Rattle.listen_ops.specs.Listened.{IsShown}
use Rattle.listen_ops.proofs.serving.served.Given as goal

abbrev pub invariant-loop-agent : goal.invariant-loop-agent
invariant-loop-agent g l =
    let tables = g.T.MessageTables.tables l.store in
    record {
      number : l.number + length l.agent-iterator ≡ 1 + length l.fn.agents;
      first : (sessions : List Session) (s : Session) → IsShown l.locks l.actor sessions s
          → served_from l.number (is_served tables sessions l.actor s) l.agent-iterator ≡ served_from 1 (is_served tables sessions l.actor s) l.fn.agents;
    }
