-- The first agent that is faulty of those that are left is the first one of all.
use Rattle.std.proofs.Common.{◌≡◌}
use Rattle.queue_rows.specs.Listening.{agents_fault}
use Rattle.listen_ops.proofs.agents.agents_fault.Given as goal

abbrev pub invariant-loop-agent : goal.invariant-loop-agent
invariant-loop-agent l = agents_fault l.tables l.agent-iterator ≡ agents_fault l.tables l.fn.agents
