use Rattle.std.proofs.Common.{◌≡◌, map}
use Rattle.std.specs.Prelude.{fold}
use Rattle.queue_rows.specs.Recipients.{distinct_agents, listed, with_agent}
use Rattle.recipients.proofs.agents.distinct_agents.Given as goal

-- the recipients that are left, added to those so far
abbrev pub invariant-loop-recipient : goal.invariant-loop-recipient
invariant-loop-recipient l = fold with_agent l.agents (map listed l.recipient-iterator) ≡ distinct_agents (map listed l.recipients)
