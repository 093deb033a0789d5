use Rattle.std.proofs.Common.{◌≡◌}
use Rattle.queue_rows.specs.Order.{IsFront}
use Rattle.queue_rows.specs.Turns.{session_turn}
use Rattle.aq_world.proofs.Turning.{ok_at, err_at}
use Rattle.aq_world.proofs.Goings.{as_ok, quiet_same}
use Rattle.aq_world.proofs.turns.session_turn.Goals as goal

pub returns-in-Some-untold-clause-ok : goal.returns-in-Some-untold-clause-ok
returns-in-Some-untold-clause-ok g c = ok_at (λ r. c.telling_turn.new.state.world ≡ session_turn r c.args.at c.args.state.now.world) c.telling_turn.result c.args.reading c.telling_turn.ensures.ok

pub returns-in-Some-untold-clause-front : goal.returns-in-Some-untold-clause-front
returns-in-Some-untold-clause-front g c =
    err_at (λ r. IsFront c.telling_turn.new.state.world.entries (session_turn r c.args.at c.args.state.now.world).entries) c.telling_turn.result c.args.reading c.telling_turn.ensures.front

pub returns-in_default-clause-disks : goal.returns-in_default-clause-disks
returns-in_default-clause-disks g c = as_ok _ _ _ (quiet_same _)

pub returns-then-not-session-clause-disks : goal.returns-then-not-session-clause-disks
returns-then-not-session-clause-disks g c = as_ok _ _ _ (quiet_same _)
