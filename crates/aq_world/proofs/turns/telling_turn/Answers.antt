use Rattle.aq_world.proofs.Turning.{at_err, owed_some, told_whole, untold_front}
use Rattle.aq_world.proofs.Goings.{as_failed, as_ok, quiet_by}
use Rattle.aq_world.proofs.turns.telling_turn.Goals as goal

pub tell-requires : goal.tell-requires
tell-requires g c = owed_some c.args.state.now.world c.args.at c.args.number c.requires

pub returns-in_err-tell-clause-front : goal.returns-in_err-tell-clause-front
returns-in_err-tell-clause-front g c = at_err c.from_residual.result (untold_front c.args.state.now.world c.tell.new.self.world c.args.at c.args.number c.requires c.in_err-tell.ensures.err)

pub returns-clause-ok : goal.returns-clause-ok
returns-clause-ok g c = told_whole c.args.state.now.world c.tell.new.self.world c.args.at c.args.number c.requires c.in_ok-tell.ensures.ok

pub returns-in_err-tell-clause-disks : goal.returns-in_err-tell-clause-disks
returns-in_err-tell-clause-disks g c = as_failed c.from_residual.result _ _ c.from_residual.ensures.1 c.tell.ensures.disks c.tell.ensures.adds c.in_err-tell.ensures.halted

pub returns-clause-disks : goal.returns-clause-disks
returns-clause-disks g c = as_ok _ _ _ (quiet_by _ _ c.tell.ensures.disks c.tell.ensures.adds c.in_ok-tell.ensures.fine)
