use Rattle.aq_world.proofs.Goings.{as_memory, as_ok, quiet_on}
use Rattle.aq_world.proofs.Turning.{at_err, sound_at_call, called_whole, called_end, begun_front}
use Rattle.aq_world.proofs.turns.calling_turn.Goals as goal

pub own_turn-requires : goal.own_turn-requires
own_turn-requires g c = sound_at_call c.args.reading c.args.state.now.world c.begin.new.state.world c.args.at c.requires.calling c.in_ok-begin.ensures.ok c.requires.sound

pub returns-in_err-begin-clause-disks : goal.returns-in_err-begin-clause-disks
returns-in_err-begin-clause-disks g c = as_memory c.from_residual.result _ _ c.from_residual.ensures.1 c.begin.ensures.disks

pub returns-in_err-own_turn-clause-front : goal.returns-in_err-own_turn-clause-front
returns-in_err-own_turn-clause-front g c =
    at_err c.from_residual-in_err-own_turn.result (begun_front c.args.reading c.args.state.now.world c.begin.new.state.world c.own_turn.new.state.world c.args.at c.requires.calling c.in_ok-begin.ensures.ok c.in_err-own_turn.ensures.err)

pub returns-in_err-own_turn-clause-disks : goal.returns-in_err-own_turn-clause-disks
returns-in_err-own_turn-clause-disks g c = as_memory c.from_residual-in_err-own_turn.result _ _ c.from_residual-in_err-own_turn.ensures.1 (quiet_on _ _ _ c.begin.ensures.disks c.own_turn.ensures.disks)

pub returns-clause-ok : goal.returns-clause-ok
returns-clause-ok g c = called_whole c.args.reading c.args.state.now.world c.begin.new.state.world c.own_turn.new.state.world c.args.at c.requires.calling c.in_ok-begin.ensures.ok c.in_ok-own_turn.ensures.ok

pub returns-clause-end : goal.returns-clause-end
returns-clause-end g c = called_end c.args.reading c.args.state.now.world c.begin.new.state.world c.args.at _ c.requires.calling c.in_ok-begin.ensures.ok c.in_ok-own_turn.ensures.end

pub returns-clause-disks : goal.returns-clause-disks
returns-clause-disks g c = as_ok _ _ _ (quiet_on _ _ _ c.begin.ensures.disks c.own_turn.ensures.disks)
