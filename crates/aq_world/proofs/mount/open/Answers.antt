use Rattle.std.proofs.Common.{[], Ok, sym, ap, subst, ◌∙◌}
use Rattle.durable_state.specs.Sound.{IsSound}
use Rattle.next_steps.specs.Sound.{IsRunning}
use Rattle.aq_world.specs.Mounting.{IsUnopened}
use Rattle.aq_world.proofs.Mounting.{are_mounted, if_passed, is_fresh, mounted_on, unopened_memory}
use Rattle.aq_world.proofs.Running.{opened_running, began_opened, began_home, began_away}
use Rattle.aq_world.proofs.Soundness.{may_begin}
use Rattle.aq_world.proofs.mount.open.Goals as goal

pub returns-in_err-home-clause-unopened : goal.returns-in_err-home-clause-unopened
returns-in_err-home-clause-unopened g c =
    if_passed c.from_residual.result _ (λ e. IsUnopened g.D.Disk e.cause c.args.home c.args.away e.home e.away) c.from_residual.ensures.1 c.in_err-home.ensures.unopened

pub returns-in-Ok-clause-runs : goal.returns-in-Ok-clause-runs
returns-in-Ok-clause-runs g c =
    subst (IsRunning []) (sym c.in-Ok.ensures.world) (opened_running _ _ c.args.scripts (may_begin _ _ c.args.scripts c.in_ok-home.ensures.home.sound c.in_ok-home.ensures.away.sound c.requires))

pub returns-in-Ok-clause-opens : goal.returns-in-Ok-clause-opens
returns-in-Ok-clause-opens g c = began_opened _ _ c.args.scripts c.in-Ok.state.world c.in-Ok.ensures.world

pub returns-in-Ok-clause-home : goal.returns-in-Ok-clause-home
returns-in-Ok-clause-home g c = λ bytes told. c.in_ok-home.ensures.home.recovers bytes told ∙ ap Ok (sym (began_home _ _ c.args.scripts c.in-Ok.state.world c.in-Ok.ensures.world))

pub returns-in-Ok-clause-away : goal.returns-in-Ok-clause-away
returns-in-Ok-clause-away g c = λ bytes told. c.in_ok-home.ensures.away.recovers bytes told ∙ ap Ok (sym (began_away _ _ c.args.scripts c.in-Ok.state.world c.in-Ok.ensures.world))

pub returns-in-Ok-clause-sound : goal.returns-in-Ok-clause-sound
returns-in-Ok-clause-sound g c =
    let w = c.in-Ok.state.world in
    (subst IsSound (sym (began_home _ _ c.args.scripts w c.in-Ok.ensures.world)) c.in_ok-home.ensures.home.sound, subst IsSound (sym (began_away _ _ c.args.scripts w c.in-Ok.ensures.world)) c.in_ok-home.ensures.away.sound)

pub returns-in-Ok-clause-begun : goal.returns-in-Ok-clause-begun
returns-in-Ok-clause-begun g c =
    c.in-Ok.ensures.begun (record { home = c.args.home; away = c.args.away }) (mounted_on g.D.Disk c.args.home _ _ c.in_ok-home.ensures.home) (mounted_on g.D.Disk c.args.away _ _ c.in_ok-home.ensures.away)

pub returns-in-Ok-clause-mounted : goal.returns-in-Ok-clause-mounted
returns-in-Ok-clause-mounted g c =
    let w = c.in-Ok.state.world in
    are_mounted g.D.Disk c.args.home c.args.away _ _ _ _ c.in_ok-home.ensures.home c.in_ok-home.ensures.away c.in-Ok.state (began_home _ _ c.args.scripts w c.in-Ok.ensures.world) (began_away _ _ c.args.scripts w c.in-Ok.ensures.world)
    c.in-Ok.ensures.logs.0 c.in-Ok.ensures.logs.1

pub returns-in-Ok-clause-fresh : goal.returns-in-Ok-clause-fresh
returns-in-Ok-clause-fresh g c =
    let w = c.in-Ok.state.world in
    is_fresh g.D.Disk c.args.home c.args.away _ _ _ _ c.in_ok-home.ensures.home c.in_ok-home.ensures.away c.in-Ok.state (began_home _ _ c.args.scripts w c.in-Ok.ensures.world) (began_away _ _ c.args.scripts w c.in-Ok.ensures.world)
    c.in-Ok.ensures.logs.0 c.in-Ok.ensures.logs.1 c.args.scripts c.in-Ok.ensures.world c.in-Ok.ensures.entries

pub returns-in-Err-clause-unopened : goal.returns-in-Err-clause-unopened
returns-in-Err-clause-unopened g c =
    unopened_memory g.D.Disk c.args.home c.args.away _ _ _ _ c.in_ok-home.ensures.home c.in_ok-home.ensures.away _ _ c.in-Err.ensures.err.0 c.in-Err.ensures.err.1
