use Rattle.std.proofs.Common.{◌+◌, ap, ◌∙◌}
use Rattle.queue_rows.specs.World.{came}
use Rattle.next_steps.proofs.Sendings.{is_dispatched}
use Rattle.next_steps.proofs.sending.next_confirmation.Goals as goal

pub confirm-requires : goal.confirm-requires
confirm-requires c =
    is_dispatched c.args.state.now c.args.at (came (c.args.place + 1)) _ (c.store.ensures ∙ ap (λ d. d.tables) c.database.ensures) c.requires.valid c.requires.sent
