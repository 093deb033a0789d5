use Rattle.std.proofs.Common.{ap, ◌∙◌}
use Rattle.next_steps.proofs.Sizes.{few_slots_at}
use Rattle.next_steps.proofs.sending.picked_at.Goals as goal

pub pick-requires : goal.pick-requires
pick-requires c = few_slots_at c.args.state.now c.args.db _ (c.store.ensures ∙ ap (λ d. d.tables) c.database.ensures) c.requires
