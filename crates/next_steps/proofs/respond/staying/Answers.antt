use Rattle.std.proofs.Common.{refl, sym, ap}
use Rattle.sessions.specs.Effects.{positions_after}
use Rattle.session_registry.specs.declared.new_positions.NewPositions.TheVariants.{Same}
use Rattle.next_steps.proofs.Doings.{effect_answers, effect_parks, own_mark}
use Rattle.next_steps.proofs.respond.staying.Goals as goal

pub returns-in-Answer-clause-means : goal.returns-in-Answer-clause-means
returns-in-Answer-clause-means c = λ queue consumer s is.
    effect_answers c.args.effect c.in-Answer.reply Same s.positions queue consumer c.args.caller.moment s c.in-Answer.is (ap (λ p. positions_after p queue consumer s.positions) (sym c.requires)) refl

pub returns-in-Answer-clause-mark : goal.returns-in-Answer-clause-mark
returns-in-Answer-clause-mark c = own_mark c.args.effect.mark

pub returns-clause-means : goal.returns-clause-means
returns-clause-means c = λ queue consumer s is.
    effect_parks c.args.effect c.first_look.result queue consumer c.args.caller.moment s c.in-Park.is (c.first_look.ensures s is)
