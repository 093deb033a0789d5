use Rattle.std.specs.Prelude.{option_copied}
use Rattle.next_steps.proofs.Doings.{effect_answers, effect_parks, own_mark}
use Rattle.next_steps.proofs.respond.moving.Goals as goal

pub returns-in_ok-positions-in-Answer-clause-means : goal.returns-in_ok-positions-in-Answer-clause-means
returns-in_ok-positions-in-Answer-clause-means c = λ s is.
    effect_answers c.args.effect c.in-Answer.reply c.in_ok-positions-in-Answer.positions c.args.caller.session.now.positions c.args.queue.now (option_copied c.args.consumer) c.args.caller.moment s c.in-Answer.is c.in_ok-positions-in-Answer.ensures is.positions

pub returns-in_ok-positions-in-Answer-clause-mark : goal.returns-in_ok-positions-in-Answer-clause-mark
returns-in_ok-positions-in-Answer-clause-mark c = own_mark c.args.effect.mark

pub returns-in-Park-clause-means : goal.returns-in-Park-clause-means
returns-in-Park-clause-means c = λ s is.
    effect_parks c.args.effect c.first_look.result c.args.queue.now (option_copied c.args.consumer) c.args.caller.moment s c.in-Park.is (c.first_look.ensures s is)
