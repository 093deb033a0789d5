use Rattle.std.proofs.Common.{sym, ◌∙◌}
use Rattle.queue_rows.specs.Propagating.{is_pair}
use Rattle.run_state.proofs.Places.{found_at, found_nowhere}
use Rattle.run_state.proofs.steps.pair_place.Goals as goal

pub returns-in-Some : goal.returns-in-Some
returns-in-Some c = found_at (is_pair c.args.at.now.id c.args.at.now.slot) c.args.there.now.seen c.in-Some.place (sym c.find_pair.ensures ∙ c.in-Some.is)

pub returns-in-None : goal.returns-in-None
returns-in-None c = c.len.ensures ∙ found_nowhere (is_pair c.args.at.now.id c.args.at.now.slot) c.args.there.now.seen (sym c.find_pair.ensures ∙ c.in-None.is)
