use Rattle.std.proofs.Common.{Some, option_map, sym, ap, ◌∙◌}
use Rattle.std.specs.Prelude.{option_copied}
use Rattle.run_state.specs.Sendings.{transit_of}
use Rattle.next_steps.proofs.Sizes.{sent_slot}
use Rattle.next_steps.proofs.due.slot_sent.Goals as goal

pub returns-in-Some : goal.returns-in-Some
returns-in-Some c = sent_slot (Some c.in-Some.transit.now) c.args.state.now (sym (ap (λ o. option_map transit_of (option_copied o)) c.in-Some.is) ∙ c.transit.ensures)
