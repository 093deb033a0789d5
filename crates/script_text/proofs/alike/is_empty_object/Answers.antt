use Rattle.std.proofs.Common.{false, ap, ◌∙◌, option_map}
use Rattle.std.specs.Prelude.{unwrap_or}
use Rattle.script_text.specs.Alike.{has_none}
use Rattle.script_text.proofs.alike.is_empty_object.Goals as goal
use Rattle.script_text.proofs.Enqueues.{none_in}

pub returns-in-Some : goal.returns-in-Some
returns-in-Some c = none_in c.is_empty.result _ c.is_empty.ensures ∙ ap (λ o. unwrap_or (option_map has_none o) false) c.in-Some.ensures
