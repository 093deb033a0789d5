use Rattle.serde_json.specs.View.{view}
use Rattle.script_text.proofs.Limits.{props_within}
use Rattle.script_text.proofs.parts.props_at.Goals as goal

pub returns-in-Ok-clause-within : goal.returns-in-Ok-clause-within
returns-in-Ok-clause-within c = props_within (view c.in-Some.member.now) c.in-Ok.props c.in-Ok.ensures.ok c.in-Ok.ensures.in_order
