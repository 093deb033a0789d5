use Rattle.serde_json.specs.View.{view}
use Rattle.script_text.proofs.Limits.{fields_within}
use Rattle.script_text.proofs.parts.fields_at.Goals as goal

pub returns-in-Ok-clause-within : goal.returns-in-Ok-clause-within
returns-in-Ok-clause-within c = fields_within (view c.in-Some.fields.now) c.in-Ok.fields c.in-Ok.ensures.ok
