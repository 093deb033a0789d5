use Rattle.serde_json.specs.View.{view}
use Rattle.json_frames.proofs.Texts.{json_read, json_unread}
use Rattle.script_text.proofs.line.json.Goals as goal

pub returns-in-Ok-clause-ok : goal.returns-in-Ok-clause-ok
returns-in-Ok-clause-ok c = json_read c.args.line.now (view c.in-Ok.value) c.in-Ok.ensures.ok.0 c.in-Ok.ensures.ok.1

pub returns-else-is_memory-clause-bad : goal.returns-else-is_memory-clause-bad
returns-else-is_memory-clause-bad c = λ _. json_unread c.args.line.now (c.in-Err.ensures.err (λ memory. let told = c.is_memory.ensures.1 memory in let not_told = c.if-is_memory.false in absurd cc))
