use Rattle.std.proofs.Common.{◌≡◌}
use Rattle.serde_json.specs.View.{members_view}
use Rattle.script_text.specs.Form.{only_keys}
use Rattle.script_text.proofs.form.only_keys.Given as goal

abbrev pub invariant-loop-key : goal.invariant-loop-key
invariant-loop-key l = only_keys l.form (members_view l.key-iterator) ≡ only_keys l.form (members_view l.members.entries)
