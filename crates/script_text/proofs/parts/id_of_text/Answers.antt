use Rattle.std.proofs.Common.{sym, ◌∙◌}
use Rattle.script_text.proofs.Ids.{no_letter}
use Rattle.script_text.proofs.parts.id_of_text.Goals as goal

pub returns-in_err-strip_prefix-clause-id : goal.returns-in_err-strip_prefix-clause-id
unfolding lib.Utf8.encode
returns-in_err-strip_prefix-clause-id c =
    c.from_residual.ensures ∙ sym (no_letter c.args.text.now c.in_default.ensures.cases c.in_err-strip_prefix.ensures.cases)
