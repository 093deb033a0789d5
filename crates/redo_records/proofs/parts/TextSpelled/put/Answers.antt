use Rattle.std.proofs.Common.{◌∙◌, subst}
use Rattle.std.proofs.lemmas.Result.{on_ok_weaker}
use Rattle.redo_records.specs.Spelled.{IsText}
use Rattle.redo_records.proofs.Texts.{text_test}
use Rattle.redo_records.proofs.parts.TextSpelled.put.Goals as goal

pub returns-clause-typed : goal.returns-clause-typed
returns-clause-typed c =
    on_ok_weaker c.put_run.result (λ _. subst IsText (c.as_bytes.ensures.value ∙ c.as_str.ensures) (c.put_run.ensures.typed, text_test c.as_bytes.result.now c.as_bytes.ensures.utf8)) c.put_run.ensures.bytes
