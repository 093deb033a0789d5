use Rattle.std.specs.Prelude.{◌≡◌, Ok}
use Rattle.std.proofs.lemmas.Result.{on_ok_weaker}
use Rattle.rule_conditions.specs.Print.{print}
use Rattle.rule_conditions.specs.Reading.{condition_of}
use Rattle.redo_records.specs.Spelled.{IsRule}
use Rattle.redo_records.proofs.Typed.{if_some_apply}
use Rattle.redo_records.proofs.rows.put_sub_row.Goals as goal

pub returns-clause-typed : goal.returns-clause-typed
returns-clause-typed c =
    on_ok_weaker c.put_optional-2.result (λ typed read. record {
      queue = c.in_ok-put.ensures.typed;
      name = c.in_ok-put-2.ensures.typed;
      address = c.in_ok-put_optional.ensures.typed;
      rule = if_some_apply (λ rule. condition_of (print rule) ≡ Ok rule) IsRule c.args.row.now.rule typed read;
    }) c.put_optional-2.ensures.typed
