-- What is read is the one condition of the text, and what is refused is the text of none.
use Rattle.std.proofs.Common.{◌≡◌, ℕ, ◌-◌, List, length, Result, Ok, Err, sym, ◌∙◌, ap, rules}
use Rattle.rule_conditions.specs.Lexing.{behind_space}
use Rattle.rule_conditions.specs.declared.condition.Cond.{Cond}
use Rattle.rule_text.specs.Outline.{start}
use Rattle.rule_text.specs.Reading.{Reads}
use Rattle.rule_text.proofs.Begins.{refused_there}
use Rattle.rule_text.proofs.Complete.{found_is_the_one, bad_is_none, bad_is_none_printed}
use Rattle.rule_text.proofs.Computed.{condition_is, place_is}
use Rattle.rule_text.proofs.reader.read.Goals as goal

pub returns-in-Ok-clause-complete : goal.returns-in-Ok-clause-complete
returns-in-Ok-clause-complete c =
    let r : Reads start (behind_space c.args.text.now) (Ok c.in-Ok.condition) = search rules in
    λ condition is. found_is_the_one c.args.text.now c.in-Ok.condition condition r is

pub returns-in-Err-At-clause-complete : goal.returns-in-Err-At-clause-complete
returns-in-Err-At-clause-complete c =
    let r : Reads start (behind_space c.args.text.now) (Err c.in-Err-At.rest.now) = search rules in
    λ condition is. bad_is_none c.args.text.now c.in-Err-At.rest.now (length c.as_bytes-bytes.result.now - length c.in-Err-At.rest.now) condition r is

pub returns-in-Err-At-clause-printed : goal.returns-in-Err-At-clause-printed
returns-in-Err-At-clause-printed c =
    let r : Reads start (behind_space c.args.text.now) (Err c.in-Err-At.rest.now) = search rules in
    λ condition readable e. bad_is_none_printed c.args.text.now c.in-Err-At.rest.now (length c.as_bytes-bytes.result.now - length c.in-Err-At.rest.now) condition r readable e

pub returns-in-Err-At-clause-bad : goal.returns-in-Err-At-clause-bad
returns-in-Err-At-clause-bad c =
    let r : Reads start (behind_space c.args.text.now) (Err c.in-Err-At.rest.now) = search rules in
    let same : c.as_bytes-bytes.result.now ≡ c.args.text.now = search rules in
    refused_there c.args.text.now c.in-Err-At.rest.now (length c.as_bytes-bytes.result.now - length c.in-Err-At.rest.now) c.utf8.text r (ap (λ (x : List ℕ). length x - length c.in-Err-At.rest.now) same)

pub returns-in-Ok-clause-computed : goal.returns-in-Ok-clause-computed
returns-in-Ok-clause-computed c =
    let r : Reads start (behind_space c.args.text.now) (Ok c.in-Ok.condition) = search rules in
    condition_is c.args.text.now c.in-Ok.condition c.utf8.text r

pub returns-in-Err-At-clause-stopped : goal.returns-in-Err-At-clause-stopped
returns-in-Err-At-clause-stopped c =
    let r : Reads start (behind_space c.args.text.now) (Err c.in-Err-At.rest.now) = search rules in
    let same : c.as_bytes-bytes.result.now ≡ c.args.text.now = search rules in
    place_is c.args.text.now c.in-Err-At.rest.now c.utf8.text r
    ∙ ap (λ (x : List ℕ). let o : Result Cond ℕ = Err (length x - length c.in-Err-At.rest.now) in o) (sym same)
