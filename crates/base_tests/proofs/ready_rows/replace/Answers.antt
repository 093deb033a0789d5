use Rattle.std.proofs.Common.{ℕ, List, Option, subst, sym}
use Rattle.sort_index.specs.Ready.{EditsRows, IsFree, rows_of, without_row}
use Rattle.sort_index.specs.EditLaws.{own_rows, free_once_taken}
use Rattle.sort_index.specs.declared.group.Ready.{Ready}
use Rattle.base_tests.proofs.ready_rows.replace.Goals as goal

pub put-requires-clause-free : goal.put-requires-clause-free
put-requires-clause-free c =
    let queue = c.args.key.queue in
    let consumer = c.args.key.consumer in
    let place = c.args.key.place in
    let before = c.args.index.now.groups in
    let after = c.take-taken.new.self.groups in
    let E : Option (List ℕ) → Type 0 = λ d. EditsRows queue d (without_row place c.args.id) before after in
    let own = own_rows queue consumer (without_row place c.args.id) before after (subst E c.as_ref.ensures.value c.take-taken.ensures.rows) in
    let P : List Ready → Type 0 = λ rows. IsFree place c.args.id rows in
    subst P (sym own) (free_once_taken place c.args.id (rows_of queue consumer before))
