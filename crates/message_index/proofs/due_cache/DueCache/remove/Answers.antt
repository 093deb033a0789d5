use Rattle.std.proofs.Common.{ℕ, Option, ap, subst, ◌∙◌}
use Rattle.due_index.specs.Due.{DueRows}
use Rattle.due_slots.specs.Edits.{without}
use Rattle.due_slots.specs.Rows.{rows_of}
use Rattle.message_index.specs.DueKept.{IfDue, keeps_in}
use Rattle.message_index.proofs.DueLemmas.{rows_stay}
use Rattle.message_index.proofs.due_cache.DueCache.remove.Goals as goal

pub returns-then-has_few_slots-clause-rows : goal.returns-then-has_few_slots-clause-rows
returns-then-has_few_slots-clause-rows c =
    let keeps = keeps_in c.args.self.now.keeps in
    let m = c.args.message.now in
    let rows = c.in-Some.slots.rows in
    let left = c.remove.ensures.rows ∙ ap (λ (n : ℕ). without rows (rows_of n m)) c.keeps_in-retention.ensures in
    λ ms others due. rows_stay keeps m rows c.remove.new.self.rows c.without_tells.ensures c.rows_have_its_number.ensures left ms (others c.if-alone.true)
    (subst (λ (o : Option DueRows). IfDue keeps ms o) c.in-Some.is due)
