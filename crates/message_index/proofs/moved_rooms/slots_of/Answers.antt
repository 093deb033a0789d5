use Rattle.std.proofs.Common.{◌≤◌, ◌==◌, List, ℕ, ◌∙◌, sym, ap, subst}
use Rattle.std.specs.Prelude.{count_by}
use Rattle.message_index.proofs.MessageLemmas.{count_of_ids}
use Rattle.message_index.proofs.SlotLemmas.{slots_alone}
use Rattle.message_index.proofs.moved_rooms.slots_of.Goals as goal

pub returns-then-is_alone : goal.returns-then-is_alone
returns-then-is_alone c =
    let id = c.args.id in
    let ms = c.args.messages.now in
    let same = sym (ap (λ (ids : List ℕ). count_by (λ i. i == id) ids) c.requires ∙ count_of_ids id ms) in
    let one : count_by (λ m. m.id == id) ms ≤ 1 = subst (λ (n : ℕ). n ≤ 1) (sym same) (c.is_alone.ensures c.if-is_alone.true) in
    c.slots_of_first.ensures ∙ slots_alone id ms one
