use Rattle.std.proofs.Common.{◌≡◌, true, All, sym, subst}
use Rattle.std.proofs.lemmas.List.Elements.{All-drop, recursion_from_All}
use Rattle.queue_rows.specs.declared.change.Change.{Change}
use Rattle.message_store.specs.OfMessages.{is_of_message}
use Rattle.message_store.proofs.in_place.apply_in_order.Goals as goal

pub apply_behind-requires-clause-of : goal.apply_behind-requires-clause-of
apply_behind-requires-clause-of c =
    let P : Change → Type 0 = λ change. is_of_message change ≡ true in
    let all = subst (All P) (sym c.into_vec-changes.ensures) c.requires.of in
    recursion_from_All P _ (All-drop P c.count_taken-taken.result _ all)
