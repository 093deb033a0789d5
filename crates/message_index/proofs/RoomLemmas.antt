-- Memory for the slots of one message more.
use Rattle.std.proofs.Common.{◌≡◌, ℕ, false, List, [], ◌∷◌, ◌++◌, append_assoc, sym, ap, ◌∙◌, subst}
use Rattle.std.proofs.lemmas.Bool.{false≢true}
use Rattle.queue_rows.specs.declared.rows.MsgRow.{MsgRow}
use Rattle.queue_rows.specs.declared.change.Change.{Change}
use Rattle.queue_rows.specs.declared.change.Change.TheVariants as changes
use Rattle.std.specs.List.{list_any}
use Rattle.message_index.specs.SlotRooms.{AddsRoom, HasSlotRooms, is_move}

-- memory for one more comes last
pub one_more : (ms : List MsgRow) (all : List Change) (c : Change) (rest : List Change) (old new : List ℕ) → AddsRoom ms all c old new
    → ((later : List ℕ) → HasSlotRooms ms all (c ∷ rest) later → HasSlotRooms ms all all (old ++ later))
    → (later : List ℕ) → HasSlotRooms ms all rest later → HasSlotRooms ms all all (new ++ later)
one_more ms all (changes.Moved id queue at) rest old new adds more later h =
    let whole : new ++ later ≡ old ++ adds.slots ∷ later = ap (λ x. x ++ later) adds.last ∙ append_assoc old (adds.slots ∷ []) later in
    subst (HasSlotRooms ms all all) (sym whole) (more (adds.slots ∷ later) (adds.enough, h))
one_more ms all _ rest old new adds more later h =
    subst (HasSlotRooms ms all all) (ap (λ x. x ++ later) (sym adds)) (more later h)

-- where no message is moved, none needs memory
pub none_moved : (ms : List MsgRow) (all cs : List Change) (slots : List ℕ) → list_any is_move cs ≡ false → HasSlotRooms ms all cs slots
none_moved ms all [] slots none = tt
none_moved ms all (changes.Moved id queue at ∷ cs) slots none = absurd (false≢true (sym none))
none_moved ms all (_ ∷ cs) slots none = none_moved ms all cs slots none
