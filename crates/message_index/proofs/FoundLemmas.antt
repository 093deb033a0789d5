-- The message that is found by a number.
use Rattle.std.proofs.Common.{◌≡◌, ℕ, ◌==◌, List, Option, Some, sym, subst}
use Rattle.std.specs.Prelude.{find, position, slice_get, IfSome}
use Rattle.std.proofs.lemmas.Bool.{eqb-true}
use Rattle.queue_rows.specs.declared.rows.MsgRow.{MsgRow}
use Rattle.open_rows.proofs.FindLemmas.{find-at_position, find-passes}

-- what holds of the message that is found holds of the one at its position
pub holds_at_position : (P : MsgRow → Type 0) (ms : List MsgRow) (id i : ℕ) → position (λ m. m.id == id) ms ≡ Some i → IfSome (find (λ m. m.id == id) ms) P → IfSome (slice_get ms i) P
holds_at_position P ms id i e h =
    let Q : Option MsgRow → Type 0 = λ m. IfSome m P in
    subst Q (find-at_position (λ m. m.id == id) ms i e) h

-- the message that is found by a number has it
pub found_has_id : (ms : List MsgRow) (id : ℕ) (m : MsgRow) → find (λ r. r.id == id) ms ≡ Some m → m.id ≡ id
found_has_id ms id m e = eqb-true m.id id (find-passes (λ r. r.id == id) ms m e)

-- what holds of the message that is found by a number holds of what is found by its own
pub holds_by_its_id : (P : MsgRow → Type 0) (ms : List MsgRow) (id : ℕ) (m : MsgRow) → find (λ r. r.id == id) ms ≡ Some m → IfSome (find (λ r. r.id == id) ms) P → IfSome (find (λ r. r.id == m.id) ms) P
holds_by_its_id P ms id m e h =
    let same : m.id ≡ id = found_has_id ms id m e in
    let Q : ℕ → Type 0 = λ n. IfSome (find (λ r. r.id == n) ms) P in
    subst Q (sym same) h
