-- What holds of a session from statement to statement.
use Rattle.std.specs.Prelude.{◌≡◌, ◌==◌, ◌&&◌, ℕ, List, Bool, true, false, Some, slice_get}
use Rattle.std.specs.List.{list_any}
use Rattle.aq_base.specs.declared.DbId.{DbId}
use Rattle.queue_rows.specs.Session.{Session, is_same_db, has_removed, marks_slot}
use Rattle.queue_rows.specs.declared.session.Pending.{Pending}
use Rattle.queue_rows.specs.declared.session.Pending.TheVariants.{Add, Remove}

-- it removes that slot
abbrev pub is_removal_of : ℕ → ℕ → Pending → Bool
is_removal_of id slot (Add m) = false
is_removal_of id slot (Remove other behind) = (other == id) && (behind == slot)

-- The session has marked the slots as removed whose removals are pending, and no others.
pub record MarksAgree (s : Session) : Type 0 where
  pub removed : (id slot : ℕ) → has_removed s id slot ≡ list_any (is_removal_of id slot) s.pending

-- it adds the message of that id
abbrev pub is_addition_of : ℕ → Pending → Bool
is_addition_of id (Add m) = m.id == id
is_addition_of id (Remove named slot) = false

-- no session of the database but the one of that number has a mark on the slot
abbrev pub IsFreeOf : List Session → ℕ → DbId → ℕ → ℕ → Type 0
IsFreeOf sessions actor db id slot = (j : ℕ) (b : Session) → slice_get sessions j ≡ Some b → is_same_db b.at db ≡ true → (j == actor) ≡ false
    → list_any (marks_slot id slot) b.marks ≡ false
