-- The marks of all sessions, at both databases.
use Rattle.std.specs.Prelude.{◌≡◌, ◌≢◌, ◌⊎◌, ◌+◌, ℕ, List, [], ◌∷◌, false}
use Rattle.aq_base.specs.declared.DbId.{DbId}
use Rattle.aq_base.specs.declared.DbId.TheVariants.{Home, Away}
use Rattle.slot_marks.specs.declared.mark.Mark.{Mark}
use Rattle.slot_marks.specs.Marks.{SessionMarks, marks_of}
use Rattle.queue_rows.specs.Session.{Session, is_same_db}
use Rattle.session_registry.specs.declared.locks.Locks.{Locks}

abbrev pub locks_at : DbId → Locks → List SessionMarks
locks_at Home l = l.home
locks_at Away l = l.away

-- the marks of a session, at a database
abbrev pub marks_at : DbId → ℕ → Locks → List Mark
marks_at db i l = marks_of (locks_at db l) i

-- no session has other marks than before
abbrev pub KeepsMarks : Locks → Locks → Type 0
KeepsMarks old new = (db : DbId) (i : ℕ) → marks_at db i new ≡ marks_at db i old

-- the session has these marks at the database, and all else is as before
pub record ChangesMarks (db : DbId) (i : ℕ) (marks : List Mark) (old new : Locks) : Type 0 where
  pub own : marks_at db i new ≡ marks
  pub others : (e : DbId) (j : ℕ) → (j ≢ i) ⊎ (is_same_db e db ≡ false) → marks_at e j new ≡ marks_at e j old

-- the sessions from that number on, each with the marks that the locks of its database keep for it
abbrev pub shown_from : ℕ → Locks → List Session → List Session
shown_from i l [] = []
shown_from i l (s ∷ more) = record s { marks = marks_at s.at i l } ∷ shown_from (i + 1) l more

abbrev pub shown : Locks → List Session → List Session
shown l sessions = shown_from 0 l sessions
