-- Sessions whose marks the locks keep are watched alike.
use Rattle.std.proofs.Common.{◌≡◌, ℕ, List, Option, Some, None, Result, Ok, Err, IfOk, refl, ap, ◌∙◌, [], ◌∷◌, ◌++◌}
use Rattle.std.specs.Prelude.{flat_map, ◌||◌, if◌then◌else◌}
use Rattle.aq_base.specs.declared.DbId.{DbId}
use Rattle.slot_marks.specs.Marks.{SessionMarks}
use Rattle.queue_rows.specs.Rows.{slot_of}
use Rattle.queue_rows.specs.Session.{Session}
use Rattle.queue_rows.specs.Settling.{settled}
use Rattle.queue_rows.specs.Due.{Watch, group_in, is_held_by_any, is_sent, due_change, due_slot, due_slots, due_purge, slot_numbers, due, watched}
use Rattle.queue_rows.specs.declared.tables.Tables.{Tables}
use Rattle.queue_rows.specs.declared.rows.MsgRow.{MsgRow}
use Rattle.queue_rows.specs.declared.rows.SlotRow.{SlotRow}
use Rattle.queue_rows.specs.declared.change.Change.{Change}
use Rattle.queue_rows.specs.declared.history.SlotRef.{SlotRef}
use Rattle.queue_rows.specs.World.{committed_tables}
use Rattle.queue_rows.specs.Session.{AreMarks}
use Rattle.valid_laws.specs.ValidLaws.{NothingDueAt}
use Rattle.time_manager.specs.Watching.{sessions_with, IsDue, IsCalmAfter}
use Rattle.time_manager.proofs.Held.{held-same, are_plain}

same_flat : {X Y : Type 0} (f g : X → List Y) (xs : List X) → ((x : X) → f x ≡ g x) → flat_map f xs ≡ flat_map g xs
same_flat f g [] same = refl
same_flat f g (x ∷ xs) same = (λ i. same x i ++ same_flat f g xs same i)

module _ (t : Tables) (db : DbId) (sent : Option SlotRef) (moment : ℕ) (sessions sessions₂ : List Session)
    (alike : (id slot : ℕ) → (m : MsgRow) → is_held_by_any sessions db id slot (group_in t m slot) ≡ is_held_by_any sessions₂ db id slot (group_in t m slot)) where
  abbrev watch : List Session → Watch
  watch all = record { tables = t; sessions = all; db = db; sent = sent; moment = moment }

  same_slot : (m : MsgRow) (slot : ℕ) (o : Option SlotRow) → due_slot (watch sessions) m slot o ≡ due_slot (watch sessions₂) m slot o
  same_slot m slot None = refl
  same_slot m slot (Some s) = ap (λ b. if (is_sent sent db m.id slot || b) then [] else due_change m.id slot s moment) (alike m.id slot m)

  same_slots : (m : MsgRow) → due_slots (watch sessions) m ≡ due_slots (watch sessions₂) m
  same_slots m = same_flat (λ slot. due_slot (watch sessions) m slot (slot_of m slot)) (λ slot. due_slot (watch sessions₂) m slot (slot_of m slot)) (slot_numbers m) (λ slot. same_slot m slot (slot_of m slot))

  same_watched : watched (watch sessions) ≡ watched (watch sessions₂)
  same_watched = ap (λ slots. settled t (slots ++ flat_map (due_purge (watch sessions)) t.messages)) (same_flat (due_slots (watch sessions)) (due_slots (watch sessions₂)) t.messages same_slots)

-- what is due for the plainest sessions is due for all whose marks the locks keep
pub due_for : (t : Tables) (db : DbId) (locks : List SessionMarks) (sent : Option SlotRef) (moment : ℕ) (sessions : List Session) → AreMarks db sessions locks
    → watched (record { tables = t; sessions = sessions_with db locks; db = db; sent = sent; moment = moment }) ≡ due t sessions db sent moment
unfolding due
due_for t db locks sent moment sessions are =
    same_watched t db sent moment (sessions_with db locks) sessions (λ id slot m. held-same db (sessions_with db locks) sessions locks (are_plain db locks) are id slot (group_in t m slot))

-- ---- where an answer is there

pub if_ok : {A E : Type 0} (r : Result A E) (P Q : A → Type 0) → ((a : A) → P a → Q a) → IfOk r P → IfOk r Q
if_ok (Ok a) P Q to holds = to a holds
if_ok (Err e) P Q to holds = holds

module _ (u t : Tables) (same : u ≡ t) (db : DbId) (locks : List SessionMarks) (sent : Option SlotRef) (moment : ℕ) (changes : List Change)
    (all : changes ≡ watched (record { tables = u; sessions = sessions_with db locks; db = db; sent = sent; moment = moment })) where
  pub is_due : IsDue t db locks sent moment changes
  is_due sessions are =
      all ∙ ap (λ u. watched (record { tables = u; sessions = sessions_with db locks; db = db; sent = sent; moment = moment })) same
      ∙ due_for t db locks sent moment sessions are

  pub is_calm : NothingDueAt → IsCalmAfter t db locks sent moment changes
  is_calm law sessions are valid =
      ap (λ cs. due (committed_tables t cs moment) sessions db sent moment) (is_due sessions are) ∙ law t sessions db sent moment valid
