-- The facts on fates: of the slots of each database of a history.
use Rattle.std.specs.Prelude.{◌≡◌, ◌≤◌, ℕ, List, ◌∷◌, ◌++◌, Bool, true, false, count_by, Option, Some, None, is_some, option_map}
use Rattle.std.specs.List.{list_any}
use Rattle.std.specs.Option.{option_map_or}
use Rattle.aq_base.specs.declared.DbId.{DbId}
use Rattle.queue_rows.specs.Rows.{find_message, slot_of}
use Rattle.history_laws.specs.Made.{commits_of, changes_of, opening_of, tables_after}
use Rattle.history_laws.specs.Fates.{Fate, fate_in, is_final, fate, fate_by, names, is_done}
use Rattle.queue_rows.specs.declared.rows.MsgRow.{MsgRow}
use Rattle.queue_rows.specs.declared.change.Change.{Change}
use Rattle.queue_rows.specs.declared.history.History.{History}

-- ---- fates

-- there is a fate, and it is final
abbrev pub has_final : Option Fate → Bool
has_final fate = option_map_or is_final fate false

-- where the message's row is there, the fate is that of its slot; where it is gone, the fate is final, if there is one
abbrev pub Agrees : Option MsgRow → ℕ → Option Fate → Type 0
Agrees (Some m) slot fate = fate ≡ option_map (λ s. fate_in s.state) (slot_of m slot)
Agrees None slot fate = is_some fate ≡ true → has_final fate ≡ true

-- the fate of each slot is what its row says, or final
abbrev pub FatesAgree : DbId → History → Type 0
FatesAgree db h = (id slot : ℕ) → Agrees (find_message (tables_after db h) id) slot (fate (opening_of db h) (commits_of db h.entries) id slot)

-- each slot of a committed message has a fate
abbrev pub EachHasFate : DbId → History → Type 0
EachHasFate db h = (id slot : ℕ) → list_any (names id slot) (changes_of (commits_of db h.entries)) ≡ true → is_some (fate (opening_of db h) (commits_of db h.entries) id slot) ≡ true

-- no change names a slot after its fate is final
abbrev pub StaysFinal : DbId → History → Type 0
StaysFinal db h = (id slot : ℕ) (before : List Change) (c : Change) (rest : List Change) → changes_of (commits_of db h.entries) ≡ before ++ c ∷ rest
    → has_final (fate_by (opening_of db h) before id slot) ≡ true → names id slot c ≡ false

-- each slot is removed at most once
abbrev pub RemovedOnce : DbId → History → Type 0
RemovedOnce db h = (id slot : ℕ) → count_by (is_done id slot) (changes_of (commits_of db h.entries)) ≤ 1

-- ---- together

-- each slot has one fate, which its row says; it stays when it is final; and each slot is removed at most once
pub record HasFates (db : DbId) (h : History) : Type 0 where
  pub agree : FatesAgree db h
  pub each : EachHasFate db h
  pub final : StaysFinal db h
  pub once : RemovedOnce db h
