-- How many calls on the disks a flush makes.
use Rattle.std.specs.Prelude.{◌≡◌, ◌≤◌, ◌+◌, ◌⊎◌, ℕ, List, [], ◌∷◌, true, ⊤}
use Rattle.history_laws.specs.Durability.{is_flush}
use Rattle.queue_rows.specs.declared.history.Entry.{Entry}
use Rattle.durable_state.specs.Held.{Held, HasFailed}

-- where the entry is a flush, it made at most four calls on each disk since the one before it
abbrev pub IsBriefBehind : Entry → Entry → Type 0
IsBriefBehind before e = is_flush e.step ≡ true → (e.home_calls ≤ before.home_calls + 4) × (e.away_calls ≤ before.away_calls + 4)

-- so it is of each of these entries, the first of which stands behind that one
abbrev pub AreBriefBehind : Entry → List Entry → Type 0
AreBriefBehind before [] = ⊤
AreBriefBehind before (e ∷ rest) = IsBriefBehind before e × AreBriefBehind e rest

-- each flush behind another entry made at most four calls on each disk
abbrev pub AreBrief : List Entry → Type 0
AreBrief [] = ⊤
AreBrief (e ∷ rest) = AreBriefBehind e rest

-- ---- how far the disks are

-- behind the last of these entries, the first of which stands behind that one, the call numbers are these
abbrev pub EndsBehind : ℕ → ℕ → Entry → List Entry → Type 0
EndsBehind home away last [] = (last.home_calls ≡ home) × (last.away_calls ≡ away)
EndsBehind home away before (e ∷ rest) = EndsBehind home away e rest

-- behind the last of these entries they are these
abbrev pub EndsAt : ℕ → ℕ → List Entry → Type 0
EndsAt home away [] = ⊤
EndsAt home away (e ∷ rest) = EndsBehind home away e rest

-- each flush made few calls; and no call was made behind the last entry, unless one failed
pub record IsBrief {D : Type 0} (calls : D → ℕ) (v : Held D) : Type 0 where
  pub flushes : AreBrief v.entries
  pub present : HasFailed v ⊎ EndsAt (calls v.home.disk) (calls v.away.disk) v.entries
