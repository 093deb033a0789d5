-- How a run goes on.
use Rattle.std.specs.Prelude.{◌≡◌, ◌++◌, ℕ, List, Option, All}
use Rattle.queue_rows.specs.declared.history.Entry.{Entry}
use Rattle.durable_state.specs.Brief.{AreBrief}
use Rattle.durable_state.specs.Held.{Held}
use Rattle.durable_state.specs.Survival.{Begun, Survives}

-- whatever disks it began on, the run survives after it if it did before
pub record Goes {D : Type 0} (seen : D → Option (List ℕ)) (images : D → ℕ → List ℕ → Type 0) (calls faults : D → ℕ) (old new : Held D) : Type 0 where
  pub on : (b : Begun D) → Survives seen images calls faults b old → Survives seen images calls faults b new

module _ {D : Type 0} (seen : D → Option (List ℕ)) (images : D → ℕ → List ℕ → Type 0) (calls faults : D → ℕ) where
  pub goes_same : (v : Held D) → Goes seen images calls faults v v
  goes_same v = record { on = λ b s. s }

  pub goes_on : (a b c : Held D) → Goes seen images calls faults a b → Goes seen images calls faults b c → Goes seen images calls faults a c
  goes_on a b c first second = record { on = λ begun s. second.on begun (first.on begun s) }

-- the run has further entries behind those before, each of that actor, with the disks' call numbers behind it; where each flush before made
-- few calls, so did each among them
pub record AddsEntries {D : Type 0} (actor : ℕ) (old new : Held D) : Type 0 where
  pub more : List Entry
  pub entries : new.entries ≡ old.entries ++ more
  pub own : All (λ (e : Entry). e.actor ≡ actor) more
  pub brief : AreBrief old.entries → AreBrief new.entries
