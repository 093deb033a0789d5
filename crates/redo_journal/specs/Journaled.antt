-- What contracts see of a journal in memory, and how it hangs together with its disk.
use Rattle.std.specs.Prelude.{◌≡◌, ℕ, ◌+◌, ◌^◌, ◌<◌, ◌≤◌, List, [], ◌∷◌, length, map, Option, None, Vec}
use Rattle.std.specs.Option.{ForSome}
use Rattle.std.specs.declared.alloc.Global.{Global}
use Rattle.redo_journal.specs.Journal.{Mounted}
use Rattle.redo_journal.specs.Crash.{IsAtRest}
use Rattle.redo_journal.specs.declared.frame.Active.{Active}

-- bodies as lists of bytes
abbrev pub bodies_as : List (Vec ℕ Global) → List (List ℕ)
bodies_as bodies = map (λ v. v.items) bodies

-- the disk, the active area and its frames' number, the bodies that are queued, and the call of the first failure
pub record Journaled (D : Type 0) : Type 0 where
  pub disk : D
  pub version : ℕ
  pub active : Active
  pub count : ℕ
  pub failed_at : Option ℕ
  pub queued : List (List ℕ)

-- the area with its closed gate so much further on
abbrev pub with_gate : ℕ → Active → Active
with_gate more active = record { side = active.side; root = active.root; gate = active.gate + more }

-- room that a frame of these bodies doesn't exceed
abbrev pub room_for : List (List ℕ) → ℕ
room_for [] = 19
room_for (body ∷ bodies) = room_for bodies + (10 + length body)

-- an area begins behind the header, and its version stands in front of its first gate
pub record IsArea (active : Active) : Type 0 where
  pub header : 24 ≤ active.root
  pub version : active.root + 4 ≤ active.gate
  pub limit : active.gate ≤ 2 ^ 62

-- what is always so of a journal in memory
pub record IsKept (told : Option (List ℕ)) (active : Active) (count : ℕ) (failed_at : Option ℕ) (queued : List (List ℕ)) (needed capacity : ℕ) : Type 0 where
  pub area : IsArea active
  pub few : count ≤ active.gate
  pub needs : needed ≡ room_for queued
  pub room : needed ≤ capacity
  pub place : failed_at ≡ None → ForSome told (λ bytes. active.gate < length bytes)

-- the journal has not failed, and is this one, which is at rest on its disk
pub record Rests {D : Type 0} (seen : D → Option (List ℕ)) (images : D → ℕ → List ℕ → Type 0) (calls : D → ℕ) (j : Journaled D) (m : Mounted) : Type 0 where
  pub fine : j.failed_at ≡ None
  pub version : j.version ≡ m.version
  pub active : j.active ≡ m.active
  pub count : j.count ≡ length m.frames
  pub disk : ForSome (seen j.disk) (λ bytes. IsAtRest m bytes (images j.disk (calls j.disk)))
