-- What was written to a sink that says which bytes it has taken.
use Rattle.std.specs.Prelude.{◌≡◌, ◌≤◌, ◌⊎◌, ℕ, List, length, take, Option}
use Rattle.std.specs.Io.KnownBytes.{Appends}
use Rattle.aq_base.specs.Causes.{Rose}

-- a prefix of the text was written
abbrev pub WritesFront : {S : Type 0} → (S → Option (List ℕ)) → S → S → List ℕ → Type 0
WritesFront taken old new text = (n : ℕ) × (n ≤ length text) × Appends (taken old) (taken new) (take n text)

-- the text was written whole, or a prefix of it and the sink failed
abbrev pub Tells : {S : Type 0} → (S → Option (List ℕ)) → (S → ℕ) → S → S → List ℕ → Type 0
Tells taken faults old new text = Appends (taken old) (taken new) text ⊎ (WritesFront taken old new text × Rose (faults old) (faults new))

-- What the status of a call says of a text that it was to write. A prefix was written, at 0 all. At 7 the sink failed.
pub record Writes {S : Type 0} (taken : S → Option (List ℕ)) (faults : S → ℕ) (old new : S) (text : List ℕ) (status : ℕ) : Type 0 where
  pub whole : status ≡ 0 → Appends (taken old) (taken new) text
  pub front : WritesFront taken old new text
  pub fault : status ≡ 7 → Rose (faults old) (faults new)
