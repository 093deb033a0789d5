-- Commits that take the last slots of messages, which go with them.
use Rattle.std.specs.Prelude.{◌≡◌, ◌==◌, ◌&&◌, ◌⊎◌, ℕ, Bool, true, false, List, [], ◌∷◌, take, drop}
use Rattle.queue_rows.specs.declared.change.Change.{Change}
use Rattle.queue_rows.specs.declared.change.Change.TheVariants as changes

-- a slot of a message is done, and then the message goes
abbrev pub goes_with : Change → Change → Bool
goes_with (changes.Done id slot at) (changes.Purged gone) = id == gone
goes_with _ _ = false

-- of each message a slot is done, and it goes, in the same order
abbrev pub are_taken : List Change → List Change → Bool
are_taken [] [] = true
are_taken (done ∷ dones) (gone ∷ goes) = goes_with done gone && are_taken dones goes
are_taken _ _ = false

-- the first so many changes are done slots of messages that the others let go, or there are none of them
abbrev pub TakesWhole : ℕ → List Change → Type 0
TakesWhole count cs = (count ≡ 0) ⊎ (are_taken (take count cs) (drop count cs) ≡ true)
