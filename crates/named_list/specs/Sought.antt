-- What an item is sought by.
use Rattle.std.specs.Prelude.{◌≡◌, ℕ, Bool, true, List}
use Rattle.std.specs.Str.{bytes_eq}

-- what is sought has the name
abbrev pub HasName : {S T : Type 0} → (T → List ℕ) → (S → List ℕ) → (S → T → Bool) → Type 0
HasName {S} {T} name_of wanted is = (sought : S) (item : T) → is sought item ≡ true → bytes_eq (name_of item) (wanted sought) ≡ true
