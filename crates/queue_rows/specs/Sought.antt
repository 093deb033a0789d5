-- What a subscriber is found by.
use Rattle.std.specs.Prelude.{◌≡◌, ◌&&◌, ℕ, Bool, true, false, List, refl}
use Rattle.std.specs.Str.{bytes_eq}
use Rattle.queue_rows.specs.Rows.{is_sub}
use Rattle.queue_rows.specs.declared.rows.SubRow.{SubRow}

first_of_both : (a b : Bool) → (a && b) ≡ true → a ≡ true
first_of_both true b both = refl
first_of_both false b both = cc both

-- a subscriber that is found by a queue and a name is of that queue
pub is_of_queue : (queue name : List ℕ) (sub : SubRow) → is_sub queue name sub ≡ true → bytes_eq sub.queue queue ≡ true
is_of_queue queue name sub found = first_of_both (bytes_eq sub.queue queue) (bytes_eq sub.name name) found
