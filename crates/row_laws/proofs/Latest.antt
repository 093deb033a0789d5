-- No change looks at the latest moment, and only changes of numbers set it.
use Rattle.std.proofs.Common.{◌≡◌, ℕ, List, [], ◌∷◌, Bool, true, false, refl, ap, ◌∙◌, Option, Some, None}
use Rattle.std.specs.Prelude.{is_some, if◌then◌else◌}
use Rattle.std.proofs.lemmas.Bool.{true≢false}
use Rattle.queue_rows.specs.Rows.{find_message, find_queue, find_table}
use Rattle.queue_rows.specs.Tables.{after_change, after_all, move_in, move_some, drop_queue, drop_table}
use Rattle.queue_rows.specs.declared.tables.Tables.{Tables}
use Rattle.queue_rows.specs.declared.rows.MsgRow.{MsgRow}
use Rattle.queue_rows.specs.declared.change.Change.{Change}
use Rattle.queue_rows.specs.declared.change.Change.TheVariants as changes

abbrev pub at_latest : ℕ → Tables → Tables
at_latest latest t = record t { latest = latest }

move_if : (latest : ℕ) (t : Tables) (m : MsgRow) (queue : List ℕ) (at : ℕ) (b : Bool) → (if b then move_in (at_latest latest t) m queue at else at_latest latest t) ≡ at_latest latest (if b then move_in t m queue at else t)
move_if latest t m queue at true = refl
move_if latest t m queue at false = refl

move_latest : (latest : ℕ) (t : Tables) (o : Option MsgRow) (queue : List ℕ) (at : ℕ) → move_some (at_latest latest t) o queue at ≡ at_latest latest (move_some t o queue at)
move_latest latest t None queue at = refl
move_latest latest t (Some m) queue at = move_if latest t m queue at (is_some (find_queue t queue))

moved_if : (t : Tables) (m : MsgRow) (queue : List ℕ) (at : ℕ) (b : Bool) → (if b then move_in t m queue at else t).latest ≡ t.latest
moved_if t m queue at true = refl
moved_if t m queue at false = refl

moved_latest : (t : Tables) (o : Option MsgRow) (queue : List ℕ) (at : ℕ) → (move_some t o queue at).latest ≡ t.latest
moved_latest t None queue at = refl
moved_latest t (Some m) queue at = moved_if t m queue at (is_some (find_queue t queue))

drop_queue_if : (latest : ℕ) (t : Tables) (name : List ℕ) (b : Bool) → (if b then drop_queue (at_latest latest t) name else at_latest latest t) ≡ at_latest latest (if b then drop_queue t name else t)
drop_queue_if latest t name true = refl
drop_queue_if latest t name false = refl

drop_table_if : (latest : ℕ) (t : Tables) (name : List ℕ) (b : Bool) → (if b then drop_table (at_latest latest t) name else at_latest latest t) ≡ at_latest latest (if b then drop_table t name else t)
drop_table_if latest t name true = refl
drop_table_if latest t name false = refl

queue_latest : (t : Tables) (name : List ℕ) (b : Bool) → (if b then drop_queue t name else t).latest ≡ t.latest
queue_latest t name true = refl
queue_latest t name false = refl

table_latest : (t : Tables) (name : List ℕ) (b : Bool) → (if b then drop_table t name else t).latest ≡ t.latest
table_latest t name true = refl
table_latest t name false = refl

-- a change of numbers
abbrev pub is_counters : Change → Bool
is_counters (changes.Counters next transaction latest) = true
is_counters _ = false

pub change_at_latest : (t : Tables) (latest : ℕ) (c : Change) → is_counters c ≡ false → after_change (at_latest latest t) c ≡ at_latest latest (after_change t c)
change_at_latest t latest (changes.Counters next transaction given) k = absurd (true≢false k)
change_at_latest t latest (changes.Moved id queue at) k = move_latest latest t (find_message t id) queue at
change_at_latest t latest (changes.DropQueue name) k = drop_queue_if latest t name (is_some (find_queue t name))
change_at_latest t latest (changes.DropTable name) k = drop_table_if latest t name (is_some (find_table t name))
change_at_latest t latest _ k = refl

pub latest_stays : (t : Tables) (c : Change) → is_counters c ≡ false → (after_change t c).latest ≡ t.latest
latest_stays t (changes.Counters next transaction given) k = absurd (true≢false k)
latest_stays t (changes.Moved id queue at) k = moved_latest t (find_message t id) queue at
latest_stays t (changes.DropQueue name) k = queue_latest t name (is_some (find_queue t name))
latest_stays t (changes.DropTable name) k = table_latest t name (is_some (find_table t name))
latest_stays t _ k = refl

-- what any change makes of the latest moment
pub change_latest : (latest : ℕ) (t : Tables) (c : Change) → (later : ℕ) × (after_change (at_latest latest t) c ≡ at_latest later (after_change t c))
change_latest latest t (changes.Counters next transaction given) = (given, refl)
change_latest latest t (changes.Moved id queue at) = (latest, move_latest latest t (find_message t id) queue at)
change_latest latest t (changes.DropQueue name) = (latest, drop_queue_if latest t name (is_some (find_queue t name)))
change_latest latest t (changes.DropTable name) = (latest, drop_table_if latest t name (is_some (find_table t name)))
change_latest latest t _ = (latest, refl)

pub all_latest : (latest : ℕ) (t : Tables) (cs : List Change) → (later : ℕ) × (after_all (at_latest latest t) cs ≡ at_latest later (after_all t cs))
all_latest latest t [] = (latest, refl)
all_latest latest t (c ∷ cs) =
    let one = change_latest latest t c in
    let rest = all_latest one.0 (after_change t c) cs in
    (rest.0, ap (λ u. after_all u cs) one.1 ∙ rest.1)
