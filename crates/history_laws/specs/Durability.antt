-- What is durable when a reply is told.
use Rattle.std.specs.Prelude.{◌≡◌, ◌≤◌, ◌==◌, ◌&&◌, ◌++◌, ℕ, List, [], ◌∷◌, Bool, true, false, length, if◌then◌else◌}
use Rattle.std.specs.List.{list_any}
use Rattle.aq_base.specs.declared.DbId.{DbId}
use Rattle.queue_rows.specs.declared.history.Entry.{Entry}
use Rattle.queue_rows.specs.declared.history.History.{History}
use Rattle.queue_rows.specs.declared.history.Step.{Step}
use Rattle.queue_rows.specs.declared.history.Step.TheVariants.{Call, Told, Flush}
use Rattle.history_laws.specs.Made.{commits_of}

abbrev pub is_flush : Step → Bool
is_flush Flush = true
is_flush _ = false

abbrev pub is_flush_entry : Entry → Bool
is_flush_entry e = is_flush e.step

-- the entries up to the last flush; none, where there is no flush
abbrev pub until_flush : List Entry → List Entry
until_flush [] = []
until_flush (e ∷ more) = if list_any is_flush_entry (e ∷ more) then e ∷ until_flush more else []

-- how many commits of the database the entries make
abbrev pub made : DbId → List Entry → ℕ
made db entries = length (commits_of db entries)

-- and how many of them are durable then: those made up to the last flush
abbrev pub durable : DbId → List Entry → ℕ
durable db entries = made db (until_flush entries)

abbrev pub is_call_step : ℕ → Step → Bool
is_call_step number (Call n reply) = n == number
is_call_step number _ = false

-- the session of that number calls its statement of that number
abbrev pub is_call : ℕ → ℕ → Entry → Bool
is_call i number e = (e.actor == i) && is_call_step number e.step

abbrev pub is_told_step : ℕ → Step → Bool
is_told_step number (Told n) = n == number
is_told_step number _ = false

-- and is told the reply
abbrev pub is_told : ℕ → ℕ → Entry → Bool
is_told i number e = (e.actor == i) && is_told_step number e.step

-- when a reply is told, every commit is durable that was made up to its call
abbrev pub ToldIsDurable : History → Type 0
ToldIsDurable h = (db : DbId) (i number : ℕ) (front : List Entry) (tells : Entry) (rest : List Entry) → h.entries ≡ front ++ tells ∷ rest → is_told i number tells ≡ true
    → (before : List Entry) (call : Entry) (more : List Entry) → front ≡ before ++ call ∷ more → is_call i number call ≡ true
    → made db (before ++ call ∷ []) ≤ durable db front
